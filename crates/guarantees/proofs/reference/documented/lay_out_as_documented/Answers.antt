-- Each rule, from what `lay_out` says of each type in the whole.
use Rattle.std.proofs.Common.{◌≡◌, Ok, refl}
use Rattle.abi_tree.specs.Placed.{layout_of}
use Rattle.abi_tree.specs.Tree.{tree_of}
use Rattle.rustc_abi.specs.Laying.{IsLaying}
use Rattle.guarantees.specs.Reference.Arrays.{IsArray}
use Rattle.guarantees.specs.Reference.CStruct.{IsCStruct}
use Rattle.guarantees.specs.Reference.CUnion.{IsCUnion}
use Rattle.guarantees.specs.Reference.FieldEnums.{IsCEnum, IsCTag, IsPrimitiveEnum}
use Rattle.guarantees.specs.Reference.Modifiers.{IsPacked, IsPackedC, IsPackedWide, IsRaised, IsRaisedEnum}
use Rattle.guarantees.specs.Reference.Option.{IsAsLarge, IsNoneZero, IsSomeAlike, OfOption}
use Rattle.guarantees.specs.Reference.Primitive.{HasPointersOfIndex, HasPowerAlign, HasWideIndex, HoldsAddresses}
use Rattle.guarantees.specs.Reference.Primitive.{IsAlignedBySize, IsSignless, IsSizedByTable, IsThin, IsUnit, IsWhole, IsWidePointer}
use Rattle.guarantees.specs.Reference.RustLayout.{IsAligned, IsApart}
use Rattle.guarantees.specs.Reference.Tags.{HasEnumsOfIndex}
use Rattle.guarantees.specs.Reference.Transparent.{IsTransparent}
use Rattle.guarantees.proofs.ReferenceLemmas.Align.{only_raised, only_wide}
use Rattle.guarantees.proofs.ReferenceLemmas.AlignFree.{only_raised_enum}
use Rattle.guarantees.proofs.ReferenceLemmas.Arrays.{laid_array}
use Rattle.guarantees.proofs.ReferenceLemmas.Beside.{laid_addresses, laid_signless, laid_thin, laid_wide}
use Rattle.guarantees.proofs.ReferenceLemmas.CEnums.{laid_c_enum}
use Rattle.guarantees.proofs.ReferenceLemmas.CStructs.{laid_c_struct, laid_packed_c}
use Rattle.guarantees.proofs.ReferenceLemmas.CTags.{laid_c_tag}
use Rattle.guarantees.proofs.ReferenceLemmas.Everywhere.{each_beside, each_beside_if, each_inner_if, each_known, each_laid, each_laid_if, each_lawful, each_lawful_if, each_only, each_ordered}
use Rattle.guarantees.proofs.ReferenceLemmas.Options.{known_none, known_size, known_some}
use Rattle.guarantees.proofs.ReferenceLemmas.PrimitiveEnums.{laid_primitive_enum}
use Rattle.guarantees.proofs.ReferenceLemmas.Rust.{known_apart, known_packed}
use Rattle.guarantees.proofs.ReferenceLemmas.Transparents.{known_transparent}
use Rattle.guarantees.proofs.ReferenceLemmas.Variants.{known_aligned}
use Rattle.guarantees.proofs.ReferenceLemmas.Small.{laid_by_size, laid_c_union, laid_scalar, laid_unit}
use Rattle.guarantees.proofs.ReferenceLemmas.Sections.{given}
use Rattle.guarantees.proofs.ReferenceLemmas.Sections as sections
use Rattle.guarantees.specs.Reference.Chapter.{LiesAs}
use Rattle.guarantees.proofs.reference.documented.lay_out_as_documented.Goals as goal

pub returns-clause-properties : goal.returns-clause-properties
returns-clause-properties c =
    sections.properties c.args.dl.now (tree_of c.args.tree.now) c.lay_out.result
    (each_lawful c.args.dl.now (tree_of c.args.tree.now) HasPowerAlign (λ t p law. ((layout_of p).align.abi, law.limit, refl)) c.lay_out.result c.lay_out.ensures.lawful c.lay_out.ensures.each_layout)
    (each_lawful c.args.dl.now (tree_of c.args.tree.now) IsWhole (λ t p law. law.multiple) c.lay_out.result c.lay_out.ensures.lawful c.lay_out.ensures.each_layout)

pub returns-clause-simple : goal.returns-clause-simple
returns-clause-simple c =
    sections.simple c.args.dl.now (tree_of c.args.tree.now) c.lay_out.result
    (each_laid c.args.dl.now (tree_of c.args.tree.now) IsSizedByTable (λ law. laid_scalar c.args.dl.now) c.lay_out.result c.lay_out.ensures.lawful c.lay_out.ensures.parts)
    (each_laid_if c.args.dl.now (tree_of c.args.tree.now) (HasWideIndex c.args.dl.now) (HoldsAddresses c.args.dl.now) (λ given law. laid_addresses c.args.dl.now law given) c.lay_out.result c.lay_out.ensures.lawful c.lay_out.ensures.parts)
    (each_laid c.args.dl.now (tree_of c.args.tree.now) (IsSignless (λ t p. IsLaying c.args.dl.now t (Ok p))) (λ law. laid_signless c.args.dl.now) c.lay_out.result c.lay_out.ensures.lawful c.lay_out.ensures.parts)
    (each_laid c.args.dl.now (tree_of c.args.tree.now) IsAlignedBySize (λ law. laid_by_size c.args.dl.now law) c.lay_out.result c.lay_out.ensures.lawful c.lay_out.ensures.parts)
    (each_laid_if c.args.dl.now (tree_of c.args.tree.now) (HasPointersOfIndex c.args.dl.now) (IsThin c.args.dl.now (λ t p. IsLaying c.args.dl.now t (Ok p))) (λ given law. laid_thin c.args.dl.now law given) c.lay_out.result c.lay_out.ensures.lawful c.lay_out.ensures.parts)
    (each_laid c.args.dl.now (tree_of c.args.tree.now) (IsWidePointer (λ t p. IsLaying c.args.dl.now t (Ok p))) (λ law. laid_wide c.args.dl.now) c.lay_out.result c.lay_out.ensures.lawful c.lay_out.ensures.parts)
    (each_laid c.args.dl.now (tree_of c.args.tree.now) IsArray (λ law. laid_array c.args.dl.now) c.lay_out.result c.lay_out.ensures.lawful c.lay_out.ensures.parts)
    (each_laid c.args.dl.now (tree_of c.args.tree.now) IsUnit (λ law. laid_unit c.args.dl.now law) c.lay_out.result c.lay_out.ensures.lawful c.lay_out.ensures.parts)

pub returns-clause-rust : goal.returns-clause-rust
returns-clause-rust c =
    sections.rust c.args.dl.now (tree_of c.args.tree.now) c.lay_out.result
    (each_only c.args.dl.now (tree_of c.args.tree.now) c.lay_out.result c.lay_out.ensures.one_each c.lay_out.ensures.parts)
    (each_ordered c.args.dl.now (tree_of c.args.tree.now) IsAligned (λ law. known_aligned c.args.dl.now law) c.lay_out.result c.lay_out.ensures.lawful
    (each_known c.args.dl.now (tree_of c.args.tree.now) c.lay_out.result
    (each_only c.args.dl.now (tree_of c.args.tree.now) c.lay_out.result c.lay_out.ensures.one_each c.lay_out.ensures.parts) c.lay_out.ensures.placed c.lay_out.ensures.each_list))
    (each_ordered c.args.dl.now (tree_of c.args.tree.now) IsApart (λ law t p h asked lists. known_apart c.args.dl.now t p h asked) c.lay_out.result c.lay_out.ensures.lawful
    (each_known c.args.dl.now (tree_of c.args.tree.now) c.lay_out.result
    (each_only c.args.dl.now (tree_of c.args.tree.now) c.lay_out.result c.lay_out.ensures.one_each c.lay_out.ensures.parts) c.lay_out.ensures.placed c.lay_out.ensures.each_list))

pub returns-clause-modifiers : goal.returns-clause-modifiers
returns-clause-modifiers c =
    sections.modifiers c.args.dl.now (tree_of c.args.tree.now) c.lay_out.result
    (each_beside c.args.dl.now (tree_of c.args.tree.now) (IsRaised (λ t p. IsLaying c.args.dl.now t (Ok p))) (λ law. only_raised c.args.dl.now law) c.lay_out.result c.lay_out.ensures.lawful
    (each_only c.args.dl.now (tree_of c.args.tree.now) c.lay_out.result c.lay_out.ensures.one_each c.lay_out.ensures.parts))
    (each_laid c.args.dl.now (tree_of c.args.tree.now) IsPackedC (λ law. laid_packed_c c.args.dl.now law) c.lay_out.result c.lay_out.ensures.lawful c.lay_out.ensures.parts)
    (each_ordered c.args.dl.now (tree_of c.args.tree.now) IsPacked (λ law t p h asked lists. known_packed c.args.dl.now t p h asked) c.lay_out.result c.lay_out.ensures.lawful
    (each_known c.args.dl.now (tree_of c.args.tree.now) c.lay_out.result
    (each_only c.args.dl.now (tree_of c.args.tree.now) c.lay_out.result c.lay_out.ensures.one_each c.lay_out.ensures.parts) c.lay_out.ensures.placed c.lay_out.ensures.each_list))
    (each_beside c.args.dl.now (tree_of c.args.tree.now) (IsRaisedEnum (λ t p. IsLaying c.args.dl.now t (Ok p)))
    (λ law. only_raised_enum c.args.dl.now law) c.lay_out.result c.lay_out.ensures.lawful
    (each_only c.args.dl.now (tree_of c.args.tree.now) c.lay_out.result c.lay_out.ensures.one_each c.lay_out.ensures.parts))

pub returns-clause-c : goal.returns-clause-c
returns-clause-c c unpadded =
    sections.c c.args.dl.now (tree_of c.args.tree.now) c.lay_out.result
    (given c.args.dl.now (tree_of c.args.tree.now) IsCStruct c.lay_out.result (each_laid_if c.args.dl.now (tree_of c.args.tree.now) (c.args.dl.now.aggregate_align ≡ 0) IsCStruct (λ given law. laid_c_struct c.args.dl.now given) c.lay_out.result c.lay_out.ensures.lawful c.lay_out.ensures.parts) unpadded)
    (given c.args.dl.now (tree_of c.args.tree.now) IsCUnion c.lay_out.result (each_laid_if c.args.dl.now (tree_of c.args.tree.now) (c.args.dl.now.aggregate_align ≡ 0) IsCUnion (λ given law. laid_c_union c.args.dl.now given) c.lay_out.result c.lay_out.ensures.lawful c.lay_out.ensures.parts) unpadded)
    (given c.args.dl.now (tree_of c.args.tree.now) (IsCEnum c.args.dl.now) c.lay_out.result (each_laid_if c.args.dl.now (tree_of c.args.tree.now) (c.args.dl.now.aggregate_align ≡ 0) (IsCEnum c.args.dl.now) (λ given law. laid_c_enum c.args.dl.now given law) c.lay_out.result c.lay_out.ensures.lawful c.lay_out.ensures.parts) unpadded)
    (given c.args.dl.now (tree_of c.args.tree.now) (IsPrimitiveEnum c.args.dl.now) c.lay_out.result (each_laid_if c.args.dl.now (tree_of c.args.tree.now) (c.args.dl.now.aggregate_align ≡ 0) (IsPrimitiveEnum c.args.dl.now) (λ given law. laid_primitive_enum c.args.dl.now given law) c.lay_out.result c.lay_out.ensures.lawful c.lay_out.ensures.parts) unpadded)

pub returns-clause-option : goal.returns-clause-option
returns-clause-option c unpadded =
    sections.option c.args.dl.now (tree_of c.args.tree.now) c.lay_out.result
    (given c.args.dl.now (tree_of c.args.tree.now) (OfOption c.args.dl.now (LiesAs c.args.dl.now) IsAsLarge) c.lay_out.result (each_inner_if c.args.dl.now (tree_of c.args.tree.now) (c.args.dl.now.aggregate_align ≡ 0) (OfOption c.args.dl.now (λ t p. IsLaying c.args.dl.now t (Ok p)) IsAsLarge)
    (known_size c.args.dl.now) c.lay_out.result
    (each_only c.args.dl.now (tree_of c.args.tree.now) c.lay_out.result c.lay_out.ensures.one_each c.lay_out.ensures.parts) c.lay_out.ensures.each_layout) unpadded)
    (given c.args.dl.now (tree_of c.args.tree.now) (OfOption c.args.dl.now (LiesAs c.args.dl.now) (IsNoneZero c.args.dl.now)) c.lay_out.result (each_inner_if c.args.dl.now (tree_of c.args.tree.now) (c.args.dl.now.aggregate_align ≡ 0) (OfOption c.args.dl.now (λ t p. IsLaying c.args.dl.now t (Ok p)) (IsNoneZero c.args.dl.now))
    (known_none c.args.dl.now) c.lay_out.result
    (each_only c.args.dl.now (tree_of c.args.tree.now) c.lay_out.result c.lay_out.ensures.one_each c.lay_out.ensures.parts) c.lay_out.ensures.each_layout) unpadded)
    (given c.args.dl.now (tree_of c.args.tree.now) (OfOption c.args.dl.now (LiesAs c.args.dl.now) (IsSomeAlike c.args.dl.now)) c.lay_out.result (each_inner_if c.args.dl.now (tree_of c.args.tree.now) (c.args.dl.now.aggregate_align ≡ 0) (OfOption c.args.dl.now (λ t p. IsLaying c.args.dl.now t (Ok p)) (IsSomeAlike c.args.dl.now))
    (known_some c.args.dl.now) c.lay_out.result
    (each_only c.args.dl.now (tree_of c.args.tree.now) c.lay_out.result c.lay_out.ensures.one_each c.lay_out.ensures.parts) c.lay_out.ensures.each_layout) unpadded)

pub returns-clause-repr_c_enum : goal.returns-clause-repr_c_enum
returns-clause-repr_c_enum c premise =
    given c.args.dl.now (tree_of c.args.tree.now) (IsCTag c.args.dl.now) c.lay_out.result (each_laid_if c.args.dl.now (tree_of c.args.tree.now) (HasEnumsOfIndex c.args.dl.now) (IsCTag c.args.dl.now) (λ given law. laid_c_tag c.args.dl.now given law) c.lay_out.result c.lay_out.ensures.lawful c.lay_out.ensures.parts) premise

pub returns-clause-repr_alignment_packed : goal.returns-clause-repr_alignment_packed
returns-clause-repr_alignment_packed c premise =
    given c.args.dl.now (tree_of c.args.tree.now) (IsPackedWide (LiesAs c.args.dl.now)) c.lay_out.result (each_beside_if c.args.dl.now (tree_of c.args.tree.now) (c.args.dl.now.aggregate_align ≡ 0) (IsPackedWide (λ t p. IsLaying c.args.dl.now t (Ok p))) (λ given law. only_wide c.args.dl.now law given) c.lay_out.result c.lay_out.ensures.lawful
    (each_only c.args.dl.now (tree_of c.args.tree.now) c.lay_out.result c.lay_out.ensures.one_each c.lay_out.ensures.parts)) premise

pub returns-clause-repr_transparent_layout_abi : goal.returns-clause-repr_transparent_layout_abi
returns-clause-repr_transparent_layout_abi c premise =
    given c.args.dl.now (tree_of c.args.tree.now) IsTransparent c.lay_out.result (each_lawful_if c.args.dl.now (tree_of c.args.tree.now) (c.args.dl.now.aggregate_align ≡ 0) IsTransparent (known_transparent c.args.dl.now) c.lay_out.result c.lay_out.ensures.lawful
    (each_known c.args.dl.now (tree_of c.args.tree.now) c.lay_out.result
    (each_only c.args.dl.now (tree_of c.args.tree.now) c.lay_out.result c.lay_out.ensures.one_each c.lay_out.ensures.parts) c.lay_out.ensures.placed c.lay_out.ensures.each_list) c.lay_out.ensures.each_layout) premise
