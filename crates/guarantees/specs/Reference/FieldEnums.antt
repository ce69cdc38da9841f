-- `repr.c.adt`, `repr.primitive.adt`, `repr.primitive-c`: enums with fields.
use Rattle.std.specs.Prelude.{◌≡◌, ℕ, ◌+◌, ⊤, IsSome, None, Bool, false, List, [], ◌∷◌, map}
use Rattle.abi_base.specs.declared.data_layout.TargetDataLayout.{TargetDataLayout}
use Rattle.abi_scalar.specs.declared.repr.ReprOptions.{ReprOptions}
use Rattle.abi_scalar.specs.declared.variants.TagEncoding.{TagEncoding}
use Rattle.abi_scalar.specs.declared.variants.TagEncoding.TheVariants.{Direct}
use Rattle.abi_scalar.specs.Repr.{is_c}
use Rattle.abi_tree.specs.Tree.{Tree, Variants, no_variants, enum}
use Rattle.abi_tree.specs.Placed.{Placed, TaggedVariants, nothing_tagged, tagged_variant, tagged}
use Rattle.guarantees.specs.Reference.Words.{Extent, HasTaggedVariantForEach, extent_of, extents_of}
use Rattle.rustc_abi.specs.Lists.{offsets_of}
use Rattle.guarantees.specs.Reference.CStruct.{IsPlainC, c_offsets, c_struct}
use Rattle.guarantees.specs.Reference.CUnion.{c_union}
use Rattle.guarantees.specs.Reference.Tags.{IsNumberOfInteger, IsTag}
use Rattle.abi_base.specs.declared.integer.Integer.{Integer}

-- the fields of each variant
abbrev pub variant_fields : TaggedVariants → List (List Extent)
variant_fields nothing_tagged = []
variant_fields (tagged_variant number layout mark parts tagged_variants) = extents_of parts ∷ variant_fields tagged_variants

-- those of the variants that have some
abbrev pub with_fields : List (List Extent) → List (List Extent)
with_fields [] = []
with_fields ([] ∷ variants) = with_fields variants
with_fields ((field ∷ fields) ∷ variants) = (field ∷ fields) ∷ with_fields variants

-- each variant's fields lie so
abbrev pub EachVariant : ((fields : List Extent) → (offsets : List ℕ) → Type 0) → TaggedVariants → Type 0
EachVariant P nothing_tagged = ⊤
EachVariant P (tagged_variant number layout mark parts tagged_variants) = P (extents_of parts) (offsets_of parts) × EachVariant P tagged_variants

-- "the payload": a union of structs, one for each variant with fields
abbrev pub payload : List (List Extent) → Extent
payload variants = c_union (map c_struct (with_fields variants))

-- `repr(C)`: a struct of the tag and the payload, in whose structs the fields lie
abbrev pub c_enum : (tag : Extent) → List (List Extent) → Extent
c_enum tag variants = c_struct (tag ∷ payload variants ∷ [])

abbrev pub LieInPayload : (tag : Extent) → (variants : List (List Extent)) → (fields : List Extent) → (offsets : List ℕ) → Type 0
LieInPayload tag variants fields offsets =
    (at : ℕ) × (c_offsets 0 (tag ∷ payload variants ∷ []) ≡ 0 ∷ at ∷ []) × (offsets ≡ map (λ o. at + o) (c_offsets 0 fields))

-- an integer alone: a union of the tag and of structs that begin with it, one for each variant with fields
abbrev pub primitive_enum : (tag : Extent) → List (List Extent) → Extent
primitive_enum tag variants = c_union (tag ∷ map (λ fields. c_struct (tag ∷ fields)) (with_fields variants))

abbrev pub LieBehindTag : (tag : Extent) → (fields : List Extent) → (offsets : List ℕ) → Type 0
LieBehindTag tag fields offsets = c_offsets 0 (tag ∷ fields) ≡ 0 ∷ offsets

-- What both have: the tag lies at 0 and holds the discriminant itself, and each variant has its arm. The integer is the
-- one that is named; which it is without a name, `IsCTag` says.
pub record HasTagAtStart (dl : TargetDataLayout) (repr : ReprOptions) (all : Variants) (offset : ℕ) (tag : Placed) (encoding : TagEncoding ℕ) (tagged_variants : TaggedVariants) : Type 0 where
  pub each : HasTaggedVariantForEach all tagged_variants
  pub start : offset ≡ 0
  pub direct : encoding ≡ Direct
  pub number : (i : Integer) × (signed : Bool) × IsNumberOfInteger dl tag signed i
  pub named : IsSome repr.int → IsTag dl repr all tag

-- `repr.c.adt`, and with a named integer `repr.primitive-c`
abbrev pub IsCEnum : TargetDataLayout → Tree → Placed → Type 0
IsCEnum dl (enum repr all) (tagged layout mark offset tag encoding tagged_variants) =
    IsPlainC repr → HasTagAtStart dl repr all offset tag encoding tagged_variants
    × (extent_of (tagged layout mark offset tag encoding tagged_variants) ≡ c_enum (extent_of tag) (variant_fields tagged_variants))
    × EachVariant (LieInPayload (extent_of tag) (variant_fields tagged_variants)) tagged_variants
IsCEnum dl (enum repr all) _ = IsPlainC repr → all ≡ no_variants
IsCEnum dl _ placed = ⊤

-- `repr.c.enum`, `repr.c.adt.tag`
abbrev pub IsCTag : TargetDataLayout → Tree → Placed → Type 0
IsCTag dl (enum repr all) (tagged layout mark offset tag encoding tagged_variants) = IsPlainC repr → IsTag dl repr all tag
IsCTag dl _ placed = ⊤

-- an integer is named, and neither C nor `align` nor `packed` beside it
abbrev pub IsPlainPrimitive : ReprOptions → Type 0
IsPlainPrimitive repr = (is_c repr ≡ false) × IsSome repr.int × (repr.align ≡ None) × (repr.pack ≡ None)

-- `repr.primitive.adt`
abbrev pub IsPrimitiveEnum : TargetDataLayout → Tree → Placed → Type 0
IsPrimitiveEnum dl (enum repr all) (tagged layout mark offset tag encoding tagged_variants) =
    IsPlainPrimitive repr → HasTagAtStart dl repr all offset tag encoding tagged_variants
    × (extent_of (tagged layout mark offset tag encoding tagged_variants) ≡ primitive_enum (extent_of tag) (variant_fields tagged_variants))
    × EachVariant (LieBehindTag (extent_of tag)) tagged_variants
IsPrimitiveEnum dl (enum repr all) _ = IsPlainPrimitive repr → all ≡ no_variants
IsPrimitiveEnum dl _ placed = ⊤
