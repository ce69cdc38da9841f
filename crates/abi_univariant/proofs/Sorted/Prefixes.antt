-- Lists behind a prefix: a list without one is no larger, in the same order.
use Rattle.std.proofs.Common.{ℕ, ◌^◌, ◌≤◌, Bool, List, [], ◌∷◌, Option, arith, max}
use Rattle.std.specs.Int.{next_multiple_of}
use Rattle.std.proofs.Math.Nat.{dvd_trans}
use Rattle.abi_base.specs.declared.data_layout.TargetDataLayout.{TargetDataLayout}
use Rattle.abi_base.specs.declared.struct_kind.StructKind.{StructKind}
use Rattle.abi_base.specs.declared.struct_kind.StructKind.TheVariants.{AlwaysSized, Prefixed}
use Rattle.abi_scalar.specs.declared.layout_data.LayoutData.{LayoutData}
use Rattle.abi_scalar.specs.declared.repr.ReprOptions.{ReprOptions}
use Rattle.abi_univariant.specs.declared.part.Part.{Part}
use Rattle.abi_univariant.specs.Least.{size_by}
use Rattle.abi_univariant.specs.Part.{parts_of}
use Rattle.abi_univariant.specs.Placement.{align_of, cut, in_order, fields_repr, prefix_align, size_in, start_of}
use Rattle.abi_univariant.proofs.Offsets.Ends.{end_from-mono}
use Rattle.abi_univariant.proofs.Offsets.Rounding.{pow_dvd, rounded_to}
use Rattle.abi_univariant.proofs.Sorted.Tight.{greatest}

-- a number is rounded up no further to a lower power of two
pub round_lower : (m n low high : ℕ) → m ≤ n → low ≤ high → next_multiple_of m (2 ^ low) ≤ next_multiple_of n (2 ^ high)
round_lower m n low high le h =
    let s = rounded_to n high in
    let up : n ≤ next_multiple_of n (2 ^ high) = s.above in
    (rounded_to m low).least _ (dvd_trans (2 ^ low) (pow_dvd low high h) s.multiple) (omega arith)

greatest_mono : (f : Part → ℕ) (a b : ℕ) (parts : List Part) → a ≤ b → greatest f a parts ≤ greatest f b parts
greatest_mono f a b [] h = h
greatest_mono f a b (p ∷ ps) h = greatest_mono f (max a (f p)) (max b (f p)) ps (omega arith)

-- ---- lists of parts

-- the alignment grows with that of the prefix
pub align_of-grows : (pack : Option ℕ) (align : ℕ) (reorderable : Bool) (kind larger : StructKind) (parts : List Part) → prefix_align pack kind ≤ prefix_align pack larger
    → align_of (record { kind = kind; pack = pack; align = align; reorderable = reorderable }) parts
    ≤ align_of (record { kind = larger; pack = pack; align = align; reorderable = reorderable }) parts
align_of-grows pack align reorderable kind larger parts h =
    greatest_mono (λ p. cut pack p.align) (max align (prefix_align pack kind)) (max align (prefix_align pack larger)) parts (omega arith)

-- the size grows with the start and the alignment
pub size_in-grows : (pack : Option ℕ) (align : ℕ) (reorderable : Bool) (kind larger : StructKind) (parts : List Part) (order : List ℕ) → start_of pack kind ≤ start_of pack larger
    → prefix_align pack kind ≤ prefix_align pack larger
    → size_in (record { kind = kind; pack = pack; align = align; reorderable = reorderable }) parts order
    ≤ size_in (record { kind = larger; pack = pack; align = align; reorderable = reorderable }) parts order
size_in-grows pack align reorderable kind larger parts order starts aligns =
    round_lower _ _ _ _ (end_from-mono pack (start_of pack kind) (start_of pack larger) (in_order parts order) starts) (align_of-grows pack align reorderable kind larger parts aligns)

-- ---- lists of fields

-- and a list without a prefix is no larger than behind one
pub size_by-prefixed : {F V : Type 0} (dl : TargetDataLayout) (repr : ReprOptions) (fields : List (LayoutData F V)) (order : List ℕ) (n b : ℕ)
    → size_by dl repr AlwaysSized fields order ≤ size_by dl repr (Prefixed n b) fields order
size_by-prefixed dl repr fields order n b =
    size_in-grows repr.pack (fields_repr dl repr AlwaysSized).align (fields_repr dl repr AlwaysSized).reorderable AlwaysSized (Prefixed n b) (parts_of dl fields) order (omega arith) (omega arith)
