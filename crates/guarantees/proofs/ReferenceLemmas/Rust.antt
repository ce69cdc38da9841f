-- Structs as the Reference has them under the default representation, and packed ones, from the clause on the order of their
-- fields.
use Rattle.std.proofs.Common.{◌≡◌, ℕ, ◌+◌, ◌^◌, ◌≤◌, Bool, false, List, [], ◌∷◌, Option, None, Some, map, refl, sym, ap, ◌∙◌, subst, arith, Ok}
use Rattle.std.specs.Prelude.{All, IsPermutation, max, min, unwrap_or}
use Rattle.std.proofs.lemmas.List.Elements.{All-head, All-tail}
use Rattle.std.proofs.lemmas.Nat.Gcd.{dvd-zero}
use Rattle.std.proofs.lemmas.List.Sorted.{IsPermutation-map}
use Rattle.abi_base.specs.declared.data_layout.TargetDataLayout.{TargetDataLayout}
use Rattle.abi_base.specs.declared.struct_kind.StructKind.{StructKind}
use Rattle.abi_scalar.specs.declared.repr.ReprOptions.{ReprOptions}
use Rattle.abi_scalar.specs.Shape.{listed_offsets}
use Rattle.abi_univariant.specs.declared.part.Part.{Part}
use Rattle.abi_univariant.specs.Least.{IsPlacedBy}
use Rattle.abi_univariant.specs.Part.{part_of}
use Rattle.abi_univariant.specs.Placement.{cut, own_align, place_of, prefix_align, start_of}
use Rattle.abi_tree.specs.declared.mark.Mark.{Mark}
use Rattle.abi_tree.specs.Mark.{mark_of}
use Rattle.abi_tree.specs.Nodes.{parts_at}
use Rattle.abi_tree.specs.Placed.{Placed, Parts, no_parts, part, fields, layout_of}
use Rattle.abi_scalar.specs.Layout.{Layout}
use Rattle.abi_tree.specs.Tree.{Tree, Trees, struct}
use Rattle.rustc_abi.specs.Laying.{IsLaying, kind_of, with_randomize_flag}
use Rattle.rustc_abi.specs.Least.{fields_of}
use Rattle.rustc_abi.specs.Lists.{offsets_of, types_of}
use Rattle.rustc_abi.specs.Orders.{LiesAsAsked}
use Rattle.guarantees.specs.Reference.Words.{Extent, align_in_bytes, extent_of, most_aligned, padding_needed_for}
use Rattle.guarantees.specs.Reference.Modifiers.{IsPacked, LieClosely, LiePacked, positioned}
use Rattle.guarantees.specs.Reference.RustLayout.{ArePartsAligned, DontOverlap, IsApart, places}
use Rattle.guarantees.proofs.ReferenceLemmas.Lists.{align_same, extents_for, pow_min, rounded}
use Rattle.guarantees.proofs.ReferenceLemmas.CStructs.{nothing_before}
use Rattle.guarantees.proofs.ReferenceLemmas.Over.{struct_laid, struct_parts}
use Rattle.abi_univariant.proofs.Offsets.Rounding.{rounded_to}
use Rattle.guarantees.proofs.ReferenceLemmas.Rows.{InARow, IsFitting, LieInARow, each_fits, row_end, row_of, with_places}

-- ---- no two overlap

-- where a field begins and how many bytes it has
abbrev extent_at : ℕ × Part → ℕ × ℕ
extent_at x = (x.0, x.1.size)

places_are : (dl : TargetDataLayout) (parts : Parts) → map extent_at (with_places dl parts) ≡ places parts
places_are dl no_parts = refl
places_are dl (part offset placed parts) = ap (λ xs. (offset, (layout_of placed).size) ∷ xs) (places_are dl parts)

apart_in : (pack : Option ℕ) (from : ℕ) (row : List (ℕ × Part)) → InARow pack from row → DontOverlap from (map extent_at row)
apart_in pack from [] h = tt
apart_in pack from ((offset, field) ∷ more) h =
    let after : from ≤ place_of pack from field = (rounded_to from (cut pack field.align)).above in
    (omega (arith, h.0, after), apart_in pack (offset + field.size) more h.1)

pub fields_apart : (dl : TargetDataLayout) (pack : Option ℕ) (parts : Parts) (size align : ℕ) → LieInARow dl pack 0 parts size align
    → (ordered : List (ℕ × ℕ)) × IsPermutation (places parts) ordered × DontOverlap 0 ordered
fields_apart dl pack parts size align h = (
  map extent_at h.ordered,
  subst (λ xs. IsPermutation xs (map extent_at h.ordered)) (places_are dl parts)
      (IsPermutation-map extent_at (with_places dl parts) h.ordered h.permuted),
  apart_in pack 0 h.ordered h.row,
)

-- ---- each is aligned

pub each_aligned : (dl : TargetDataLayout) (whole : ℕ) (parts : Parts) → All (IsFitting dl None) (with_places dl parts)
    → most_aligned (map extent_of (fields_of parts)) ≤ whole → ArePartsAligned whole parts
each_aligned dl whole no_parts h le = tt
each_aligned dl whole (part offset placed parts) h le = (
  All-head (IsFitting dl None) (offset, part_of dl (layout_of placed)) (with_places dl parts) h,
  omega arith,
  each_aligned dl whole parts (All-tail (IsFitting dl None) (offset, part_of dl (layout_of placed)) (with_places dl parts) h) (omega arith),
)

pub aligned_by : (dl : TargetDataLayout) (repr : ReprOptions) (kind : StructKind) (from : ℕ) (parts : Parts) (order : List ℕ) (size align : ℕ)
    → repr.pack ≡ None → start_of repr.pack kind ≡ from
    → IsPlacedBy dl repr kind (types_of parts) order (offsets_of parts) size align → ArePartsAligned (2 ^ align) parts
aligned_by dl repr kind from parts order size align loose start h =
    let begin : ℕ = max (max (own_align dl repr) (unwrap_or repr.align 0)) (prefix_align repr.pack kind) in
    let high : 2 ^ align ≡ max (2 ^ begin) (most_aligned (extents_for repr.pack (fields_of parts))) =
    ap (λ a. 2 ^ a) h.alignment ∙ align_same dl repr.pack begin (fields_of parts) in
    let own : most_aligned (extents_for repr.pack (fields_of parts)) ≡ most_aligned (map extent_of (fields_of parts)) =
    ap (λ pack. most_aligned (extents_for pack (fields_of parts))) loose in
    each_aligned dl (2 ^ align) parts
    (subst (λ pack. All (IsFitting dl pack) (with_places dl parts)) loose
    (each_fits dl repr.pack from parts size align (row_of dl repr kind from parts order size align start h)))
    (omega (arith, high, own))

-- ---- packed

-- where a field begins, and its extent as it is positioned under so many bytes
abbrev positioned_to : (bytes : ℕ) → ℕ × Part → ℕ × Extent
positioned_to bytes x = (x.0, record { size = x.1.size; align = min bytes (2 ^ x.1.align) })

positioned_are : (dl : TargetDataLayout) (bytes : ℕ) (parts : Parts) → map (positioned_to bytes) (with_places dl parts) ≡ positioned bytes parts
positioned_are dl bytes no_parts = refl
positioned_are dl bytes (part offset placed parts) =
    ap (λ (xs : List (ℕ × Extent)). positioned_to bytes (offset, part_of dl (layout_of placed)) ∷ xs) (positioned_are dl bytes parts)

closely : (n from : ℕ) (row : List (ℕ × Part)) → InARow (Some n) from row → LieClosely from (map (positioned_to (2 ^ n)) row) (row_end from row)
closely n from [] h = refl
closely n from ((offset, field) ∷ more) h = (
  h.0 ∙ sym (rounded from (min field.align n)) ∙ ap (λ a. from + padding_needed_for from a) (pow_min field.align n),
  closely n (offset + field.size) more h.1,
)

packed_in : (dl : TargetDataLayout) (pack : Option ℕ) (n : ℕ) (parts : Parts) (size align : ℕ) → pack ≡ Some n → LieInARow dl pack 0 parts size align
    → LiePacked (2 ^ n) parts size (2 ^ align)
packed_in dl pack n parts size align packed h = record {
  ordered = map (positioned_to (2 ^ n)) h.ordered;
  end = row_end 0 h.ordered;
  fields = subst (λ xs. IsPermutation xs (map (positioned_to (2 ^ n)) h.ordered)) (positioned_are dl (2 ^ n) parts)
      (IsPermutation-map (positioned_to (2 ^ n)) (with_places dl parts) h.ordered h.permuted);
  close = closely n 0 h.ordered (subst (λ o. InARow o 0 h.ordered) packed h.row);
  extent = h.extent ∙ sym (rounded (row_end 0 h.ordered) align);
}

-- ---- of each type

pub struct_row : (dl : TargetDataLayout) (repr : ReprOptions) (always_sized : Bool) (order : Option (List ℕ)) (all : Trees) (layout : Layout) (mark : Mark) (parts : Parts)
    → LiesAsAsked dl (struct repr always_sized order all) (fields layout mark parts) → LieInARow dl repr.pack 0 parts layout.size layout.align.abi
struct_row dl repr always_sized None all layout mark parts h =
    row_of dl repr (kind_of always_sized (fields_of parts)) 0 parts h.0 layout.size layout.align.abi
    (nothing_before repr.pack always_sized (fields_of parts)) h.1
struct_row dl repr always_sized (Some order) all layout mark parts h =
    row_of dl (with_randomize_flag repr) (kind_of always_sized (fields_of parts)) 0 parts order layout.size layout.align.abi
    (nothing_before repr.pack always_sized (fields_of parts)) h

pub struct_aligned : (dl : TargetDataLayout) (repr : ReprOptions) (always_sized : Bool) (order : Option (List ℕ)) (all : Trees) (layout : Layout) (mark : Mark) (parts : Parts)
    → LiesAsAsked dl (struct repr always_sized order all) (fields layout mark parts) → repr.pack ≡ None → ArePartsAligned (2 ^ layout.align.abi) parts
struct_aligned dl repr always_sized None all layout mark parts h loose =
    aligned_by dl repr (kind_of always_sized (fields_of parts)) 0 parts h.0 layout.size layout.align.abi loose
    (nothing_before repr.pack always_sized (fields_of parts)) h.1
struct_aligned dl repr always_sized (Some order) all layout mark parts h loose =
    aligned_by dl (with_randomize_flag repr) (kind_of always_sized (fields_of parts)) 0 parts order layout.size layout.align.abi loose
    (nothing_before repr.pack always_sized (fields_of parts)) h

-- fields at 0 are aligned, in a whole that is aligned as the greatest of them
pub together_aligned : (whole : ℕ) (ps : List Placed) → most_aligned (map extent_of ps) ≤ whole → ArePartsAligned whole (parts_at (map {B = ℕ} (λ q. 0) ps) ps)
together_aligned whole [] le = tt
together_aligned whole (p ∷ ps) le = (dvd-zero (align_in_bytes p), omega arith, together_aligned whole ps (omega arith))

module _ (dl : TargetDataLayout) where
  pub known_apart : (t : Tree) (p : Placed) → IsLaying dl t (Ok p) → LiesAsAsked dl t p → IsApart t p
  known_apart (struct repr always_sized order all) p h asked =
      let s = struct_laid dl repr always_sized order all p h in
      subst (λ q. LiesAsAsked dl (struct repr always_sized order all) q → IsApart (struct repr always_sized order all) q) s.is
      (λ own. let parts : Parts = parts_at (listed_offsets s.layout.fields) s.fields in (
        struct_parts dl repr all p s,
        fields_apart dl repr.pack parts s.layout.size s.layout.align.abi
            (struct_row dl repr always_sized order all s.layout (mark_of false repr) parts own),
      )) asked
  known_apart _ p h asked = tt

  pub known_packed : (t : Tree) (p : Placed) → IsLaying dl t (Ok p) → LiesAsAsked dl t p → IsPacked t p
  known_packed (struct repr always_sized order all) p h asked =
      let s = struct_laid dl repr always_sized order all p h in
      subst (λ q. LiesAsAsked dl (struct repr always_sized order all) q → IsPacked (struct repr always_sized order all) q) s.is
      (λ own n packed. let parts : Parts = parts_at (listed_offsets s.layout.fields) s.fields in
      packed_in dl repr.pack n parts s.layout.size s.layout.align.abi packed
      (struct_row dl repr always_sized order all s.layout (mark_of false repr) parts own)) asked
  known_packed _ p h asked = tt
