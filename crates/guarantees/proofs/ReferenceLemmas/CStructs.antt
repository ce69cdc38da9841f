-- Each `repr(C)` struct that was laid out is one as the Reference has it.
use Rattle.std.proofs.Common.{◌≡◌, ℕ, ◌^◌, Bool, true, false, List, [], ◌∷◌, Option, None, Some, length, map, refl, sym, ap, ap₂, ◌∙◌, subst, arith, inl, inr, Ok, Err}
use Rattle.std.specs.Prelude.{MatchOption, max, not, fold, is_some, unwrap_or, if◌then◌else◌}
use Rattle.std.specs.Int.{next_multiple_of}
use Rattle.std.proofs.lemmas.List.{length-map}
use Rattle.abi_base.specs.DataLayout.{IsLawfulDataLayout}
use Rattle.guarantees.specs.Reference.Modifiers.{IsPackedC, packed_to}
use Rattle.abi_base.specs.declared.data_layout.TargetDataLayout.{TargetDataLayout}
use Rattle.abi_base.specs.declared.struct_kind.StructKind.{StructKind}
use Rattle.abi_scalar.specs.declared.repr.ReprOptions.{ReprOptions}
use Rattle.abi_scalar.specs.Repr.{has_fixed_order}
use Rattle.abi_scalar.specs.Shape.{listed_offsets}
use Rattle.abi_univariant.specs.declared.part.Part.{Part}
use Rattle.abi_univariant.specs.Part.{part_of, parts_of}
use Rattle.abi_univariant.specs.Placement.{cut, end_from, fields_repr, offsets_from, own_align, prefix_align, start_of}
use Rattle.abi_tree.specs.Nodes.{parts_at}
use Rattle.abi_tree.specs.Placed.{Placed, layout_of}
use Rattle.abi_scalar.specs.Layout.{Layout}
use Rattle.abi_tree.specs.Tree.{Tree, Trees, struct}
use Rattle.rustc_abi.specs.declared.error.LayError.{LayError}
use Rattle.rustc_abi.specs.Error.{Follows}
use Rattle.rustc_abi.specs.Laying.{AreLaying, IsLaying, IsLaidList, fields_fault, kind_of, placed_fields}
use Rattle.guarantees.specs.Reference.Words.{Extent, extent_of, extents_of, most_aligned, rounded_up}
use Rattle.guarantees.specs.Reference.CStruct.{IsCStruct, c_end, c_offsets, c_struct}
use Rattle.guarantees.proofs.ReferenceLemmas.Answers.{inj-Ok, no_error}
use Rattle.guarantees.proofs.ReferenceLemmas.Over.{byte_align, unprefixed}
use Rattle.guarantees.proofs.ReferenceLemmas.Lists.{LiesInSource, align_same, aligned_some, c_is_fixed, end_same, extents_for, extents_of-parts_at, lies_in_source, offsets_of-parts_at, offsets_same, part_for_each, rounded}

-- a list with a fixed order and nothing before its fields, in the words of the chapter
pub record ListsInC (dl : TargetDataLayout) (repr : ReprOptions) (ps : List Placed) (layout : Layout) : Type 0 where
  pub count : length (listed_offsets layout.fields) ≡ length ps
  pub offsets : listed_offsets layout.fields ≡ c_offsets 0 (extents_for repr.pack ps)
  pub size : layout.size ≡ rounded_up (c_end 0 (extents_for repr.pack ps)) (2 ^ layout.align.abi)
  pub align : 2 ^ layout.align.abi
      ≡ max (2 ^ max (own_align dl repr) (unwrap_or repr.align 0)) (most_aligned (extents_for repr.pack ps))

pub lists_in_c : (dl : TargetDataLayout) (repr : ReprOptions) (kind : StructKind) (ps : List Placed) (layout : Layout)
    → has_fixed_order repr ≡ true → start_of repr.pack kind ≡ 0 → prefix_align repr.pack kind ≡ 0
    → IsLaidList dl repr kind (map layout_of ps) (Ok layout) → ListsInC dl repr ps layout
lists_in_c dl repr kind ps layout fixed start prefix (order, offsets, h) =
    let parts : List Part = parts_of dl (map layout_of ps) in
    let s : LiesInSource (fields_repr dl repr kind) parts offsets layout.size layout.align.abi =
    lies_in_source dl (fields_repr dl repr kind) parts order offsets layout.size layout.align.abi layout.largest_niche (ap not fixed) h.named in
    let own : listed_offsets layout.fields ≡ offsets = ap listed_offsets h.shape in
    let begin : ℕ = max (own_align dl repr) (unwrap_or repr.align 0) in
    let least : max begin (prefix_align repr.pack kind) ≡ begin = ap (max begin) prefix ∙ omega arith in
    record {
      count = ap length own ∙ s.count ∙ length-map (map layout_of ps) (λ f. part_of dl f) ∙ length-map ps layout_of;
      offsets = own ∙ s.places ∙ ap (λ from. offsets_from repr.pack from parts) start ∙ offsets_same dl repr.pack 0 ps;
      size = s.extent ∙ ap₂ (λ from a. next_multiple_of (end_from repr.pack from parts) (2 ^ a)) start (sym s.alignment)
          ∙ ap (λ n. next_multiple_of n (2 ^ layout.align.abi)) (end_same dl repr.pack 0 ps)
          ∙ sym (rounded (c_end 0 (extents_for repr.pack ps)) layout.align.abi);
      align = ap (λ a. 2 ^ a) (s.alignment
          ∙ ap (λ first. fold (λ greatest (field : Part). max greatest (cut repr.pack field.align)) first parts) least)
          ∙ align_same dl repr.pack begin ps;
    }

pub nothing_before : (pack : Option ℕ) (always_sized : Bool) (ps : List Placed) → start_of pack (kind_of always_sized ps) ≡ 0
nothing_before pack always_sized [] = refl
nothing_before pack true (p ∷ ps) = refl
nothing_before pack false (p ∷ ps) = refl

pub listed_in_c : (dl : TargetDataLayout) (repr : ReprOptions) (always_sized : Bool) (ps : List Placed) (layout : Layout)
    → has_fixed_order repr ≡ true → IsLaidList dl repr (kind_of always_sized ps) (map layout_of ps) (Ok layout)
    → ListsInC dl repr ps layout
listed_in_c dl repr always_sized ps layout fixed h =
    lists_in_c dl repr (kind_of always_sized ps) ps layout fixed (nothing_before repr.pack always_sized ps)
    (unprefixed repr.pack always_sized ps) h

-- neither packed nor raised, under aggregates that are aligned to a byte
c_listed : (dl : TargetDataLayout) (repr : ReprOptions) (always_sized : Bool) (all : Trees) (ps : List Placed) (layout : Layout)
    → dl.aggregate_align ≡ 0 → AreLaying dl all (Ok ps)
    → IsLaidList dl repr (kind_of always_sized ps) (map layout_of ps) (Ok layout)
    → IsCStruct (struct repr always_sized None all) (placed_fields repr ps layout)
c_listed dl repr always_sized all ps layout byte are h = λ plain.
    let l = listed_in_c dl repr always_sized ps layout (c_is_fixed repr plain.0) h in
    let own : List ℕ = listed_offsets layout.fields in
    let fields : extents_for repr.pack ps ≡ extents_of (parts_at own ps) =
    ap (λ pack. extents_for pack ps) plain.2 ∙ sym (extents_of-parts_at own ps l.count) in
    let begin : max (own_align dl repr) (unwrap_or repr.align 0) ≡ 0 =
    ap₂ (λ (pack raised : Option ℕ). max (if is_some pack then dl.i8_align else dl.aggregate_align) (unwrap_or raised 0)) plain.2 plain.1 ∙ omega (arith, byte) in
    let some = aligned_some (extents_for repr.pack ps) in
    let align : 2 ^ layout.align.abi ≡ most_aligned (extents_for repr.pack ps) =
    l.align ∙ ap (λ k. max (2 ^ k) (most_aligned (extents_for repr.pack ps))) begin ∙ omega arith in
    let extent : extent_of (placed_fields repr ps layout) ≡ c_struct (extents_for repr.pack ps) =
    ap₂ (λ (n a : ℕ). let e : Extent = record { size = n; align = a } in e)
    (l.size ∙ ap (rounded_up (c_end 0 (extents_for repr.pack ps))) align) align in
    record {
      each = part_for_each dl all own ps l.count are;
      offsets = offsets_of-parts_at own ps l.count ∙ l.offsets ∙ ap (c_offsets 0) fields;
      extent = extent ∙ ap c_struct fields;
    }

each_packed : (n : ℕ) (ps : List Placed) → extents_for (Some n) ps ≡ map (packed_to (2 ^ n)) (map extent_of ps)
each_packed n [] = refl
each_packed n (p ∷ ps) = ap (λ (es : List Extent). packed_to (2 ^ n) (extent_of p) ∷ es) (each_packed n ps)

-- packed: the same with the cut alignments; nothing is asked of aggregates, since a packed list begins with a byte's
packed_listed : (dl : TargetDataLayout) (repr : ReprOptions) (always_sized : Bool) (all : Trees) (ps : List Placed) (layout : Layout)
    → IsLawfulDataLayout dl → AreLaying dl all (Ok ps)
    → IsLaidList dl repr (kind_of always_sized ps) (map layout_of ps) (Ok layout)
    → IsPackedC (struct repr always_sized None all) (placed_fields repr ps layout)
packed_listed dl repr always_sized all ps layout law are h = λ n packed unraised c.
    let l = listed_in_c dl repr always_sized ps layout (c_is_fixed repr c) h in
    let own : List ℕ = listed_offsets layout.fields in
    let fields : extents_for repr.pack ps ≡ map (packed_to (2 ^ n)) (extents_of (parts_at own ps)) =
    ap (λ pack. extents_for pack ps) packed ∙ each_packed n ps
    ∙ ap (map (packed_to (2 ^ n))) (sym (extents_of-parts_at own ps l.count)) in
    let byte : dl.i8_align ≡ 0 = byte_align dl law in
    let begin : max (own_align dl repr) (unwrap_or repr.align 0) ≡ 0 =
    ap₂ (λ (pack raised : Option ℕ). max (if is_some pack then dl.i8_align else dl.aggregate_align) (unwrap_or raised 0)) packed unraised ∙ omega (arith, byte) in
    let some = aligned_some (extents_for repr.pack ps) in
    let align : 2 ^ layout.align.abi ≡ most_aligned (extents_for repr.pack ps) =
    l.align ∙ ap (λ k. max (2 ^ k) (most_aligned (extents_for repr.pack ps))) begin ∙ omega arith in
    let extent : extent_of (placed_fields repr ps layout) ≡ c_struct (extents_for repr.pack ps) =
    ap₂ (λ (n a : ℕ). let e : Extent = record { size = n; align = a } in e)
    (l.size ∙ ap (rounded_up (c_end 0 (extents_for repr.pack ps))) align) align in (
      part_for_each dl all own ps l.count are,
      offsets_of-parts_at own ps l.count ∙ l.offsets ∙ ap (c_offsets 0) fields,
      extent ∙ ap c_struct fields,
    )

-- a struct without an own fault has the calculator's answer; `P` is what each such answer has
answered : (dl : TargetDataLayout) (repr : ReprOptions) (always_sized : Bool) (placed : Placed) (ps : List Placed) (P : Placed → Type 0)
    → ((layout : Layout) → IsLaidList dl repr (kind_of always_sized ps) (map layout_of ps) (Ok layout) → P (placed_fields repr ps layout))
    → (fault : Option LayError) → MatchOption fault
    (Follows (IsLaidList dl repr (kind_of always_sized ps) (map layout_of ps)) (λ layout r. r ≡ Ok (placed_fields repr ps layout)) (Ok placed))
    (λ e. Ok placed ≡ Err e) → P placed
answered dl repr always_sized placed ps P each None (inl h) = absurd (no_error placed h.0 h.2)
answered dl repr always_sized placed ps P each None (inr h) =
    subst P (sym (inj-Ok placed (placed_fields repr ps h.0) h.2)) (each h.0 h.1)
answered dl repr always_sized placed ps P each (Some e) h = absurd (no_error placed e h)

-- what each list of a struct's fields has, the struct has
pub struct_has : (dl : TargetDataLayout) (repr : ReprOptions) (always_sized : Bool) (all : Trees) (P : Placed → Type 0)
    → ((ps : List Placed) (layout : Layout) → AreLaying dl all (Ok ps)
    → IsLaidList dl repr (kind_of always_sized ps) (map layout_of ps) (Ok layout) → P (placed_fields repr ps layout))
    → (p : Placed) → IsLaying dl (struct repr always_sized None all) (Ok p) → P p
struct_has dl repr always_sized all P each p (inl h) = absurd (no_error p h.0 h.2)
struct_has dl repr always_sized all P each p (inr h) =
    answered dl repr always_sized p h.0 P (λ layout listed. each h.0 layout h.1 listed) (fields_fault repr h.0) h.2

pub laid_c_struct : (dl : TargetDataLayout) → dl.aggregate_align ≡ 0 → (t : Tree) (p : Placed) → IsLaying dl t (Ok p) → IsCStruct t p
laid_c_struct dl byte (struct repr always_sized None all) p h =
    struct_has dl repr always_sized all (IsCStruct (struct repr always_sized None all))
    (λ ps layout are listed. c_listed dl repr always_sized all ps layout byte are listed) p h
laid_c_struct dl byte _ p h = tt

pub laid_packed_c : (dl : TargetDataLayout) → IsLawfulDataLayout dl → (t : Tree) (p : Placed) → IsLaying dl t (Ok p) → IsPackedC t p
laid_packed_c dl law (struct repr always_sized None all) p h =
    struct_has dl repr always_sized all (IsPackedC (struct repr always_sized None all))
    (λ ps layout are listed. packed_listed dl repr always_sized all ps layout law are listed) p h
laid_packed_c dl law _ p h = tt
