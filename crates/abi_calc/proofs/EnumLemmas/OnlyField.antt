-- How far a tag may grow, told by variants of one field.
use Rattle.std.proofs.Common.{◌≡◌, ℕ, ◌^◌, ◌<◌, ◌≤◌, Bool, true, false, List, [], ◌∷◌, All, ap, arith, fold, get_or, inl, inr, length, map, max, min, refl, subst, ◌∙◌}
use Rattle.std.specs.Prelude.{◌==◌, ◌⊎◌, IsPermutation, None, if◌then◌else◌, slice_get, unwrap_or}
use Rattle.std.proofs.Math.Nat.{pow-le-pow_right}
use Rattle.std.proofs.lemmas.Bool.{cases_lt, eqb-true}
use Rattle.std.proofs.lemmas.List.Sorted.{All-permutation, length_permutation}
use Rattle.abi_base.specs.declared.data_layout.TargetDataLayout.{TargetDataLayout}
use Rattle.abi_base.specs.declared.integer.Integer.{Integer}
use Rattle.abi_base.specs.declared.struct_kind.StructKind.{StructKind}
use Rattle.abi_base.specs.Integer.{integer_size}
use Rattle.abi_scalar.specs.declared.fields_shape.FieldsShape.TheVariants.{Arbitrary}
use Rattle.abi_scalar.specs.declared.layout_data.LayoutData.{LayoutData}
use Rattle.abi_scalar.specs.declared.repr.ReprOptions.{ReprOptions}
use Rattle.abi_scalar.specs.Order.{indices_by_offset}
use Rattle.abi_scalar.specs.Shape.{listed_offsets}
use Rattle.abi_univariant.specs.Least.{IsOrderOf}
use Rattle.abi_univariant.specs.Part.{max_align}
use Rattle.abi_univariant.specs.Placement.{fields_repr}
use Rattle.abi_univariant.proofs.Sorted.Least.{allowed_permutes}
use Rattle.abi_calc.specs.Enums.Bounds.{least_only, most_tag, only_align}
use Rattle.abi_calc.specs.Enums.Growth.{align_or, first_align, grown_tag, start_align}
use Rattle.abi_calc.specs.Enums.Lists.{AreGoodLists, IsGoodList}
use Rattle.abi_calc.proofs.EnumLemmas.Growth.{grown_size, start_most}

-- ---- the order of one field

one_zero : (order : List ℕ) → length order ≡ 1 → All (λ n. n ≡ 0) order → order ≡ 0 ∷ []
one_zero [] one zeros = absurd (omega (arith, one))
one_zero (x ∷ []) one zeros = ap (λ n. n ∷ []) (zeros 0 0 (omega arith))
one_zero (x ∷ y ∷ order) one zeros = absurd (omega (arith, one))

zero_alone : All {X = ℕ} (λ n. n ≡ 0) (0 ∷ [])
zero_alone = λ k d within. let first : k ≡ 0 = omega (arith, within) in ap (λ k. get_or (0 ∷ []) k d) first

-- a list of one zero has no other order
one_order : (order : List ℕ) → IsPermutation (0 ∷ []) order → order ≡ 0 ∷ []
one_order order same = one_zero order (length_permutation (0 ∷ []) order same) (All-permutation (λ n. n ≡ 0) (0 ∷ []) order same zero_alone)

only_order : (dl : TargetDataLayout) (repr : ReprOptions) (kind : StructKind) (order : List ℕ) → IsOrderOf dl repr kind 1 order → order ≡ 0 ∷ []
only_order dl repr kind order allowed = one_order order (allowed_permutes (fields_repr dl repr kind) 1 order allowed)

-- ---- a tag that grows

-- an integer that grows to an alignment has no more bytes than one that grows to a greater one
grown_below : (dl : TargetDataLayout) (repr : ReprOptions) (asked : Integer) (start least : ℕ) → start ≤ least → integer_size (grown_tag dl repr asked start) ≤ max (integer_size asked) (2 ^ least)
grown_below dl repr asked start least below = by (cases_lt (integer_size asked) (integer_size (grown_tag dl repr asked start)))
  where
    by : (integer_size asked < integer_size (grown_tag dl repr asked start)) ⊎ (integer_size (grown_tag dl repr asked start) ≤ integer_size asked)
        → integer_size (grown_tag dl repr asked start) ≤ max (integer_size asked) (2 ^ least)
    by (inl more) =
        let is : integer_size (grown_tag dl repr asked start) ≡ 2 ^ start = ((grown_size dl repr asked start).larger more).1 in
        let up : 2 ^ start ≤ 2 ^ least = pow-le-pow_right (omega arith) below in
        omega (arith, is, up)
    by (inr same) = omega (arith, same)

-- ---- its alignment

module _ {F V H : Type 0} (layout_of : H → LayoutData F V) (at : ℕ → F) (number : F → ℕ) (first : V) (dl : TargetDataLayout) (repr : ReprOptions) (kind : StructKind) (zero_is : number (at 0) ≡ 0) where
  -- the first alignment of a variant of one field is that field's
  first_is : (fields : List H) (list : LayoutData F V) → IsGoodList layout_of at first dl repr kind fields list → length (map layout_of fields) ≡ 1
      → first_align (map layout_of fields) (indices_by_offset number list.fields) ≡ align_or (slice_get (map layout_of fields) 0) None
  first_is fields list good one =
      let order : List ℕ = good.placed.0 in
      let only : order ≡ 0 ∷ [] = only_order dl repr kind order (subst (λ n. IsOrderOf dl repr kind n order) one good.placed.2.allowed) in
      ap (λ shape. first_align (map layout_of fields) (indices_by_offset number shape)) (good.placed.1 ∙ ap (λ is. Arbitrary (listed_offsets list.fields) (map at is)) only)
      ∙ ap (λ i. first_align (map layout_of fields) (i ∷ [])) zero_is

  -- what is no more than the first alignment is no more than that of an only field
  below_only : (m : ℕ) (fields : List H) (list : LayoutData F V) → IsGoodList layout_of at first dl repr kind fields list
      → m ≤ unwrap_or (first_align (map layout_of fields) (indices_by_offset number list.fields)) max_align → m ≤ max_align → m ≤ only_align (map layout_of fields)
  below_only m fields list good below most = by (length (map layout_of fields) == 1) refl
    where
      by : (b : Bool) → (length (map layout_of fields) == 1) ≡ b → m ≤ (if b then unwrap_or (align_or (slice_get (map layout_of fields) 0) None) max_align else max_align)
      by true one = subst (λ a. m ≤ unwrap_or a max_align) (first_is fields list good (eqb-true _ 1 one)) below
      by false other = most

  -- so it is of all variants
  start_below : (m from : ℕ) (variants : List (List H)) (lists : List (LayoutData F V)) → AreGoodLists layout_of at first dl repr kind variants lists → m ≤ from
      → m ≤ start_align number (map (map layout_of) variants) lists → m ≤ fold (λ least fields. min least (only_align fields)) from (map (map layout_of) variants)
  start_below m from [] [] good h all = h
  start_below m from [] (l ∷ ls) good h all = elim good [ ]
  start_below m from (v ∷ vs) [] good h all = elim good [ ]
  start_below m from (v ∷ vs) (l ∷ ls) good h all =
      let own : m ≤ min (unwrap_or (first_align (map layout_of v) (indices_by_offset number l.fields)) max_align) (start_align number (map (map layout_of) vs) ls) = all in
      let most = start_most number (map (map layout_of) vs) ls in
      let one : m ≤ only_align (map layout_of v) = below_only m v l good.0 (omega (arith, own)) (omega (arith, own, most)) in
      start_below m (min from (only_align (map layout_of v))) vs ls good.1 (omega (arith, h, one)) (omega (arith, own))

  -- a tag grows to no more bytes
  pub tag_most : (asked : Integer) (variants : List (List H)) (lists : List (LayoutData F V)) → AreGoodLists layout_of at first dl repr kind variants lists
      → integer_size (grown_tag dl repr asked (start_align number (map (map layout_of) variants) lists)) ≤ most_tag asked (map (map layout_of) variants)
  tag_most asked variants lists good =
      let start : ℕ = start_align number (map (map layout_of) variants) lists in
      grown_below dl repr asked start (least_only (map (map layout_of) variants))
      (start_below start max_align variants lists good (start_most number (map (map layout_of) variants) lists) (omega arith))
