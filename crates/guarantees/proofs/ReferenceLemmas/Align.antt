-- Structs and unions under `align(n)` and `packed(n)`, beside the same ones without it.
use Rattle.std.proofs.Common.{◌≡◌, ℕ, ◌^◌, ◌≤◌, List, [], ◌∷◌, Option, None, Some, map, refl, ap, ap₂, ◌∙◌, subst, arith, Ok}
use Rattle.std.specs.Prelude.{max, min, is_some, unwrap_or, if◌then◌else◌}
use Rattle.abi_base.specs.declared.data_layout.TargetDataLayout.{TargetDataLayout}
use Rattle.abi_base.specs.DataLayout.{IsLawfulDataLayout}
use Rattle.abi_scalar.specs.declared.repr.ReprOptions.{ReprOptions}
use Rattle.abi_univariant.specs.Placement.{own_align}
use Rattle.abi_tree.specs.Placed.{Placed, parts_in}
use Rattle.abi_tree.specs.Tree.{Tree, Trees, struct, union}
use Rattle.rustc_abi.specs.Everywhere.{OfEach, Within}
use Rattle.rustc_abi.specs.Laying.{IsLaying}
use Rattle.guarantees.specs.Reference.Words.{align_in_bytes, extent_of, most_aligned}
use Rattle.guarantees.specs.Reference.Modifiers.{IsPackedWide, IsRaised, unaligned, unpacked}
use Rattle.guarantees.proofs.ReferenceLemmas.Everywhere.{IsOnly, same_fields}
use Rattle.guarantees.proofs.ReferenceLemmas.Lists.{extents_for, pow_max}
use Rattle.guarantees.proofs.ReferenceLemmas.Over.{IsOver, byte_align, least_align, over_struct, over_union, struct_laid, union_laid}

module _ (dl : TargetDataLayout) where
  -- the fields of two types over the same trees are the same, where one of these has but one layout for each
  over_same : (repr other : ReprOptions) (all : Trees) (p q : Placed) → (h : IsOver dl repr all p) → OfEach dl (IsOnly dl) all (parts_in p)
      → (k : IsOver dl other all q) → k.fields ≡ h.fields
  over_same repr other all p q h inside k =
      same_fields dl (IsOnly dl) (λ t p own. own.0) all h.offsets h.fields k.fields h.count h.are
      (subst (OfEach dl (IsOnly dl) all) h.parts inside) k.are

  -- ---- `align`

  raised_by : (repr : ReprOptions) (all : Trees) (n : ℕ) (p before : Placed) → repr.align ≡ Some n → (h : IsOver dl repr all p)
      → OfEach dl (IsOnly dl) all (parts_in p) → IsOver dl (unaligned repr) all before → align_in_bytes p ≡ max (2 ^ n) (align_in_bytes before)
  raised_by repr all n p before raised h inside k =
      let same : k.fields ≡ h.fields = over_same repr (unaligned repr) all p before h inside k in
      let own : ℕ = own_align dl repr in
      let most : ℕ = most_aligned (extents_for repr.pack h.fields) in
      let high : align_in_bytes p ≡ max (2 ^ max own n) most =
      h.align ∙ ap (λ (o : Option ℕ). max (2 ^ max own (unwrap_or o 0)) most) raised in
      let low : align_in_bytes before ≡ max (2 ^ own) most =
      k.align ∙ ap₂ (λ (a : ℕ) ps. max (2 ^ a) (most_aligned (extents_for repr.pack ps))) (let is : max own 0 ≡ own = omega arith in is) same in
      let both : 2 ^ max own n ≡ max (2 ^ own) (2 ^ n) = pow_max own n in
      omega arith

  pub only_raised : IsLawfulDataLayout dl → (t : Tree) (p : Placed) → IsOnly dl t p → Within dl (IsOnly dl) t p → IsRaised (λ t p. IsLaying dl t (Ok p)) t p
  only_raised law (struct repr always_sized order all) p h inside = λ n raised before there.
      raised_by repr all n p before raised (over_struct dl repr all p (struct_laid dl repr always_sized order all p h.1)) inside
      (over_struct dl (unaligned repr) all before (struct_laid dl (unaligned repr) always_sized order all before there))
  only_raised law (union repr all) p h inside = λ n raised before there.
      raised_by repr all n p before raised (over_union dl repr all p (union_laid dl law repr all p h.1)) inside
      (over_union dl (unaligned repr) all before (union_laid dl law (unaligned repr) all before there))
  only_raised law _ p h inside = tt

  -- ---- `packed`

  -- a cut at or above all alignments changes none
  uncut : (n : ℕ) (ps : List Placed) → most_aligned (map extent_of ps) ≤ 2 ^ n → most_aligned (extents_for (Some n) ps) ≡ most_aligned (map extent_of ps)
  uncut n [] le = refl
  uncut n (p ∷ ps) le =
      let rest : most_aligned (extents_for (Some n) ps) ≡ most_aligned (map extent_of ps) = uncut n ps (omega arith) in
      let own : min (2 ^ n) (align_in_bytes p) ≡ align_in_bytes p = omega arith in
      ap₂ (λ a b. max a b) own rest

  wide_by : IsLawfulDataLayout dl → dl.aggregate_align ≡ 0 → (repr : ReprOptions) (all : Trees) (n : ℕ) (p before : Placed) → repr.pack ≡ Some n
      → (h : IsOver dl repr all p) → OfEach dl (IsOnly dl) all (parts_in p) → IsOver dl (unpacked repr) all before
      → align_in_bytes before ≤ 2 ^ n → align_in_bytes p ≡ align_in_bytes before
  wide_by law byte repr all n p before packed h inside k le =
      let same : k.fields ≡ h.fields = over_same repr (unpacked repr) all p before h inside k in
      let raised : ℕ = unwrap_or repr.align 0 in
      let one : dl.i8_align ≡ 0 = byte_align dl law in
      let own : least_align dl repr ≡ raised =
      ap (λ (pack : Option ℕ). max (if is_some pack then dl.i8_align else dl.aggregate_align) raised) packed ∙ omega arith in
      let other : least_align dl (unpacked repr) ≡ raised = omega (arith, byte) in
      let low : align_in_bytes before ≡ max (2 ^ raised) (most_aligned (map extent_of h.fields)) =
      k.align ∙ ap₂ (λ (a : ℕ) ps. max (2 ^ a) (most_aligned (extents_for None ps))) other same in
      let high : align_in_bytes p ≡ max (2 ^ raised) (most_aligned (extents_for (Some n) h.fields)) =
      h.align ∙ ap₂ (λ (a : ℕ) (pack : Option ℕ). max (2 ^ a) (most_aligned (extents_for pack h.fields))) own packed in
      let uncut_all : most_aligned (extents_for (Some n) h.fields) ≡ most_aligned (map extent_of h.fields) = uncut n h.fields (omega arith) in
      omega arith

  pub only_wide : IsLawfulDataLayout dl → dl.aggregate_align ≡ 0 → (t : Tree) (p : Placed) → IsOnly dl t p → Within dl (IsOnly dl) t p
      → IsPackedWide (λ t p. IsLaying dl t (Ok p)) t p
  only_wide law byte (struct repr always_sized order all) p h inside = λ n packed before there le.
      wide_by law byte repr all n p before packed (over_struct dl repr all p (struct_laid dl repr always_sized order all p h.1)) inside
      (over_struct dl (unpacked repr) all before (struct_laid dl (unpacked repr) always_sized order all before there)) le
  only_wide law byte (union repr all) p h inside = λ n packed before there le.
      wide_by law byte repr all n p before packed (over_union dl repr all p (union_laid dl law repr all p h.1)) inside
      (over_union dl (unpacked repr) all before (union_laid dl law (unpacked repr) all before there)) le
  only_wide law byte _ p h inside = tt
