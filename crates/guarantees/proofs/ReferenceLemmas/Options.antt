-- `Option` of a type whose number is never 0: it lies in the type's niche, with 0 for `None`.
use Rattle.std.proofs.Common.{◌≡◌, ℕ, zero, suc, List, [], ◌∷◌, refl, sym, ap, ◌∙◌, subst, inl, inr, Ok}
use Rattle.abi_base.specs.declared.data_layout.TargetDataLayout.{TargetDataLayout}
use Rattle.abi_scalar.specs.declared.repr.ReprOptions.{ReprOptions}
use Rattle.abi_scalar.specs.declared.scalar.Scalar.{Scalar}
use Rattle.abi_scalar.specs.declared.variants.Variants.{Variants as LayoutVariants}
use Rattle.abi_scalar.specs.declared.variants.Variants.TheVariants.{Empty, Multiple, Single}
use Rattle.abi_scalar.specs.Lawful.{IsLawfulLayout}
use Rattle.abi_tree.specs.Placed.{Placed, layout_of, size_of}
use Rattle.abi_scalar.specs.Layout.{Layout}
use Rattle.abi_tree.specs.Tree.{Tree, no_trees, more_trees, Variants, no_variants, more_variants, enum}
use Rattle.rustc_abi.specs.Enums.{IsEnumed}
use Rattle.rustc_abi.specs.Everywhere.{Within}
use Rattle.rustc_abi.specs.Laying.{IsLaying, VariantsLaying, enum_fault, placed_enum, placed_variants}
use Rattle.guarantees.specs.Reference.Option.{IsAsLarge, IsNeverZero, IsNoneZero, IsOneNumber, IsOption, IsPlainRust, IsSomeAlike, LeavesOutZero, OfOption}
use Rattle.guarantees.proofs.ReferenceLemmas.Answers.{laid_by}
use Rattle.guarantees.proofs.ReferenceLemmas.Everywhere.{IsInner}
use Rattle.guarantees.proofs.ReferenceLemmas.ZeroOut.{never_zero, zero_free}
use Rattle.guarantees.proofs.ReferenceLemmas.InNiche.{IsInNiche, as_large, none_zero, some_alike}
use Rattle.guarantees.proofs.ReferenceLemmas.OptionLists.{none_first_laid, some_first_laid}

-- ---- the type in the enum, whatever the layout

module _ (dl : TargetDataLayout) (repr : ReprOptions) (t : Tree) (c d : ℕ) where
  abbrev none_then_some : Variants
  none_then_some = more_variants c no_trees (more_variants d (more_trees t no_trees) no_variants)

  abbrev some_then_none : Variants
  some_then_none = more_variants c (more_trees t no_trees) (more_variants d no_trees no_variants)

  inner_second : (variants : List (List Placed)) (layout : Layout) (vs : LayoutVariants ℕ ℕ) (v w : List Placed) → variants ≡ v ∷ w ∷ []
      → Within dl (IsInner dl) (enum repr none_then_some) (placed_variants dl repr (c ∷ d ∷ []) (v ∷ w ∷ []) layout vs) → (x : Placed) × IsInner dl t x
  inner_second variants layout Empty v w e h = (_, h.1.0.2.0.0)
  inner_second variants layout (Single zero) v w e h = (_, h.1.0.2.0.0)
  inner_second variants layout (Single (suc zero)) v w e h = (_, h.1.0.0.0)
  inner_second variants layout (Single (suc (suc i))) v w e h = absurd h.1.1
  inner_second variants layout (Multiple tag encoding field []) v w e h = absurd h
  inner_second variants layout (Multiple tag encoding field (a ∷ [])) v w e h = absurd h.1
  inner_second variants layout (Multiple tag encoding field (a ∷ b ∷ more)) v w e h = (_, h.1.0.0.0)

  inner_first : (variants : List (List Placed)) (layout : Layout) (vs : LayoutVariants ℕ ℕ) (v w : List Placed) → variants ≡ v ∷ w ∷ []
      → Within dl (IsInner dl) (enum repr some_then_none) (placed_variants dl repr (c ∷ d ∷ []) (v ∷ w ∷ []) layout vs) → (x : Placed) × IsInner dl t x
  inner_first variants layout Empty v w e h = (_, h.0.2.0.0)
  inner_first variants layout (Single zero) v w e h = (_, h.0.0.0)
  inner_first variants layout (Single (suc zero)) v w e h = (_, h.0.2.0.0)
  inner_first variants layout (Single (suc (suc i))) v w e h = absurd h.1.1
  inner_first variants layout (Multiple tag encoding field []) v w e h = absurd h
  inner_first variants layout (Multiple tag encoding field (a ∷ more)) v w e h = (_, h.0.0.0)

  none_then_some_are : (variants : List (List Placed)) → VariantsLaying dl none_then_some (Ok variants)
      → (q : Placed) × IsLaying dl t (Ok q) × (variants ≡ [] ∷ (q ∷ []) ∷ [])
  none_then_some_are variants (inl f) = absurd (cc f.2)
  none_then_some_are variants (inr (ps, here, inl f)) = absurd (cc f.2)
  none_then_some_are variants (inr (ps, here, inr (rest, inl f, is))) = absurd (cc f.2)
  none_then_some_are variants (inr (ps, here, inr (rest, inr (qs, inl f, more), is))) = absurd (cc f.2)
  none_then_some_are variants (inr (ps, here, inr (rest, inr (qs, inr (q, there, inl f), more), is))) = absurd (cc f.2)
  none_then_some_are variants (inr (ps, here, inr (rest, inr (qs, inr (q, there, inr (none, last, one)), inl f), is))) = absurd (cc f.2)
  none_then_some_are variants (inr (ps, here, inr (rest, inr (qs, inr (q, there, inr (none, last, one)), inr (others, end, that)), is))) = (q, there, cc)

  some_then_none_are : (variants : List (List Placed)) → VariantsLaying dl some_then_none (Ok variants)
      → (q : Placed) × IsLaying dl t (Ok q) × (variants ≡ (q ∷ []) ∷ [] ∷ [])
  some_then_none_are variants (inl f) = absurd (cc f.2)
  some_then_none_are variants (inr (qs, inl f, more)) = absurd (cc f.2)
  some_then_none_are variants (inr (qs, inr (q, there, inl f), more)) = absurd (cc f.2)
  some_then_none_are variants (inr (qs, inr (q, there, inr (none, last, one)), inl f)) = absurd (cc f.2)
  some_then_none_are variants (inr (qs, inr (q, there, inr (none, last, one)), inr (rest, inl f, is))) = absurd (cc f.2)
  some_then_none_are variants (inr (qs, inr (q, there, inr (none, last, one)), inr (rest, inr (ps, here, inl f), is))) = absurd (cc f.2)
  some_then_none_are variants (inr (qs, inr (q, there, inr (none, last, one)), inr (rest, inr (ps, here, inr (others, end, that)), is))) = (q, there, cc)

-- ---- each promise

-- what follows of the enum from what is known of it in the niche
abbrev Follows : TargetDataLayout → (Promise : (none some : ℕ) → (inner whole : Placed) → Type 0) → Type 0
Follows dl Promise =
    (s : Scalar) (none some : ℕ) (inner whole : Placed) → IsOneNumber dl s inner → LeavesOutZero (size_of inner) s → IsInNiche dl none some inner whole
    → Promise none some inner whole

module _ (dl : TargetDataLayout) (byte : dl.aggregate_align ≡ 0) where
  -- a type that is never 0 and has this layout
  abbrev IsNumber : Tree → Placed → Type 0
  IsNumber t inner = IsLaying dl t (Ok inner) × IsNeverZero dl t inner

  none_then_some_in : (repr : ReprOptions) → IsPlainRust repr → (t : Tree) (c d : ℕ) (inner p : Placed) → IsNumber t inner
      → IsLaying dl (enum repr (none_then_some dl repr t c d)) (Ok p) → Within dl (IsInner dl) (enum repr (none_then_some dl repr t c d)) p
      → (s : Scalar) × IsOneNumber dl s inner × LeavesOutZero (size_of inner) s × IsInNiche dl 0 1 inner p
  none_then_some_in repr plain t c d inner p is (inl f) within = absurd (cc f.2)
  none_then_some_in repr plain t c d inner p is (inr (variants, there, answer)) within =
      let numbers : List ℕ = c ∷ d ∷ [] in
      let found = laid_by (enum_fault dl repr numbers variants) (IsEnumed dl repr numbers variants) (placed_enum dl repr numbers variants) p answer in
      let layout : Layout = found.0 in
      let are = none_then_some_are dl repr t c d variants there in
      let variants_are : List (List Placed) = [] ∷ (are.0 ∷ []) ∷ [] in
      let whole : placed_enum dl repr numbers variants_are layout ≡ p = ap (λ vs. placed_enum dl repr numbers vs layout) (sym are.2) ∙ found.2 in
      let own : Within dl (IsInner dl) (enum repr (none_then_some dl repr t c d)) (placed_enum dl repr numbers variants_are layout) =
      subst (Within dl (IsInner dl) (enum repr (none_then_some dl repr t c d))) (sym whole) within in
      let x = inner_second dl repr t c d variants_are layout layout.variants [] (are.0 ∷ []) refl own in
      let same : are.0 ≡ inner = x.1.0.0 are.0 are.1 ∙ sym (x.1.0.0 inner is.0) in
      let law : IsLawfulLayout dl (layout_of inner) = subst (λ q. IsLawfulLayout dl (layout_of q)) (sym (x.1.0.0 inner is.0)) x.1.1 in
      let number = never_zero dl t inner is.0 law is.1 in
      let free = zero_free dl number.0 inner law number.1 number.2 in
      let enumed : IsEnumed dl repr numbers ([] ∷ (inner ∷ []) ∷ []) (Ok layout) =
      subst (λ vs. IsEnumed dl repr numbers vs (Ok layout)) (are.2 ∙ ap (λ (q : Placed). [] ∷ (q ∷ []) ∷ []) same) found.1 in (
        number.0,
        number.1,
        number.2,
        subst (IsInNiche dl 0 1 inner) (ap (λ (q : Placed). placed_enum dl repr numbers ([] ∷ (q ∷ []) ∷ []) layout) (sym same) ∙ whole)
            (none_first_laid dl byte repr plain inner law number.0 number.1.view free c d layout enumed),
      )

  some_then_none_in : (repr : ReprOptions) → IsPlainRust repr → (t : Tree) (c d : ℕ) (inner p : Placed) → IsNumber t inner
      → IsLaying dl (enum repr (some_then_none dl repr t c d)) (Ok p) → Within dl (IsInner dl) (enum repr (some_then_none dl repr t c d)) p
      → (s : Scalar) × IsOneNumber dl s inner × LeavesOutZero (size_of inner) s × IsInNiche dl 1 0 inner p
  some_then_none_in repr plain t c d inner p is (inl f) within = absurd (cc f.2)
  some_then_none_in repr plain t c d inner p is (inr (variants, there, answer)) within =
      let numbers : List ℕ = c ∷ d ∷ [] in
      let found = laid_by (enum_fault dl repr numbers variants) (IsEnumed dl repr numbers variants) (placed_enum dl repr numbers variants) p answer in
      let layout : Layout = found.0 in
      let are = some_then_none_are dl repr t c d variants there in
      let variants_are : List (List Placed) = (are.0 ∷ []) ∷ [] ∷ [] in
      let whole : placed_enum dl repr numbers variants_are layout ≡ p = ap (λ vs. placed_enum dl repr numbers vs layout) (sym are.2) ∙ found.2 in
      let own : Within dl (IsInner dl) (enum repr (some_then_none dl repr t c d)) (placed_enum dl repr numbers variants_are layout) =
      subst (Within dl (IsInner dl) (enum repr (some_then_none dl repr t c d))) (sym whole) within in
      let x = inner_first dl repr t c d variants_are layout layout.variants (are.0 ∷ []) [] refl own in
      let same : are.0 ≡ inner = x.1.0.0 are.0 are.1 ∙ sym (x.1.0.0 inner is.0) in
      let law : IsLawfulLayout dl (layout_of inner) = subst (λ q. IsLawfulLayout dl (layout_of q)) (sym (x.1.0.0 inner is.0)) x.1.1 in
      let number = never_zero dl t inner is.0 law is.1 in
      let free = zero_free dl number.0 inner law number.1 number.2 in
      let enumed : IsEnumed dl repr numbers ((inner ∷ []) ∷ [] ∷ []) (Ok layout) =
      subst (λ vs. IsEnumed dl repr numbers vs (Ok layout)) (are.2 ∙ ap (λ (q : Placed). (q ∷ []) ∷ [] ∷ []) same) found.1 in (
        number.0,
        number.1,
        number.2,
        subst (IsInNiche dl 1 0 inner) (ap (λ (q : Placed). placed_enum dl repr numbers ((q ∷ []) ∷ [] ∷ []) layout) (sym same) ∙ whole)
            (some_first_laid dl byte repr plain inner law number.0 number.1.view free c d layout enumed),
      )

  module _ (Promise : (none some : ℕ) → (inner whole : Placed) → Type 0) (each : Follows dl Promise) where
    of_option : (repr : ReprOptions) (all : Variants) (p : Placed) → IsLaying dl (enum repr all) (Ok p) → Within dl (IsInner dl) (enum repr all) p → IsPlainRust repr
        → (t : Tree) (none some : ℕ) → IsOption t none some all → (inner : Placed) → IsLaying dl t (Ok inner) → IsNeverZero dl t inner → Promise none some inner p
    of_option repr all p h within plain t none some (c, d, inl (first, second, is)) inner laid at =
        let v = none_then_some_in repr plain t c d inner p (laid, at) (subst (λ vs. IsLaying dl (enum repr vs) (Ok p)) is h)
        (subst (λ vs. Within dl (IsInner dl) (enum repr vs) p) is within) in
        subst (λ m. Promise m some inner p) (sym first) (subst (λ n. Promise 0 n inner p) (sym second) (each v.0 0 1 inner p v.1 v.2 v.3))
    of_option repr all p h within plain t none some (c, d, inr (first, second, is)) inner laid at =
        let v = some_then_none_in repr plain t c d inner p (laid, at) (subst (λ vs. IsLaying dl (enum repr vs) (Ok p)) is h)
        (subst (λ vs. Within dl (IsInner dl) (enum repr vs) p) is within) in
        subst (λ m. Promise m some inner p) (sym first) (subst (λ n. Promise 1 n inner p) (sym second) (each v.0 1 0 inner p v.1 v.2 v.3))

    pub known_option : (t : Tree) (p : Placed) → IsLaying dl t (Ok p) → Within dl (IsInner dl) t p → OfOption dl (λ t p. IsLaying dl t (Ok p)) Promise t p
    known_option (enum repr all) p h within = λ plain t none some is inner laid at. of_option repr all p h within plain t none some is inner laid at
    known_option _ p h within = tt

-- ---- the three of them

pub known_size : (dl : TargetDataLayout) → dl.aggregate_align ≡ 0 → (t : Tree) (p : Placed) → IsLaying dl t (Ok p) → Within dl (IsInner dl) t p
    → OfOption dl (λ t p. IsLaying dl t (Ok p)) IsAsLarge t p
known_size dl byte = known_option dl byte IsAsLarge (λ s none some inner whole one only h. as_large dl none some inner whole h)

pub known_none : (dl : TargetDataLayout) → dl.aggregate_align ≡ 0 → (t : Tree) (p : Placed) → IsLaying dl t (Ok p) → Within dl (IsInner dl) t p
    → OfOption dl (λ t p. IsLaying dl t (Ok p)) (IsNoneZero dl) t p
known_none dl byte = known_option dl byte (IsNoneZero dl) (λ s none some inner whole one only h. none_zero dl none some inner whole h)

pub known_some : (dl : TargetDataLayout) → dl.aggregate_align ≡ 0 → (t : Tree) (p : Placed) → IsLaying dl t (Ok p) → Within dl (IsInner dl) t p
    → OfOption dl (λ t p. IsLaying dl t (Ok p)) (IsSomeAlike dl) t p
known_some dl byte = known_option dl byte (IsSomeAlike dl) (λ s none some inner whole one only h. some_alike dl none some inner whole h s one only)
