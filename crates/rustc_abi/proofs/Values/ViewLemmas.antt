-- What the views of parts say of the whole's bytes.
use Rattle.std.proofs.Common.{◌≡◌, ℕ, zero, suc, ◌+◌, ◌<◌, ◌≤◌, ⊎_elim, List, [], ◌∷◌, Bool, true, false, length, map, get_or, arith, refl, sym, ap, ◌∙◌, subst, All}
use Rattle.std.specs.Prelude.{◌==◌, ◌&&◌, nat_lt, slice_index, if◌then◌else◌}
use Rattle.std.proofs.lemmas.Bool.{eqb-true, and_parts, cases_lt}
use Rattle.std.proofs.lemmas.List.{get_or-map, get_or_past, length-map}
use Rattle.abi_base.specs.declared.data_layout.TargetDataLayout.{TargetDataLayout}
use Rattle.abi_base.specs.Primitive.{primitive_size}
use Rattle.abi_scalar.specs.declared.scalar.Scalar.{Scalar}
use Rattle.abi_scalar.specs.declared.scalar.Scalar.TheVariants.{Initialized, Union}
use Rattle.abi_scalar.specs.Range.{IsIn}
use Rattle.abi_scalar.specs.Scalar.{scalar_size}
use Rattle.abi_scalar.specs.declared.backend_repr.BackendRepr.{BackendRepr}
use Rattle.abi_scalar.specs.declared.backend_repr.BackendRepr.TheVariants.{Scalar as OneScalar, ScalarPair, SimdScalableVector, SimdVector, Memory}
use Rattle.abi_scalar.specs.Lawful.{IsLawfulLayout, IsLawfulView}
use Rattle.abi_scalar.specs.Pair.{pair_align, pair_size, second_offset}
use Rattle.abi_univariant.specs.declared.part.Part.{Part}
use Rattle.abi_univariant.specs.ListView.{any_unsized, bulky_parts, bulky_view, kept_view, list_view, pair_view, part_at, two_view}
use Rattle.abi_univariant.specs.Part.{part_of, parts_of}
use Rattle.abi_univariant.specs.Placement.{no_part}
use Rattle.abi_tree.specs.Tree.{Trees, no_trees, more_trees}
use Rattle.abi_tree.specs.Bytes.{bytes_at, number_of}
use Rattle.abi_tree.specs.Value.{Values, no_values, more_values}
use Rattle.abi_tree.specs.Placed.{Placed, layout_of, size_of, nothing}
use Rattle.abi_tree.specs.Holding.{HoldParts}
use Rattle.abi_tree.specs.Faithful.{IsScalarTrue, IsTrueOf}
use Rattle.abi_tree.specs.Nodes.{parts_at}
use Rattle.abi_tree.proofs.Bytes.HoldLemmas.{bytes_at-bytes_at}
use Rattle.rustc_abi.proofs.Values.PartsLemmas.{FitTogether}

-- what is true of a scalar in a part is true of it in the whole
pub true_in : (dl : TargetDataLayout) (s : Scalar) (o offset n : ℕ) (b : List ℕ) → offset + scalar_size dl s ≤ n → IsScalarTrue dl offset s (bytes_at b o n) → IsScalarTrue dl (o + offset) s b
true_in dl (Initialized value range) o offset n b le h =
    subst (λ x. IsIn (primitive_size dl value) range (number_of dl.endian x)) (bytes_at-bytes_at b o n offset (primitive_size dl value) le) h
true_in dl (Union value) o offset n b le h = tt

-- the view of each part is true of the part's bytes
pub part_true : (dl : TargetDataLayout) (size : ℕ) (ts : Trees) (offsets : List ℕ) (ps : List Placed) → FitTogether dl size ts (parts_at offsets ps) → length offsets ≡ length ps →
    (b : List ℕ) (vs : Values) → HoldParts dl.endian (parts_at offsets ps) b vs → (i : ℕ) → i < length ps →
    IsTrueOf dl (layout_of (get_or ps i nothing)).backend_repr (bytes_at b (get_or offsets i 0) (size_of (get_or ps i nothing)))
part_true dl size ts offsets [] fit same b vs h i lt = absurd (omega arith)
part_true dl size ts [] (p ∷ ps) fit same b vs h i lt = absurd (omega arith)
part_true dl size no_trees (o ∷ offsets) (p ∷ ps) fit same b vs h i lt = absurd fit
part_true dl size (more_trees t ts) (o ∷ offsets) (p ∷ ps) fit same b no_values h i lt = absurd h
part_true dl size (more_trees t ts) (o ∷ offsets) (p ∷ ps) fit same b (more_values v vs) h zero lt = fit.2.view _ v h.0.1
part_true dl size (more_trees t ts) (o ∷ offsets) (p ∷ ps) fit same b (more_values v vs) h (suc i) lt =
    part_true dl size ts offsets ps fit.3 (omega arith) b vs h.1 i (omega arith)

module _ (dl : TargetDataLayout) (b : List ℕ) where
  -- a scalar that is all of a part
  scalar_at : (s : Scalar) (o n : ℕ) → scalar_size dl s ≤ n → IsScalarTrue dl 0 s (bytes_at b o n) → IsScalarTrue dl o s b
  scalar_at s o n le h =
      let same : o + 0 ≡ o = omega arith in
      subst (λ k. IsScalarTrue dl k s b) same (true_in dl s o 0 n b (omega (arith, le)) h)

  -- the view of a part that is all of the list
  at_start : (fixed : Bool) (view : BackendRepr) (o n : ℕ) → o ≡ 0 → IsLawfulView dl n view → IsTrueOf dl view (bytes_at b o n) → IsTrueOf dl (kept_view fixed view) b
  at_start true (OneScalar s) o n at0 law h = tt
  at_start false (OneScalar s) o n at0 law h = subst (λ k. IsScalarTrue dl k s b) at0 (scalar_at s o n (omega (arith, law.1)) h)
  at_start fixed (ScalarPair s t offset) o n at0 law h =
      let later : o + offset ≡ offset = omega (arith, at0) in (
        subst (λ k. IsScalarTrue dl k s b) at0 (scalar_at s o n (omega (arith, law.2, law.3)) h.0),
        subst (λ k. IsScalarTrue dl k t b) later (true_in dl t o offset n b (omega (arith, law.3)) h.1),
      )
  at_start fixed (SimdScalableVector element count vectors) o n at0 law h = tt
  at_start true (SimdVector element count) o n at0 law h = tt
  at_start false (SimdVector element count) o n at0 law h = tt
  at_start fixed (Memory sized) o n at0 law h = tt

  kept_if : (c fixed : Bool) (view : BackendRepr) (o n : ℕ) → (c ≡ true → o ≡ 0) → IsLawfulView dl n view → IsTrueOf dl view (bytes_at b o n) →
      IsTrueOf dl (if c then kept_view fixed view else Memory true) b
  kept_if true fixed view o n at0 law h = at_start fixed view o n (at0 refl) law h
  kept_if false fixed view o n at0 law h = tt

  pair_if : (c : Bool) (s t : Scalar) (low high offset : ℕ) → (c ≡ true → (low ≡ 0) × (high ≡ offset)) → IsScalarTrue dl low s b → IsScalarTrue dl high t b →
      IsTrueOf dl (if c then ScalarPair s t offset else Memory true) b
  pair_if true s t low high offset e hs ht = (subst (λ k. IsScalarTrue dl k s b) (e refl).0 hs, subst (λ k. IsScalarTrue dl k t b) (e refl).1 ht)
  pair_if false s t low high offset e hs ht = tt

  pair_true : (size align low : ℕ) (s : Scalar) (high : ℕ) (t : Scalar) → IsScalarTrue dl low s b → IsScalarTrue dl high t b → IsTrueOf dl (pair_view dl size align low s high t) b
  pair_true size align low s high t hs ht =
      pair_if ((low == 0) && (high == second_offset dl s t) && (align == pair_align dl s t) && (size == pair_size dl s t)) s t low high (second_offset dl s t)
      (λ c.
      let first = and_parts ((low == 0) && (high == second_offset dl s t) && (align == pair_align dl s t)) (size == pair_size dl s t) c in
      let second = and_parts ((low == 0) && (high == second_offset dl s t)) (align == pair_align dl s t) first.0 in
      let third = and_parts (low == 0) (high == second_offset dl s t) second.0 in
      (eqb-true low 0 third.0, eqb-true high (second_offset dl s t) third.1)) hs ht

  either : (c : Bool) (x y : BackendRepr) → IsTrueOf dl x b → IsTrueOf dl y b → IsTrueOf dl (if c then x else y) b
  either true x y hx hy = hx
  either false x y hx hy = hy

  -- two parts, of one scalar each
  two_true : (size align : ℕ) (o n : ℕ) (x : BackendRepr) (p m : ℕ) (y : BackendRepr) → IsLawfulView dl n x → IsLawfulView dl m y →
      IsTrueOf dl x (bytes_at b o n) → IsTrueOf dl y (bytes_at b p m) → IsTrueOf dl (two_view dl size align o x p y) b
  two_true size align o n (OneScalar s) p m (OneScalar t) lx ly hx hy =
      let first = scalar_at s o n (omega (arith, lx.1)) hx in
      let second = scalar_at t p m (omega (arith, ly.1)) hy in
      either (nat_lt o p) (pair_view dl size align o s p t) (pair_view dl size align p t o s) (pair_true size align o s p t first second) (pair_true size align p t o s second first)
  two_true size align o n (OneScalar s) p m (ScalarPair t u offset) lx ly hx hy = tt
  two_true size align o n (OneScalar s) p m (SimdScalableVector element count vectors) lx ly hx hy = tt
  two_true size align o n (OneScalar s) p m (SimdVector element count) lx ly hx hy = tt
  two_true size align o n (OneScalar s) p m (Memory sized) lx ly hx hy = tt
  two_true size align o n (ScalarPair s t offset) p m y lx ly hx hy = tt
  two_true size align o n (SimdScalableVector element count vectors) p m y lx ly hx hy = tt
  two_true size align o n (SimdVector element count) p m y lx ly hx hy = tt
  two_true size align o n (Memory sized) p m y lx ly hx hy = tt

  module _ (offsets : List ℕ) (ps : List Placed) (lawful : All (λ p. IsLawfulLayout dl (layout_of p)) ps)
      (tag_distinguishes : (i : ℕ) → i < length ps → IsTrueOf dl (layout_of (get_or ps i nothing)).backend_repr (bytes_at b (get_or offsets i 0) (size_of (get_or ps i nothing)))) where
    abbrev parts : List Part
    parts = parts_of dl (map layout_of ps)

    -- a part's view is lawful, and true of the part's bytes
    record IsTold (i : ℕ) : Type 0 where
      law : IsLawfulView dl (part_at parts i).size (part_at parts i).view
      true_there : IsTrueOf dl (part_at parts i).view (bytes_at b (slice_index offsets i) (part_at parts i).size)

    part_is : (i : ℕ) → i < length ps → part_at parts i ≡ part_of dl (layout_of (get_or ps i nothing))
    part_is i lt =
        get_or-map (λ f. part_of dl f) (map layout_of ps) i (layout_of nothing) no_part (omega (arith, lt, length-map ps layout_of))
        ∙ ap (λ l. part_of dl l) (get_or-map layout_of ps i nothing (layout_of nothing) lt)

    part_past : (i : ℕ) → length ps ≤ i → part_at parts i ≡ no_part
    part_past i le = get_or_past parts i no_part (omega (arith, le, length-map ps layout_of, length-map (map layout_of ps) (λ f. part_of dl f)))

    told_at : (i : ℕ) → IsTold i
    told_at i = ⊎_elim
        (λ lt. record {
          law = subst (λ q. IsLawfulView dl q.size q.view) (sym (part_is i lt)) (lawful i nothing lt).view;
          true_there = subst (λ q. IsTrueOf dl q.view (bytes_at b (slice_index offsets i) q.size)) (sym (part_is i lt)) (tag_distinguishes i lt);
        })
        (λ le. record {
          law = subst (λ q. IsLawfulView dl q.size q.view) (sym (part_past i le)) tt;
          true_there = subst (λ q. IsTrueOf dl q.view (bytes_at b (slice_index offsets i) q.size)) (sym (part_past i le)) tt;
        })
        (cases_lt i (length ps))

    bulky_true : (fixed : Bool) (size align : ℕ) (bulky : List ℕ) → IsTrueOf dl (bulky_view dl fixed size align parts offsets bulky) b
    bulky_true fixed size align [] = tt
    bulky_true fixed size align (i ∷ []) =
        let part = part_at parts i in
        let o = slice_index offsets i in
        kept_if ((o == 0) && (align == part.align) && (size == part.size)) fixed part.view o part.size
        (λ c. eqb-true o 0 (and_parts (o == 0) (align == part.align) (and_parts ((o == 0) && (align == part.align)) (size == part.size) c).0).0) (told_at i).law (told_at i).true_there
    bulky_true fixed size align (i ∷ j ∷ []) =
        two_true size align (slice_index offsets i) (part_at parts i).size (part_at parts i).view (slice_index offsets j) (part_at parts j).size (part_at parts j).view
        (told_at i).law (told_at j).law (told_at i).true_there (told_at j).true_there
    bulky_true fixed size align (i ∷ j ∷ k ∷ more) = tt

    -- a list's view is true of its bytes where those of its parts are true of theirs
    pub list_view_true : (fixed : Bool) (size align : ℕ) → IsTrueOf dl (list_view dl fixed size align parts offsets) b
    list_view_true fixed size align =
        either (any_unsized parts) (Memory false) (if size == 0 then Memory true else bulky_view dl fixed size align parts offsets (bulky_parts parts)) tt
        (either (size == 0) (Memory true) (bulky_view dl fixed size align parts offsets (bulky_parts parts)) tt (bulky_true fixed size align (bulky_parts parts)))
