-- Lists of parts that need a size, one more.
use Rattle.std.proofs.Common.{◌≡◌, ℕ, zero, suc, ◌+◌, ◌<◌, ◌≤◌, true, List, [], ◌∷◌, Some, length, map, drop, get_or, drop-cons, add-one, refl, arith}
use Rattle.std.specs.Prelude.{◌&&◌, ◌||◌, not, slice_get}
use Rattle.std.proofs.lemmas.List.{drop_all, length-drop}
use Rattle.std.proofs.lemmas.Option.{slice_get_within, get_or_from_slice_get}
use Rattle.rust_source.specs.declared.item.Parameter.{Parameter}
use Rattle.abi_rust.specs.declared.ty.GenericArg.{GenericArg}
use Rattle.abi_rust.specs.declared.ty.Ty.{Ty}
use Rattle.abi_rust.specs.declared.budget.Context.{Context}
use Rattle.abi_rust.specs.Formed.{all_formed, all_given_formed, given_formed, given_lacks, is_formed, lacks_size, sized_but_last, sizes_given}
use Rattle.abi_rust.specs.Types.{given_of, givens, ty_of, types}

module _ (cx : Context) where
  pub formed_on : (all : List Ty) (i : ℕ) (t : Ty) → i < length all → t ≡ get_or all i t
      → all_formed cx (types (map ty_of (drop i all))) ≡ (is_formed cx (ty_of t) && all_formed cx (types (map ty_of (drop (i + 1) all))))
  formed_on all i t more is = rw (drop-cons all i t, ← is, add-one i) refl

  pub formed_end : (all : List Ty) (i : ℕ) → length all ≤ i → all_formed cx (types (map ty_of (drop i all))) ≡ true
  formed_end all i done = rw (drop_all i all done) refl

  pub given_on : (all : List GenericArg) (i : ℕ) (g : GenericArg) → i < length all → g ≡ get_or all i g
      → all_given_formed cx (givens (map given_of (drop i all))) ≡ (given_formed cx (given_of g) && all_given_formed cx (givens (map given_of (drop (i + 1) all))))
  given_on all i g more is = rw (drop-cons all i g, ← is, add-one i) refl

  pub given_end : (all : List GenericArg) (i : ℕ) → length all ≤ i → all_given_formed cx (givens (map given_of (drop i all))) ≡ true
  given_end all i done = rw (drop_all i all done) refl

  sized_two : (t : Ty) (ts : List Ty) → 0 < length ts
      → sized_but_last cx (types (map ty_of (t ∷ ts))) ≡ (not (lacks_size cx (ty_of t)) && sized_but_last cx (types (map ty_of ts)))
  sized_two t [] more = absurd (omega (arith, more))
  sized_two t (u ∷ ts) more = refl

  pub sized_on : (all : List Ty) (i : ℕ) (t : Ty) → i + 1 < length all → t ≡ get_or all i t
      → sized_but_last cx (types (map ty_of (drop i all))) ≡ (not (lacks_size cx (ty_of t)) && sized_but_last cx (types (map ty_of (drop (i + 1) all))))
  sized_on all i t more is =
      let within : i < length all = omega (arith, more) in
      let left : 0 < length (drop (suc i) all) = rw (length-drop (suc i) all) (omega (arith, more)) in
      rw (drop-cons all i t, ← is, add-one i) (sized_two t (drop (suc i) all) left)

  pub sized_last : (all : List Ty) (i : ℕ) → length all ≤ i + 1 → sized_but_last cx (types (map ty_of (drop i all))) ≡ true
  sized_last [] zero done = refl
  sized_last [] (suc i) done = refl
  sized_last (t ∷ []) zero done = refl
  sized_last (t ∷ u ∷ all) zero done = absurd (omega (arith, done))
  sized_last (t ∷ all) (suc i) done = sized_last all i (omega (arith, done))

  pub sized_end : (all : List Ty) (i : ℕ) → length all ≤ i → sized_but_last cx (types (map ty_of (drop i all))) ≡ true
  sized_end all i done = rw (drop_all i all done) refl

  pub sizes_on : (ps : List Parameter) (all : List GenericArg) (i : ℕ) (p : Parameter) (g : GenericArg) → i < length ps → p ≡ get_or ps i p → slice_get all i ≡ Some g
      → sizes_given cx (drop i ps) (givens (map given_of (drop i all)))
      ≡ ((p.may_be_unsized || not (given_lacks cx (given_of g))) && sizes_given cx (drop (i + 1) ps) (givens (map given_of (drop (i + 1) all))))
  sizes_on ps all i p g more is found =
      let within : i < length all = slice_get_within all i g found in
      let here : get_or all i g ≡ g = get_or_from_slice_get all i g g found in
      rw (drop-cons ps i p, drop-cons all i g, ← is, here, add-one i) refl

  pub sizes_past : (ps : List Parameter) (all : List GenericArg) (i : ℕ) (p : Parameter) → i < length ps → p ≡ get_or ps i p → length all ≤ i
      → sizes_given cx (drop i ps) (givens (map given_of (drop i all))) ≡ true
  sizes_past ps all i p more is past = rw (drop-cons ps i p, drop_all i all past) refl

  pub sizes_end : (ps : List Parameter) (all : List GenericArg) (i : ℕ) → length ps ≤ i → sizes_given cx (drop i ps) (givens (map given_of (drop i all))) ≡ true
  sizes_end ps all i done = rw (drop_all i ps done) refl
