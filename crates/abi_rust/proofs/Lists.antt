-- Lists that are gone through, one more.
use Rattle.std.proofs.Common.{◌≡◌, ℕ, zero, suc, ◌+◌, ◌<◌, ◌≤◌, List, [], ◌∷◌, ◌++◌, Ok, Some, length, drop, get_or, drop-cons, add-one, refl, ap}
use Rattle.std.proofs.lemmas.List.{drop_all}
use Rattle.std.specs.Prelude.{Option, slice_get}
use Rattle.rust_source.specs.declared.item.Item.{Item}
use Rattle.rust_source.specs.declared.item.Parameter.{Parameter}
use Rattle.rust_source.specs.declared.syntax.Argument.{Argument}
use Rattle.rust_source.specs.declared.place.Place.{Place}
use Rattle.rust_source.specs.declared.syntax.Expr.{Expr}
use Rattle.rust_source.specs.declared.syntax.Segment.{Segment}
use Rattle.rust_source.specs.declared.syntax.«Type».{«Type» as Written}
use Rattle.abi_rust.specs.declared.budget.Context.{Context}
use Rattle.abi_rust.specs.Evaluating.{Evaluator, argument_value, arguments_from}
use Rattle.abi_rust.specs.Kinds.{parameter_type}
use Rattle.abi_rust.specs.Meaning.{then_meant}
use Rattle.abi_rust.specs.Resolving.{Inner, first_argument, give_from, one_given, other_arguments, tuple_from}
use Rattle.abi_rust.specs.Types.{GenericArgRead, TyRead, Where, of_value, tuple, types}

module _ (cx : Context) (R : Inner) where
  first_at : (all : List Argument) (i : ℕ) → first_argument cx R (drop i all) ≡ slice_get all i
  first_at [] zero = refl
  first_at [] (suc i) = refl
  first_at (a ∷ all) zero = refl
  first_at (a ∷ all) (suc i) = first_at all i

  others_at : (all : List Argument) (i : ℕ) → other_arguments cx R (drop i all) ≡ drop (suc i) all
  others_at [] zero = refl
  others_at [] (suc i) = refl
  others_at (a ∷ all) zero = refl
  others_at (a ∷ all) (suc i) = others_at all i

module _ (cx : Context) (R : Inner) (w : Where) where
  pub tuple_more : (all : List Written) (i : ℕ) (t : Written) (made : List TyRead) → i < length all → t ≡ get_or all i t
      → tuple_from cx R w made (drop i all) ≡ then_meant (λ r. tuple_from cx R w (made ++ r ∷ []) (drop (i + 1) all)) (R.type_of w t)
  tuple_more all i t made more is = rw (drop-cons all i t, ← is, add-one i) refl

  pub tuple_done : (all : List Written) (i : ℕ) (made : List TyRead) → length all ≤ i → tuple_from cx R w made (drop i all) ≡ Ok (tuple (types made))
  tuple_done all i made done = ap (λ rest. tuple_from cx R w made rest) (drop_all i all done)

  pub give_more : (n : ℕ) (it : Item) (s : Segment) (ps : List Parameter) (all : List Argument) (i : ℕ) (p : Parameter) (a : Option Argument) (given : List GenericArgRead) → i < length ps → p ≡ get_or ps i p → a ≡ slice_get all i
      → give_from cx R w n it s given (drop i ps) (drop i all) ≡ then_meant (λ g. give_from cx R w n it s (given ++ g ∷ []) (drop (i + 1) ps) (drop (i + 1) all)) (one_given cx R w n it s given p.kind a)
  give_more n it s ps all i p a given more is at =
      rw (drop-cons ps i p, ← is, add-one i, first_at cx R all i, others_at cx R all i, at) refl

  pub give_done : (n : ℕ) (it : Item) (s : Segment) (ps : List Parameter) (all : List Argument) (i : ℕ) (given : List GenericArgRead) → length ps ≤ i → give_from cx R w n it s given (drop i ps) all ≡ Ok given
  give_done n it s ps all i given done = ap (λ rest. give_from cx R w n it s given rest all) (drop_all i ps done)

-- one more of a function's arguments
module _ (cx : Context) (E : Evaluator) (w : Where) (at : Place) (n : ℕ) (all : List Expr) (i : ℕ) where
  pub arguments_more : (e : Expr) (given : List GenericArgRead) → i < length all → e ≡ get_or all i e
      → arguments_from cx E w at n given i (drop i all)
      ≡ then_meant (λ v. arguments_from cx E w at n (given ++ of_value v ∷ []) (i + 1) (drop (i + 1) all)) (argument_value cx E w at (parameter_type cx.items.now cx.scope.now (Some n) i) e)
  arguments_more e given more is =
      let left : drop i all ≡ get_or all i e ∷ drop (i + 1) all = rw add-one (drop-cons all i e more) in
      rw (left, ← is) refl

  pub arguments_done : (given : List GenericArgRead) → length all ≤ i → arguments_from cx E w at n given i (drop i all) ≡ Ok given
  arguments_done given done = ap (λ rest. arguments_from cx E w at n given i rest) (drop_all i all done)
