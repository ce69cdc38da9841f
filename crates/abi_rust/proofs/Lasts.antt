-- The last of a list, and lists seen and back.
use Rattle.std.proofs.Common.{◌≡◌, ℕ, suc, ◌+◌, ◌-◌, ◌<◌, ◌≤◌, List, [], ◌∷◌, ◌++◌, Some, length, map, take, get_or, refl, ap, arith}
use Rattle.std.specs.Prelude.{slice_get}
use Rattle.std.specs.Option.{option_map}
use Rattle.rust_source.specs.declared.item.Field.{Field}
use Rattle.rust_source.specs.declared.item.Parameter.{Parameter}
use Rattle.abi_rust.specs.declared.ty.Ty.{Ty}
use Rattle.std.specs.Prelude.{Result, Ok, false}
use Rattle.rust_source.specs.declared.item.Item.{Item}
use Rattle.abi_rust.specs.declared.fault.Stop.{Stop}
use Rattle.abi_rust.specs.declared.tail.Tail.{Tail}
use Rattle.abi_rust.specs.declared.budget.Context.{Context}
use Rattle.abi_rust.specs.Meaning.{Means}
use Rattle.abi_rust.specs.Resolving.{inside_item, resolved}
use Rattle.abi_rust.specs.Tails.{Outer, TailInner, assumed, field_tail, last_of, last_type, stands_in}
use Rattle.abi_rust.specs.Types.{GenericArgRead, TyRead, givens, list_given, ty_of, types}
use Rattle.abi_rust.proofs.Copies.{map_all, map_more}

pub list_given_is : (gs : List GenericArgRead) → list_given (givens gs) ≡ gs
list_given_is [] = refl
list_given_is (g ∷ gs) = ap (λ rest. g ∷ rest) (list_given_is gs)

pub last_part_is : (ts : List Ty) → last_type (types (map ty_of ts)) ≡ option_map ty_of (slice_get ts (length ts - 1))
last_part_is [] = refl
last_part_is (t ∷ []) = refl
last_part_is (t ∷ u ∷ ts) =
    let one : suc (suc (length ts)) - 1 ≡ suc (length ts) = omega arith in
    let none : suc (length ts) - 1 ≡ length ts = omega arith in
    let inner : last_type (types (map ty_of (u ∷ ts))) ≡ option_map ty_of (slice_get (u ∷ ts) (length ts)) = rw none at (last_part_is (u ∷ ts)) in
    rw one inner

pub last_field_is : (fs : List Field) → last_of fs ≡ slice_get fs (length fs - 1)
last_field_is [] = refl
last_field_is (f ∷ []) = refl
last_field_is (f ∷ g ∷ fs) =
    let one : suc (suc (length fs)) - 1 ≡ suc (length fs) = omega arith in
    let none : suc (length fs) - 1 ≡ length fs = omega arith in
    let inner : last_of (g ∷ fs) ≡ slice_get (g ∷ fs) (length fs) = rw none at (last_field_is (g ∷ fs)) in
    rw one inner

pub assumed_more : (xs : List Parameter) (i : ℕ) (x : Parameter) → i < length xs → x ≡ get_or xs i x → map assumed (take (i + 1) xs) ≡ map assumed (take i xs) ++ assumed x ∷ []
assumed_more = map_more assumed

pub assumed_all : (xs : List Parameter) (i : ℕ) → length xs ≤ i → map assumed (take i xs) ≡ map assumed xs
assumed_all = map_all assumed

-- the tail of a field whose type is resolved
pub field_tail_on : (cx : Context) (T : TailInner) (outer inside : Outer) (n : ℕ) (it : Item) (f : Field) (gs : List GenericArgRead) (t : TyRead) (r : Result Tail Stop)
    → stands_in outer n (givens gs) ≡ false → resolved cx (inside_item n it gs) f.ty ≡ Ok t
    → inside ≡ (n, givens gs) ∷ outer → Means (λ tail. tail) (T.tail_of inside t) r
    → Means (λ tail. tail) (field_tail cx T outer n (givens gs) it (Some f)) r
field_tail_on cx T outer inside n it f gs t r apart is here answers = rw (apart, list_given_is gs, is) (rw here at answers)
