-- Two lists, compared one by one.
use Rattle.std.proofs.Common.{◌≡◌, ℕ, ◌+◌, ◌<◌, ◌≤◌, true, false, List, Some, length, map, drop, get_or, drop-cons, add-one, refl}
use Rattle.std.specs.Prelude.{◌&&◌, slice_get}
use Rattle.std.proofs.lemmas.List.{drop_all}
use Rattle.std.proofs.lemmas.Option.{slice_get_within, get_or_from_slice_get}
use Rattle.abi_rust.specs.declared.ty.GenericArg.{GenericArg, Value as GivenValue}
use Rattle.abi_rust.specs.declared.ty.ConstValue.TheVariants.{Char}
use Rattle.abi_rust.specs.declared.ty.Ty.{Ty, Never}
use Rattle.abi_rust.specs.Known.{same_given, same_givens, same_ty, same_tys}
use Rattle.abi_rust.specs.Types.{given_of, givens, ty_of, types}

pub tys_on : (xs ys : List Ty) (i : ℕ) (x y : Ty) → i < length xs → x ≡ get_or xs i x → slice_get ys i ≡ Some y
    → same_tys (types (map ty_of (drop i xs))) (types (map ty_of (drop i ys))) ≡ (same_ty (ty_of x) (ty_of y) && same_tys (types (map ty_of (drop (i + 1) xs))) (types (map ty_of (drop (i + 1) ys))))
tys_on xs ys i x y more is found =
    let within : i < length ys = slice_get_within ys i y found in
    let here : get_or ys i y ≡ y = get_or_from_slice_get ys i y y found in
    rw (drop-cons xs i x, drop-cons ys i y, ← is, here, add-one i) refl

pub tys_past : (xs ys : List Ty) (i : ℕ) → i < length xs → length ys ≤ i → same_tys (types (map ty_of (drop i xs))) (types (map ty_of (drop i ys))) ≡ false
tys_past xs ys i more past = rw (drop-cons xs i Never, drop_all i ys past) refl

pub tys_over : (xs ys : List Ty) (i : ℕ) → length xs ≤ i → i < length ys → same_tys (types (map ty_of (drop i xs))) (types (map ty_of (drop i ys))) ≡ false
tys_over xs ys i past more = rw (drop-cons ys i Never, drop_all i xs past) refl

pub tys_end : (xs ys : List Ty) (i : ℕ) → length xs ≤ i → length ys ≤ i → same_tys (types (map ty_of (drop i xs))) (types (map ty_of (drop i ys))) ≡ true
tys_end xs ys i past done = rw (drop_all i xs past, drop_all i ys done) refl

pub givens_on : (xs ys : List GenericArg) (i : ℕ) (x y : GenericArg) → i < length xs → x ≡ get_or xs i x → slice_get ys i ≡ Some y
    → same_givens (givens (map given_of (drop i xs))) (givens (map given_of (drop i ys))) ≡ (same_given (given_of x) (given_of y) && same_givens (givens (map given_of (drop (i + 1) xs))) (givens (map given_of (drop (i + 1) ys))))
givens_on xs ys i x y more is found =
    let within : i < length ys = slice_get_within ys i y found in
    let here : get_or ys i y ≡ y = get_or_from_slice_get ys i y y found in
    rw (drop-cons xs i x, drop-cons ys i y, ← is, here, add-one i) refl

pub givens_past : (xs ys : List GenericArg) (i : ℕ) → i < length xs → length ys ≤ i → same_givens (givens (map given_of (drop i xs))) (givens (map given_of (drop i ys))) ≡ false
givens_past xs ys i more past = rw (drop-cons xs i (GivenValue (Char 0)), drop_all i ys past) refl

pub givens_over : (xs ys : List GenericArg) (i : ℕ) → length xs ≤ i → i < length ys → same_givens (givens (map given_of (drop i xs))) (givens (map given_of (drop i ys))) ≡ false
givens_over xs ys i past more = rw (drop-cons ys i (GivenValue (Char 0)), drop_all i xs past) refl

pub givens_end : (xs ys : List GenericArg) (i : ℕ) → length xs ≤ i → length ys ≤ i → same_givens (givens (map given_of (drop i xs))) (givens (map given_of (drop i ys))) ≡ true
givens_end xs ys i past done = rw (drop_all i xs past, drop_all i ys done) refl
