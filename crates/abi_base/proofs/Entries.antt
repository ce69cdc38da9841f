-- Entries replaced, or added last.
use Rattle.std.proofs.Common.{◌≡◌, ℕ, zero, suc, ◌<◌, List, [], ◌∷◌, ◌++◌, length, take, drop, get_or, Bool, true, refl, ap, arith}
use Rattle.std.specs.Prelude.{slice_set}
use Rattle.abi_base.specs.KeyedList.{put_entry}

-- an entry of the key
pub put_set : {K V : Type 0} (same : K → K → Bool) (key : K) (value : V) (xs : List (K × V)) (i : ℕ) (d : K × V) → i < length xs → same (get_or xs i d).0 key ≡ true
    → take i xs ++ put_entry same key value (drop i xs) ≡ slice_set xs i (key, value)
put_set same key value [] i d low e = absurd (omega (arith, low))
put_set same key value (x ∷ xs) zero d low e = rw e refl
put_set same key value (x ∷ xs) (suc i) d low e = ap (λ ys. x ∷ ys) (put_set same key value xs i d (omega (arith, low)) e)
