-- Discriminants that ascend below a number stay apart when they are cut to it.
use Rattle.std.proofs.Common.{ℕ, ◌≡◌, ◌≢◌, ◌%◌, ◌<◌, All, Bool, List, [], ◌∷◌, arith, filter, get_or, map, suc}
use Rattle.std.specs.List.{AllPairs}
use Rattle.std.proofs.Math.Nat.{mod-eq_of_lt}
use Rattle.std.proofs.lemmas.List.Elements.{All-map}
use Rattle.std.proofs.lemmas.List.Kept.{AllPairs-cons, AllPairs-filter}

-- what holds of each pair, seen by a function, holds of what it gives
pairs_mapped : {X Y : Type 0} (R : Y → Y → Type 0) (f : X → Y) (xs : List X) → AllPairs (λ x y. R (f x) (f y)) xs → AllPairs R (map f xs)
pairs_mapped R f [] pairs = λ i j d before short. absurd (omega arith)
pairs_mapped R f (x ∷ xs) pairs =
    AllPairs-cons R (f x) (map f xs) (All-map (R (f x)) f xs (λ k d short. pairs 0 (suc k) d (omega arith) (omega arith)))
    (pairs_mapped R f xs (λ i j d before short. pairs (suc i) (suc j) d (omega arith) (omega arith)))

-- two numbers that ascend stay apart
cut_apart : (whole a b : ℕ) → a < b → b < whole → a % whole ≢ b % whole
cut_apart whole a b less short same =
    let first : a % whole ≡ a = mod-eq_of_lt (omega (arith, less, short)) in
    let second : b % whole ≡ b = mod-eq_of_lt short in
    omega (arith, first, second, same, less)

-- those of some of the variants stay apart
pub apart : {V : Type 0} (whole : ℕ) (test : V × ℕ → Bool) (items : List (V × ℕ)) → AllPairs (λ a b. a.1 < b.1) items → All (λ item. item.1 < whole) items
    → AllPairs (λ v w. v % whole ≢ w % whole) (map (λ item. item.1) (filter test items))
apart whole test items ascending within =
    pairs_mapped (λ v w. v % whole ≢ w % whole) (λ item. item.1) (filter test items)
    (AllPairs-filter (λ a b. a.1 % whole ≢ b.1 % whole) test items
    (λ i j d before short. cut_apart whole (get_or items i d).1 (get_or items j d).1 (ascending i j d before short) (within j d short)))
