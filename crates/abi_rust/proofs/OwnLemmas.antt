-- One more of what may be a constant of a type.
use Rattle.std.proofs.Common.{◌≡◌, ℕ, ◌+◌, ◌<◌, List, [], ◌∷◌, ◌++◌, get_or, length, take, Option, Some, None, refl, arith, ap, ◌∙◌, add-one, add-zero, zero-add}
use Rattle.std.proofs.Math.Seq.{take-suc}
use Rattle.std.proofs.lemmas.Grind.{common_steps}
use Rattle.std.specs.Prelude.{nat_eq, if◌then◌else◌}
use Rattle.std.specs.Option.{option_or}
use Rattle.abi_rust.specs.OwnConstants.{last_known}
use Rattle.abi_rust.specs.Scope.{numbered}

or_none : {B : Type 0} (o : Option B) → option_or o None ≡ o
or_none None = refl
or_none (Some b) = refl

or_or : {B : Type 0} (a b c : Option B) → option_or (option_or a b) c ≡ option_or a (option_or b c)
or_or None b c = refl
or_or (Some a) b c = refl

-- the last of one more
told_snoc : {A B : Type 0} (report_on : A → Option B) (i n : ℕ) (xs : List A) (x : A)
    → last_known report_on i n (xs ++ x ∷ []) ≡ option_or (if nat_eq (numbered (i + length xs)) n then report_on x else None) (last_known report_on i n xs)
told_snoc report_on i n [] x = rw (add-zero, or_none) refl
told_snoc report_on i n (y ∷ xs) x =
    let same : i + 1 + length xs ≡ i + length (y ∷ xs) = omega arith in
    rw (told_snoc report_on (i + 1) n xs x, same) (or_or (if nat_eq (numbered (i + length (y ∷ xs))) n then report_on x else None) (last_known report_on (i + 1) n xs) (if nat_eq (numbered i) n then report_on y else None))

-- the last of those up to an index, and that one too
pub told_more : {A B : Type 0} (report_on : A → Option B) (xs : List A) (n i : ℕ) (d : A) → i < length xs
    → last_known report_on 0 n (take (i + 1) xs) ≡ option_or (if nat_eq (numbered i) n then report_on (get_or xs i d) else None) (last_known report_on 0 n (take i xs))
told_more report_on xs n i d within =
    let long : length (take i xs) ≡ i = grind (arith, common_steps) in
    let all : take (i + 1) xs ≡ take i xs ++ get_or xs i d ∷ [] = rw add-one (take-suc xs i d within) in
    rw all (told_snoc report_on 0 n (take i xs) (get_or xs i d)
    ∙ ap (λ m. option_or (if nat_eq (numbered m) n then report_on (get_or xs i d) else None) (last_known report_on 0 n (take i xs))) (rw long (zero-add i)))
