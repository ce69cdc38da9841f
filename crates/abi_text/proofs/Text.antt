-- Lines, words and digits.
use Rattle.std.proofs.Common.{◌≡◌, ◌≢◌, ℕ, zero, suc, ◌+◌, ◌-◌, ◌*◌, ◌<◌, ◌≤◌, true, false, List, [], ◌∷◌, length, take, drop, get_or, None, Some, refl, sym, ap, ◌∙◌, arith}
use Rattle.std.specs.Prelude.{◌==◌, nat_le, if◌then◌else◌}
use Rattle.std.specs.Char.{is_ascii_digit}
use Rattle.std.proofs.lemmas.Bool.Decides.{nat_tests}
use Rattle.std.proofs.lemmas.List.{drop_more, drop_all}
use Rattle.abi_text.specs.Words.{words_of, is_plain, begins_plain, grown}
use Rattle.abi_text.specs.Numbers.{digits_from, fitting, number_to}

fitting_large_at : (most n : ℕ) → most < n → fitting most (Some n) ≡ None
fitting_large_at most n h =
    let no : nat_le n most ≡ false = grind (arith, nat_tests) in
    rw no refl

-- digits that go on from too large a number make one
fitting_large : (most n : ℕ) (ds : List ℕ) → most < n → fitting most (digits_from n ds) ≡ None
fitting_large most n [] h = fitting_large_at most n h
fitting_large most n (d ∷ ds) h =
    elim (is_ascii_digit d) as (λ b. fitting most (if b then digits_from (n * 10 + (d - 48)) ds else None) ≡ None) [
      | true ↦ fitting_large most (n * 10 + (d - 48)) ds (omega arith)
      | false ↦ refl
    ]

pub number_some : (most : ℕ) (w : List ℕ) → 0 < length w → number_to most w ≡ fitting most (digits_from 0 w)
number_some most [] h = absurd (omega arith)
number_some most (d ∷ ds) h = refl

digit_more : (w : List ℕ) (k n : ℕ) → k < length w → is_ascii_digit (get_or w k 0) ≡ true → digits_from n (drop k w) ≡ digits_from (n * 10 + (get_or w k 0 - 48)) (drop (k + 1) w)
digit_more w k n number_u32 digit = rw (drop_more w k 0 number_u32, digit) refl

-- a number that no longer fits is none
pub overflows : (most : ℕ) (w : List ℕ) (k n : ℕ) → k < length w → is_ascii_digit (get_or w k 0) ≡ true → fitting most (digits_from n (drop k w)) ≡ fitting most (digits_from 0 w)
    → most < n * 10 + (get_or w k 0 - 48) → number_to most w ≡ None
overflows most w k n number_u32 digit inv large =
    number_some most w (omega arith) ∙ sym inv ∙ ap (fitting most) (digit_more w k n number_u32 digit) ∙ fitting_large most (n * 10 + (get_or w k 0 - 48)) (drop (k + 1) w) large

-- a number that has been read whole
pub number_read : (most : ℕ) (w : List ℕ) (k n : ℕ) → 0 < length w → length w ≤ k → fitting most (digits_from n (drop k w)) ≡ fitting most (digits_from 0 w) → n ≤ most → number_to most w ≡ Some n
number_read most w k n some long inv small =
    let yes : nat_le n most ≡ true = grind (arith, nat_tests) in
    let fits : fitting most (Some n) ≡ Some n = rw yes refl in
    number_some most w some ∙ sym inv ∙ ap (λ ds. fitting most (digits_from n ds)) (drop_all k w long) ∙ fits

plain_no_space : (b : ℕ) → is_plain b ≡ true → (b == 32) ≡ false
plain_no_space b h = grind (arith, nat_tests)

pub words_grow : (b : ℕ) (bs : List ℕ) → is_plain b ≡ true → begins_plain bs ≡ true → words_of (b ∷ bs) ≡ grown b (words_of bs)
words_grow b bs here next = rw (here, next, plain_no_space b here) refl

pub words_alone : (b : ℕ) (bs : List ℕ) → is_plain b ≡ true → begins_plain bs ≡ false → words_of (b ∷ bs) ≡ (b ∷ []) ∷ words_of bs
words_alone b bs here next = rw (here, next, plain_no_space b here) refl

-- a run of bytes of a word is the first word
pub run_words : (line : List ℕ) (n : ℕ) → 0 < length line → is_plain (get_or line 0 0) ≡ true → n ≤ length line → ((k : ℕ) → k < n → is_plain (get_or line k 0) ≡ true)
    → (n < length line → is_plain (get_or line n 0) ≡ false) → words_of line ≡ take n line ∷ words_of (drop n line)
run_words [] n some first within plain ends = absurd (omega arith)
run_words (b ∷ bs) zero some first within plain ends = let no : is_plain b ≡ false = ends (omega arith) in cc
run_words (b ∷ []) (suc zero) some here within plain ends = words_alone b [] here refl
run_words (b ∷ c ∷ bs) (suc zero) some here within plain ends = words_alone b (c ∷ bs) here (ends (omega arith))
run_words (b ∷ []) (suc (suc n)) some here within plain ends = absurd (omega arith)
run_words (b ∷ c ∷ bs) (suc (suc n)) some here within plain ends =
    let next : is_plain c ≡ true = plain 1 (omega arith) in
    let later = run_words (c ∷ bs) (suc n) (omega arith) next (omega arith) (λ k h. plain (suc k) (omega arith)) (λ h. ends (omega arith)) in
    words_grow b (c ∷ bs) here next ∙ ap (grown b) later

-- a parenthesis is the first word
pub single_word : (line : List ℕ) → 0 < length line → is_plain (get_or line 0 0) ≡ false → get_or line 0 0 ≢ 32 → words_of line ≡ take 1 line ∷ words_of (drop 1 line)
single_word [] some h ne = absurd (omega arith)
single_word (b ∷ bs) some h ne =
    let no : (b == 32) ≡ false = grind (arith, nat_tests) in
    rw (h, no) refl
