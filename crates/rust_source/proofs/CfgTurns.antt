-- A turn of the loop over a string's escapes, and what stands at its end.
use Rattle.std.proofs.Common.{◌≡◌, ℕ, zero, suc, ◌+◌, ◌-◌, ◌<◌, ◌≤◌, false, List, [], ◌∷◌, drop, length, ap, sym, arith}
use Rattle.std.specs.Prelude.{◌==◌, ◌||◌, None}
use Rattle.rust_source.specs.Cfg.{escapes_from, is_code_followed, is_followed, next_code, stands_for}
use Rattle.rust_source.proofs.Turns.{none_left, turns}

module _ (n i : ℕ) where
  pub more : (rest : List ℕ) → i < n → escapes_from (n - i) rest ≡ ((length rest == 0) || is_followed (λ r. escapes_from (n - (i + 1)) r) (next_code rest))
  more rest left = ap (λ k. escapes_from k rest) (turns n i left)

  pub done : (rest : List ℕ) → n ≤ i → escapes_from (n - i) rest ≡ (length rest == 0)
  done rest past = ap (λ k. escapes_from k rest) (none_left n i past)

-- where no code is next, nothing stands for what is left of a text
pub stops : (inside text : List ℕ) (i : ℕ) → i < length text → None ≡ next_code inside → stands_for inside (drop i text) ≡ false
stops inside [] i within none = absurd (omega arith)
stops inside (b ∷ bs) zero within none = ap (λ o. is_code_followed b (λ rest. stands_for rest bs) o) (sym none)
stops inside (b ∷ bs) (suc i) within none = stops inside bs i (omega arith) none
