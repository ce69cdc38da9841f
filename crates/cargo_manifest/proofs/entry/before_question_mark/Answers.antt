-- Behind the cut stands the mark.
use Rattle.std.proofs.Common.{◌≡◌, ◌∙◌, ◌+◌, ◌<◌, ◌-◌, ◌==◌, ◌++◌, ℕ, List, [], ◌∷◌, Option, Some, None, ap, arith, codes, get_or, length, map, option_map, refl, sym, take, true}
use Rattle.std.proofs.lemmas.Bool.{eqb-true}
use Rattle.std.proofs.lemmas.List.{take_all, take_more}
use Rattle.std.specs.Borrow.{Bor}
use Rattle.std.specs.Option.{MatchOption}
use Rattle.std.specs.Prelude.{slice_index}
use Rattle.std.specs.Str.Pattern.{FindsTextSuffix, StripsSuffix}
use Rattle.cargo_manifest.proofs.entry.before_question_mark.Goals as goal

last_at : (t : List ℕ) (n : ℕ) → length t ≡ n + 1 → slice_index t n ≡ 63 → t ≡ take n t ++ 63 ∷ []
last_at t n so_long h = sym (take_all (n + 1) t (omega (arith, so_long))) ∙ take_more t n 0 (omega (arith, so_long)) ∙ ap (λ x. take n t ++ x ∷ []) h

last_is : (t : List ℕ) → slice_index t (length t - 1) ≡ 63 → t ≡ take (length t - 1) t ++ 63 ∷ []
last_is [] h = absurd (omega (arith, h))
last_is (b ∷ t) h = last_at (b ∷ t) (length (b ∷ t) - 1) (omega arith) h

cut : (t : List ℕ) (r : Option (Bor (List ℕ))) → (slice_index t (length t - 1) == 63) ≡ true
    → MatchOption r (FindsTextSuffix (codes "?") t None) (λ x. StripsSuffix (FindsTextSuffix (codes "?")) t x.now) → option_map (λ x. x.now) r ≡ Some (take (length t - 1) t)
cut t None is none = absurd (none (take (length t - 1) t) (last_is t (eqb-true _ _ is)))
cut t (Some x) is h = ap Some (h.2 ∙ ap (λ k. take (length t - k) t) h.1.0)

pub returns-then-ends_with : goal.returns-then-ends_with
returns-then-ends_with c =
    let is : (slice_index c.args.text.now (length c.args.text.now - 1) == 63) ≡ true =
    sym (c.ends_with.ensures.byte (omega arith) (omega arith) (λ w o h. h)) ∙ c.if-ends_with.true in
    rw is (cut c.args.text.now c.strip_suffix.result is c.strip_suffix.ensures.cases)
