use Rattle.std.proofs.Common.{◌≡◌, ◌∙◌, ◌∷◌, ◌++◌, [], ℕ, ◌+◌, ap, arith, suc, sym, zero}
use Rattle.std.specs.List.{range_with_len}
use Rattle.type_reports.proofs.sorting.places_of.Goals as goal

-- one number more is the next one
range_more : (a n j : ℕ) → a + n ≡ j → range_with_len a (suc n) ≡ range_with_len a n ++ j ∷ []
range_more a zero j e = ap (λ x. x ∷ []) (omega (arith, e))
range_more a (suc n) j e = ap (λ xs. a ∷ xs) (range_more (a + 1) n j (omega (arith, e)))

pub loop-place-preserved : goal.loop-place-preserved
loop-place-preserved c =
    let place = c.loop-place.place in
    let next : suc place ≡ place + 1 = omega arith in
    rw c.in_ok-push.ensures.items (ap (λ xs. xs ++ place ∷ []) c.loop-place.invariant ∙ sym (range_more 0 place place (omega arith)) ∙ ap (range_with_len 0) next)
