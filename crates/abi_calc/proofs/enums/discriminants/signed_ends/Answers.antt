use Rattle.std.proofs.Common.{◌≡◌, ◌∙◌, ap, rules, ℤ, ℕ, ◌*◌, ◌%◌, ◌^◌, pos, get_or, map, to_z, of_z}
use Rattle.std.proofs.lemmas.Int.{to_z-of_z}
use Rattle.std.specs.Int.{int_max, int_min, w128}
use Rattle.abi_base.specs.Size.{signed_value}
use Rattle.abi_calc.proofs.EnumLemmas.Discriminants.{greatest_reached, least_reached, fold_map_all, fold_map_more, not_negative}
use Rattle.abi_calc.proofs.enums.discriminants.signed_ends.Goals as goal

pub loop-value-preserved : goal.loop-value-preserved
loop-value-preserved c =
    let m : ℕ → ℤ = λ v. signed_value (c.args.size * 8) (v % 2 ^ (c.args.size * 8)) in
    let xs = c.args.values.now in
    let i = c.loop-value.value-index in
    let meant : to_z w128 (of_z w128 c.sign_extend-meant.result) ≡ m (get_or xs i 0) = to_z-of_z w128 c.sign_extend-meant.result (search rules) ∙ c.sign_extend-meant.ensures in
    record {
      least =
          to_z-of_z w128 c.min-least.result (search rules) ∙ c.min-least.ensures.value ∙ ap (int_min _) meant
          ∙ fold_map_more int_min m (pos 0) _ xs i c.loop-value-test.true c.loop-value.invariant.least;
      greatest =
          to_z-of_z w128 c.max-greatest.result (search rules) ∙ c.max-greatest.ensures.value ∙ ap (int_max _) meant
          ∙ fold_map_more int_max m (pos 0) _ xs i c.loop-value-test.true c.loop-value.invariant.greatest;
    }

pub overflow_cast-result : goal.overflow_cast-result
overflow_cast-result c =
    let m : ℕ → ℤ = λ v. signed_value (c.args.size * 8) (v % 2 ^ (c.args.size * 8)) in
    let all = fold_map_all int_max m (pos 0) _ c.args.values.now _ c.loop-value-test.false c.loop-value.invariant.greatest in
    let some = not_negative _ (map m c.args.values.now) all in
    search (rules, some)

pub returns-clause-least : goal.returns-clause-least
returns-clause-least c =
    let m : ℕ → ℤ = λ v. signed_value (c.args.size * 8) (v % 2 ^ (c.args.size * 8)) in
    least_reached (pos 0) _ _ (fold_map_all int_min m (pos 0) _ c.args.values.now _ c.loop-value-test.false c.loop-value.invariant.least)

pub returns-clause-greatest : goal.returns-clause-greatest
returns-clause-greatest c =
    let m : ℕ → ℤ = λ v. signed_value (c.args.size * 8) (v % 2 ^ (c.args.size * 8)) in
    let all = fold_map_all int_max m (pos 0) _ c.args.values.now _ c.loop-value-test.false c.loop-value.invariant.greatest in
    let some = not_negative _ (map m c.args.values.now) all in
    greatest_reached (pos 0) _ _ ((search (rules, some)) ∙ all)
