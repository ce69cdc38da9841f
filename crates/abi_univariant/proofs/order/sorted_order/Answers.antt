-- Source order is sorted by the parts' keys, of which there are as many, so the sort's clauses are those of `IsSortedOrder`.
use Rattle.std.proofs.Common.{◌≡◌, ◌∙◌, ap, length, map, subst, sym, List, ℕ}
use Rattle.std.specs.Prelude.{IsPermutation}
use Rattle.std.specs.List.Sorted.{IsStableByKey}
use Rattle.std.proofs.lemmas.List.{length-map}
use Rattle.abi_univariant.specs.Order.{compare_keys, key_at, sort_key}
use Rattle.abi_univariant.specs.Placement.{source_order}
use Rattle.abi_univariant.proofs.order.sorted_order.Goals as goal

pub returns : goal.returns
returns g c =
    let keys = map (sort_key c.args.rule.now) c.args.parts.now in
    let from : c.in_ok-order.order ≡ source_order (length (map (sort_key c.args.rule.now) c.args.parts.now))
    = c.in_ok-order.ensures ∙ ap source_order (c.len.ensures ∙ sym (length-map c.args.parts.now (sort_key c.args.rule.now))) in
    record {
      permutes = subst (λ (is : List ℕ). IsPermutation is c.sort_fields.new.order) from c.in_ok-sort_fields.ensures.permutes;
      sorted = c.in_ok-sort_fields.ensures.sorted;
      stable = subst (λ (is : List ℕ). IsStableByKey (key_at keys) compare_keys is c.sort_fields.new.order) from c.in_ok-sort_fields.ensures.stable;
    }
