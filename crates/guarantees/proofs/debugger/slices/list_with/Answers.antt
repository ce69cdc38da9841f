-- The values of the list, with one changed.
use Rattle.std.proofs.Common.{◌≡◌, arith, ap, sym, ◌∙◌, length, ◌≤◌}
use Rattle.abi_tree.specs.Value.{list, value_of, values_of}
use Rattle.guarantees.specs.Field.{value_at}
use Rattle.guarantees.proofs.Held.{inj-list, value_at_past, value_of-List, values_of-set}
use Rattle.guarantees.proofs.debugger.slices.list_with.Goals as goal

pub returns-then-index-len : goal.returns-then-index-len
returns-then-index-len c = (
  values_of c.in-List.values.items,
  ap value_of c.in-List.is ∙ value_of-List c.in-List.values,
  value_of-List _ ∙ ap list (values_of-set c.in-List.values.items c.args.index c.args.value),
)

pub returns-in-List : goal.returns-in-List
returns-in-List c = λ vs e.
    let same : vs ≡ values_of c.in-List.values.items = inj-list vs (values_of c.in-List.values.items) (sym e ∙ ap value_of c.in-List.is ∙ value_of-List c.in-List.values) in
    let past : length c.in-List.values.items ≤ c.args.index = omega arith in
    ap (λ us. value_at us c.args.index) same ∙ value_at_past c.in-List.values.items c.args.index past
