use Rattle.std.proofs.Common.{◌∙◌, ap, sym}
use Rattle.std.specs.Prelude.{nat_le}
use Rattle.std.specs.List.{list_any}
use Rattle.rustc_abi.proofs.Faults.LongLemmas.{any_items}
use Rattle.rustc_abi.proofs.coroutine_fault.has_unknown_local.Goals as goal

pub returns-then-is_some_unknown : goal.returns-then-is_some_unknown
returns-then-is_some_unknown c =
    any_items (list_any (nat_le c.args.locals)) c.args.states.now c.loop-state.state-index c.state-item.result c.loop-state-test.true c.state-item.is
    (ap (list_any (nat_le c.args.locals)) (sym c.deref.ensures.value) ∙ sym c.is_some_unknown.ensures ∙ c.if-is_some_unknown.true)
