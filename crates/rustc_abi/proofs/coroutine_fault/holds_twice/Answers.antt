use Rattle.std.proofs.Common.{◌∙◌, ap, sym}
use Rattle.rustc_abi.specs.Enums.{has_equal}
use Rattle.rustc_abi.proofs.Faults.LongLemmas.{any_items}
use Rattle.rustc_abi.proofs.coroutine_fault.holds_twice.Goals as goal

pub returns-then-branch : goal.returns-then-branch
returns-then-branch c =
    any_items has_equal c.args.states.now c.loop-state.state-index c.state-item.result c.loop-state-test.true c.state-item.is
    (ap has_equal (sym c.deref.ensures.value) ∙ sym c.in_ok-is_one_twice.ensures ∙ c.if-branch.true)
