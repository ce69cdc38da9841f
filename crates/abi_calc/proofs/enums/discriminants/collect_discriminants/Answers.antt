-- At the end all items have been given.
use Rattle.std.proofs.Common.{◌∙◌, subst, sym}
use Rattle.std.proofs.iter.SoFar.{exit_by}
use Rattle.abi_calc.proofs.enums.discriminants.collect_discriminants.Goals as goal

pub returns : goal.returns
returns g c =
    let run = exit_by g.I.Iterator.next_gives (c.loop-item.yielded, c.loop-item.yielded_by) c.next.new.self
    (subst (λ r. g.I.Iterator.next_gives c.loop-item.item-iterator r c.next.new.self) c.in-None.is c.next.ensures.steps) in
    (run.0, run.1 ∙ c.into_iter-item-iterator.ensures.into_iter_gives, run.2, c.loop-item.invariant ∙ sym run.3.0)
