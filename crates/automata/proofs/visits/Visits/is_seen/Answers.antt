use Rattle.std.proofs.Common.{◌-◌, refl, rules}
use Rattle.automata.proofs.VisitsLemmas.{seen_at}
use Rattle.automata.proofs.visits.Visits.is_seen.Goals as goal

pub returns-then-is_alike : goal.returns-then-is_alike
returns-then-is_alike c _ =
    seen_at c.self.inside.list.items c.args.self.now (c.loop-at.at - 1) c.args.visit c.index.result.now c.self.view_is c.index.ensures (search rules) (c.if-is_alike.ensures refl)
