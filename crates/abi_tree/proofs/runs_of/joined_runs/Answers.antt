use Rattle.std.proofs.Common.{arith, length, rules}
use Rattle.abi_tree.proofs.Places.MadeLemmas.{last_made}
use Rattle.abi_tree.proofs.runs_of.joined_runs.Goals as goal

pub returns-in-Some : goal.returns-in-Some
returns-in-Some c = λ ns needed.
    last_made ns c.args.kept.now needed (length c.args.kept.now) c.in_ok-done.done.items (c.in_ok-done.ensures ns needed) (omega arith) (omega arith) c.pop.new.self.items c.in-Some.set (search rules)
