use Rattle.std.proofs.Common.{◌∙◌, subst, sym}
use Rattle.std.proofs.lemmas.Result.{IfOk-weaker}
use Rattle.abi_index.specs.RangeSet.{AreMaximalRuns}
use Rattle.abi_map.proofs.StartLemmas.{numbers_are, picked_ascend}
use Rattle.abi_map.specs.Covering.{AreAscending}
use Rattle.abi_map.specs.Starts.{is_start}
use Rattle.abi_tree.specs.Parts.{kept_part}
use Rattle.std.specs.Prelude.{map}
use Rattle.abi_map.proofs.starts.starts_of.Goals as goal

pub returns-clause-starts : goal.returns-clause-starts
returns-clause-starts c =
    IfOk-weaker c.numbers.result _ _
    (λ starts all. all ∙ numbers_are (is_start (map kept_part c.args.parts.now)) c.args.size c.in_ok-set.set (subst (AreMaximalRuns 0) c.set.view_is c.set.invariant) c.in_ok-set.ensures)
    c.numbers.ensures

pub returns-clause-ascend : goal.returns-clause-ascend
returns-clause-ascend c =
    IfOk-weaker c.numbers.result _ _
    (λ starts all. subst AreAscending
    (sym (all ∙ numbers_are (is_start (map kept_part c.args.parts.now)) c.args.size c.in_ok-set.set (subst (AreMaximalRuns 0) c.set.view_is c.set.invariant) c.in_ok-set.ensures))
    (picked_ascend (is_start (map kept_part c.args.parts.now)) c.args.size 0))
    c.numbers.ensures
