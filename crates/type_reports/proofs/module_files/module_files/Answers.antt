-- Nothing is text.
use Rattle.std.proofs.Common.{[], arith, refl}
use Rattle.std.proofs.lemmas.Grind.{common_steps}
use Rattle.type_reports.proofs.module_files.module_files.Goals as goal

pub loop-outer-preserved : goal.loop-outer-preserved
loop-outer-preserved c = (grind (arith, common_steps), ([], (refl, refl)))
