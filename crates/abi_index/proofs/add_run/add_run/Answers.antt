use Rattle.std.proofs.Common.{◌≡◌, refl, arith, ◌-◌, length, Some}
use Rattle.std.specs.Prelude.{slice_get}
use Rattle.abi_index.proofs.LastRunLemmas.{last_fits}
use Rattle.abi_index.proofs.add_run.add_run.Goals as goal

pub overflow_add-first : goal.overflow_add-first
overflow_add-first c =
    let found : slice_get c.args.runs.now.items (length c.args.runs.now.items - 1) ≡ Some (c.in-Some.first, c.in-Some.size) = cc in
    omega (arith, last_fits _ _ _ _ refl found c.requires.maximal)
