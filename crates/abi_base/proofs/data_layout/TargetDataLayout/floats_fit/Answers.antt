use Rattle.abi_base.proofs.Laws.{each_float, all_four}
use Rattle.abi_base.proofs.data_layout.TargetDataLayout.floats_fit.Goals as goal

pub returns : goal.returns
returns c = each_float c.args.self.now _ (all_four _ _ _ _ c.divides.ensures c.divides-2.ensures c.divides-3.ensures c.divides-4.ensures)
