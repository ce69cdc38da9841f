use Rattle.abi_base.proofs.Laws.{each_integer, all_five}
use Rattle.abi_base.proofs.data_layout.TargetDataLayout.integers_fit.Goals as goal

pub returns : goal.returns
returns c = each_integer c.args.self.now _ (all_five _ _ _ _ _ c.divides.ensures c.divides-2.ensures c.divides-3.ensures c.divides-4.ensures c.divides-5.ensures)
