use Rattle.abi_base.proofs.Laws.{in_parts, all_four}
use Rattle.abi_base.proofs.data_layout.TargetDataLayout.is_lawful.Goals as goal

pub returns : goal.returns
returns c = in_parts c.args.self.now _ (all_four _ _ _ _ c.integers_fit.ensures c.floats_fit.ensures c.default_fits.ensures c.within_limit.ensures)
