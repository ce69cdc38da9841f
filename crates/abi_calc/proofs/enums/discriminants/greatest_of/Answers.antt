use Rattle.std.proofs.Common.{pos}
use Rattle.std.specs.Int.{int_max}
use Rattle.abi_calc.proofs.EnumLemmas.Discriminants.{fold_map_all, greatest_reached}
use Rattle.abi_calc.proofs.enums.discriminants.greatest_of.Goals as goal

pub returns : goal.returns
returns c = greatest_reached (pos 0) _ _ (fold_map_all int_max pos (pos 0) _ c.args.values.now _ c.loop-value-test.false c.loop-value.invariant)
