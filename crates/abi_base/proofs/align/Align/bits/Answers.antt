use Rattle.std.proofs.Common.{◌<◌, arith}
use Rattle.std.proofs.Math.Nat.{pow-le-pow_right}
use Rattle.abi_base.proofs.align.Align.bits.Goals as goal

pub overflow_mul-result : goal.overflow_mul-result
overflow_mul-result c = let two : 0 < 2 = omega arith in omega (arith, pow-le-pow_right {n = 2} two {i = c.args.self} {j = 60} c.requires)
