use Rattle.std.proofs.Common.{◌^◌, sym, subst}
use Rattle.std.specs.Int.{◌∣◌}
use Rattle.std.specs.Int.Count.{count_trailing_zeros}
use Rattle.abi_base.proofs.Powers.{factor_divides, factor_greatest}
use Rattle.abi_base.proofs.align.Align.max_aligned_factor.Goals as goal

pub returns-clause-divides : goal.returns-clause-divides
returns-clause-divides c = subst (λ n. 2 ^ count_trailing_zeros 64 c.bytes.result ∣ n) c.bytes.ensures (factor_divides 64 c.bytes.result)

pub returns-clause-greatest : goal.returns-clause-greatest
returns-clause-greatest c k l h = factor_greatest 64 c.bytes.result k l (subst (λ n. 2 ^ k ∣ n) (sym c.bytes.ensures) h)
