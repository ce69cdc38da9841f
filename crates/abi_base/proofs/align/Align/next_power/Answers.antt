use Rattle.std.proofs.Common.{◌≡◌, ℕ, ◌≤◌, ◌-◌, ◌^◌, sym, subst, arith}
use Rattle.std.specs.Int.Count.{count_leading_zeros}
use Rattle.abi_base.specs.Align.{IsLeastPower}
use Rattle.abi_base.proofs.Powers.{least_power}
use Rattle.abi_base.proofs.align.Align.next_power.Goals as goal

pub returns-clause-law : goal.returns-clause-law
returns-clause-law c =
    let fits : c.args.size ≤ 2 ^ 64 = omega arith in
    let same : c.saturating_sub-below.result ≡ c.args.size - 1 = omega (arith, c.saturating_sub-below.ensures, c.bytes.ensures) in
    subst (λ (b : ℕ). IsLeastPower c.args.size (64 - count_leading_zeros 64 b)) (sym same) (least_power c.args.size fits)
