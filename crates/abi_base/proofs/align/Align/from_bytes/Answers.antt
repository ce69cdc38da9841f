use Rattle.std.proofs.Common.{◌≡◌, ℕ, ◌<◌, ◌^◌, ap, sym, ◌∙◌, arith}
use Rattle.std.proofs.Math.Facts.{Fits-lt-pow}
use Rattle.std.proofs.lemmas.Bool.Decides.{nat_tests}
use Rattle.std.proofs.lemmas.Grind.{common_steps}
use Rattle.std.specs.Int.Count.{count_trailing_zeros}
use Rattle.abi_base.proofs.Powers.{exponent_is}
use Rattle.abi_base.proofs.align.Align.from_bytes.Goals as goal

pub returns-then-pow2-bytes-clause-power : goal.returns-then-pow2-bytes-clause-power
returns-then-pow2-bytes-clause-power c k e =
    let fits : c.args.bytes < 2 ^ 64 = Fits-lt-pow c.ranges.bytes in
    let power : 2 ^ count_trailing_zeros 64 c.args.bytes ≡ c.args.bytes = ap (λ (j : ℕ). 2 ^ j) (exponent_is c.args.bytes k fits e) ∙ sym e in
    absurd (c.if-pow2-bytes.true (omega (arith, fits, power)))

pub returns-then-within_limit-clause-power : goal.returns-then-within_limit-clause-power
returns-then-within_limit-clause-power c k e =
    let same : count_trailing_zeros 64 c.args.bytes ≡ k = exponent_is c.args.bytes k (Fits-lt-pow c.ranges.bytes) e in
    grind (arith, common_steps, nat_tests, same)

pub returns-else-within_limit-clause-power : goal.returns-else-within_limit-clause-power
returns-else-within_limit-clause-power c k e =
    let same : count_trailing_zeros 64 c.args.bytes ≡ k = exponent_is c.args.bytes k (Fits-lt-pow c.ranges.bytes) e in
    grind (arith, common_steps, nat_tests, same)
