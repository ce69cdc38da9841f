-- 16 bytes and more have more numbers than 128 bits have.
use Rattle.std.proofs.Common.{◌≡◌, ℕ, ◌*◌, ◌^◌, ◌<◌, ◌≤◌, arith}
use Rattle.std.specs.Prelude.{nat_le, nat_lt}
use Rattle.std.proofs.Math.Nat.{pow-le-pow_right}
use Rattle.std.proofs.lemmas.Bool.Decides.{nat_tests}
use Rattle.abi_scalar.specs.Range.{numbers_of}
use Rattle.abi_calc.proofs.enums.bounds.has_no_more.Goals as goal

many : (width : ℕ) → 16 ≤ width → 2 ^ 128 ≤ numbers_of width
many width wide = pow-le-pow_right {n = 2} (omega arith) {i = 128} {j = 8 * width} (omega (arith, wide))

neither : (bytes most numbers : ℕ) → 16 ≤ bytes → 2 ^ 128 ≤ most → numbers < 2 ^ 128 → nat_lt bytes 16 ≡ nat_le most numbers
neither bytes most numbers wide more few = grind (arith, nat_tests)

pub returns-else-bytes-lt16 : goal.returns-else-bytes-lt16
returns-else-bytes-lt16 c =
    let wide : 16 ≤ c.args.width = omega (arith, c.bytes-bytes.ensures, c.if-bytes-lt16.false) in
    neither c.bytes-bytes.result (numbers_of c.args.width) c.args.numbers (omega (arith, c.if-bytes-lt16.false)) (many c.args.width wide) c.ranges.numbers.fits
