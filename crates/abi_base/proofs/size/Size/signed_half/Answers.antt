use Rattle.std.proofs.Common.{◌<◌, ◌≤◌, ◌*◌, ◌-◌, ◌^◌, arith}
use Rattle.std.proofs.Math.Nat.{pow-le-pow_right}
use Rattle.abi_base.proofs.size.Size.signed_half.Goals as goal

pub returns-clause-bound : goal.returns-clause-bound
returns-clause-bound c =
    let two : 0 < 2 = omega arith in
    let few : c.self.inside.raw * 8 - 1 ≤ 127 = omega (arith, c.self.view_is) in
    let most : 2 ^ (c.self.inside.raw * 8 - 1) ≤ 2 ^ 127 = pow-le-pow_right two few in
    omega (arith, most)
