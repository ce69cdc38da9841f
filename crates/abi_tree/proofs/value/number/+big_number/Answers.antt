use Rattle.std.proofs.Common.{◌-◌, ◌<◌, length, arith, length-take}
use Rattle.abi_tree.proofs.Bytes.NumberLemmas.{more_fits}
use Rattle.abi_tree.proofs.value.number.+big_number.Goals as goal

pub overflow_mul-result : goal.overflow_mul-result
overflow_mul-result t c =
    let byte : c.from.result < 256 = omega (arith, c.type_inv.bytes (length c.args.bytes.now - 1), c.from.ensures) in
    let more = more_fits (length c.args.bytes.now) _ c.from.result c.big_number.result (omega (arith, length-take (length c.args.bytes.now - 1) c.args.bytes.now)) c.requires byte c.big_number.ensures.bound in
    omega (arith, more.0, more.1)

pub overflow_add-result : goal.overflow_add-result
overflow_add-result t c =
    let byte : c.from.result < 256 = omega (arith, c.type_inv.bytes (length c.args.bytes.now - 1), c.from.ensures) in
    let more = more_fits (length c.args.bytes.now) _ c.from.result c.big_number.result (omega (arith, length-take (length c.args.bytes.now - 1) c.args.bytes.now)) c.requires byte c.big_number.ensures.bound in
    omega (arith, more.0, more.1)

pub returns-in-len1-up-clause-bound : goal.returns-in-len1-up-clause-bound
returns-in-len1-up-clause-bound t c =
    let byte : c.from.result < 256 = omega (arith, c.type_inv.bytes (length c.args.bytes.now - 1), c.from.ensures) in
    let more = more_fits (length c.args.bytes.now) _ c.from.result c.big_number.result (omega (arith, length-take (length c.args.bytes.now - 1) c.args.bytes.now)) c.requires byte c.big_number.ensures.bound in
    more.0
