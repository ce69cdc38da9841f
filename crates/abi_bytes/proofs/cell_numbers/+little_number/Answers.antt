use Rattle.std.proofs.Common.{◌-◌, ◌<◌, length, drop, arith, length-take, length-drop}
use Rattle.abi_tree.proofs.Bytes.NumberLemmas.{more_fits}
use Rattle.abi_bytes.proofs.cell_numbers.+little_number.Goals as goal

pub overflow_mul-result : goal.overflow_mul-result
overflow_mul-result t c =
    let byte : c.from.result < 256 = omega (arith, c.byte_in.type_inv, c.from.ensures) in
    let more = more_fits (length c.args.cells.now) _ c.from.result c.little_number.result (omega (arith, length-take (length c.args.cells.now - 1) (drop 1 c.args.cells.now), length-drop 1 c.args.cells.now)) c.requires byte c.little_number.ensures.bound in
    omega (arith, more.0, more.1)

pub overflow_add-result : goal.overflow_add-result
overflow_add-result t c =
    let byte : c.from.result < 256 = omega (arith, c.byte_in.type_inv, c.from.ensures) in
    let more = more_fits (length c.args.cells.now) _ c.from.result c.little_number.result (omega (arith, length-take (length c.args.cells.now - 1) (drop 1 c.args.cells.now), length-drop 1 c.args.cells.now)) c.requires byte c.little_number.ensures.bound in
    omega (arith, more.0, more.1)

pub returns-in-len1-up-clause-bound : goal.returns-in-len1-up-clause-bound
returns-in-len1-up-clause-bound t c =
    let byte : c.from.result < 256 = omega (arith, c.byte_in.type_inv, c.from.ensures) in
    let more = more_fits (length c.args.cells.now) _ c.from.result c.little_number.result (omega (arith, length-take (length c.args.cells.now - 1) (drop 1 c.args.cells.now), length-drop 1 c.args.cells.now)) c.requires byte c.little_number.ensures.bound in
    more.0
