-- A byte more, and the number fits as many bytes more.
use Rattle.std.proofs.Common.{◌-◌, ◌<◌, length, arith}
use Rattle.guarantees.proofs.Numbers.{with_first, with_last}
use Rattle.guarantees.proofs.code_generator.+number_in.Goals as goal

pub overflow_mul-result : goal.overflow_mul-result
overflow_mul-result t c =
    let byte : c.from.result < 256 = omega (arith, c.type_inv.bytes 0, c.from.ensures) in
    let fits = with_first c.args.bytes.now _ _ c.in-len1-up.len_at_least c.requires byte c.number_in.ensures.bound in
    omega (arith, fits.0, fits.1)

pub overflow_add-result : goal.overflow_add-result
overflow_add-result t c =
    let byte : c.from.result < 256 = omega (arith, c.type_inv.bytes 0, c.from.ensures) in
    let fits = with_first c.args.bytes.now _ _ c.in-len1-up.len_at_least c.requires byte c.number_in.ensures.bound in
    omega (arith, fits.0, fits.1)

pub returns-in-len1-up-clause-bound : goal.returns-in-len1-up-clause-bound
returns-in-len1-up-clause-bound t c =
    let byte : c.from.result < 256 = omega (arith, c.type_inv.bytes 0, c.from.ensures) in
    (with_first c.args.bytes.now _ _ c.in-len1-up.len_at_least c.requires byte c.number_in.ensures.bound).0

pub overflow_mul-result-in-len1-up-bytes : goal.overflow_mul-result-in-len1-up-bytes
overflow_mul-result-in-len1-up-bytes t c =
    let byte : c.from-in-len1-up-bytes.result < 256 = omega (arith, c.type_inv.bytes (length c.args.bytes.now - 1), c.from-in-len1-up-bytes.ensures) in
    let fits = with_last c.args.bytes.now _ _ c.in-len1-up-bytes.len_at_least c.requires byte c.number_in-in-len1-up-bytes.ensures.bound in
    omega (arith, fits.0, fits.1)

pub overflow_add-result-in-len1-up-bytes : goal.overflow_add-result-in-len1-up-bytes
overflow_add-result-in-len1-up-bytes t c =
    let byte : c.from-in-len1-up-bytes.result < 256 = omega (arith, c.type_inv.bytes (length c.args.bytes.now - 1), c.from-in-len1-up-bytes.ensures) in
    let fits = with_last c.args.bytes.now _ _ c.in-len1-up-bytes.len_at_least c.requires byte c.number_in-in-len1-up-bytes.ensures.bound in
    omega (arith, fits.0, fits.1)

pub returns-in-len1-up-bytes-clause-bound : goal.returns-in-len1-up-bytes-clause-bound
returns-in-len1-up-bytes-clause-bound t c =
    let byte : c.from-in-len1-up-bytes.result < 256 = omega (arith, c.type_inv.bytes (length c.args.bytes.now - 1), c.from-in-len1-up-bytes.ensures) in
    (with_last c.args.bytes.now _ _ c.in-len1-up-bytes.len_at_least c.requires byte c.number_in-in-len1-up-bytes.ensures.bound).0
