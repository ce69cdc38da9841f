use Rattle.std.proofs.Common.{◌^◌, rules}
use Rattle.abi_base.proofs.Numbers.{number_read, number_refused}
use Rattle.abi_base.proofs.parse_number.number_u64.Goals as goal

pub returns-in-Ok : goal.returns-in-Ok
returns-in-Ok c = number_read (2 ^ 64) c.in-Ok.number c.args.text.now c.in-Ok.ensures.value.0

pub returns-in-Err : goal.returns-in-Err
returns-in-Err c = number_refused (2 ^ 64) c.args.text.now c.number_error.result c.in-Err.ensures.value.0 (search rules)
