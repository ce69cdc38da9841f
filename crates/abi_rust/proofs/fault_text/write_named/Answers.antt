-- Nothing stands behind the name.
use Rattle.std.proofs.Common.{[], rules}
use Rattle.abi_rust.proofs.fault_text.write_named.Goals as goal

pub returns-in_default : goal.returns-in_default
returns-in_default c = (c.args.said.0.now, [], search (rules, c.in_ok-quoted.ensures))
