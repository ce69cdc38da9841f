use Rattle.std.proofs.Common.{rules}
use Rattle.abi_types.proofs.ConventionLemmas.{numbered}
use Rattle.abi_types.proofs.extern_abi.ExternAbi.from_packed.Goals as goal

pub returns-clause-number : goal.returns-clause-number
returns-clause-number c = numbered c.args.index c.item_at.result (search rules)
