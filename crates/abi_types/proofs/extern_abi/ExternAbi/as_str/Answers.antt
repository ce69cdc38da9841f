use Rattle.std.proofs.Common.{◌∙◌}
use Rattle.abi_types.proofs.ConventionLemmas.{only_named}
use Rattle.abi_types.proofs.extern_abi.ExternAbi.as_str.Goals as goal

pub returns-clause-own : goal.returns-clause-own
returns-clause-own c abi same = only_named abi c.args.self.now (same ∙ c.row.ensures.name)
