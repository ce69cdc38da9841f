use Rattle.abi_base.proofs.Laws.{known_lawful}
use Rattle.abi_base.proofs.data_layout.TargetDataLayout.has_lawful_pointer.Goals as goal

pub returns-in-Some : goal.returns-in-Some
returns-in-Some c = known_lawful _ _ _ _ c.in-Some.ensures c.is_lawful.ensures
