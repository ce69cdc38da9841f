use Rattle.abi_map.proofs.CoverLemmas.{found_before, found_behind, free_before, free_behind}
use Rattle.abi_map.proofs.covering.first_from.Goals as goal

pub returns-in-Ok-clause-before : goal.returns-in-Ok-clause-before
returns-in-Ok-clause-before c = found_before _ _ _ c.in-Ok.ensures.position c.requires

pub returns-in-Ok-clause-behind : goal.returns-in-Ok-clause-behind
returns-in-Ok-clause-behind c = found_behind _ _ _ c.in-Ok.ensures.position c.requires

pub returns-in-Err-clause-before : goal.returns-in-Err-clause-before
returns-in-Err-clause-before c = free_before _ _ _ c.in-Err.ensures.position c.requires

pub returns-in-Err-clause-behind : goal.returns-in-Err-clause-behind
returns-in-Err-clause-behind c = free_behind _ _ _ c.in-Err.ensures.position c.requires
