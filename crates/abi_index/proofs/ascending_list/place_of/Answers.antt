use Rattle.abi_index.proofs.AscendingLemmas.{found, free, belongs}
use Rattle.abi_index.proofs.ascending_list.place_of.Goals as goal

pub returns-clause-found : goal.returns-clause-found
returns-clause-found c = found _ _ _ c.binary_search.ensures.position c.requires

pub returns-clause-free : goal.returns-clause-free
returns-clause-free c = free _ _ _ c.binary_search.ensures.position c.requires

pub returns-clause-ascend : goal.returns-clause-ascend
returns-clause-ascend c = belongs _ _ _ c.binary_search.ensures.position c.requires
