use Rattle.abi_univariant.proofs.list.layout_of_fields.Goals as goal

pub returns-clause-lawful : goal.returns-clause-lawful
returns-clause-lawful g c = rw c.into_layout.ensures c.in_ok-list_of_fields.ensures.lawful
