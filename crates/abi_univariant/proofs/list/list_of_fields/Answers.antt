use Rattle.abi_univariant.proofs.list.list_of_fields.Goals as goal

pub list_of_slice-requires-clause-fields : goal.list_of_slice-requires-clause-fields
list_of_slice-requires-clause-fields g c = rw c.as_raw.ensures.items c.requires.fields

pub returns-clause-exact : goal.returns-clause-exact
returns-clause-exact g c = rw (c.as_raw.ensures.items, c.fields_repr-list.ensures) at c.list_of_slice.ensures.exact

pub returns-clause-within : goal.returns-clause-within
returns-clause-within g c = rw c.as_raw.ensures.items at c.as_raw.ensures.within
