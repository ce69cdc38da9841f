use Rattle.std.proofs.Common.{length}
use Rattle.abi_univariant.proofs.Sorted.NamesEach.{few_allowed}
use Rattle.abi_univariant.proofs.in_order.layout_of_fields_in_order.Goals as goal

pub of-requires-clause-few : goal.of-requires-clause-few
of-requires-clause-few g c = (few_allowed g.FieldIdx.Idx.number (length c.as_raw-fields.result.now) g.FieldIdx.Idx.MAX_INDEX c.args.order.now _ c.in_ok-is_allowed.field-0 c.in_ok-is_allowed.ensures c.if-not-branch.false c.as_raw-fields.ensures.within).0

pub of-requires-clause-within : goal.of-requires-clause-within
of-requires-clause-within g c = (few_allowed g.FieldIdx.Idx.number (length c.as_raw-fields.result.now) g.FieldIdx.Idx.MAX_INDEX c.args.order.now _ c.in_ok-is_allowed.field-0 c.in_ok-is_allowed.ensures c.if-not-branch.false c.as_raw-fields.ensures.within).1

pub list_in_order-requires-clause-fields : goal.list_in_order-requires-clause-fields
list_in_order-requires-clause-fields g c = rw c.as_raw-fields.ensures.items c.requires.fields

pub returns-clause-lawful : goal.returns-clause-lawful
returns-clause-lawful g c = rw c.into_layout.ensures c.in_ok-list_in_order.ensures.lawful
