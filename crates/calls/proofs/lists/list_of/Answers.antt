use Rattle.calls.proofs.lists.list_of.Goals as goal

pub layout_of_univariant-requires-clause-fields : goal.layout_of_univariant-requires-clause-fields
layout_of_univariant-requires-clause-fields c = rw (c.new-laying.ensures, c.new-fields.ensures) c.in_ok-check_list.ensures.fields

pub layout_of_univariant_in_order-requires-clause-fields : goal.layout_of_univariant_in_order-requires-clause-fields
layout_of_univariant_in_order-requires-clause-fields c = rw (c.new-laying.ensures, c.new-fields.ensures) c.in_ok-check_list.ensures.fields
