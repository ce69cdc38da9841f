use Rattle.std.proofs.Common.{arith}
use Rattle.abi_tree.proofs.Places.DataPlacesLemmas.{own_fields_node, own_fields_other}
use Rattle.abi_tree.proofs.value.named.own_parts.Goals as goal

pub returns-in-Fields-clause-parts : goal.returns-in-Fields-clause-parts
returns-in-Fields-clause-parts c =
    let facts = own_fields_node c.args.nodes.now c.requires.well c.args.variant _ c.requires.there c.node-here.ensures c.in-Fields.field-0 c.in-Fields.children c.in-Fields.is in
    rw (c.offsets.ensures, c.deref.ensures.value) facts.1

pub returns-in-Fields-clause-before : goal.returns-in-Fields-clause-before
returns-in-Fields-clause-before c =
    let facts = own_fields_node c.args.nodes.now c.requires.well c.args.variant _ c.requires.there c.node-here.ensures c.in-Fields.field-0 c.in-Fields.children c.in-Fields.is in
    rw c.deref.ensures.value facts.0

pub returns-in_default : goal.returns-in_default
returns-in_default c = record {
  parts = own_fields_other c.args.nodes.now c.requires.well c.args.variant _ c.requires.there c.node-here.ensures c.in_default.not-Fields;
  before = λ k d lt. absurd (omega arith);
}
