use Rattle.std.proofs.Common.{◌∙◌, ap, arith}
use Rattle.abi_scalar.proofs.OrderLemmas.{pair_order}
use Rattle.abi_scalar.proofs.pair.two_fields.Goals as goal

pub returns-clause-order : goal.returns-clause-order
returns-clause-order g c =
    let number = g.FieldIdx.Idx.number in
    let laws = g.met.FieldIdx.Idx in
    rw (c.two_items.ensures, c.two_items-2.ensures) (pair_order number c.new.result c.new-2.result c.args.b_offset
    (ap number c.new.ensures ∙ laws.number_at 0 (omega (arith, laws.positive))) (ap number c.new-2.ensures ∙ laws.number_at 1 laws.positive))
