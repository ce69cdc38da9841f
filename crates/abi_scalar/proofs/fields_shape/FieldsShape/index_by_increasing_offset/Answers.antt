use Rattle.std.proofs.Common.{sym, ap, subst, ◌∙◌, length, ℕ, List}
use Rattle.abi_scalar.specs.Order.{NeverStepsBack}
use Rattle.abi_scalar.proofs.OrderLemmas.{places_many, places_ascend}
use Rattle.abi_scalar.proofs.fields_shape.FieldsShape.index_by_increasing_offset.Goals as goal

pub returns-clause-count : goal.returns-clause-count
returns-clause-count g c =
    ap length c.memory_order.ensures ∙ places_many g.FieldIdx.Idx.number c.args.self.now c.requires

pub returns-clause-ascending : goal.returns-clause-ascending
returns-clause-ascending g c h =
    subst (λ (places : List ℕ). NeverStepsBack c.args.self.now places) (sym c.memory_order.ensures)
    (places_ascend g.FieldIdx.Idx.number c.args.self.now h)
