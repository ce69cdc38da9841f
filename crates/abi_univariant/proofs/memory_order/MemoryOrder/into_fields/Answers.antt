use Rattle.std.proofs.Common.{◌∙◌, ap, map, sym}
use Rattle.abi_univariant.proofs.Offsets.ByNumber.{named_again}
use Rattle.abi_univariant.proofs.memory_order.MemoryOrder.into_fields.Goals as goal

pub returns : goal.returns
returns g c =
    c.from_raw.ensures
    ∙ sym (named_again g.FieldIdx.Idx.at g.FieldIdx.Idx.number g.FieldIdx.Idx.MAX_INDEX g.met.FieldIdx.Idx.at_number c.self.inside.fields.items c.self.invariant.0)
    ∙ ap (map g.FieldIdx.Idx.at) c.self.view_is
