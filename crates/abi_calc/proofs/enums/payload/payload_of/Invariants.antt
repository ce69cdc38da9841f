-- What the rest of the fields are beside those before is what all are.
use Rattle.std.proofs.Common.{◌≡◌, drop, map}
use Rattle.abi_calc.specs.Enums.Growth.{moved_offset}
use Rattle.abi_calc.specs.Enums.Payload.{IsWellFormedPayload, payload_of_two, payload_of}
use Rattle.abi_calc.proofs.enums.payload.payload_of.Given as goal

abbrev pub invariant-loop-index : goal.invariant-loop-index
invariant-loop-index g l = record {
  value : payload_of_two l.payload (payload_of l.dl (map g.F.LayoutHandle.layout_of (drop l.index l.fields)) (map (moved_offset l.old l.new) (drop l.index l.offsets)))
      ≡ payload_of l.dl (map g.F.LayoutHandle.layout_of l.fields) (map (moved_offset l.old l.new) l.offsets);
  lawful : IsWellFormedPayload l.dl l.payload;
}
