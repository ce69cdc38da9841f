-- What is left of the variants and those before have in common what all have.
use Rattle.std.proofs.Common.{◌≡◌, drop, map}
use Rattle.std.specs.Prelude.{fold}
use Rattle.abi_calc.specs.Enums.Payload.{IsWellFormedPayload, common_payload, common_of}
use Rattle.abi_calc.specs.Enums.Tagged.{payloads_of}
use Rattle.abi_calc.proofs.enums.payload.common_of.Given as goal

abbrev pub invariant-loop-index : goal.invariant-loop-index
invariant-loop-index g l = record {
  value : fold (common_payload l.dl) l.shared (drop l.index (payloads_of l.dl l.old l.new (map (map g.F.LayoutHandle.layout_of) l.variants) l.lists))
      ≡ common_of l.dl (payloads_of l.dl l.old l.new (map (map g.F.LayoutHandle.layout_of) l.variants) l.lists);
  lawful : IsWellFormedPayload l.dl l.shared;
}
