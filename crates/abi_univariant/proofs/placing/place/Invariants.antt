-- The fields up to the index lie where the order places them.
use Rattle.std.proofs.Common.{◌+◌, ◌^◌, ◌<◌}
use Rattle.abi_base.specs.DataLayout.{size_bound}
use Rattle.abi_univariant.specs.ListNiche.{IsPlacedField, niche_found}
use Rattle.abi_univariant.specs.Part.{max_align}
use Rattle.abi_univariant.specs.Placement.{start_of}
use Rattle.abi_univariant.proofs.Placed.PlacingLemmas.{IsPlaced}
use Rattle.abi_univariant.proofs.placing.place.Given as goal

abbrev pub invariant-loop-at : goal.invariant-loop-at
invariant-loop-at g l = record {
  placed : IsPlaced l.dl l.repr (size_bound l.dl) (start_of l.repr.pack l.repr.kind) l.parts l.order l.at l.offsets.items l.end (niche_found l.parts l.niche);
  first : IsPlacedField l.parts l.niche.first;
  last : IsPlacedField l.parts l.niche.last;
  small : l.end < size_bound l.dl + 2 ^ max_align;
}
