-- The last of the greatest of those below the counter.
use Rattle.std.proofs.Common.{◌≡◌, ◌<◌, map, take}
use Rattle.abi_calc.specs.Enums.Niche.{last_greatest}
use Rattle.abi_calc.proofs.enums.niche.untagged_of.Given as goal

abbrev pub invariant-loop-index : goal.invariant-loop-index
invariant-loop-index g l = record {
  before : l.untagged < l.index;
  greatest : l.untagged ≡ last_greatest (take l.index (map (λ list. list.size) l.lists));
}
