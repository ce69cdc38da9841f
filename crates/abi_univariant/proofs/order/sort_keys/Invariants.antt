-- The keys up to the index.
use Rattle.std.proofs.Common.{◌≡◌, map, take}
use Rattle.abi_univariant.specs.Order.{sort_key}
use Rattle.abi_univariant.proofs.order.sort_keys.Given as goal

abbrev pub invariant-loop-index : goal.invariant-loop-index
invariant-loop-index g l = l.keys.items ≡ map (sort_key l.rule) (take l.index l.parts)
