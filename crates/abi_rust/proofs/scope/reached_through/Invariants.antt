-- Those of the modules so far.
use Rattle.std.proofs.Common.{◌≡◌, map, take}
use Rattle.abi_rust.specs.Globs.{led_to, lists_of}
use Rattle.abi_rust.proofs.scope.reached_through.Given as goal

abbrev pub invariant-loop-own : goal.invariant-loop-own
invariant-loop-own l = lists_of l.all.items ≡ map (λ own. led_to l.items (lists_of l.direct.items) own.items) (take l.own-index l.own-items)
