-- What the ways lead to that are left is what all of them lead to.
use Rattle.std.proofs.Common.{◌≡◌, ◌-◌}
use Rattle.abi_rust.specs.Globs.{led_from, lists_of}
use Rattle.abi_rust.proofs.scope.lead_on.Given as goal

abbrev pub invariant-loop-index : goal.invariant-loop-index
invariant-loop-index l =
    led_from l.items (lists_of l.direct.items) (l.turns - l.index) l.index l.ways.items ≡ led_from l.items (lists_of l.direct.items) l.turns 0 l.initial.ways.items
