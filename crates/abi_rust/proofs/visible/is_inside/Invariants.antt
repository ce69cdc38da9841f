use Rattle.std.proofs.Common.{◌≡◌, ◌-◌}
use Rattle.abi_rust.specs.Visible.{inside_within}
use Rattle.abi_rust.proofs.visible.is_inside.Given as goal

-- the module that was reached is inside where the first is
abbrev pub invariant-loop-turn : goal.invariant-loop-turn
invariant-loop-turn l = inside_within (l.turns - l.turn) l.items l.outer l.inside ≡ inside_within l.turns l.items l.outer l.initial.inside
