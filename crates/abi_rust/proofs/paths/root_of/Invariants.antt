use Rattle.std.proofs.Common.{◌≡◌, ◌-◌}
use Rattle.abi_rust.specs.Names.{root_within}
use Rattle.abi_rust.proofs.paths.root_of.Given as goal

-- the root of the module that was reached is that of the first
abbrev pub invariant-loop-turn : goal.invariant-loop-turn
invariant-loop-turn l = root_within (l.turns - l.turn) l.items l.root ≡ root_within l.turns l.items l.initial.root
