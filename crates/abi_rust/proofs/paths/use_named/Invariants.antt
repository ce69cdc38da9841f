use Rattle.std.proofs.Common.{◌≡◌, drop, map}
use Rattle.abi_rust.specs.Names.{behind_all, target_in}
use Rattle.abi_rust.proofs.paths.use_named.Given as goal

-- what the names name that are left, behind what is found, is what all of them name
abbrev pub invariant-loop-name : goal.invariant-loop-name
invariant-loop-name l =
    behind_all l.tables.items.now l.tables.scope.now (target_in l.tables.targets.now) l.left l.used.«module» l.space l.found (map (λ n. n.name) (drop l.name-index l.rest))
    ≡ behind_all l.tables.items.now l.tables.scope.now (target_in l.tables.targets.now) l.initial.left l.used.«module» l.space l.initial.found (map (λ n. n.name) l.rest)
