use Rattle.std.proofs.Common.{◌≡◌, drop, map}
use Rattle.rust_source.specs.declared.syntax.Segment.{out-Segment}
use Rattle.abi_rust.specs.Names.{behind_all, target_in}
use Rattle.abi_rust.proofs.paths.names_named.Given as goal

-- what the names name that are left, behind what is found, is what all of them name
abbrev pub invariant-loop-segment : goal.invariant-loop-segment
invariant-loop-segment l =
    behind_all l.tables.items.now l.tables.scope.now (target_in l.tables.targets.now) l.left l.«module» l.space l.found (map (λ s. (out-Segment s).name) (drop l.segment-index l.rest))
    ≡ behind_all l.tables.items.now l.tables.scope.now (target_in l.tables.targets.now) l.initial.left l.«module» l.space l.initial.found (map (λ s. (out-Segment s).name) l.rest)
