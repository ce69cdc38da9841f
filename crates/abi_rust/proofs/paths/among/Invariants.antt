use Rattle.std.proofs.Common.{◌≡◌, None, drop}
use Rattle.abi_rust.specs.Names.{among, target_in}
use Rattle.abi_rust.proofs.paths.among.Given as goal

-- the ways that are left bring, beside what the others did, what all of them bring
abbrev pub invariant-loop-way : goal.invariant-loop-way
invariant-loop-way l =
    among l.tables.items.now l.tables.scope.now (target_in l.tables.targets.now) l.ways l.lookup l.all (drop l.way-index l.ways)
    ≡ among l.tables.items.now l.tables.scope.now (target_in l.tables.targets.now) l.ways l.lookup None l.ways
