-- The macros that are left go on from the last of those before.
use Rattle.std.proofs.Common.{◌≡◌, None, drop}
use Rattle.rust_source.specs.MacroScope.{last_from}
use Rattle.rust_source.proofs.reader.macro_scope.last_macro.Given as goal

abbrev pub invariant-loop-one : goal.invariant-loop-one
invariant-loop-one l =
    last_from l.items.modules.items l.root l.name l.found (drop l.one-index l.items.macros.items)
    ≡ last_from l.items.modules.items l.root l.name None l.items.macros.items
