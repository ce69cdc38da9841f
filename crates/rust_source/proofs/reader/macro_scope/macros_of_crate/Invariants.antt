-- What is found so far, and what is known of the macros that are left, is all.
use Rattle.std.proofs.Common.{◌≡◌, ◌++◌, drop}
use Rattle.rust_source.specs.Items.{items_as_read}
use Rattle.rust_source.specs.MacroScope.{known_from}
use Rattle.rust_source.proofs.reader.macro_scope.macros_of_crate.Given as goal

abbrev pub invariant-loop-one : goal.invariant-loop-one
invariant-loop-one l =
    l.found.items ++ known_from (items_as_read l.items) l.root (drop l.one-index l.items.macros.items)
    ≡ known_from (items_as_read l.items) l.root l.items.macros.items
