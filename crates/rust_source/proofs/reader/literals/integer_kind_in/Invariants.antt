-- The name is none of the types' before the index.
use Rattle.std.proofs.Common.{◌≡◌, drop, map}
use Rattle.rust_source.specs.Literals.{kind_entry, integer_kind_in}
use Rattle.rust_source.proofs.reader.literals.integer_kind_in.Given as goal

abbrev pub invariant-loop-text : goal.invariant-loop-text
invariant-loop-text l = integer_kind_in (map kind_entry (drop l.text-index l.table)) l.name ≡ integer_kind_in (map kind_entry l.table) l.name
