-- What is read so far.
use Rattle.std.proofs.Common.{◌≡◌, ◌-◌, map}
use Rattle.rust_source.specs.Fields.{variants_all, variants_behind}
use Rattle.rust_source.specs.Items.{variant_as_read}
use Rattle.rust_source.specs.Names.{texts}
use Rattle.rust_source.proofs.reader.fields.add_variants.Given as goal

abbrev pub invariant-loop-turn : goal.invariant-loop-turn
invariant-loop-turn l =
    variants_behind l.rules (l.turns - l.turn) (map variant_as_read l.all.items) l.inside (texts l.names, l.unknown.items)
    ≡ variants_all l.rules (map variant_as_read l.fn.all.items) l.fn.inside (texts l.fn.names, l.fn.unknown.items)
