-- What is read so far.
use Rattle.std.proofs.Common.{◌≡◌, ◌-◌, map}
use Rattle.rust_source.specs.Fields.{fields_all, fields_from}
use Rattle.rust_source.specs.Items.{field_of}
use Rattle.rust_source.specs.Names.{texts}
use Rattle.rust_source.proofs.reader.fields.add_fields.Given as goal

abbrev pub invariant-loop-turn : goal.invariant-loop-turn
invariant-loop-turn l = record {
  kind : l.fields.is_tuple ≡ l.fn.fields.is_tuple;
  same : fields_from l.rules l.fn.fields.is_tuple (l.turns - l.turn) (map field_of l.fields.all.items) l.inside (texts l.names, l.unknown.items)
      ≡ fields_all l.rules l.fn.fields.is_tuple (map field_of l.fn.fields.all.items) l.fn.inside (texts l.fn.names, l.fn.unknown.items);
}
