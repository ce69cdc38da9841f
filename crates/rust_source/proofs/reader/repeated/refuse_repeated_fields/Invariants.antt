-- None of the names so far stands twice.
use Rattle.std.proofs.Common.{◌≡◌, drop, map}
use Rattle.rust_source.specs.Items.{field_of}
use Rattle.rust_source.specs.Repeated.{none_again, none_twice, field_names}
use Rattle.rust_source.proofs.reader.repeated.refuse_repeated_fields.Given as goal

abbrev pub invariant-loop-field : goal.invariant-loop-field
invariant-loop-field l =
    none_again l.seen.keys (field_names (map field_of (drop l.field-index l.all))) ≡ none_twice (field_names (map field_of l.all))
