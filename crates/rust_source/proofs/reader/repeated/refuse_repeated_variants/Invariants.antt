-- None of the names so far stands twice.
use Rattle.std.proofs.Common.{◌≡◌, drop, map}
use Rattle.rust_source.specs.Items.{variant_as_read}
use Rattle.rust_source.specs.Repeated.{none_again, none_twice, variant_names}
use Rattle.rust_source.proofs.reader.repeated.refuse_repeated_variants.Given as goal

abbrev pub invariant-loop-variant : goal.invariant-loop-variant
invariant-loop-variant l =
    none_again l.seen.keys (variant_names (map variant_as_read (drop l.variant-index l.all))) ≡ none_twice (variant_names (map variant_as_read l.all))
