-- No option before the index gives the name this value.
use Rattle.std.proofs.Common.{◌≡◌, drop}
use Rattle.rust_source.specs.Cfg.{is_value_set, value_as_read}
use Rattle.rust_source.proofs.reader.cfg.is_value_set.Given as goal

abbrev pub invariant-loop-option : goal.invariant-loop-option
invariant-loop-option l = is_value_set (drop l.option-index l.options) l.name (value_as_read l.fn.value) ≡ is_value_set l.options l.name (value_as_read l.fn.value)
