-- No option before the index is the name alone.
use Rattle.std.proofs.Common.{◌≡◌, drop}
use Rattle.rust_source.specs.Cfg.{is_set_alone}
use Rattle.rust_source.proofs.reader.cfg.is_set_alone.Given as goal

abbrev pub invariant-loop-option : goal.invariant-loop-option
invariant-loop-option l = is_set_alone (drop l.option-index l.options) l.name ≡ is_set_alone l.options l.name
