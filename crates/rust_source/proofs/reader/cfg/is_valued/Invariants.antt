-- No option before the index gives the name a value.
use Rattle.std.proofs.Common.{◌≡◌, drop}
use Rattle.rust_source.specs.Cfg.{is_valued}
use Rattle.rust_source.proofs.reader.cfg.is_valued.Given as goal

abbrev pub invariant-loop-option : goal.invariant-loop-option
invariant-loop-option l = is_valued (drop l.option-index l.options) l.name ≡ is_valued l.options l.name
