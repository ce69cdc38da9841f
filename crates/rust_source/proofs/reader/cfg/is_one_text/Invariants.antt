-- The value is none of the texts before the index.
use Rattle.std.proofs.Common.{◌≡◌, drop}
use Rattle.rust_source.specs.Cfg.{is_one_text, value_as_read}
use Rattle.rust_source.proofs.reader.cfg.is_one_text.Given as goal

abbrev pub invariant-loop-text : goal.invariant-loop-text
invariant-loop-text l = is_one_text (drop l.text-index l.texts) (value_as_read l.fn.value) ≡ is_one_text l.texts (value_as_read l.fn.value)
