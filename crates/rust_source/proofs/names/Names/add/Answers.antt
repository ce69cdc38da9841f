-- The name that is put in has the text.
use Rattle.std.proofs.Common.{map, slice_get, ap, ◌∙◌}
use Rattle.std.specs.Prelude.{string_bytes}
use Rattle.rust_source.proofs.NameTexts.{names_are, number_is, stored_text}
use Rattle.rust_source.proofs.names.Names.add.Goals as goal

pub returns-in-Ok-clause-named : goal.returns-in-Ok-clause-named
returns-in-Ok-clause-named c =
    let kept = c.in_ok-number.ensures.stored in
    stored_text _ c.insert_full.new.self.keys c.in-Ok.number kept.0 (ap (slice_get _) c.in-Ok.ensures.1 ∙ kept.1) kept.2 ∙ c.in_ok-owned.ensures.ok

pub returns-in-Ok-clause-number : goal.returns-in-Ok-clause-number
returns-in-Ok-clause-number c =
    number_is c.args.text.now c.args.self.now.known.keys c.in_ok-owned.owned c.in-Ok.number (c.in-Ok.ensures.1 ∙ c.in_ok-number.ensures.index) c.in_ok-owned.ensures.ok

pub returns-in-Ok-clause-names : goal.returns-in-Ok-clause-names
returns-in-Ok-clause-names c =
    ap (map string_bytes) c.in_ok-number.ensures.keys ∙ names_are c.args.text.now c.args.self.now.known.keys c.in_ok-owned.owned c.in_ok-owned.ensures.ok
