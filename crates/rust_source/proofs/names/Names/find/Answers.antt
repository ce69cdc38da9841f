-- The number is the place of the text among the names.
use Rattle.std.proofs.Common.{Some, None, sym, ap, ◌∙◌}
use Rattle.rust_source.proofs.NameTexts.{found_is, found_text, small_fits, small_none}
use Rattle.rust_source.proofs.names.Names.find.Goals as goal

pub returns-in-Ok-clause-named : goal.returns-in-Ok-clause-named
returns-in-Ok-clause-named c =
    found_text c.args.text.now c.args.self.now.known.keys c.in-Ok.number (sym c.in_ok-number.ensures.index ∙ ap Some (sym c.in-Ok.ensures.1))

pub returns-in-Ok-clause-exact : goal.returns-in-Ok-clause-exact
returns-in-Ok-clause-exact c =
    small_fits c.in_ok-number.number c.in-Ok.number c.in-Ok.ensures.0 c.in-Ok.ensures.1
    ∙ found_is c.args.text.now c.args.self.now.known.keys (Some c.in_ok-number.number) c.in_ok-number.ensures.index c.in_ok-number.ensures.found

pub returns-in-Err-clause-exact : goal.returns-in-Err-clause-exact
returns-in-Err-clause-exact c =
    small_none c.in_ok-number.number c.in-Err.ensures
    ∙ found_is c.args.text.now c.args.self.now.known.keys (Some c.in_ok-number.number) c.in_ok-number.ensures.index c.in_ok-number.ensures.found

pub returns-in_err-number-clause-exact : goal.returns-in_err-number-clause-exact
returns-in_err-number-clause-exact c =
    c.from_residual.ensures ∙ found_is c.args.text.now c.args.self.now.known.keys None c.in_err-number.ensures.index c.in_err-number.ensures.found
