use Rattle.std.proofs.Common.{sym, ◌∙◌}
use Rattle.abi_calc.proofs.EnumLemmas.Niche.{span_first, span_more}
use Rattle.abi_calc.proofs.enums.niche.span_to.Goals as goal

pub returns-in-None : goal.returns-in-None
returns-in-None c places is = span_first places c.args.index (sym is ∙ c.in-None.is)

pub returns-in-Some : goal.returns-in-Some
returns-in-Some c places is = span_more places c.in-Some.first c.in-Some.field-0-1 c.args.index (sym is ∙ c.in-Some.is)
