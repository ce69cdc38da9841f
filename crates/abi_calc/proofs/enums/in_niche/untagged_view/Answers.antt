use Rattle.std.proofs.Common.{◌∙◌, ap, sym}
use Rattle.std.specs.Prelude.{◌==◌, ◌&&◌}
use Rattle.abi_calc.proofs.AtIndex.{same_some}
use Rattle.abi_calc.proofs.enums.in_niche.untagged_view.Goals as goal

pub returns-clause-fills : goal.returns-clause-fills
returns-clause-fills g c = λ list there.
    c.fills.ensures ∙ ap (λ l. (c.args.size == l.size) && (c.args.align == l.align.abi)) (same_some c.at-list.result list (sym c.at-list.ensures ∙ there))

pub returns-clause-view : goal.returns-clause-view
returns-clause-view g c = λ list there.
    c.backend_repr.ensures ∙ ap (λ l. l.backend_repr) (same_some c.at-list.result list (sym c.at-list.ensures ∙ there))
