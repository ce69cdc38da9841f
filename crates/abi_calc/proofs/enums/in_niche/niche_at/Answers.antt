use Rattle.std.proofs.Common.{◌∙◌, ap, refl, sym}
use Rattle.std.proofs.lemmas.Option.{slice_get_past}
use Rattle.abi_calc.specs.Enums.Niche.{niche_of_list}
use Rattle.abi_calc.proofs.AtIndex.{still_within}
use Rattle.abi_calc.proofs.enums.in_niche.niche_at.Goals as goal

pub returns-then-place-len : goal.returns-then-place-len
returns-then-place-len g c = c.largest_niche.ensures ∙ sym (ap niche_of_list c.at.ensures)

pub returns-else-place-len : goal.returns-else-place-len
returns-else-place-len g c =
    sym (ap niche_of_list (slice_get_past c.args.lists.now c.args.place (still_within _ _ _ _ c.len.ensures refl c.if-place-len.false)))
