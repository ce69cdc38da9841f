-- The sizes don't matter where a tag has no more numbers than a niche leaves free.
use Rattle.std.proofs.Common.{◌∙◌, map, sym}
use Rattle.abi_calc.proofs.EnumLemmas.WhichFirst.{niche_first}
use Rattle.abi_calc.proofs.enums.bounds.which_first.Goals as goal

pub returns-then-is_outnumbered : goal.returns-then-is_outnumbered
returns-then-is_outnumbered g c =
    sym (niche_first c.args.dl.now c.args.repr.now c.args.asked (map (map g.F.LayoutHandle.layout_of) c.args.variants.now) (rw c.most_free-free.ensures at c.if-free-eq0.false) (rw c.most_free-free.ensures at (sym c.is_outnumbered.ensures ∙ c.if-is_outnumbered.true)))
