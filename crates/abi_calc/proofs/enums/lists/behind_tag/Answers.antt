-- The tag is smaller than the bound, and what the fields lie behind has an alignment within the limit.
use Rattle.std.proofs.Common.{◌≤◌}
use Rattle.abi_base.specs.Integer.{integer_align}
use Rattle.abi_calc.proofs.EnumLemmas.Lists.{align_small_all, integer_below, integer_small}
use Rattle.abi_calc.proofs.enums.lists.behind_tag.Goals as goal
use Rattle.abi_calc.proofs.enums.lists.behind_tag.Goals.{then-c, else-c}

pub returns-clause-prefix : goal.returns-clause-prefix
returns-clause-prefix g c =
    let own : integer_align c.args.dl.now c.args.tag ≤ 29 = integer_small c.args.dl.now c.args.tag c.requires.data_layout in (
      rw c.size.ensures (integer_below c.args.dl.now c.args.tag c.requires.data_layout),
      elim c.if-c.branch [
        | then-c w ↦ rw (w.align-is, w.align_with_all-align.ensures, c.align-own.ensures) (align_small_all g.F.LayoutHandle.layout_of c.args.dl.now (integer_align c.args.dl.now c.args.tag) c.args.variants.now own c.requires.fields)
        | else-c w ↦ rw (w.align-is, c.align-own.ensures) own
      ],
    )
