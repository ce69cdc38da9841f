-- Sizes and alignments of lawful lists are small.
use Rattle.std.proofs.Common.{ap, arith, refl}
use Rattle.abi_calc.proofs.EnumLemmas.Tagged.{align_of_lists_small, size_of_lists_small}
use Rattle.abi_calc.proofs.enums.tagged.lists_size.Goals as goal

pub round_up-requires-clause-offset : goal.round_up-requires-clause-offset
round_up-requires-clause-offset g c =
    let small = size_of_lists_small c.args.dl.now c.args.lists.now c.requires.data_layout c.requires.lists in
    omega (arith, small, ap (λ o. o.size) c.summary.ensures)

pub round_up-requires-clause-align : goal.round_up-requires-clause-align
round_up-requires-clause-align g c = rw c.requires.align (align_of_lists_small c.args.dl.now c.args.lists.now c.requires.data_layout c.requires.lists)

pub returns : goal.returns
returns g c = rw (c.round_up.ensures.value, c.summary.ensures, c.requires.align) refl
