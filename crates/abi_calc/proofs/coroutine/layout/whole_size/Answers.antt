-- Sizes and alignments of lawful lists are small.
use Rattle.std.proofs.Common.{◌≡◌, ap, arith, max}
use Rattle.std.proofs.lemmas.Grind.{common_steps}
use Rattle.abi_calc.proofs.CoroutineLemmas.Layout.{whole_align_small, whole_small}
use Rattle.abi_calc.proofs.coroutine.layout.whole_size.Goals as goal

pub round_up-requires-clause-offset : goal.round_up-requires-clause-offset
round_up-requires-clause-offset g c =
    let small = whole_small c.args.dl.now c.args.first.now c.args.lists.now c.requires.data_layout c.requires.first c.requires.lists in
    let greater_of : c.max.result ≡ max c.size.result c.summary.result.size = grind (arith, common_steps) in
    omega (arith, small, greater_of, c.size.ensures, ap (λ o. o.size) c.summary.ensures)

pub round_up-requires-clause-align : goal.round_up-requires-clause-align
round_up-requires-clause-align g c = rw c.requires.align (whole_align_small c.args.dl.now c.args.first.now c.args.lists.now c.requires.first c.requires.lists)
