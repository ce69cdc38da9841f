-- The alignments have their limit.
use Rattle.std.proofs.Common.{◌≡◌, ◌≤◌, arith, max}
use Rattle.std.proofs.lemmas.Grind.{common_steps}
use Rattle.abi_base.specs.Integer.{integer_align}
use Rattle.abi_calc.proofs.EnumLemmas.Lists.{integer_small}
use Rattle.abi_calc.proofs.enums.bounds.fits_behind.Goals as goal

pub round_up-tag-requires-clause-align : goal.round_up-tag-requires-clause-align
round_up-tag-requires-clause-align g c =
    let own : integer_align c.args.dl.now c.args.asked ≤ 29 = integer_small c.args.dl.now c.args.asked c.requires.data_layout in
    let greater_of : c.max-align.result ≡ max c.args.layout.now.align.abi c.align.result = grind (arith, common_steps) in
    omega (arith, own, greater_of, c.align.ensures, c.requires.align)

pub round_up-whole-requires-clause-align : goal.round_up-whole-requires-clause-align
round_up-whole-requires-clause-align g c =
    let own : integer_align c.args.dl.now c.args.asked ≤ 29 = integer_small c.args.dl.now c.args.asked c.requires.data_layout in
    let greater_of : c.max-align.result ≡ max c.args.layout.now.align.abi c.align.result = grind (arith, common_steps) in
    omega (arith, own, greater_of, c.align.ensures, c.requires.align)
