use Rattle.std.proofs.Common.{rules, arith, ◌≡◌, ◌≤◌, ◌<◌, ◌+◌, ◌^◌, max}
use Rattle.std.specs.Int.{next_multiple_of}
use Rattle.abi_univariant.proofs.Views.Lawful.{aggregate_small}
use Rattle.abi_univariant.proofs.Offsets.Rounding.{round_below, round_fits}
use Rattle.abi_univariant.proofs.Views.ViewLemmas.{scalar_small}
use Rattle.abi_univariant.proofs.list_view.pair_view.Goals as goal

pub align_to-b_offset-requires-clause-shift : goal.align_to-b_offset-requires-clause-shift
align_to-b_offset-requires-clause-shift c =
    let b = scalar_small c.args.dl.now c.args.b c.requires.data_layout c.requires.second in
    omega (arith, c.default_align.ensures, b.align)

pub align_to-b_offset-requires-clause-fits : goal.align_to-b_offset-requires-clause-fits
align_to-b_offset-requires-clause-fits c =
    let a = scalar_small c.args.dl.now c.args.a c.requires.data_layout c.requires.first in
    let b = scalar_small c.args.dl.now c.args.b c.requires.data_layout c.requires.second in
    round_fits c.size.result c.default_align.result (omega (arith, c.default_align.ensures, b.align)) (omega (arith, c.size.ensures, a.most))

pub add-requires : goal.add-requires
add-requires c =
    let a = scalar_small c.args.dl.now c.args.a c.requires.data_layout c.requires.first in
    let b = scalar_small c.args.dl.now c.args.b c.requires.data_layout c.requires.second in
    let near : next_multiple_of c.size.result (2 ^ c.default_align.result) < c.size.result + 2 ^ 29 = round_below c.size.result c.default_align.result 29 (omega (arith, c.default_align.ensures, b.align)) in
    omega (arith, c.align_to-b_offset.ensures, near, c.size.ensures, a.most, c.size-2.ensures, b.most)

pub align_to-pair_size-requires-clause-shift : goal.align_to-pair_size-requires-clause-shift
align_to-pair_size-requires-clause-shift c =
    let a = scalar_small c.args.dl.now c.args.a c.requires.data_layout c.requires.first in
    let b = scalar_small c.args.dl.now c.args.b c.requires.data_layout c.requires.second in
    let outer : c.max-pair_align.result ≡ max c.max.result c.args.dl.now.aggregate_align = search rules in
    let inner : c.max.result ≡ max c.default_align-2.result c.default_align-3.result = search rules in
    omega (arith, outer, inner, c.default_align-2.ensures, c.default_align-3.ensures, a.align, b.align, aggregate_small c.args.dl.now c.requires.data_layout)

pub align_to-pair_size-requires-clause-fits : goal.align_to-pair_size-requires-clause-fits
align_to-pair_size-requires-clause-fits c =
    let a = scalar_small c.args.dl.now c.args.a c.requires.data_layout c.requires.first in
    let b = scalar_small c.args.dl.now c.args.b c.requires.data_layout c.requires.second in
    let near : next_multiple_of c.size.result (2 ^ c.default_align.result) < c.size.result + 2 ^ 29 = round_below c.size.result c.default_align.result 29 (omega (arith, c.default_align.ensures, b.align)) in
    let outer : c.max-pair_align.result ≡ max c.max.result c.args.dl.now.aggregate_align = search rules in
    let inner : c.max.result ≡ max c.default_align-2.result c.default_align-3.result = search rules in
    let aligned : c.max-pair_align.result ≤ 29 = omega (arith, outer, inner, c.default_align-2.ensures, c.default_align-3.ensures, a.align, b.align, aggregate_small c.args.dl.now c.requires.data_layout) in
    round_fits c.add.result c.max-pair_align.result aligned (omega (arith, c.add.ensures, c.align_to-b_offset.ensures, near, c.size.ensures, a.most, c.size-2.ensures, b.most))
