use Rattle.std.proofs.Common.{rules, refl, map, ◌≡◌, arith}
use Rattle.abi_univariant.specs.Union.{union_align}
use Rattle.abi_univariant.proofs.Offsets.Rounding.{round_fits}
use Rattle.abi_univariant.proofs.UnionsVectors.UnionLawful.{greatest_size_small, union_align_small, union_is_lawful}
use Rattle.abi_univariant.proofs.unions.layout_of_union.Goals as goal

pub align_to-size-requires-clause-shift : goal.align_to-size-requires-clause-shift
align_to-size-requires-clause-shift g c =
    let dl = c.args.dl.now in
    let small = union_align_small g.F.LayoutHandle.layout_of dl c.args.repr.now c.args.fields.now c.requires.data_layout c.requires.fields c.requires.align in
    let is : c.raised_align-align.result ≡ union_align dl c.args.repr.now (map g.F.LayoutHandle.layout_of c.args.fields.now) = search rules in
    omega (arith, small)

pub align_to-size-requires-clause-fits : goal.align_to-size-requires-clause-fits
align_to-size-requires-clause-fits g c =
    let dl = c.args.dl.now in
    let small = union_align_small g.F.LayoutHandle.layout_of dl c.args.repr.now c.args.fields.now c.requires.data_layout c.requires.fields c.requires.align in
    let is : c.raised_align-align.result ≡ union_align dl c.args.repr.now (map g.F.LayoutHandle.layout_of c.args.fields.now) = search rules in
    let size = greatest_size_small g.F.LayoutHandle.layout_of dl c.args.fields.now c.requires.data_layout c.requires.fields in
    round_fits c.greatest_size.result c.raised_align-align.result (omega (arith, small)) (omega (arith, size, c.greatest_size.ensures))

pub returns-clause-lawful : goal.returns-clause-lawful
returns-clause-lawful g c =
    let dl = c.args.dl.now in
    union_is_lawful g.F.LayoutHandle.layout_of dl c.args.repr.now c.args.fields.now _ c.new-2.result c.requires.data_layout c.requires.fields c.requires.align
    (search rules) (search rules) (search rules) refl refl (search rules)
