use Rattle.std.proofs.Common.{rules, arith, ◌<◌, ◌∙◌, length, sym}
use Rattle.std.proofs.lemmas.List.{get_or_default}
use Rattle.abi_univariant.specs.Placement.{no_part}
use Rattle.abi_univariant.proofs.Views.ViewLemmas.{one_read, one_within, two_read, two_within}
use Rattle.abi_univariant.proofs.list_view.bulky_view.Goals as goal

pub offset_bounds-offsets-i : goal.offset_bounds-offsets-i
offset_bounds-offsets-i g c = let there : c.in-One.i < length c.args.offsets.now = omega (arith, one_within c.args.parts.now c.in-One.i (sym c.in-One.is ∙ c.requires.bulk), c.requires.count) in search rules

pub bounds-offsets-i : goal.bounds-offsets-i
bounds-offsets-i g c = let there : c.in-One.i < length c.args.offsets.now = omega (arith, one_within c.args.parts.now c.in-One.i (sym c.in-One.is ∙ c.requires.bulk), c.requires.count) in there

pub at-requires : goal.at-requires
at-requires g c = one_within c.args.parts.now c.in-One.i (sym c.in-One.is ∙ c.requires.bulk)

pub at-one-requires : goal.at-one-requires
at-one-requires g c = (two_within c.args.parts.now c.in-Two.i c.in-Two.j (sym c.in-Two.is ∙ c.requires.bulk)).0

pub at-other-requires : goal.at-other-requires
at-other-requires g c = (two_within c.args.parts.now c.in-Two.i c.in-Two.j (sym c.in-Two.is ∙ c.requires.bulk)).1

pub offset_bounds-offsets-i-in-Two : goal.offset_bounds-offsets-i-in-Two
offset_bounds-offsets-i-in-Two g c = let there : c.in-Two.i < length c.args.offsets.now = omega (arith, (two_within c.args.parts.now c.in-Two.i c.in-Two.j (sym c.in-Two.is ∙ c.requires.bulk)).0, c.requires.count) in search rules

pub bounds-offsets-i-in-Two : goal.bounds-offsets-i-in-Two
bounds-offsets-i-in-Two g c = let there : c.in-Two.i < length c.args.offsets.now = omega (arith, (two_within c.args.parts.now c.in-Two.i c.in-Two.j (sym c.in-Two.is ∙ c.requires.bulk)).0, c.requires.count) in there

pub offset_bounds-offsets-j : goal.offset_bounds-offsets-j
offset_bounds-offsets-j g c = let there : c.in-Two.j < length c.args.offsets.now = omega (arith, (two_within c.args.parts.now c.in-Two.i c.in-Two.j (sym c.in-Two.is ∙ c.requires.bulk)).1, c.requires.count) in search rules

pub bounds-offsets-j : goal.bounds-offsets-j
bounds-offsets-j g c = let there : c.in-Two.j < length c.args.offsets.now = omega (arith, (two_within c.args.parts.now c.in-Two.i c.in-Two.j (sym c.in-Two.is ∙ c.requires.bulk)).1, c.requires.count) in there

pub two_view-requires-clause-one : goal.two_view-requires-clause-one
two_view-requires-clause-one g c = rw c.at-one.ensures (c.requires.parts c.in-Two.i no_part ((two_within c.args.parts.now c.in-Two.i c.in-Two.j (sym c.in-Two.is ∙ c.requires.bulk)).0))

pub two_view-requires-clause-other : goal.two_view-requires-clause-other
two_view-requires-clause-other g c = rw c.at-other.ensures (c.requires.parts c.in-Two.j no_part ((two_within c.args.parts.now c.in-Two.i c.in-Two.j (sym c.in-Two.is ∙ c.requires.bulk)).1))

pub returns-in-One : goal.returns-in-One
returns-in-One g c =
    let there : c.in-One.i < length c.args.offsets.now = omega (arith, one_within c.args.parts.now c.in-One.i (sym c.in-One.is ∙ c.requires.bulk), c.requires.count) in
    c.one_view.ensures
    ∙ one_read c.args.dl.now c.args.fixed c.args.size c.args.align c.args.parts.now c.args.offsets.now c.in-One.i c.index-offsets-i.result c.at.result (sym c.in-One.is ∙ c.requires.bulk)
    (c.index-offsets-i.is ∙ get_or_default c.args.offsets.now c.in-One.i c.index-offsets-i.result 0 there) c.at.ensures

pub returns-in-Two : goal.returns-in-Two
returns-in-Two g c =
    let low : c.in-Two.i < length c.args.offsets.now = omega (arith, (two_within c.args.parts.now c.in-Two.i c.in-Two.j (sym c.in-Two.is ∙ c.requires.bulk)).0, c.requires.count) in
    let high : c.in-Two.j < length c.args.offsets.now = omega (arith, (two_within c.args.parts.now c.in-Two.i c.in-Two.j (sym c.in-Two.is ∙ c.requires.bulk)).1, c.requires.count) in
    c.two_view.ensures
    ∙ two_read c.args.dl.now c.args.fixed c.args.size c.args.align c.args.parts.now c.args.offsets.now c.in-Two.i c.in-Two.j c.index-offsets-i-in-Two.result c.index-offsets-j.result c.at-one.result c.at-other.result
    (sym c.in-Two.is ∙ c.requires.bulk)
    (c.index-offsets-i-in-Two.is ∙ get_or_default c.args.offsets.now c.in-Two.i c.index-offsets-i-in-Two.result 0 low)
    (c.index-offsets-j.is ∙ get_or_default c.args.offsets.now c.in-Two.j c.index-offsets-j.result 0 high)
    c.at-one.ensures c.at-other.ensures
