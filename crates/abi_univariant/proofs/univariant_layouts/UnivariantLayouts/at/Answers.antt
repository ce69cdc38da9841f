use Rattle.std.proofs.Common.{◌∙◌, ap, arith, length, sym}
use Rattle.std.specs.Prelude.{Some, slice_get}
use Rattle.abi_univariant.proofs.Layouts.ListLayoutsLemmas.{list_there, lists_count}
use Rattle.abi_univariant.proofs.univariant_layouts.UnivariantLayouts.at.Goals as goal

pub index-requires : goal.index-requires
index-requires g c =
    let count = lists_count c.self.inside.variants.items c.self.inside.rests.items c.self.invariant.0 in
    omega (arith, count, c.requires, ap length c.self.view_is, c.self.invariant.0)

pub index-requires-2 : goal.index-requires-2
index-requires-2 g c =
    let count = lists_count c.self.inside.variants.items c.self.inside.rests.items c.self.invariant.0 in
    omega (arith, count, c.requires, ap length c.self.view_is)

pub returns : goal.returns
returns g c =
    let count = lists_count c.self.inside.variants.items c.self.inside.rests.items c.self.invariant.0 in
    ap (λ lists. slice_get lists c.args.index) (sym c.self.view_is)
    ∙ list_there c.self.inside.variants.items c.self.inside.rests.items c.args.index c.index.result.now c.index-2.result.now c.self.invariant.0 (omega (arith, count, c.requires, ap length c.self.view_is)) c.index.ensures c.index-2.ensures
    ∙ ap (λ list. Some list) (sym c.new.ensures)
