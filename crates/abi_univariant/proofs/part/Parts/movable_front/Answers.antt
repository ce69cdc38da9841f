use Rattle.std.proofs.Common.{◌∙◌, ap, map, subst, sym}
use Rattle.std.specs.Prelude.{All}
use Rattle.abi_scalar.specs.Lawful.{IsLawfulLayout}
use Rattle.abi_univariant.specs.Order.{movable_front}
use Rattle.abi_univariant.specs.Part.{part_of}
use Rattle.abi_univariant.proofs.Layouts.ListLemmas.{movable_front-map}
use Rattle.abi_univariant.proofs.Sorted.Sorting.{movable_all}
use Rattle.abi_univariant.proofs.part.Parts.movable_front.Goals as goal

pub invariant_of-result : goal.invariant_of-result
invariant_of-result g c =
    subst (All (λ f. IsLawfulLayout c.self.inside.dl.now (g.F.LayoutHandle.layout_of f))) (sym c.movable_front.ensures)
    (movable_all (λ f. IsLawfulLayout c.self.inside.dl.now (g.F.LayoutHandle.layout_of f)) c.args.kind c.self.inside.fields.now c.self.invariant)

pub returns : goal.returns
returns g c =
    ap (λ fs. map (λ f. part_of c.self.inside.dl.now f) (map g.F.LayoutHandle.layout_of fs)) c.movable_front.ensures
    ∙ ap (map (λ f. part_of c.self.inside.dl.now f)) (movable_front-map g.F.LayoutHandle.layout_of c.args.kind c.self.inside.fields.now)
    ∙ movable_front-map (λ f. part_of c.self.inside.dl.now f) c.args.kind (map g.F.LayoutHandle.layout_of c.self.inside.fields.now)
    ∙ ap (movable_front c.args.kind) c.self.view_is
