use Rattle.std.proofs.Common.{rules, arith, ◌<◌, ◌∙◌, ap, length, subst, sym}
use Rattle.abi_scalar.specs.Lawful.{IsLawfulLayout}
use Rattle.abi_univariant.specs.ListView.{part_at}
use Rattle.abi_univariant.specs.Part.{part_of}
use Rattle.abi_univariant.proofs.Layouts.ListLemmas.{length-parts}
use Rattle.abi_univariant.proofs.Layouts.PartsLemmas.{part_told}
use Rattle.abi_univariant.proofs.part.Parts.at.Goals as goal

pub bounds-self-inside-index : goal.bounds-self-inside-index
bounds-self-inside-index g c =
    let within : c.args.index < length c.self.inside.fields.now = omega (arith, c.requires, ap length c.self.view_is, length-parts g.F.LayoutHandle.layout_of c.self.inside.dl.now c.self.inside.fields.now) in
    within

pub offset_bounds-self-inside-index : goal.offset_bounds-self-inside-index
offset_bounds-self-inside-index g c =
    let within : c.args.index < length c.self.inside.fields.now = omega (arith, c.requires, ap length c.self.view_is, length-parts g.F.LayoutHandle.layout_of c.self.inside.dl.now c.self.inside.fields.now) in
    search rules

pub part_of-requires : goal.part_of-requires
part_of-requires g c =
    let within : c.args.index < length c.self.inside.fields.now = omega (arith, c.requires, ap length c.self.view_is, length-parts g.F.LayoutHandle.layout_of c.self.inside.dl.now c.self.inside.fields.now) in
    subst (λ l. IsLawfulLayout c.self.inside.dl.now l) (sym c.layout.ensures) (c.self.invariant c.args.index c.index-self-index.result within)

pub returns : goal.returns
returns g c =
    let within : c.args.index < length c.self.inside.fields.now = omega (arith, c.requires, ap length c.self.view_is, length-parts g.F.LayoutHandle.layout_of c.self.inside.dl.now c.self.inside.fields.now) in
    c.part_of.ensures ∙ ap (λ l. part_of c.self.inside.dl.now l) c.layout.ensures ∙ part_told g.F.LayoutHandle.layout_of c.self.inside.dl.now c.self.inside.fields.now c.args.index c.index-self-index.result within
    ∙ ap (λ ps. part_at ps c.args.index) c.self.view_is
