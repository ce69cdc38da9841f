use Rattle.std.proofs.Common.{arith, ◌<◌, ◌∙◌, ap, length}
use Rattle.abi_univariant.specs.ListView.{part_at}
use Rattle.abi_univariant.specs.Part.{part_of}
use Rattle.abi_univariant.proofs.Layouts.ListLemmas.{length-parts}
use Rattle.abi_univariant.proofs.Layouts.PartsLemmas.{part_told}
use Rattle.abi_univariant.proofs.part.Parts.layout_at.Goals as goal

pub field_at-requires : goal.field_at-requires
field_at-requires g c = omega (arith, c.requires, ap length c.self.view_is, length-parts g.F.LayoutHandle.layout_of c.self.inside.dl.now c.self.inside.fields.now)

pub returns-clause-size : goal.returns-clause-size
returns-clause-size g c =
    let within : c.args.index < length c.self.inside.fields.now = omega (arith, c.requires, ap length c.self.view_is, length-parts g.F.LayoutHandle.layout_of c.self.inside.dl.now c.self.inside.fields.now) in
    let told = ap (λ l. part_of c.self.inside.dl.now l) (c.layout.ensures ∙ ap g.F.LayoutHandle.layout_of c.field_at.ensures) ∙ part_told g.F.LayoutHandle.layout_of c.self.inside.dl.now c.self.inside.fields.now c.args.index c.field_at.result.now within
    ∙ ap (λ ps. part_at ps c.args.index) c.self.view_is in
    ap (λ part. part.size) told

pub returns-clause-align : goal.returns-clause-align
returns-clause-align g c =
    let within : c.args.index < length c.self.inside.fields.now = omega (arith, c.requires, ap length c.self.view_is, length-parts g.F.LayoutHandle.layout_of c.self.inside.dl.now c.self.inside.fields.now) in
    let told = ap (λ l. part_of c.self.inside.dl.now l) (c.layout.ensures ∙ ap g.F.LayoutHandle.layout_of c.field_at.ensures) ∙ part_told g.F.LayoutHandle.layout_of c.self.inside.dl.now c.self.inside.fields.now c.args.index c.field_at.result.now within
    ∙ ap (λ ps. part_at ps c.args.index) c.self.view_is in
    ap (λ part. part.align) told

pub returns-clause-view : goal.returns-clause-view
returns-clause-view g c =
    let within : c.args.index < length c.self.inside.fields.now = omega (arith, c.requires, ap length c.self.view_is, length-parts g.F.LayoutHandle.layout_of c.self.inside.dl.now c.self.inside.fields.now) in
    let told = ap (λ l. part_of c.self.inside.dl.now l) (c.layout.ensures ∙ ap g.F.LayoutHandle.layout_of c.field_at.ensures) ∙ part_told g.F.LayoutHandle.layout_of c.self.inside.dl.now c.self.inside.fields.now c.args.index c.field_at.result.now within
    ∙ ap (λ ps. part_at ps c.args.index) c.self.view_is in
    ap (λ part. part.view) told

pub returns-clause-niche : goal.returns-clause-niche
returns-clause-niche g c =
    let within : c.args.index < length c.self.inside.fields.now = omega (arith, c.requires, ap length c.self.view_is, length-parts g.F.LayoutHandle.layout_of c.self.inside.dl.now c.self.inside.fields.now) in
    let told = ap (λ l. part_of c.self.inside.dl.now l) (c.layout.ensures ∙ ap g.F.LayoutHandle.layout_of c.field_at.ensures) ∙ part_told g.F.LayoutHandle.layout_of c.self.inside.dl.now c.self.inside.fields.now c.args.index c.field_at.result.now within
    ∙ ap (λ ps. part_at ps c.args.index) c.self.view_is in
    ap (λ part. part.largest_niche) told
