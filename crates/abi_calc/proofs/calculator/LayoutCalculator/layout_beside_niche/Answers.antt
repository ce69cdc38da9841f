-- Where sums tell it, the layout with a niche is the better one.
use Rattle.std.proofs.Common.{◌≡◌, ◌∙◌, inr, map, refl, subst, sym, true}
use Rattle.std.specs.Prelude.{Ok, Some}
use Rattle.abi_calc.specs.Enums.Bounds.{wins}
use Rattle.abi_calc.proofs.EnumLemmas.Bounds.{niche_small, wins_answer}
use Rattle.abi_calc.proofs.EnumLemmas.Several.{found_niche}
use Rattle.abi_calc.proofs.calculator.LayoutCalculator.layout_beside_niche.Goals as goal

pub wins-requires-clause-niche : goal.wins-requires-clause-niche
wins-requires-clause-niche g c =
    rw c.data_layout-dl.ensures (found_niche g.F.LayoutHandle.layout_of g.FieldIdx.Idx.at g.VariantIdx.Idx.at g.VariantIdx.Idx.number (g.Cx.HasDataLayout.target c.args.self.now.cx) c.args.repr.now c.args.variants.now
    (Some c.args.niche) c.requires.niche)

pub wins-requires-clause-align : goal.wins-requires-clause-align
wins-requires-clause-align g c =
    (niche_small g.F.LayoutHandle.layout_of g.FieldIdx.Idx.at g.VariantIdx.Idx.at (g.Cx.HasDataLayout.target c.args.self.now.cx) c.args.repr.now c.args.variants.now c.args.niche c.requires.data_layout c.requires.niche).1

pub wins-requires-clause-size : goal.wins-requires-clause-size
wins-requires-clause-size g c =
    (niche_small g.F.LayoutHandle.layout_of g.FieldIdx.Idx.at g.VariantIdx.Idx.at (g.Cx.HasDataLayout.target c.args.self.now.cx) c.args.repr.now c.args.variants.now c.args.niche c.requires.data_layout c.requires.niche).0

pub returns-then-wins : goal.returns-then-wins
returns-then-wins g c =
    let won = subst (λ d. wins d c.args.tag.integer c.args.niche (map (map g.F.LayoutHandle.layout_of) c.args.variants.now) ≡ true) c.data_layout-dl.ensures (sym c.wins.ensures ∙ c.if-wins.true) in
    record {
      exact = inr (wins_answer g.F.LayoutHandle.layout_of g.FieldIdx.Idx.at g.VariantIdx.Idx.at (g.Cx.HasDataLayout.target c.args.self.now.cx) c.args.repr.now c.args.variants.now g.FieldIdx.Idx.number c.requires.data_layout
          c.args.tag.integer c.args.tag.is_signed c.args.tag.values.now c.requires.repr c.requires.fields c.requires.some c.requires.unpacked g.FieldIdx.Idx.MAX_INDEX g.met.FieldIdx.Idx.number_at c.requires.within c.args.niche c.requires.niche won);
    }

pub preferred_layout-requires-clause-niche : goal.preferred_layout-requires-clause-niche
preferred_layout-requires-clause-niche g c =
    rw c.data_layout-dl.ensures (found_niche g.F.LayoutHandle.layout_of g.FieldIdx.Idx.at g.VariantIdx.Idx.at g.VariantIdx.Idx.number (g.Cx.HasDataLayout.target c.args.self.now.cx) c.args.repr.now c.args.variants.now
    (Some c.args.niche) c.requires.niche)

pub returns-in-Ok : goal.returns-in-Ok
returns-in-Ok g c = record { exact = inr (Ok c.in-Ok.tagged, c.in-Ok.ensures.exact, rw (c.preferred_layout.ensures, c.data_layout-dl.ensures) refl) }
