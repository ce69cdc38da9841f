-- The better of both, or the one with a tag, where there is no other.
use Rattle.std.proofs.Common.{inr, refl}
use Rattle.std.specs.Prelude.{None, Some}
use Rattle.abi_calc.proofs.EnumLemmas.Several.{found_niche}
use Rattle.abi_calc.proofs.calculator.LayoutCalculator.layout_beside_tag.Goals as goal

pub preferred_layout-requires-clause-niche : goal.preferred_layout-requires-clause-niche
preferred_layout-requires-clause-niche g c =
    rw c.data_layout.ensures (found_niche g.F.LayoutHandle.layout_of g.FieldIdx.Idx.at g.VariantIdx.Idx.at g.VariantIdx.Idx.number (g.Cx.HasDataLayout.target c.args.self.now.cx) c.args.repr.now c.args.variants.now
    (Some c.in-Ok-Some.niche) (rw c.in-Ok-Some.field-0-is at c.in-Ok-Some.ensures.good))

pub returns-in-Ok-Some : goal.returns-in-Ok-Some
returns-in-Ok-Some g c =
    record { exact = inr (Some c.in-Ok-Some.niche, rw c.in-Ok-Some.field-0-is at c.in-Ok-Some.ensures.exact, rw (c.preferred_layout.ensures, c.data_layout.ensures) refl) }

pub returns-in-Ok-None : goal.returns-in-Ok-None
returns-in-Ok-None g c = record { exact = inr (None, rw c.in-Ok-None.field-0-is at c.in-Ok-None.ensures.exact, refl) }
