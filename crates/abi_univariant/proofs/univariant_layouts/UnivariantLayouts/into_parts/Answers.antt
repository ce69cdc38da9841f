use Rattle.std.proofs.Common.{◌∙◌, ap, map}
use Rattle.abi_scalar.specs.Variant.{variant_of}
use Rattle.abi_univariant.proofs.Layouts.ListLayoutsLemmas.{kept_aligns, kept_variants}
use Rattle.abi_univariant.proofs.univariant_layouts.UnivariantLayouts.into_parts.Goals as goal

pub returns-clause-variants : goal.returns-clause-variants
returns-clause-variants g c =
    kept_variants c.self.inside.variants.items c.self.inside.rests.items c.self.invariant.0 ∙ ap (map variant_of) c.self.view_is

pub returns-clause-aligns : goal.returns-clause-aligns
returns-clause-aligns g c =
    kept_aligns c.self.inside.variants.items c.self.inside.rests.items c.self.invariant.0 ∙ ap (map (λ l. l.align.abi)) c.self.view_is
