-- The layout has what its parts are told to be.
use Rattle.std.proofs.Common.{◌∙◌, ap, arith, max, refl}
use Rattle.abi_scalar.specs.Scalar.{primitive_of, scalar_size}
use Rattle.abi_scalar.proofs.ReadableLemmas.{lawful_readable}
use Rattle.abi_univariant.specs.Fields.{greater_of}
use Rattle.abi_univariant.proofs.Views.NicheLemmas.{readable_size}
use Rattle.abi_calc.specs.Enums.Tagged.{layout_with_view}
use Rattle.abi_calc.proofs.EnumLemmas.Tagged.{same_parts}
use Rattle.abi_calc.proofs.enums.tagged.layout_with_view.Goals as goal

pub size-requires : goal.size-requires
size-requires g c = (readable_size c.args.dl.now (primitive_of c.args.tag) c.requires.tag.pointer).0

pub from_scalar-requires : goal.from_scalar-requires
from_scalar-requires g c = lawful_readable c.args.dl.now c.args.tag c.requires.tag

pub returns : goal.returns
returns g c =
    same_parts _ (layout_with_view (g.FieldIdx.Idx.at 0) c.args.dl.now c.args.repr.now c.args.old c.args.tag (scalar_size c.args.dl.now c.args.tag) c.args.lists c.args.whole.view)
    (rw (c.one.ensures, c.one-2.ensures, c.new-first.ensures) refl)
    (rw (c.new-first.ensures, c.in_ok-variants.ensures, c.size.ensures, c.requires.size) refl)
    refl
    c.from_scalar.ensures.exact
    (ap (λ o. o.uninhabited) c.summary-summary.ensures)
    (ap (λ a. record { abi = a }) (c.new.ensures ∙ c.requires.align))
    c.requires.size
    (c.max_repr_align_with-max_repr_align.ensures ∙ ap (λ o. greater_of c.args.repr.now.align o.max_repr_align) c.summary-summary.ensures)
    (c.unadjusted_align_with-unadjusted_abi_align.ensures ∙ ap (λ o. max c.args.dl.now.aggregate_align o.unadjusted_abi_align) c.summary-summary.ensures)
    c.c.ensures
    (omega (arith, c.seed_with-randomization_seed.ensures, ap (λ o. o.randomization_seed) c.summary-summary.ensures))
