use Rattle.std.proofs.Common.{sym, ap, ◌∙◌, ◌*◌}
use Rattle.abi_base.specs.Integer.{integer_size}
use Rattle.abi_base.specs.IntegerType.{integer_of_type, is_signed_type}
use Rattle.abi_calc.proofs.EnumLemmas.Discriminants.{asked_plain, asked_signed}
use Rattle.abi_calc.proofs.enums.discriminants.discr_range.Goals as goal

pub returns-else-is_signed : goal.returns-else-is_signed
returns-else-is_signed c =
    asked_plain c.args.dl.now c.args.repr.now c.args.values.now _ (ap is_signed_type (sym c.discr_type-discr_type.ensures) ∙ sym c.is_signed.ensures ∙ c.if-is_signed.false) c.greatest_of.ensures

pub returns-then-is_signed : goal.returns-then-is_signed
returns-then-is_signed c =
    asked_signed c.args.dl.now c.args.repr.now c.args.values.now _ _ _ (ap is_signed_type (sym c.discr_type-discr_type.ensures) ∙ sym c.is_signed.ensures ∙ c.if-is_signed.true)
    (ap (λ s. s * 8) (c.size.ensures ∙ ap integer_size (c.from_attr.ensures ∙ ap (integer_of_type c.args.dl.now) c.discr_type-discr_type.ensures))) c.signed_ends.ensures.least c.signed_ends.ensures.greatest
