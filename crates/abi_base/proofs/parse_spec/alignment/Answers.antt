use Rattle.std.proofs.Common.{◌≡◌, ◌∷◌, ◌∙◌, rules, refl, codes}
use Rattle.std.specs.Option.{option_copied}
use Rattle.abi_base.specs.DataLayoutSpec.{alignment_in, bits_in, spec_parts_left}
use Rattle.abi_base.proofs.Parts.{left_next}
use Rattle.abi_base.proofs.Specs.{alignment_first, refused}
use Rattle.abi_base.proofs.parse_spec.alignment.Goals as goal

pub returns-in_default : goal.returns-in_default
unfolding alignment_in
returns-in_default c =
    rw c.in_default.is refl

pub returns-in_err-bits : goal.returns-in_err-bits
returns-in_err-bits c =
    let parts : spec_parts_left 58 (option_copied c.args.parts) ≡ c.split_at_mark.result.0.now ∷ spec_parts_left 58 (option_copied c.split_at_mark.result.1) = left_next 58 c.args.parts c.in-Some.parts c.split_at_mark.result.0.now (spec_parts_left 58 (option_copied c.split_at_mark.result.1)) c.in-Some.is c.split_at_mark.ensures.parts in
    refused (bits_in (codes "alignment") c.split_at_mark.result.0.now c.args.cause.now) (alignment_in (spec_parts_left 58 (option_copied c.args.parts)) c.args.cause.now) c.in_err-bits.field-0.0 c.from_residual.result c.in_err-bits.ensures (λ f is. alignment_first (spec_parts_left 58 (option_copied c.args.parts)) c.split_at_mark.result.0.now (spec_parts_left 58 (option_copied c.split_at_mark.result.1)) c.args.cause.now parts ∙ rw is refl) (search rules)

pub returns-in-Ok : goal.returns-in-Ok
returns-in-Ok c =
    let parts : spec_parts_left 58 (option_copied c.args.parts) ≡ c.split_at_mark.result.0.now ∷ spec_parts_left 58 (option_copied c.split_at_mark.result.1) = left_next 58 c.args.parts c.in-Some.parts c.split_at_mark.result.0.now (spec_parts_left 58 (option_copied c.split_at_mark.result.1)) c.in-Some.is c.split_at_mark.ensures.parts in
    alignment_first (spec_parts_left 58 (option_copied c.args.parts)) c.split_at_mark.result.0.now (spec_parts_left 58 (option_copied c.split_at_mark.result.1)) c.args.cause.now parts ∙ rw (c.in_ok-bits.ensures, ← c.in-Ok.ensures) refl

pub returns-in-Err : goal.returns-in-Err
returns-in-Err c =
    let parts : spec_parts_left 58 (option_copied c.args.parts) ≡ c.split_at_mark.result.0.now ∷ spec_parts_left 58 (option_copied c.split_at_mark.result.1) = left_next 58 c.args.parts c.in-Some.parts c.split_at_mark.result.0.now (spec_parts_left 58 (option_copied c.split_at_mark.result.1)) c.in-Some.is c.split_at_mark.ensures.parts in
    alignment_first (spec_parts_left 58 (option_copied c.args.parts)) c.split_at_mark.result.0.now (spec_parts_left 58 (option_copied c.split_at_mark.result.1)) c.args.cause.now parts ∙ rw (c.in_ok-bits.ensures, ← c.in-Err.ensures) refl
