use Rattle.std.proofs.Common.{rules, refl}
use Rattle.std.specs.Option.{option_copied}
use Rattle.abi_base.specs.DataLayoutSpec.{aligned_spec, alignment_in, spec_parts_left, setting_in}
use Rattle.abi_base.proofs.Specs.{refused}
use Rattle.abi_base.proofs.parse_spec.aligned_spec.Goals as goal

pub returns-in_err-align : goal.returns-in_err-align
unfolding setting_in
returns-in_err-align c =
    refused (alignment_in (spec_parts_left 58 (option_copied c.args.parts)) c.args.word.now) (setting_in (aligned_spec c.args.named c.args.word.now (spec_parts_left 58 (option_copied c.args.parts)))) c.in_err-align.field-0.0 c.from_residual.result c.in_err-align.ensures (λ f is. rw is refl) (search rules)

pub returns : goal.returns
unfolding setting_in
returns c =
    rw c.in_ok-align.ensures refl
