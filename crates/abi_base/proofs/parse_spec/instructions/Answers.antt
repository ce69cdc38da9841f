use Rattle.std.proofs.Common.{rules, refl, codes}
use Rattle.abi_base.specs.DataLayoutSpec.{instructions, space_in, setting_in}
use Rattle.abi_base.proofs.Specs.{refused}
use Rattle.abi_base.proofs.parse_spec.instructions.Goals as goal

pub returns-in_err-space : goal.returns-in_err-space
unfolding setting_in
returns-in_err-space c =
    refused (space_in c.args.text.now (codes "P")) (setting_in (instructions c.args.text.now)) c.in_err-space.field-0.0 c.from_residual.result c.in_err-space.ensures (λ f is. rw is refl) (search rules)

pub returns : goal.returns
unfolding setting_in
returns c =
    rw c.in_ok-space.ensures refl
