use Rattle.std.proofs.Common.{rules, refl, Ok, ap, sym, codes}
use Rattle.abi_base.specs.DataLayoutSpec.{bits_in, size_written}
use Rattle.abi_base.proofs.Specs.{refused}
use Rattle.abi_base.proofs.parse_spec.size.Goals as goal

pub returns-in_err-bits : goal.returns-in_err-bits
unfolding size_written
returns-in_err-bits c = refused (bits_in (codes "size") c.args.text.now c.args.cause.now) (size_written c.args.text.now c.args.cause.now) c.in_err-bits.field-0.0 c.from_residual.result c.in_err-bits.ensures (λ f is. rw is refl) (search rules)

pub returns : goal.returns
unfolding size_written
returns c = rw c.in_ok-bits.ensures (ap Ok (sym c.from_bits.ensures))
