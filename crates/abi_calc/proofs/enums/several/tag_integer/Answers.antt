-- The ends are those of what the discriminants stand for.
use Rattle.std.proofs.Common.{subst}
use Rattle.std.proofs.Common.{rules}
use Rattle.std.proofs.lemmas.Int.{to_z-of_z}
use Rattle.std.specs.Int.{w128}
use Rattle.abi_calc.proofs.enums.several.tag_integer.Goals as goal

pub returns : goal.returns
returns g c = (
  c.discr_range-asked.result.least,
  c.discr_range-asked.result.greatest,
  c.discr_range-asked.ensures,
  subst (λ z. g.D.Fn.post c.args.discr_range_of_repr (record { start = z }, (record { last = c.discr_range-asked.result.greatest }, tt)) c.discr_range_of_repr.result)
      (to_z-of_z w128 c.discr_range-asked.result.least (search rules)) c.discr_range_of_repr.ensures,
)
