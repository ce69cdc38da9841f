use Rattle.std.proofs.Common.{subst}
use Rattle.abi_types.specs.Homogeneous.{Answers}
use Rattle.abi_types.specs.Uniform.{IsUniform}
use Rattle.abi_types.proofs.UniformWalkLemmas.{only_answer}
use Rattle.abi_types.proofs.ty.interface.TyAndLayout.homogeneous_aggregate.Goals as goal

pub returns-clause-only : goal.returns-clause-only
returns-clause-only g c =
    only_answer (g.Ty.TyAbiInterface.typed_of c.args.self.now) c.uniform.result
    (subst (λ at. Answers c.uniform.result (IsUniform (g.Ty.TyAbiInterface.typed_of at))) c.new.ensures c.uniform.ensures)
