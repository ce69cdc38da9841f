-- The fields of the state's list are lawful, and its list's layout is what it is told to be.
use Rattle.std.proofs.Common.{map}
use Rattle.abi_scalar.specs.Lawful.{IsLawfulLayout}
use Rattle.abi_calc.specs.Coroutine.Lists.{default_repr, own_list, own_of}
use Rattle.abi_calc.proofs.CoroutineLemmas.Lists.{all_picked, same_error}
use Rattle.abi_calc.proofs.calculator.LayoutCalculator.list_of_own.Goals as goal

pub list_of_variant-requires-clause-fields : goal.list_of_variant-requires-clause-fields
list_of_variant-requires-clause-fields g c =
    rw c.in_ok-fields.ensures
    (all_picked (λ f. IsLawfulLayout (g.Cx.HasDataLayout.target c.args.self.now.cx) (g.F.LayoutHandle.layout_of f)) c.args.locals.now (own_of c.args.promoted.now (map g.LocalIdx.Idx.number c.args.state.now)) c.requires.locals)

pub returns-clause-fault : goal.returns-clause-fault
returns-clause-fault g c =
    same_error g.F.LayoutHandle.layout_of (g.Cx.HasDataLayout.target c.args.self.now.cx) c.args.kind.now c.default_repr.result default_repr c.in_ok-fields.fields
    (own_list c.args.locals.now c.args.promoted.now (map g.LocalIdx.Idx.number c.args.state.now)) c.list_of_variant.result c.default_repr.ensures c.in_ok-fields.ensures c.list_of_variant.ensures.fault
