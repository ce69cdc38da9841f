-- A state as a value.
use Rattle.std.proofs.Common.{ℕ, ap, ◌∙◌}
use Rattle.abi_tree.specs.Value.{state, value_of, values_of}
use Rattle.guarantees.proofs.Held.{value_of-State}
use Rattle.guarantees.proofs.debugger.parts.locals_of.Goals as goal

pub returns-then-state-wanted : goal.returns-then-state-wanted
returns-then-state-wanted c =
    let ps = values_of c.in-State._prefix.items in
    let vs = values_of c.in-State.locals.items in
    (ps, ap value_of c.in-State.is ∙ value_of-State c.in-State.state c.in-State._prefix c.in-State.locals ∙ ap (λ (i : ℕ). state i ps vs) c.if-state-wanted.true)
