use Rattle.std.proofs.Common.{sym, subst, IsTrue}
use Rattle.abi_scalar.specs.declared.scalar.Scalar.{Scalar}
use Rattle.abi_scalar.specs.Scalar.{IsAlwaysValid}
use Rattle.abi_scalar.proofs.scalar.Scalar.is_always_valid.Goals as goal

pub returns-in-Initialized : goal.returns-in-Initialized
returns-in-Initialized g c =
    let dl = g.C.HasDataLayout.target c.args.cx.now in
    let P : Scalar → Type 0 = λ s. (IsTrue c.is_full_for.result → IsAlwaysValid dl s) × (IsAlwaysValid dl s → IsTrue c.is_full_for.result) in
    subst P (sym c.in-Initialized.is) (rw c.size.ensures at c.is_full_for.ensures)
