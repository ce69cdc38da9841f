-- Scalars without a fault are lawful, and so is their layout, whose size is below the bound.
use Rattle.std.proofs.Common.{◌∙◌, ap, arith, sym}
use Rattle.abi_scalar.proofs.ReadableLemmas.{lawful_readable}
use Rattle.rustc_abi.proofs.Faults.FaultLemmas.{faultless}
use Rattle.rustc_abi.proofs.lay_scalar.lay_two.Goals as goal

pub scalar_pair-layout-requires-clause-first : goal.scalar_pair-layout-requires-clause-first
scalar_pair-layout-requires-clause-first c =
    lawful_readable c.args.cx.dl.now c.args.a (faultless c.args.cx.dl.now c.args.a (sym c.scalar_fault.ensures ∙ c.in_default.is))

pub scalar_pair-layout-requires-clause-second : goal.scalar_pair-layout-requires-clause-second
scalar_pair-layout-requires-clause-second c =
    lawful_readable c.args.cx.dl.now c.args.b (faultless c.args.cx.dl.now c.args.b (sym c.scalar_fault-2.ensures ∙ c.in_default-scalar_fault.is))

pub returns-then-bytes-obj_size_bound-clause-lawful : goal.returns-then-bytes-obj_size_bound-clause-lawful
returns-then-bytes-obj_size_bound-clause-lawful c =
    let dl = c.args.cx.dl.now in
    let a = faultless dl c.args.a (sym c.scalar_fault.ensures ∙ c.in_default.is) in
    let b = faultless dl c.args.b (sym c.scalar_fault-2.ensures ∙ c.in_default-scalar_fault.is) in
    let size = ap (λ l. l.size) c.scalar_pair-layout.ensures.exact in
    c.scalar_pair-layout.ensures.lawful a b (omega (arith, size, c.if-bytes-obj_size_bound.true, c.bytes.ensures, c.obj_size_bound.ensures))
