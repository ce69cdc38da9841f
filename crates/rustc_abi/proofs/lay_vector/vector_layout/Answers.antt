use Rattle.std.proofs.Common.{sym, subst}
use Rattle.abi_scalar.specs.Lawful.{IsLawfulLayout}
use Rattle.rustc_abi.proofs.Trees.ListLemmas.{passed_on}
use Rattle.rustc_abi.proofs.Unions.CalcLemmas.{simd_ok, simd_err}
use Rattle.rustc_abi.proofs.lay_vector.vector_layout.Goals as goal

pub layout_of_simd_type-answer-requires-clause-element : goal.layout_of_simd_type-answer-requires-clause-element
layout_of_simd_type-answer-requires-clause-element c =
    rw c.new.ensures (subst (IsLawfulLayout c.args.cx.dl.now) (sym c.layout.ensures) c.requires.lawful)

pub returns-clause-ok : goal.returns-clause-ok
returns-clause-ok c =
    let exact = rw c.new.ensures at c.in_ok-answer.ensures.exact in
    simd_ok (λ r. r.now) c.args.cx.dl.now c.layout.result _ c.args.lanes c.args.packed _ c.layout.ensures exact

pub returns-in_err-answer-clause-err : goal.returns-in_err-answer-clause-err
returns-in_err-answer-clause-err c =
    let exact = rw c.new.ensures at c.in_err-answer.ensures.exact in
    passed_on _ _ _ c.from_residual.ensures.1 (simd_err (λ r. r.now) c.args.cx.dl.now c.layout.result _ c.args.lanes c.args.packed _ c.layout.ensures exact)
