use Rattle.std.proofs.Common.{Ok, ap, sym, ◌∙◌}
use Rattle.std.proofs.lemmas.Result.{IfOk-weaker}
use Rattle.rustc_abi.specs.Laying.{one_scalar, unless}
use Rattle.rustc_abi.proofs.Faults.FaultLemmas.{faultless}
use Rattle.rustc_abi.proofs.Values.ScalarLemmas.{Fits-scalar}
use Rattle.rustc_abi.proofs.Trees.LayLemmas.{IsAdded-put}
use Rattle.rustc_abi.proofs.Sizes.CountLemmas.{both_ok, own_put}
use Rattle.rustc_abi.proofs.lay_scalar.add_scalar.Goals as goal

pub returns-in-None-clause-ok : goal.returns-in-None-clause-ok
returns-in-None-clause-ok c =
    let dl = c.args.dl.now in
    let none = sym c.scalar_fault.ensures ∙ c.in-None.is in
    IfOk-weaker c.add_faultless_scalar.result _ _
    (λ i put. IsAdded-put dl _ _ i _ _ put (sym (ap (λ fault. unless fault (Ok (one_scalar dl c.args.value))) none))
    (Fits-scalar dl c.args.value (faultless dl c.args.value none) c.add_faultless_scalar.ensures.lawful))
    c.add_faultless_scalar.ensures.ok

pub returns-in-None-clause-own : goal.returns-in-None-clause-own
returns-in-None-clause-own c =
    both_ok c.add_faultless_scalar.result _ _ _ c.add_faultless_scalar.ensures.ok c.add_faultless_scalar.ensures.count
    (λ i put count. own_put c.args.nodes.now c.args.nodes.now c.add_faultless_scalar.new.nodes i _ put count)
