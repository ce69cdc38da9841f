-- What is found under these sources is reported with its place.
use Rattle.std.proofs.Common.{◌∙◌, Err, ap, inr}
use Rattle.abi_rust.specs.Sources.{reported_check}
use Rattle.abi_rust.proofs.sources.Sources.check_names.Goals as goal

pub returns-in-Ok : goal.returns-in-Ok
returns-in-Ok c = λ small. inr (c.context_over-cx.result, c.context_over-cx.ensures c.in-Some.is, ap (reported_check c.args.self.now) (c.in-Ok.ensures small))

pub returns-in-Err : goal.returns-in-Err
returns-in-Err c = λ small.
    inr (c.context_over-cx.result, c.context_over-cx.ensures c.in-Some.is, ap Err c.fault.ensures ∙ ap (reported_check c.args.self.now) (c.in-Err.ensures small))
