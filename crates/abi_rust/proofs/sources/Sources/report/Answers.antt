-- What is told is meant by work over the sources.
use Rattle.std.proofs.Common.{Err, Ok, inr}
use Rattle.abi_rust.proofs.Meant.{meant_by}
use Rattle.abi_rust.proofs.sources.Sources.report.Goals as goal

pub returns-in-Ok : goal.returns-in-Ok
returns-in-Ok c = λ m is.
    let over = c.context_over-cx.ensures c.in-Some.is in
    inr (c.context_over-cx.result, over, meant_by c.args.self.now c.args.dl.now m c.context_over-cx.result c.args.subject (Ok c.in-Ok.found) is over c.in-Ok.ensures.exact c.in-Ok.ensures.report)

pub returns-in-Err : goal.returns-in-Err
returns-in-Err c = λ m is.
    let over = c.context_over-cx.ensures c.in-Some.is in
    inr (c.context_over-cx.result, over, (c.in-Err.stop, c.fault.ensures, meant_by c.args.self.now c.args.dl.now m c.context_over-cx.result c.args.subject (Err c.in-Err.stop) is over c.in-Err.ensures.exact c.in-Err.ensures.report))
