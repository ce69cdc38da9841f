-- What is told is meant under the sizes that are known then.
use Rattle.std.proofs.Common.{◌≡◌, Err, rules}
use Rattle.abi_rust.specs.Sizes.{none}
use Rattle.abi_rust.specs.declared.fault.Stop.TheVariants.{Fault}
use Rattle.abi_rust.proofs.KnownSizes.{report_meant, report_over}
use Rattle.abi_rust.proofs.report.report_on_sized.Goals as goal

pub returns-in_err-await_size : goal.returns-in_err-await_size
returns-in_err-await_size c = λ m is asks.
    report_over c.args.cx.now m c.args.subject c.args.file c.in_err-await_size.field-0.0 c.from_residual.result asks c.in_err-await_size.ensures c.from_residual.ensures.1

pub loop-size-init : goal.loop-size-init
loop-size-init c = λ m is. rw c.new-known.ensures.items none

pub returns-in_err-measure-in-Some : goal.returns-in_err-measure-in-Some
returns-in_err-measure-in-Some c = λ m is asks.
    report_over c.args.cx.now m c.args.subject c.args.file c.in_err-measure-in-Some.field-0.0 c.from_residual-in_err-measure-in-Some.result asks
    c.in_err-measure-in-Some.ensures.err c.from_residual-in_err-measure-in-Some.ensures.1

pub returns-in-Err-Fault : goal.returns-in-Err-Fault
returns-in-Err-Fault c = λ m is asks.
    let found : c.attempt_under.result ≡ Err (Fault c.in-Err-Fault.at c.in-Err-Fault.kind) = search (rules, c.in-Err-Fault) in
    report_meant c.args.cx.now m c.loop-size.known.items c.args.subject c.args.file c.attempt_under.result (Err (Fault c.in-Err-Fault.at c.in-Err-Fault.kind)) (c.loop-size.invariant m is) (c.attempt_under.ensures m is) found (λ q. search rules)

pub returns-in-Ok : goal.returns-in-Ok
returns-in-Ok c = λ m is asks.
    report_meant c.args.cx.now m c.loop-size.known.items c.args.subject c.args.file c.attempt_under.result _ (c.loop-size.invariant m is) (c.attempt_under.ensures m is) c.in-Ok.is (λ q. search rules)
