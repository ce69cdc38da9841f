-- What is told at once is meant where no size is known.
use Rattle.std.proofs.Common.{◌≡◌, [], Err, rules}
use Rattle.abi_rust.specs.Sizes.{none}
use Rattle.abi_rust.specs.declared.fault.Stop.TheVariants.{Fault}
use Rattle.abi_rust.proofs.KnownSizes.{alone, report_meant}
use Rattle.abi_rust.proofs.report.report_on.Goals as goal

pub returns-in-Err-Fault-clause-report : goal.returns-in-Err-Fault-clause-report
returns-in-Err-Fault-clause-report c = λ m is empty.
    let found : c.attempt.result ≡ Err (Fault c.in-Err-Fault.at c.in-Err-Fault.kind) = search (rules, c.in-Err-Fault) in
    report_meant c.args.cx.now m [] c.args.subject c.args.file c.attempt.result (Err (Fault c.in-Err-Fault.at c.in-Err-Fault.kind)) none
    (alone c.args.cx.now m c.args.subject c.args.file c.attempt.result empty (c.attempt.ensures m is)) found (λ q. search rules)

pub returns-clause-report : goal.returns-clause-report
returns-clause-report c = λ m is empty.
    report_meant c.args.cx.now m [] c.args.subject c.args.file c.attempt.result _ none
    (alone c.args.cx.now m c.args.subject c.args.file c.attempt.result empty (c.attempt.ensures m is)) c.in-Ok.is (λ q. search rules)
