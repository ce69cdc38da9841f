-- What is found is right under the sizes before it.
use Rattle.abi_rust.proofs.KnownSizes.{on_ok, one_more}
use Rattle.abi_rust.proofs.report.measure.Goals as goal

pub returns-in_default-clause-ok : goal.returns-in_default-clause-ok
returns-in_default-clause-ok c =
    on_ok c.note.result
    (λ noted m is sizes. one_more c.args.cx.now m c.args.known.now.items c.note.new.known.items c.args.request c.size_under-found.result (c.size_under-found.ensures m is) noted sizes)
    c.note.ensures.ok
