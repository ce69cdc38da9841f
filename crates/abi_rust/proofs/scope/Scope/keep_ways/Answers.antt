-- What is kept of uses is found by the ways that are kept.
use Rattle.abi_rust.specs.Globs.{lists_of}
use Rattle.abi_rust.proofs.ScopeLemmas.{leads_kept}
use Rattle.abi_rust.proofs.scope.Scope.keep_ways.Goals as goal

pub returns-clause-leads : goal.returns-clause-leads
returns-clause-leads c =
    let scope = record c.args.self.now { reached = c.in_ok-self.field-0 } in
    let other = record scope { use_targets = c.in_ok-self-2.field-0 } in
    leads_kept c.args.items.now (lists_of c.args.direct.now.items) scope other c.in_ok-self.ensures.all c.in_ok-self-2.ensures.all
