-- The tag that is asked for is the one whose layout is lent, and the answer to layouts that are lent is the answer to the types.
use Rattle.std.proofs.Common.{◌≡◌, ◌≢◌, length, map-id, rules, subst, sym, Ok, Err}
use Rattle.std.specs.List.{AllPairs}
use Rattle.abi_scalar.specs.Simple.{scalar_layout}
use Rattle.abi_calc.specs.Coroutine.Answer.{IsCoroutineAnswer}
use Rattle.abi_calc.proofs.CoroutineLemmas.OneCoroutine.{one_tag}
use Rattle.rustc_abi.proofs.Coroutines.CoroutinedLemmas.{coroutined_err, coroutined_ok, plain_lists}
use Rattle.rustc_abi.proofs.Trees.ListLemmas.{passed_on}
use Rattle.rustc_abi.proofs.lay_coroutine.calculator_answer.Goals as goal

pub layout_of_coroutine-answer-requires-clause-locals : goal.layout_of_coroutine-answer-requires-clause-locals
layout_of_coroutine-answer-requires-clause-locals c = rw (c.new.ensures, c.new-2.ensures) c.requires.locals

pub layout_of_coroutine-answer-requires-clause-states : goal.layout_of_coroutine-answer-requires-clause-states
layout_of_coroutine-answer-requires-clause-states c =
    rw (c.new-2.ensures, c.new-3.ensures) (record {
      some = c.requires.some;
      within = c.requires.known;
      once = λ k d below. subst (AllPairs (λ a b. a ≢ b)) (sym (map-id _)) (c.requires.once k d below);
      rows = c.requires.rows;
      columns = c.requires.columns;
    })

pub returns-in_err-answer-clause-err : goal.returns-in_err-answer-clause-err
returns-in_err-answer-clause-err c =
    let exact = rw (c.new.ensures, c.new-2.ensures, c.new-3.ensures, plain_lists c.args.states.now) at c.in_err-answer.ensures.exact in
    let one : exact.0 ≡ c.args.tag = one_tag (length c.args.states.now) exact.0 c.args.tag exact.1 c.requires.tag in
    let field = exact.2 in
    let holds : field.now ≡ scalar_layout 0 c.args.cx.dl.now c.args.tag = search rules in
    passed_on _ _ _ c.from_residual.ensures.1
    (λ pres ps pairs before all entries. coroutined_err (λ r. r.now) c.args.cx.dl.now c.args.prefix c.args.tag field c.args.locals.now c.args.states.now c.args.conflicts.now c.requires.rows c.requires.columns holds
    pres ps pairs before all entries c.in_err-answer.field-0.0
    (subst (λ tag. IsCoroutineAnswer (λ r. r.now) (λ i. i) (λ i. i) 0 c.args.cx.dl.now c.args.prefix tag field c.args.locals.now c.args.states.now c.args.conflicts.now (Err c.in_err-answer.field-0.0)) one exact.4))

pub returns-clause-ok : goal.returns-clause-ok
returns-clause-ok c pres ps pairs before all entries =
    let exact = rw (c.new.ensures, c.new-2.ensures, c.new-3.ensures, plain_lists c.args.states.now) at c.in_ok-answer.ensures.exact in
    let one : exact.0 ≡ c.args.tag = one_tag (length c.args.states.now) exact.0 c.args.tag exact.1 c.requires.tag in
    let field = exact.2 in
    let holds : field.now ≡ scalar_layout 0 c.args.cx.dl.now c.args.tag = search rules in
    coroutined_ok (λ r. r.now) c.args.cx.dl.now c.args.prefix c.args.tag field c.args.locals.now c.args.states.now c.args.conflicts.now c.requires.rows c.requires.columns holds pres ps pairs before all entries c.in_ok-answer.field-0
    (subst (λ tag. IsCoroutineAnswer (λ r. r.now) (λ i. i) (λ i. i) 0 c.args.cx.dl.now c.args.prefix tag field c.args.locals.now c.args.states.now c.args.conflicts.now (Ok c.in_ok-answer.field-0)) one exact.4)
