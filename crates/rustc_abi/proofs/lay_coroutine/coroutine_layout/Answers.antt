-- What is known of a coroutine without a fault is what the calculator asks.
use Rattle.std.proofs.Common.{◌≡◌, ◌<◌, ◌≤◌, ◌∙◌, All, Vec, Global, ap, arith, length, map, subst, sym, ℕ}
use Rattle.std.proofs.lemmas.List.Elements.{All-map, All-weaker}
use Rattle.std.proofs.lemmas.Result.{IfErr-weaker, IfOk-weaker}
use Rattle.abi_scalar.specs.Lawful.{IsLawfulLayout}
use Rattle.abi_tree.specs.Well.{all_at}
use Rattle.rustc_abi.specs.Laying.{most_fields}
use Rattle.abi_tree.specs.Placed.{layout_of}
use Rattle.rustc_abi.proofs.Coroutines.AddedCoroutineLemmas.{lent_count}
use Rattle.rustc_abi.proofs.Faults.CoroutineFaultLemmas.{few_each_state, inline_items, states_once, states_within}
use Rattle.rustc_abi.proofs.Trees.ListLemmas.{All-from_map}
use Rattle.rustc_abi.proofs.lay_coroutine.coroutine_layout.Goals as goal

pub each_state_locals-requires-clause-few : goal.each_state_locals-requires-clause-few
each_state_locals-requires-clause-few c =
    All-from_map (λ ks. length ks ≤ most_fields) (λ (state : Vec ℕ Global). state.items) c.args.state_nodes.states.now
    (few_each_state (length c.args.prefix.now) (length c.args.state_nodes.locals.now) (map (λ state. state.items) c.args.state_nodes.states.now) c.args.state_nodes.pairs.now c.requires.faultless)

pub each_state_locals-requires-clause-known : goal.each_state_locals-requires-clause-known
each_state_locals-requires-clause-known c =
    let items = inline_items (length c.args.prefix.now) (length c.args.state_nodes.locals.now) (map (λ state. state.items) c.args.state_nodes.states.now) c.args.state_nodes.pairs.now c.requires.faultless in
    All-weaker (λ (state : Vec ℕ Global). All (λ k. k < length c.args.state_nodes.locals.now) state.items) (λ state. All (λ k. k < most_fields) state.items)
    (λ state own. All-weaker (λ k. k < length c.args.state_nodes.locals.now) (λ k. k < most_fields) (λ k low. omega (arith, low, items)) state.items own) c.args.state_nodes.states.now
    (All-from_map (All (λ k. k < length c.args.state_nodes.locals.now)) (λ (state : Vec ℕ Global). state.items) c.args.state_nodes.states.now
    (states_within (length c.args.prefix.now) (length c.args.state_nodes.locals.now) (map (λ state. state.items) c.args.state_nodes.states.now) c.args.state_nodes.pairs.now c.requires.faultless))

pub calculator_answer-requires-clause-prefix : goal.calculator_answer-requires-clause-prefix
calculator_answer-requires-clause-prefix c =
    let ps = all_at c.args.nodes.now c.args.prefix.now in
    All-from_map (IsLawfulLayout c.args.cx.dl.now) (λ r. r.now) c.in_ok-prefix.prefix
    (subst (All (IsLawfulLayout c.args.cx.dl.now)) (sym c.in_ok-prefix.ensures) (All-map (IsLawfulLayout c.args.cx.dl.now) layout_of ps c.requires.prefix))

pub calculator_answer-requires-clause-locals : goal.calculator_answer-requires-clause-locals
calculator_answer-requires-clause-locals c =
    let ps = all_at c.args.nodes.now c.args.state_nodes.locals.now in
    let lent = ap (map (λ r. r.now)) (c.as_raw.ensures.items ∙ c.as_slice.ensures) ∙ c.in_ok-locals.ensures in
    All-from_map (IsLawfulLayout c.args.cx.dl.now) (λ r. r.now) c.as_raw.result.now
    (subst (All (IsLawfulLayout c.args.cx.dl.now)) (sym lent) (All-map (IsLawfulLayout c.args.cx.dl.now) layout_of ps c.requires.locals))

pub calculator_answer-requires-clause-count : goal.calculator_answer-requires-clause-count
calculator_answer-requires-clause-count c =
    let items = inline_items (length c.args.prefix.now) (length c.args.state_nodes.locals.now) (map (λ state. state.items) c.args.state_nodes.states.now) c.args.state_nodes.pairs.now c.requires.faultless in
    let first : length c.in_ok-prefix.prefix ≡ length c.args.prefix.now =
    lent_count (λ r. r.now) c.in_ok-prefix.prefix c.args.nodes.now c.args.prefix.now c.in_ok-prefix.ensures in
    let own : length c.as_raw.result.now ≡ length c.args.state_nodes.locals.now =
    lent_count (λ r. r.now) c.as_raw.result.now c.args.nodes.now c.args.state_nodes.locals.now (ap (map (λ r. r.now)) (c.as_raw.ensures.items ∙ c.as_slice.ensures) ∙ c.in_ok-locals.ensures) in
    omega (arith, items, first, own)

pub calculator_answer-requires-clause-known : goal.calculator_answer-requires-clause-known
calculator_answer-requires-clause-known c =
    let own : length c.as_raw.result.now ≡ length c.args.state_nodes.locals.now =
    lent_count (λ r. r.now) c.as_raw.result.now c.args.nodes.now c.args.state_nodes.locals.now (ap (map (λ r. r.now)) (c.as_raw.ensures.items ∙ c.as_slice.ensures) ∙ c.in_ok-locals.ensures) in
    rw (c.deref.ensures.value, c.in_ok-states.ensures, own)
    (states_within (length c.args.prefix.now) (length c.args.state_nodes.locals.now) (map (λ state. state.items) c.args.state_nodes.states.now) c.args.state_nodes.pairs.now c.requires.faultless)

pub calculator_answer-requires-clause-once : goal.calculator_answer-requires-clause-once
calculator_answer-requires-clause-once c =
    rw (c.deref.ensures.value, c.in_ok-states.ensures)
    (states_once (length c.args.prefix.now) (length c.args.state_nodes.locals.now) (map (λ state. state.items) c.args.state_nodes.states.now) c.args.state_nodes.pairs.now c.requires.faultless)

pub calculator_answer-requires-clause-rows : goal.calculator_answer-requires-clause-rows
calculator_answer-requires-clause-rows c =
    c.in_ok-relation.ensures.rows ∙ sym
    (lent_count (λ r. r.now) c.as_raw.result.now c.args.nodes.now c.args.state_nodes.locals.now (ap (map (λ r. r.now)) (c.as_raw.ensures.items ∙ c.as_slice.ensures) ∙ c.in_ok-locals.ensures))

pub calculator_answer-requires-clause-columns : goal.calculator_answer-requires-clause-columns
calculator_answer-requires-clause-columns c =
    c.in_ok-relation.ensures.columns ∙ sym
    (lent_count (λ r. r.now) c.as_raw.result.now c.args.nodes.now c.args.state_nodes.locals.now (ap (map (λ r. r.now)) (c.as_raw.ensures.items ∙ c.as_slice.ensures) ∙ c.in_ok-locals.ensures))

pub returns-clause-ok : goal.returns-clause-ok
returns-clause-ok c =
    let lent = ap (map (λ r. r.now)) (c.as_raw.ensures.items ∙ c.as_slice.ensures) ∙ c.in_ok-locals.ensures in
    let states = c.deref.ensures.value ∙ c.in_ok-states.ensures in
    let answer = rw states at c.calculator_answer.ensures.ok in
    IfOk-weaker c.calculator_answer.result _ _
    (λ l h. h (all_at c.args.nodes.now c.args.prefix.now) (all_at c.args.nodes.now c.args.state_nodes.locals.now) c.args.state_nodes.pairs.now c.in_ok-prefix.ensures lent c.in_ok-relation.ensures.entries) answer

pub returns-clause-err : goal.returns-clause-err
returns-clause-err c =
    let lent = ap (map (λ r. r.now)) (c.as_raw.ensures.items ∙ c.as_slice.ensures) ∙ c.in_ok-locals.ensures in
    let states = c.deref.ensures.value ∙ c.in_ok-states.ensures in
    let refused = rw states at c.calculator_answer.ensures.err in
    IfErr-weaker c.calculator_answer.result _ _
    (λ e h. h (all_at c.args.nodes.now c.args.prefix.now) (all_at c.args.nodes.now c.args.state_nodes.locals.now) c.args.state_nodes.pairs.now c.in_ok-prefix.ensures lent c.in_ok-relation.ensures.entries) refused
