use Rattle.std.proofs.Common.{◌<◌, ◌≤◌, ◌∙◌, All, List, Vec, Global, arith, length, map, subst, sym, ℕ}
use Rattle.std.proofs.lemmas.List.{length-map}
use Rattle.std.proofs.lemmas.Result.{IfOk-weaker}
use Rattle.std.proofs.lemmas.Simd.{map-map}
use Rattle.abi_scalar.specs.Variant.{variants_of}
use Rattle.abi_scalar.proofs.ReadableLemmas.{lawful_readable}
use Rattle.abi_calc.specs.Coroutine.Layout.{IsStateTag}
use Rattle.abi_calc.proofs.CoroutineLemmas.Promised.{state_tag_lawful}
use Rattle.abi_tree.specs.Well.{all_at}
use Rattle.rustc_abi.proofs.Coroutines.AddedCoroutineLemmas.{IsAdded-coroutine, coroutine_refused, coroutine_variants, fault_of_nodes}
use Rattle.rustc_abi.specs.Inside.{VariantsInside}
use Rattle.rustc_abi.specs.Laying.{most_fields}
use Rattle.abi_tree.specs.Nodes.{placed_in}
use Rattle.rustc_abi.proofs.Faults.CoroutineFaultLemmas.{few_each_state, few_states, states_within}
use Rattle.rustc_abi.proofs.Places.InsideLemmas.{inside_coroutine}
use Rattle.rustc_abi.proofs.Coroutines.StateLawsLemmas.{state_places}
use Rattle.rustc_abi.proofs.Trees.ListLemmas.{All-from_map, passed_on}
use Rattle.rustc_abi.proofs.lay_coroutine.add_faultless_coroutine.Goals as goal

pub coroutine_layout-requires-clause-prefix : goal.coroutine_layout-requires-clause-prefix
coroutine_layout-requires-clause-prefix c = rw c.deref.ensures.value c.requires.prefix

pub returns-in_err-layout-clause-err : goal.returns-in_err-layout-clause-err
returns-in_err-layout-clause-err c =
    let ns = c.args.nodes.now in
    let pres = all_at ns c.args.prefix.items in
    let ps = all_at ns c.args.state_nodes.locals.now in
    let all = map (λ (state : Vec ℕ Global). state.items) c.args.state_nodes.states.now in
    let tag = c.state_tag-tag.result in
    let none = fault_of_nodes ns c.args.prefix.items c.args.state_nodes.locals.now all c.args.state_nodes.pairs.now ∙ c.requires.faultless in
    let is_state_tag : IsStateTag (length all) tag = subst (λ n. IsStateTag n tag) (sym (length-map c.args.state_nodes.states.now (λ (state : Vec ℕ Global). state.items))) c.state_tag-tag.ensures in
    let refused = rw c.deref.ensures.value at c.in_err-layout.ensures.err in
    passed_on _ _ _ c.from_residual.ensures.1 (coroutine_refused c.args.cx.dl.now c.requires.data_layout pres ps all c.args.state_nodes.pairs.now tag none is_state_tag c.requires.prefix c.requires.locals _ refused)

pub add_states-requires-clause-tag : goal.add_states-requires-clause-tag
add_states-requires-clause-tag c =
    lawful_readable c.args.cx.dl.now c.state_tag-tag.result (state_tag_lawful c.args.cx.dl.now (length c.args.state_nodes.states.now) c.state_tag-tag.result c.state_tag-tag.ensures)

pub add_states-requires-clause-each : goal.add_states-requires-clause-each
add_states-requires-clause-each c =
    let ns = c.args.nodes.now in
    let pres = all_at ns c.args.prefix.items in
    let ps = all_at ns c.args.state_nodes.locals.now in
    let all = map (λ (state : Vec ℕ Global). state.items) c.args.state_nodes.states.now in
    let tag = c.state_tag-tag.result in
    let none = fault_of_nodes ns c.args.prefix.items c.args.state_nodes.locals.now all c.args.state_nodes.pairs.now ∙ c.requires.faultless in
    let is_state_tag : IsStateTag (length all) tag = subst (λ n. IsStateTag n tag) (sym (length-map c.args.state_nodes.states.now (λ (state : Vec ℕ Global). state.items))) c.state_tag-tag.ensures in
    let laid = rw c.deref.ensures.value at c.in_ok-layout.ensures.ok in
    coroutine_variants c.args.cx.dl.now c.requires.data_layout pres ps all c.args.state_nodes.pairs.now tag none is_state_tag c.requires.prefix c.requires.locals c.in_ok-layout.layout laid
    ∙ length-map c.args.state_nodes.states.now (λ (state : Vec ℕ Global). state.items)

pub add_states-requires-clause-few : goal.add_states-requires-clause-few
add_states-requires-clause-few c =
    let all = map (λ (state : Vec ℕ Global). state.items) c.args.state_nodes.states.now in
    let few = few_states (length c.args.prefix.items) (length c.args.state_nodes.locals.now) all c.args.state_nodes.pairs.now c.requires.faultless in
    omega (arith, few, length-map c.args.state_nodes.states.now (λ (state : Vec ℕ Global). state.items))

pub add_states-requires-clause-few_each : goal.add_states-requires-clause-few_each
add_states-requires-clause-few_each c =
    All-from_map (λ (ks : List ℕ). length ks ≤ most_fields) (λ (state : Vec ℕ Global). state.items) c.args.state_nodes.states.now
    (few_each_state (length c.args.prefix.items) (length c.args.state_nodes.locals.now) (map (λ state. state.items) c.args.state_nodes.states.now) c.args.state_nodes.pairs.now c.requires.faultless)

pub add_states-requires-clause-places : goal.add_states-requires-clause-places
add_states-requires-clause-places c =
    let ns = c.args.nodes.now in
    let pres = all_at ns c.args.prefix.items in
    let ps = all_at ns c.args.state_nodes.locals.now in
    let all = map (λ (state : Vec ℕ Global). state.items) c.args.state_nodes.states.now in
    let tag = c.state_tag-tag.result in
    let none = fault_of_nodes ns c.args.prefix.items c.args.state_nodes.locals.now all c.args.state_nodes.pairs.now ∙ c.requires.faultless in
    let is_state_tag : IsStateTag (length all) tag = subst (λ n. IsStateTag n tag) (sym (length-map c.args.state_nodes.states.now (λ (state : Vec ℕ Global). state.items))) c.state_tag-tag.ensures in
    let laid = rw c.deref.ensures.value at c.in_ok-layout.ensures.ok in
    state_places c.args.cx.dl.now c.requires.data_layout pres ps all c.args.state_nodes.pairs.now c.requires.prefix c.requires.locals none tag is_state_tag c.in_ok-layout.layout laid

pub add_states-requires-clause-inside : goal.add_states-requires-clause-inside
add_states-requires-clause-inside c =
    let ns = c.args.nodes.now in
    let pres = all_at ns c.args.prefix.items in
    let ps = all_at ns c.args.state_nodes.locals.now in
    let all = map (λ (state : Vec ℕ Global). state.items) c.args.state_nodes.states.now in
    let tag = c.state_tag-tag.result in
    let none = fault_of_nodes ns c.args.prefix.items c.args.state_nodes.locals.now all c.args.state_nodes.pairs.now ∙ c.requires.faultless in
    let is_state_tag : IsStateTag (length all) tag = subst (λ n. IsStateTag n tag) (sym (length-map c.args.state_nodes.states.now (λ (state : Vec ℕ Global). state.items))) c.state_tag-tag.ensures in
    let laid = rw c.deref.ensures.value at c.in_ok-layout.ensures.ok in
    subst (VariantsInside c.in_ok-layout.layout.size (variants_of c.in_ok-layout.layout.variants)) (map-map (map (placed_in ps)) (λ (state : Vec ℕ Global). state.items) c.args.state_nodes.states.now)
    (inside_coroutine c.args.cx.dl.now c.requires.data_layout pres ps all c.args.state_nodes.pairs.now c.requires.prefix c.requires.locals none tag is_state_tag c.in_ok-layout.layout laid)

pub add_states-requires-clause-known : goal.add_states-requires-clause-known
add_states-requires-clause-known c =
    All-from_map (All (λ k. k < length c.args.state_nodes.locals.now)) (λ (state : Vec ℕ Global). state.items) c.args.state_nodes.states.now
    (states_within (length c.args.prefix.items) (length c.args.state_nodes.locals.now) (map (λ state. state.items) c.args.state_nodes.states.now) c.args.state_nodes.pairs.now c.requires.faultless)

pub returns-clause-ok : goal.returns-clause-ok
returns-clause-ok c =
    let ns = c.args.nodes.now in
    let pres = all_at ns c.args.prefix.items in
    let ps = all_at ns c.args.state_nodes.locals.now in
    let all = map (λ (state : Vec ℕ Global). state.items) c.args.state_nodes.states.now in
    let tag = c.state_tag-tag.result in
    let none = fault_of_nodes ns c.args.prefix.items c.args.state_nodes.locals.now all c.args.state_nodes.pairs.now ∙ c.requires.faultless in
    let is_state_tag : IsStateTag (length all) tag = subst (λ n. IsStateTag n tag) (sym (length-map c.args.state_nodes.states.now (λ (state : Vec ℕ Global). state.items))) c.state_tag-tag.ensures in
    let laid = rw c.deref.ensures.value at c.in_ok-layout.ensures.ok in
    IfOk-weaker c.add_states.result _ _
    (λ i put first own tag_distinguishes tell fits fit. IsAdded-coroutine c.args.cx.dl.now c.requires.data_layout pres ps all c.args.state_nodes.pairs.now tag none is_state_tag c.requires.prefix c.requires.locals c.in_ok-layout.layout laid
    ns c.add_states.new.nodes i first own put tag_distinguishes tell fits fit)
    c.add_states.ensures.ok
