use Rattle.std.proofs.Common.{◌<◌, [], All, ℕ, arith, subst}
use Rattle.std.proofs.lemmas.Result.{IfOk-weaker}
use Rattle.automata.specs.Nodes.{formulas_in}
use Rattle.abi_tree.proofs.Meaning.WidthLemmas.{narrow_at, state_tag_width_at, tag_width_at}
use Rattle.abi_bytes.proofs.KindLemmas.{elements_kind, elements_named, fields_kind, fields_named, never_kind, pair_kind, pair_named, scalar_kind, single_kind, single_named, states_kind, states_named, tagged_kind, tagged_named, union_kind, vector_kind, vector_named}
use Rattle.abi_bytes.proofs.types.node_formula.Goals as goal

pub scalar_formula-requires : goal.scalar_formula-requires
scalar_formula-requires c =
    narrow_at c.args.walk.nodes.now c.args.walk.well c.args.walk.widths c.args.node _ c.requires.there c.node-here.ensures c.in-Scalar.scalar c.in-Scalar.is

pub pair_formula-requires-clause-first : goal.pair_formula-requires-clause-first
pair_formula-requires-clause-first c =
    let named = pair_named c.args.walk.order [] [] 0 c.args.walk.nodes.now c.args.walk.well c.args.node _ c.requires.there c.node-here.ensures c.in-Pair.first c.in-Pair.second c.in-Pair.is in
    omega (arith, named.0, c.requires.done)

pub pair_formula-requires-clause-second : goal.pair_formula-requires-clause-second
pair_formula-requires-clause-second c =
    let named = pair_named c.args.walk.order [] [] 0 c.args.walk.nodes.now c.args.walk.well c.args.node _ c.requires.there c.node-here.ensures c.in-Pair.first c.in-Pair.second c.in-Pair.is in
    omega (arith, named.1, c.requires.done)

pub elements_formula-requires-clause-done : goal.elements_formula-requires-clause-done
elements_formula-requires-clause-done c =
    let named = elements_named c.args.walk.order [] [] 0 c.args.walk.nodes.now c.args.walk.well c.args.node _ c.requires.there c.node-here.ensures c.in-Elements.count c.in-Elements.element c.in-Elements.is in
    omega (arith, named, c.requires.done)

pub fields_formula-requires-clause-done : goal.fields_formula-requires-clause-done
fields_formula-requires-clause-done c =
    subst (λ m. All (λ child. child < m) c.in-Fields.children.items) c.requires.done
    (fields_named c.args.walk.order [] [] 0 c.args.walk.nodes.now c.args.walk.well c.args.node _ c.requires.there c.node-here.ensures c.in-Fields.field-0 c.in-Fields.children c.in-Fields.is)

pub vector_formula-requires-clause-done : goal.vector_formula-requires-clause-done
vector_formula-requires-clause-done c =
    let named = vector_named c.args.walk.order [] [] 0 c.args.walk.nodes.now c.args.walk.well c.args.node _ c.requires.there c.node-here.ensures c.in-Vector.lanes c.in-Vector.is in
    omega (arith, named, c.requires.done)

pub fields_formula-requires-in-Single-clause-done : goal.fields_formula-requires-in-Single-clause-done
fields_formula-requires-in-Single-clause-done c =
    subst (λ m. All (λ child. child < m) c.in-Single.children.items) c.requires.done
    (single_named c.args.walk.order [] [] 0 c.args.walk.nodes.now c.args.walk.well c.args.node _ c.requires.there c.node-here.ensures c.in-Single.field-0 c.in-Single.children c.in-Single.is)

pub tagged_formula-requires-clause-tag : goal.tagged_formula-requires-clause-tag
tagged_formula-requires-clause-tag c =
    let named = tagged_named c.args.walk.order [] [] 0 c.args.walk.nodes.now c.args.walk.well c.args.node _ c.requires.there c.node-here.ensures c.in-Tagged.mark c.in-Tagged.tag c.in-Tagged.variants c.in-Tagged.is in
    omega (arith, named.0, c.requires.there)

pub tagged_formula-requires-clause-width : goal.tagged_formula-requires-clause-width
tagged_formula-requires-clause-width c =
    tag_width_at c.args.walk.nodes.now c.args.walk.well c.args.walk.widths c.args.node _ c.requires.there c.node-here.ensures c.in-Tagged.mark c.in-Tagged.tag c.in-Tagged.variants c.in-Tagged.is

pub tagged_formula-requires-clause-done : goal.tagged_formula-requires-clause-done
tagged_formula-requires-clause-done c =
    subst (λ m. All (λ (v : ℕ × ℕ). v.1 < m) c.in-Tagged.variants.items) c.requires.done
    (tagged_named c.args.walk.order [] [] 0 c.args.walk.nodes.now c.args.walk.well c.args.node _ c.requires.there c.node-here.ensures c.in-Tagged.mark c.in-Tagged.tag c.in-Tagged.variants c.in-Tagged.is).1

pub states_formula-requires-clause-prefix : goal.states_formula-requires-clause-prefix
states_formula-requires-clause-prefix c =
    subst (λ m. All (λ child. child < m) c.in-States.prefix.items) c.requires.done
    (states_named c.args.walk.order [] [] 0 c.args.walk.nodes.now c.args.walk.well c.args.node _ c.requires.there c.node-here.ensures c.in-States.prefix c.in-States.tag c.in-States.states c.in-States.is).0

pub states_formula-requires-clause-tag : goal.states_formula-requires-clause-tag
states_formula-requires-clause-tag c =
    let named = states_named c.args.walk.order [] [] 0 c.args.walk.nodes.now c.args.walk.well c.args.node _ c.requires.there c.node-here.ensures c.in-States.prefix c.in-States.tag c.in-States.states c.in-States.is in
    omega (arith, named.1, c.requires.there)

pub states_formula-requires-clause-width : goal.states_formula-requires-clause-width
states_formula-requires-clause-width c =
    state_tag_width_at c.args.walk.nodes.now c.args.walk.well c.args.walk.widths c.args.node _ c.requires.there c.node-here.ensures c.in-States.prefix c.in-States.tag c.in-States.states c.in-States.is

pub states_formula-requires-clause-done : goal.states_formula-requires-clause-done
states_formula-requires-clause-done c =
    subst (λ m. All (λ (v : ℕ × ℕ). v.1 < m) c.in-States.states.items) c.requires.done
    (states_named c.args.walk.order [] [] 0 c.args.walk.nodes.now c.args.walk.well c.args.node _ c.requires.there c.node-here.ensures c.in-States.prefix c.in-States.tag c.in-States.states c.in-States.is).2

pub returns-in-Scalar : goal.returns-in-Scalar
returns-in-Scalar c =
    let s0 = formulas_in c.args.formulas.now in
    let s1 = formulas_in c.scalar_formula.new.formulas in
    IfOk-weaker c.scalar_formula.result _ _
    (λ place made. scalar_kind c.args.walk.order s0 s1 place c.args.walk.nodes.now c.args.walk.well c.args.node _ c.requires.there c.node-here.ensures c.in-Scalar.scalar c.in-Scalar.is made)
    c.scalar_formula.ensures

pub returns-in-Pair : goal.returns-in-Pair
returns-in-Pair c =
    let s0 = formulas_in c.args.formulas.now in
    let s1 = formulas_in c.pair_formula.new.formulas in
    IfOk-weaker c.pair_formula.result _ _
    (λ place made. pair_kind c.args.walk.order s0 s1 place c.args.walk.nodes.now c.args.walk.well c.args.node _ c.requires.there c.node-here.ensures c.in-Pair.first c.in-Pair.second c.in-Pair.is made)
    c.pair_formula.ensures

pub returns-in-Never : goal.returns-in-Never
returns-in-Never c =
    let s0 = formulas_in c.args.formulas.now in
    let s1 = formulas_in c.no_cells.new.self in
    IfOk-weaker c.no_cells.result _ _
    (λ place made. never_kind c.args.walk.order s0 s1 place c.args.walk.nodes.now c.args.walk.well c.args.node _ c.requires.there c.node-here.ensures c.in-Never.field-0 c.in-Never.is made)
    c.no_cells.ensures

pub returns-in-Elements : goal.returns-in-Elements
returns-in-Elements c =
    let s0 = formulas_in c.args.formulas.now in
    let s1 = formulas_in c.elements_formula.new.formulas in
    IfOk-weaker c.elements_formula.result _ _
    (λ place made. elements_kind c.args.walk.order s0 s1 place c.args.walk.nodes.now c.args.walk.well c.args.node _ c.requires.there c.node-here.ensures c.in-Elements.count c.in-Elements.element c.bytes.result c.in-Elements.is c.bytes.ensures made)
    c.elements_formula.ensures

pub returns-in-Fields : goal.returns-in-Fields
returns-in-Fields c =
    let s0 = formulas_in c.args.formulas.now in
    let s1 = formulas_in c.fields_formula.new.formulas in
    IfOk-weaker c.fields_formula.result _ _
    (λ place made. fields_kind c.args.walk.order s0 s1 place c.args.walk.nodes.now c.args.walk.well c.args.node _ c.requires.there c.node-here.ensures c.in-Fields.field-0 c.in-Fields.children c.in-Fields.is made)
    c.fields_formula.ensures

pub returns-in-Union : goal.returns-in-Union
returns-in-Union c =
    let s0 = formulas_in c.args.formulas.now in
    let s1 = formulas_in c.any_cells.new.self in
    IfOk-weaker c.any_cells.result _ _
    (λ place made. union_kind c.args.walk.order s0 s1 place c.args.walk.nodes.now c.args.walk.well c.args.node _ c.requires.there c.node-here.ensures c.in-Union.field-0 c.in-Union.field-1 c.in-Union.is made)
    c.any_cells.ensures

pub returns-in-Vector : goal.returns-in-Vector
returns-in-Vector c =
    let s0 = formulas_in c.args.formulas.now in
    let s1 = formulas_in c.vector_formula.new.formulas in
    IfOk-weaker c.vector_formula.result _ _
    (λ place made. vector_kind c.args.walk.order s0 s1 place c.args.walk.nodes.now c.args.walk.well c.args.node _ c.requires.there c.node-here.ensures c.in-Vector.lanes c.bytes-in-Vector.result c.in-Vector.is c.bytes-in-Vector.ensures made)
    c.vector_formula.ensures

pub returns-in-Single : goal.returns-in-Single
returns-in-Single c =
    let s0 = formulas_in c.args.formulas.now in
    let s1 = formulas_in c.fields_formula-in-Single.new.formulas in
    IfOk-weaker c.fields_formula-in-Single.result _ _
    (λ place made. single_kind c.args.walk.order s0 s1 place c.args.walk.nodes.now c.args.walk.well c.args.node _ c.requires.there c.node-here.ensures c.in-Single.field-0 c.in-Single.children c.in-Single.is made)
    c.fields_formula-in-Single.ensures

pub returns-in-Tagged : goal.returns-in-Tagged
returns-in-Tagged c =
    let s0 = formulas_in c.args.formulas.now in
    let s1 = formulas_in c.tagged_formula.new.formulas in
    IfOk-weaker c.tagged_formula.result _ _
    (λ place made. tagged_kind c.args.walk.order s0 s1 place c.args.walk.nodes.now c.args.walk.well c.args.node _ c.requires.there c.node-here.ensures c.in-Tagged.mark c.in-Tagged.tag c.in-Tagged.variants c.in-Tagged.is made)
    c.tagged_formula.ensures

pub returns-in-States : goal.returns-in-States
returns-in-States c =
    let s0 = formulas_in c.args.formulas.now in
    let s1 = formulas_in c.states_formula.new.formulas in
    IfOk-weaker c.states_formula.result _ _
    (λ place made. states_kind c.args.walk.order s0 s1 place c.args.walk.nodes.now c.args.walk.well c.args.node _ c.requires.there c.node-here.ensures c.in-States.prefix c.in-States.tag c.in-States.states c.in-States.is made)
    c.states_formula.ensures
