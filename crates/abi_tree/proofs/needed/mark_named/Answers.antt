use Rattle.std.proofs.Common.{ℕ, ◌<◌, List, [], ◌∷◌, ◌++◌, All, ap, arith, length, map, subst, sym, ◌∙◌}
use Rattle.std.proofs.lemmas.List.Elements.{All-nil, All-cons, All-head, All-tail}
use Rattle.abi_tree.specs.Needed.{MarksPlaces, named_by, placed_nodes}
use Rattle.abi_tree.proofs.Places.NeededLemmas.{All-left, All-right, marks_both}
use Rattle.abi_tree.proofs.needed.mark_named.Goals as goal

pub mark_variants-requires : goal.mark_variants-requires
mark_variants-requires c =
    let P : ℕ → Type 0 = λ i. i < length c.args.needed.now in
    let rest : List ℕ = map (λ v. v.1) c.in-Tagged.variants.items in
    let all : All P (c.in-Tagged.tag ∷ rest) = subst (λ s. All P (named_by c.args.node.layout.now s)) c.in-Tagged.is c.requires in
    let there : All (λ i. i < length c.mark-in-Tagged.new.needed) rest = λ k d lt. omega (arith, All-tail P c.in-Tagged.tag rest all k d lt, c.mark-in-Tagged.ensures.0) in
    rw c.deref-in-Tagged.ensures.value there

pub mark-requires-in-States : goal.mark-requires-in-States
mark-requires-in-States c =
    let P : ℕ → Type 0 = λ i. i < length c.args.needed.now in
    let first : List ℕ = placed_nodes c.args.node.layout.now c.in-States.prefix.items in
    let rest : List ℕ = c.in-States.tag ∷ map (λ v. v.1) c.in-States.states.items in
    let all : All P (first ++ rest) = subst (λ s. All P (named_by c.args.node.layout.now s)) c.in-States.is c.requires in
    rw (c.placed_children-in-States.ensures, c.deref-in-States.ensures.value) (All-left P first rest all)

pub mark-requires-in-States-2 : goal.mark-requires-in-States-2
mark-requires-in-States-2 c =
    let P : ℕ → Type 0 = λ i. i < length c.args.needed.now in
    let first : List ℕ = placed_nodes c.args.node.layout.now c.in-States.prefix.items in
    let later : List ℕ = map (λ v. v.1) c.in-States.states.items in
    let all : All P (first ++ c.in-States.tag ∷ later) = subst (λ s. All P (named_by c.args.node.layout.now s)) c.in-States.is c.requires in
    let tag : c.in-States.tag < length c.args.needed.now = All-head P c.in-States.tag later (All-right P first (c.in-States.tag ∷ later) all) in
    All-cons (λ i. i < length c.mark-in-States.new.needed) c.in-States.tag [] (omega (arith, tag, c.mark-in-States.ensures.0)) (All-nil (λ i. i < length c.mark-in-States.new.needed))

pub mark_variants-requires-in-States : goal.mark_variants-requires-in-States
mark_variants-requires-in-States c =
    let P : ℕ → Type 0 = λ i. i < length c.args.needed.now in
    let first : List ℕ = placed_nodes c.args.node.layout.now c.in-States.prefix.items in
    let later : List ℕ = map (λ v. v.1) c.in-States.states.items in
    let all : All P (first ++ c.in-States.tag ∷ later) = subst (λ s. All P (named_by c.args.node.layout.now s)) c.in-States.is c.requires in
    let there : All (λ i. i < length c.mark-in-States-2.new.needed) later = λ k d lt.
    omega (arith, All-tail P c.in-States.tag later (All-right P first (c.in-States.tag ∷ later) all) k d lt, c.mark-in-States.ensures.0, c.mark-in-States-2.ensures.0) in
    rw c.deref-in-States-2.ensures.value there

pub returns-in-States : goal.returns-in-States
returns-in-States c =
    let old = c.args.needed.now in
    let one = c.mark-in-States.new.needed in
    let two = c.mark-in-States-2.new.needed in
    let new = c.mark_variants-in-States.new.needed in
    let first : List ℕ = placed_nodes c.args.node.layout.now c.in-States.prefix.items in
    let later : List ℕ = map (λ v. v.1) c.in-States.states.items in
    let prefix : MarksPlaces old one first = subst (MarksPlaces old one) (c.placed_children-in-States.ensures ∙ ap (placed_nodes c.args.node.layout.now) c.deref-in-States.ensures.value) c.mark-in-States.ensures in
    let states : MarksPlaces two new later = subst (λ vs. MarksPlaces two new (map (λ v. v.1) vs)) c.deref-in-States-2.ensures.value c.mark_variants-in-States.ensures in
    subst (λ s. MarksPlaces old new (named_by c.args.node.layout.now s)) (sym c.in-States.is)
    (marks_both old one new first (c.in-States.tag ∷ later) prefix (marks_both one two new (c.in-States.tag ∷ []) later c.mark-in-States-2.ensures states))
