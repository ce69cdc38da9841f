use Rattle.std.proofs.Common.{◌≡◌, ℕ, List, [], ◌∷◌, get_or, arith, sym, ◌∙◌, subst}
use Rattle.std.proofs.lemmas.List.{get_or_default}
use Rattle.abi_tree.specs.Reading.{Finds, HoldsTwo}
use Rattle.abi_tree.specs.Placed.{Placed}
use Rattle.abi_tree.specs.Nodes.{parts_at, placed_at}
use Rattle.abi_tree.proofs.Found.FoundLemmas.{NumberAt, from_two, no_pair, to_two}
use Rattle.abi_tree.proofs.value.read.read_pair.Goals as goal

pub returns-in_err-one-in-len2-up : goal.returns-in_err-one-in-len2-up
returns-in_err-one-in-len2-up c =
    let p : Placed = placed_at c.args.walk.nodes.now c.args.first in
    let q : Placed = placed_at c.args.walk.nodes.now c.args.second in
    let os : List ℕ = c.args.offsets.now in
    let offset : get_or os 0 0 ≡ c.bytes.result = sym (c.bytes.ensures ∙ c.a-item.is ∙ get_or_default os 0 c.a-item.result 0 (omega (arith, c.in-len2-up.len_at_least))) in
    subst (Finds (HoldsTwo c.args.walk.order (parts_at os (p ∷ q ∷ [])) c.args.bytes.now)) (sym c.from_residual.ensures)
    (λ v h.
    let both = from_two c.args.walk.order os p q c.args.bytes.now v c.in-len2-up.len_at_least h in
    c.in_err-one-in-len2-up.ensures both.0 (subst (λ o. NumberAt c.args.walk.order o p c.args.bytes.now both.0) offset both.2))

pub returns-in_err-two-in-len2-up : goal.returns-in_err-two-in-len2-up
returns-in_err-two-in-len2-up c =
    let p : Placed = placed_at c.args.walk.nodes.now c.args.first in
    let q : Placed = placed_at c.args.walk.nodes.now c.args.second in
    let os : List ℕ = c.args.offsets.now in
    let offset : get_or os 1 0 ≡ c.bytes-in-len2-up.result = sym (c.bytes-in-len2-up.ensures ∙ c.b-item.is ∙ get_or_default os 1 c.b-item.result 0 (omega (arith, c.in-len2-up.len_at_least))) in
    subst (Finds (HoldsTwo c.args.walk.order (parts_at os (p ∷ q ∷ [])) c.args.bytes.now)) (sym c.from_residual-in_err-two-in-len2-up.ensures)
    (λ v h.
    let both = from_two c.args.walk.order os p q c.args.bytes.now v c.in-len2-up.len_at_least h in
    c.in_err-two-in-len2-up.ensures both.1 (subst (λ o. NumberAt c.args.walk.order o q c.args.bytes.now both.1) offset both.3))

pub returns-in_default : goal.returns-in_default
returns-in_default c = no_pair c.args.walk.order c.args.offsets.now (placed_at c.args.walk.nodes.now c.args.first) (placed_at c.args.walk.nodes.now c.args.second) c.args.bytes.now c.in_default.len_below

pub returns-in_ok-two-in-len2-up : goal.returns-in_ok-two-in-len2-up
returns-in_ok-two-in-len2-up c =
    let p : Placed = placed_at c.args.walk.nodes.now c.args.first in
    let q : Placed = placed_at c.args.walk.nodes.now c.args.second in
    let os : List ℕ = c.args.offsets.now in
    let first : c.bytes.result ≡ get_or os 0 0 = c.bytes.ensures ∙ c.a-item.is ∙ get_or_default os 0 c.a-item.result 0 (omega (arith, c.in-len2-up.len_at_least)) in
    let second : c.bytes-in-len2-up.result ≡ get_or os 1 0 = c.bytes-in-len2-up.ensures ∙ c.b-item.is ∙ get_or_default os 1 c.b-item.result 0 (omega (arith, c.in-len2-up.len_at_least)) in
    to_two c.args.walk.order os p q c.args.bytes.now c.in_ok-one-in-len2-up.one c.in_ok-two-in-len2-up.two c.in-len2-up.len_at_least
    (subst (λ o. NumberAt c.args.walk.order o p c.args.bytes.now c.in_ok-one-in-len2-up.one) first c.in_ok-one-in-len2-up.ensures)
    (subst (λ o. NumberAt c.args.walk.order o q c.args.bytes.now c.in_ok-two-in-len2-up.two) second c.in_ok-two-in-len2-up.ensures)
