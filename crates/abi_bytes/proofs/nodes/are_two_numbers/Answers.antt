use Rattle.std.proofs.Common.{[], ◌∷◌, arith}
use Rattle.abi_tree.specs.Nodes.{parts_at, placed_at}
use Rattle.abi_bytes.specs.Holding.{AreTwoNumbers, IsNumber}
use Rattle.abi_bytes.proofs.NodeLemmas.{match_like, of_two_numbers, two_numbers}
use Rattle.abi_bytes.proofs.nodes.are_two_numbers.Goals as goal

pub returns-then-offsets-lt2 : goal.returns-then-offsets-lt2
returns-then-offsets-lt2 c = λ h.
    let ns = c.args.nodes.now in
    let two = of_two_numbers c.args.offsets.now (placed_at ns c.args.first) (placed_at ns c.args.second) h in
    omega (arith, two.0, c.if-offsets-lt2.true)

pub returns-then-not-is_number : goal.returns-then-not-is_number
returns-then-not-is_number c = λ h.
    let ns = c.args.nodes.now in
    c.if-not-is_number.ensures (of_two_numbers c.args.offsets.now (placed_at ns c.args.first) (placed_at ns c.args.second) h).1

pub returns : goal.returns
returns c =
    let ns = c.args.nodes.now in
    let os = c.args.offsets.now in
    let p = placed_at ns c.args.first in
    let q = placed_at ns c.args.second in
    match_like c.is_number-2.result (IsNumber q) (IsNumber q → ⊥) (AreTwoNumbers (parts_at os (p ∷ q ∷ []))) (AreTwoNumbers (parts_at os (p ∷ q ∷ [])) → ⊥)
    (λ second. two_numbers os p q (omega (arith, c.if-offsets-lt2.false)) c.if-not-is_number.ensures second) (λ other h. other (of_two_numbers os p q h).2) c.is_number-2.ensures
