-- The first bytes hold a value, which is the only one that they hold, and the second don't hold it.
use Rattle.std.proofs.Common.{List, ℕ, refl, sym, subst}
use Rattle.abi_tree.specs.Deciding.{all_inhabited_of}
use Rattle.abi_tree.specs.Holding.{Holds}
use Rattle.abi_tree.specs.Laid.{endian_of, placed_of}
use Rattle.abi_tree.specs.Places.{is_data_place}
use Rattle.abi_tree.specs.Value.{Value}
use Rattle.guarantees.proofs.Padded.{nothing_decides, other_false}
use Rattle.guarantees.proofs.fuzzer.flip.Goals as goal

pub unreachable-requires : goal.unreachable-requires
unreachable-requires c =
    let only = rw c.in-Some.is at c.in_ok-pair.ensures.only in
    let decides = rw c.in-Some.is at c.in_ok-pair.ensures.decides in
    let decided = decides c.requires.laid.dl c.requires.laid.tree c.requires.laid.keeps in
    let none = rw c.in-None-2.is at c.in_ok-value.ensures.finds in
    none decided.0 (subst (λ (b : List ℕ). Holds (endian_of c.args.laid.now) (placed_of c.args.laid.now) b decided.0) (sym c.deref.ensures.value) decided.1)

pub returns-clause-differ : goal.returns-clause-differ
returns-clause-differ c =
    let only = rw c.in-Some.is at c.in_ok-pair.ensures.only in
    let decides = rw c.in-Some.is at c.in_ok-pair.ensures.decides in
    (decides c.requires.laid.dl c.requires.laid.tree c.requires.laid.keeps).2

pub returns-clause-other : goal.returns-clause-other
returns-clause-other c =
    let only = rw c.in-Some.is at c.in_ok-pair.ensures.only in
    let decides = rw c.in-Some.is at c.in_ok-pair.ensures.decides in
    let kept = c.requires.laid.keeps.places only.0 in
    let decided = decides c.requires.laid.dl c.requires.laid.tree c.requires.laid.keeps in
    let one = rw c.in-Some-2.is at c.in_ok-value.ensures.one in
    let held = subst (λ (b : List ℕ). Holds (endian_of c.args.laid.now) (placed_of c.args.laid.now) b decided.0) (sym c.deref.ensures.value) decided.1 in
    subst (λ (v : Value). Holds (endian_of c.args.laid.now) (placed_of c.args.laid.now) c.in-Some.pair.1.items v → ⊥)
    (one c.requires.laid.dl c.requires.laid.tree kept.values decided.0 held) decided.3

pub returns-in-None-clause-exactly : goal.returns-in-None-clause-exactly
returns-in-None-clause-exactly c = λ all.
    let none = rw c.in-None.is at c.in_ok-pair.ensures.none in
    let off = other_false (all_inhabited_of c.args.laid.now) (is_data_place (placed_of c.args.laid.now) c.args.place) all (none refl) in
    ((λ is. nothing_decides c.args.laid.now c.requires.laid c.args.place off), (λ nothing. refl))

pub returns-clause-exactly : goal.returns-clause-exactly
returns-clause-exactly c = λ all.
    let only = rw c.in-Some.is at c.in_ok-pair.ensures.only in
    let decides = rw c.in-Some.is at c.in_ok-pair.ensures.decides in
    let decided = decides c.requires.laid.dl c.requires.laid.tree c.requires.laid.keeps in
    ((λ is. absurd (cc)), (λ nothing. absurd (nothing c.in-Some.pair.0.items c.in-Some.pair.1.items decided)))
