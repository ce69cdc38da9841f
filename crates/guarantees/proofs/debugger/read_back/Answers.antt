-- The bytes hold the value that was written, so one is found, and it is the only one.
use Rattle.std.proofs.Common.{List, ℕ, sym, subst}
use Rattle.abi_tree.specs.Holding.{Holds}
use Rattle.abi_tree.specs.Laid.{endian_of, placed_of}
use Rattle.abi_tree.specs.Value.{value_of}
use Rattle.guarantees.proofs.debugger.read_back.Goals as goal

pub unreachable-requires : goal.unreachable-requires
unreachable-requires c =
    let held = subst (λ (b : List ℕ). Holds (endian_of c.args.laid.now) (placed_of c.args.laid.now) b (value_of c.args.value.now)) (sym c.deref.ensures.value) c.in_ok-bytes.ensures.holds in
    let none = rw c.in-None.is at c.in_ok-read.ensures.finds in
    none (value_of c.args.value.now) held

pub returns-clause-same : goal.returns-clause-same
returns-clause-same c =
    let held = subst (λ (b : List ℕ). Holds (endian_of c.args.laid.now) (placed_of c.args.laid.now) b (value_of c.args.value.now)) (sym c.deref.ensures.value) c.in_ok-bytes.ensures.holds in
    let one = rw c.in-Some.is at c.in_ok-read.ensures.one in
    sym (one c.requires.laid.dl c.requires.laid.tree (c.requires.laid.keeps.values c.requires.laid.locals) (value_of c.args.value.now) held)

pub returns-clause-held : goal.returns-clause-held
returns-clause-held c =
    subst (λ (b : List ℕ). Holds (endian_of c.args.laid.now) (placed_of c.args.laid.now) b (value_of c.in-Some.read)) c.deref.ensures.value
    (rw c.in-Some.is at c.in_ok-read.ensures.finds)
