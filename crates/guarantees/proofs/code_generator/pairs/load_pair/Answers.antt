-- What the layout and the view say of the bytes that hold a value.
use Rattle.std.proofs.Common.{◌≡◌, ap, sym, ◌∙◌, subst}
use Rattle.abi_scalar.specs.declared.backend_repr.BackendRepr.TheVariants.{ScalarPair}
use Rattle.abi_scalar.specs.declared.scalar.Scalar.{Scalar}
use Rattle.abi_tree.specs.Laid.{placed_of}
use Rattle.abi_tree.specs.Placed.{layout_of}
use Rattle.abi_scalar.specs.Layout.{Layout}
use Rattle.abi_tree.specs.Tree.{tree_of}
use Rattle.guarantees.specs.Loaded.{IsNumberAt, IsSeenAsPair}
use Rattle.guarantees.proofs.Seen.{first_inside, first_lawful, first_number, held_here, second_inside, second_lawful, second_number, seen_pair_here}
use Rattle.guarantees.proofs.code_generator.pairs.load_pair.Goals as goal

pub returns-in_default-clause-none : goal.returns-in_default-clause-none
returns-in_default-clause-none c = λ is placed laid a b offset seen v held. c.in_default.not-ScalarPair a b offset
    (ap (λ (l : Layout). l.backend_repr) c.layout.ensures ∙ seen_pair_here c.args.dl.now (tree_of c.args.tree.now) c.in_ok-laid.ensures.one (placed_of c.in_ok-laid.laid) c.in_ok-laid.ensures.laid a b offset seen)

pub returns-in_default-clause-laid : goal.returns-in_default-clause-laid
returns-in_default-clause-laid c = (c.in_ok-laid.ensures.lawful, placed_of c.in_ok-laid.laid, c.in_ok-laid.ensures.laid)

pub returns-then-not-branch-clause-none : goal.returns-then-not-branch-clause-none
returns-then-not-branch-clause-none c = λ is placed laid a b offset seen v held.
    let none = rw c.if-not-branch.true at c.in_ok-is_value.ensures in
    none v (held_here c.args.dl.now (tree_of c.args.tree.now) c.in_ok-laid.ensures.one (placed_of c.in_ok-laid.laid) c.in_ok-laid.ensures.laid _ c.in_ok-laid.ensures.order c.args.bytes.now v placed laid held)

pub returns-then-not-branch-clause-laid : goal.returns-then-not-branch-clause-laid
returns-then-not-branch-clause-laid c = (c.in_ok-laid.ensures.lawful, placed_of c.in_ok-laid.laid, c.in_ok-laid.ensures.laid)

pub load_at-first-requires-clause-lawful : goal.load_at-first-requires-clause-lawful
load_at-first-requires-clause-lawful c =
    let held = rw c.if-not-branch.false at c.in_ok-is_value.ensures in
    let view : (layout_of (placed_of c.in_ok-laid.laid)).backend_repr ≡ ScalarPair c.in-ScalarPair.a c.in-ScalarPair.b c.in-ScalarPair.b_offset = sym (ap (λ (l : Layout). l.backend_repr) c.layout.ensures) ∙ c.in-ScalarPair.is in
    first_lawful c.args.dl.now c.in_ok-laid.laid c.args.bytes.now c.in-ScalarPair.a c.in-ScalarPair.b c.in-ScalarPair.b_offset held.0 view c.in_ok-laid.ensures.layout held.1

pub load_at-first-requires-clause-inside : goal.load_at-first-requires-clause-inside
load_at-first-requires-clause-inside c =
    let held = rw c.if-not-branch.false at c.in_ok-is_value.ensures in
    let view : (layout_of (placed_of c.in_ok-laid.laid)).backend_repr ≡ ScalarPair c.in-ScalarPair.a c.in-ScalarPair.b c.in-ScalarPair.b_offset = sym (ap (λ (l : Layout). l.backend_repr) c.layout.ensures) ∙ c.in-ScalarPair.is in
    first_inside c.args.dl.now c.in_ok-laid.laid c.args.bytes.now c.in-ScalarPair.a c.in-ScalarPair.b c.in-ScalarPair.b_offset held.0 view c.in_ok-laid.ensures.layout held.1

pub load_at-second-requires-clause-lawful : goal.load_at-second-requires-clause-lawful
load_at-second-requires-clause-lawful c =
    let held = rw c.if-not-branch.false at c.in_ok-is_value.ensures in
    let view : (layout_of (placed_of c.in_ok-laid.laid)).backend_repr ≡ ScalarPair c.in-ScalarPair.a c.in-ScalarPair.b c.in-ScalarPair.b_offset = sym (ap (λ (l : Layout). l.backend_repr) c.layout.ensures) ∙ c.in-ScalarPair.is in
    second_lawful c.args.dl.now c.in_ok-laid.laid c.args.bytes.now c.in-ScalarPair.a c.in-ScalarPair.b c.in-ScalarPair.b_offset held.0 view c.in_ok-laid.ensures.layout held.1

pub load_at-second-requires-clause-inside : goal.load_at-second-requires-clause-inside
load_at-second-requires-clause-inside c =
    let held = rw c.if-not-branch.false at c.in_ok-is_value.ensures in
    let view : (layout_of (placed_of c.in_ok-laid.laid)).backend_repr ≡ ScalarPair c.in-ScalarPair.a c.in-ScalarPair.b c.in-ScalarPair.b_offset = sym (ap (λ (l : Layout). l.backend_repr) c.layout.ensures) ∙ c.in-ScalarPair.is in
    second_inside c.args.dl.now c.in_ok-laid.laid c.args.bytes.now c.in-ScalarPair.a c.in-ScalarPair.b c.in-ScalarPair.b_offset held.0 view c.in_ok-laid.ensures.layout held.1

pub returns-clause-seen : goal.returns-clause-seen
returns-clause-seen c =
    let view : (layout_of (placed_of c.in_ok-laid.laid)).backend_repr ≡ ScalarPair c.in-ScalarPair.a c.in-ScalarPair.b c.in-ScalarPair.b_offset = sym (ap (λ (l : Layout). l.backend_repr) c.layout.ensures) ∙ c.in-ScalarPair.is in
    subst (λ (s : Scalar). IsSeenAsPair c.args.dl.now (tree_of c.args.tree.now) s c.load_at-second.result.scalar c.in-ScalarPair.b_offset) (sym c.load_at-first.ensures.scalar)
    (subst (λ (s : Scalar). IsSeenAsPair c.args.dl.now (tree_of c.args.tree.now) c.in-ScalarPair.a s c.in-ScalarPair.b_offset) (sym c.load_at-second.ensures.scalar)
    (placed_of c.in_ok-laid.laid, c.in_ok-laid.ensures.laid, view))

pub returns-clause-first : goal.returns-clause-first
returns-clause-first c =
    let held = rw c.if-not-branch.false at c.in_ok-is_value.ensures in
    let view : (layout_of (placed_of c.in_ok-laid.laid)).backend_repr ≡ ScalarPair c.in-ScalarPair.a c.in-ScalarPair.b c.in-ScalarPair.b_offset = sym (ap (λ (l : Layout). l.backend_repr) c.layout.ensures) ∙ c.in-ScalarPair.is in
    subst (λ s. IsNumberAt c.args.dl.now c.args.bytes.now 0 s c.load_at-first.result.number) (sym c.load_at-first.ensures.scalar)
    (first_number c.args.dl.now c.in_ok-laid.laid c.args.bytes.now c.in-ScalarPair.a c.in-ScalarPair.b c.in-ScalarPair.b_offset held.0 view c.in_ok-laid.ensures.layout held.1
    c.in_ok-laid.ensures.order (c.in_ok-laid.ensures.faithful c.requires.locals).view c.load_at-first.result.number c.load_at-first.ensures.number c.load_at-first.ensures.bound)

pub returns-clause-second : goal.returns-clause-second
returns-clause-second c =
    let held = rw c.if-not-branch.false at c.in_ok-is_value.ensures in
    let view : (layout_of (placed_of c.in_ok-laid.laid)).backend_repr ≡ ScalarPair c.in-ScalarPair.a c.in-ScalarPair.b c.in-ScalarPair.b_offset = sym (ap (λ (l : Layout). l.backend_repr) c.layout.ensures) ∙ c.in-ScalarPair.is in
    subst (λ s. IsNumberAt c.args.dl.now c.args.bytes.now c.in-ScalarPair.b_offset s c.load_at-second.result.number) (sym c.load_at-second.ensures.scalar)
    (second_number c.args.dl.now c.in_ok-laid.laid c.args.bytes.now c.in-ScalarPair.a c.in-ScalarPair.b c.in-ScalarPair.b_offset held.0 view c.in_ok-laid.ensures.layout held.1
    c.in_ok-laid.ensures.order (c.in_ok-laid.ensures.faithful c.requires.locals).view c.load_at-second.result.number c.load_at-second.ensures.number c.load_at-second.ensures.bound)

pub returns-clause-laid : goal.returns-clause-laid
returns-clause-laid c = (c.in_ok-laid.ensures.lawful, placed_of c.in_ok-laid.laid, c.in_ok-laid.ensures.laid)
