-- What the layout and the view say of the bytes that hold a value.
use Rattle.std.proofs.Common.{◌≡◌, ap, sym, ◌∙◌, subst}
use Rattle.abi_base.specs.declared.endian.Endian.{Endian}
use Rattle.abi_scalar.specs.declared.backend_repr.BackendRepr.TheVariants.{Scalar as OneScalar}
use Rattle.abi_tree.specs.Holding.{Holds}
use Rattle.abi_tree.specs.Laid.{placed_of}
use Rattle.abi_tree.specs.Placed.{layout_of}
use Rattle.abi_scalar.specs.Layout.{Layout}
use Rattle.abi_tree.specs.Tree.{tree_of}
use Rattle.guarantees.proofs.Seen.{held_here, of_bool, seen_here, seen_most, seen_number}
use Rattle.guarantees.proofs.code_generator.load.Goals as goal

pub returns-in_default-clause-none : goal.returns-in_default-clause-none
returns-in_default-clause-none c = λ is placed laid scalar seen v held. c.in_default.not-Scalar scalar
    (ap (λ (l : Layout). l.backend_repr) c.layout.ensures ∙ seen_here c.args.dl.now (tree_of c.args.tree.now) c.in_ok-laid.ensures.one (placed_of c.in_ok-laid.laid) c.in_ok-laid.ensures.laid scalar seen)

pub returns-in_default-clause-laid : goal.returns-in_default-clause-laid
returns-in_default-clause-laid c = (c.in_ok-laid.ensures.lawful, placed_of c.in_ok-laid.laid, c.in_ok-laid.ensures.laid)

pub returns-then-not-branch-clause-none : goal.returns-then-not-branch-clause-none
returns-then-not-branch-clause-none c = λ is placed laid scalar seen v held.
    let none = rw c.if-not-branch.true at c.in_ok-is_value.ensures in
    none v (held_here c.args.dl.now (tree_of c.args.tree.now) c.in_ok-laid.ensures.one (placed_of c.in_ok-laid.laid) c.in_ok-laid.ensures.laid _ c.in_ok-laid.ensures.order c.args.bytes.now v placed laid held)

pub returns-then-not-branch-clause-laid : goal.returns-then-not-branch-clause-laid
returns-then-not-branch-clause-laid c = (c.in_ok-laid.ensures.lawful, placed_of c.in_ok-laid.laid, c.in_ok-laid.ensures.laid)

pub number_in-number-requires : goal.number_in-number-requires
number_in-number-requires c =
    let held = rw c.if-not-branch.false at c.in_ok-is_value.ensures in
    let view : (layout_of (placed_of c.in_ok-laid.laid)).backend_repr ≡ OneScalar c.in-Scalar.scalar = sym (ap (λ (l : Layout). l.backend_repr) c.layout.ensures) ∙ c.in-Scalar.is in
    seen_most c.args.dl.now c.in_ok-laid.laid c.args.bytes.now c.in-Scalar.scalar held.0 view c.in_ok-laid.ensures.layout held.1

pub returns-clause-seen : goal.returns-clause-seen
returns-clause-seen c =
    let view : (layout_of (placed_of c.in_ok-laid.laid)).backend_repr ≡ OneScalar c.in-Scalar.scalar = sym (ap (λ (l : Layout). l.backend_repr) c.layout.ensures) ∙ c.in-Scalar.is in
    (placed_of c.in_ok-laid.laid, c.in_ok-laid.ensures.laid, view)

pub returns-clause-number : goal.returns-clause-number
returns-clause-number c = c.number_in-number.ensures.value

pub returns-clause-held : goal.returns-clause-held
returns-clause-held c =
    let held = rw c.if-not-branch.false at c.in_ok-is_value.ensures in
    (placed_of c.in_ok-laid.laid, held.0, c.in_ok-laid.ensures.laid, subst (λ (o : Endian). Holds o (placed_of c.in_ok-laid.laid) c.args.bytes.now held.0) c.in_ok-laid.ensures.order held.1)

pub returns-clause-range : goal.returns-clause-range
returns-clause-range c =
    let held = rw c.if-not-branch.false at c.in_ok-is_value.ensures in
    let view : (layout_of (placed_of c.in_ok-laid.laid)).backend_repr ≡ OneScalar c.in-Scalar.scalar = sym (ap (λ (l : Layout). l.backend_repr) c.layout.ensures) ∙ c.in-Scalar.is in
    seen_number c.args.dl.now c.in_ok-laid.laid c.args.bytes.now c.in-Scalar.scalar held.0 view c.in_ok-laid.ensures.layout held.1
    c.in_ok-laid.ensures.order (c.in_ok-laid.ensures.faithful c.requires.locals).view c.number_in-number.result c.number_in-number.ensures.value c.number_in-number.ensures.bound

pub returns-clause-bool : goal.returns-clause-bool
returns-clause-bool c = λ is.
    let held = rw c.if-not-branch.false at c.in_ok-is_value.ensures in
    let view : (layout_of (placed_of c.in_ok-laid.laid)).backend_repr ≡ OneScalar c.in-Scalar.scalar = sym (ap (λ (l : Layout). l.backend_repr) c.layout.ensures) ∙ c.in-Scalar.is in
    of_bool c.args.dl.now c.in-Scalar.scalar c.number_in-number.result is
    (seen_number c.args.dl.now c.in_ok-laid.laid c.args.bytes.now c.in-Scalar.scalar held.0 view c.in_ok-laid.ensures.layout held.1
    c.in_ok-laid.ensures.order (c.in_ok-laid.ensures.faithful c.requires.locals).view c.number_in-number.result c.number_in-number.ensures.value c.number_in-number.ensures.bound)

pub returns-clause-laid : goal.returns-clause-laid
returns-clause-laid c = (c.in_ok-laid.ensures.lawful, placed_of c.in_ok-laid.laid, c.in_ok-laid.ensures.laid)
