-- The struct that was laid out, from what is said of its order and of its layout.
use Rattle.std.proofs.Common.{List, ℕ, ap, subst, sym, ◌∙◌}
use Rattle.abi_scalar.specs.Shape.{listed_offsets}
use Rattle.abi_tree.specs.Laid.{placed_of}
use Rattle.abi_scalar.specs.Layout.{Layout}
use Rattle.abi_tree.specs.Tree.{tree_of}
use Rattle.guarantees.specs.InC.{LieAsInC, least_align}
use Rattle.guarantees.proofs.Ordered.{offsets_listed, struct_in_c}
use Rattle.guarantees.proofs.binding_generator.struct_of.Goals as goal

pub unreachable-requires : goal.unreachable-requires
unreachable-requires c =
    offsets_listed c.args.dl.now c.requires.0 c.requires.1 (tree_of c.args.tree.now) c.requires.2 (placed_of c.in_ok-laid.laid) c.requires.3 c.in_ok-laid.ensures.laid c.layout-layout.result.now c.layout-layout.ensures
    c.in_default.not-Arbitrary

pub returns-clause-placed : goal.returns-clause-placed
returns-clause-placed c = λ pack raised fields is.
    let in_c = struct_in_c c.args.dl.now pack raised (tree_of c.args.tree.now) fields (placed_of c.in_ok-laid.laid) is c.in_ok-laid.ensures.laid c.layout-layout.result.now
    c.in-Arbitrary.offsets c.in-Arbitrary.in_memory_order c.in_ok-laid.ensures.placed c.layout-layout.ensures c.in-Arbitrary.is in
    (in_c.0, in_c.1, subst (λ (os : List ℕ). LieAsInC pack (least_align c.args.dl.now pack raised) in_c.0 os c.layout-layout.result.now.size c.layout-layout.result.now.align.abi) (sym c.in_ok-try_clone-in-Arbitrary.ensures.ok) in_c.2)

pub returns-clause-laid : goal.returns-clause-laid
returns-clause-laid c = (
  c.in_ok-laid.ensures.lawful,
  placed_of c.in_ok-laid.laid,
  c.in_ok-laid.ensures.laid,
  ap (λ (l : Layout). listed_offsets l.fields) (sym c.layout-layout.ensures) ∙ ap listed_offsets c.in-Arbitrary.is ∙ sym c.in_ok-try_clone-in-Arbitrary.ensures.ok,
  ap (λ (l : Layout). l.size) (sym c.layout-layout.ensures),
  ap (λ (l : Layout). l.align.abi) (sym c.layout-layout.ensures),
)
