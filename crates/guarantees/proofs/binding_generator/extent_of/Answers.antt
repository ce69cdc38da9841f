-- The type that was laid out.
use Rattle.std.proofs.Common.{ap, sym}
use Rattle.abi_tree.specs.Laid.{placed_of}
use Rattle.abi_scalar.specs.Layout.{Layout}
use Rattle.guarantees.proofs.binding_generator.extent_of.Goals as goal

pub returns-clause-laid : goal.returns-clause-laid
returns-clause-laid c = (
  c.in_ok-laid.ensures.lawful,
  placed_of c.in_ok-laid.laid,
  c.in_ok-laid.ensures.laid,
  ap (λ (l : Layout). l.size) (sym c.layout-layout.ensures),
  ap (λ (l : Layout). l.align.abi) (sym c.layout-layout.ensures),
)
