use Rattle.abi_scalar.proofs.RangeLemmas.{between_from_in, in_from_between}
use Rattle.abi_scalar.proofs.wrapping_range.WrappingRange.contains.Goals as goal

pub returns : goal.returns
returns c width within below = (
  λ t. in_from_between width c.args.self.now c.args.v within below (c.is_between.ensures.0 t),
  λ i. c.is_between.ensures.1 (between_from_in width c.args.self.now c.args.v within i),
)
