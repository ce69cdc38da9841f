use Rattle.std.proofs.Common.{length}
use Rattle.abi_univariant.proofs.Sorted.Least.{named_allowed, allowed_permutes}
use Rattle.abi_univariant.proofs.run.run.Goals as goal

pub placed_in-requires-clause-order : goal.placed_in-requires-clause-order
placed_in-requires-clause-order g c =
    allowed_permutes c.args.repr.now (length c.args.parts.now) _ (named_allowed c.args.repr.now c.args.bias c.args.parts.now _ c.requires.repr.kind c.in_ok-order.ensures)
