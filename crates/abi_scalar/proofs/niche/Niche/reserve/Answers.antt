use Rattle.std.proofs.Common.{rules}
use Rattle.abi_scalar.specs.declared.scalar.Scalar.TheVariants.{Initialized}
use Rattle.abi_scalar.proofs.ReserveLemmas.{reserved_hands_out}
use Rattle.abi_scalar.proofs.niche.Niche.reserve.Goals as goal

pub returns-clause-set : goal.returns-clause-set
returns-clause-set g c =
    let moved = c.if-moves_start.first in
    let niche = c.args.self.now in
    reserved_hands_out (g.C.HasDataLayout.target c.args.cx.now) niche c.args.count (moved.0, Initialized niche.value moved.1)
    c.requires.readable.within c.requires.some (search rules) (search rules)
