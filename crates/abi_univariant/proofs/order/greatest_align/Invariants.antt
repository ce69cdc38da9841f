-- What the greatest so far makes of the parts left is the greatest of all.
use Rattle.std.proofs.Common.{◌≡◌, drop, max}
use Rattle.std.specs.Prelude.{fold}
use Rattle.abi_univariant.proofs.order.greatest_align.Given as goal

abbrev pub invariant-loop-index : goal.invariant-loop-index
invariant-loop-index g l = fold (λ greatest part. max greatest part.align) l.greatest (drop l.index l.parts) ≡ fold (λ greatest part. max greatest part.align) 0 l.parts
