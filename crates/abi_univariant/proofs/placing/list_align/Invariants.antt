-- What the greatest so far makes of the parts left is the list's alignment.
use Rattle.std.proofs.Common.{◌≡◌, drop, max}
use Rattle.std.specs.Prelude.{fold}
use Rattle.abi_univariant.specs.Placement.{align_of, cut}
use Rattle.abi_univariant.proofs.placing.list_align.Given as goal

abbrev pub invariant-loop-index : goal.invariant-loop-index
invariant-loop-index g l = fold (λ greatest part. max greatest (cut l.repr.pack part.align)) l.greatest (drop l.index l.parts) ≡ align_of l.repr l.parts
