use Rattle.std.proofs.Common.{◌≡◌, drop}
use Rattle.std.specs.List.{find}
use Rattle.abi_base.specs.Integer.{is_of_align}
use Rattle.abi_base.proofs.integer.first_of_align.Given as goal

abbrev pub invariant-loop-candidate : goal.invariant-loop-candidate
invariant-loop-candidate g l = find (is_of_align (g.C.HasDataLayout.target l.cx) l.wanted) (drop l.candidate-index l.integers) ≡ find (is_of_align (g.C.HasDataLayout.target l.cx) l.wanted) l.integers
