use Rattle.std.proofs.Common.{◌≡◌, drop}
use Rattle.std.specs.List.{find}
use Rattle.abi_base.specs.Integer.{is_within_align}
use Rattle.abi_base.proofs.integer.first_within_align.Given as goal

abbrev pub invariant-loop-candidate : goal.invariant-loop-candidate
invariant-loop-candidate g l = find (is_within_align (g.C.HasDataLayout.target l.cx) l.wanted) (drop l.candidate-index l.integers) ≡ find (is_within_align (g.C.HasDataLayout.target l.cx) l.wanted) l.integers
