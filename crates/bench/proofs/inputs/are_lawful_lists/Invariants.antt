-- Those before the index have lawful fields.
use Rattle.std.proofs.Common.{take}
use Rattle.std.specs.Prelude.{All}
use Rattle.abi_scalar.specs.Lawful.{IsLawfulLayout}
use Rattle.bench.proofs.inputs.are_lawful_lists.Given as goal

abbrev pub invariant-loop-fields : goal.invariant-loop-fields
invariant-loop-fields l = All (All (λ layout. IsLawfulLayout l.dl layout.now)) (take l.fields-index l.lists)
