-- Each before the index is lawful.
use Rattle.std.proofs.Common.{take}
use Rattle.std.specs.Prelude.{All}
use Rattle.abi_scalar.specs.Lawful.{IsLawfulLayout}
use Rattle.bench.proofs.inputs.are_lawful.Given as goal

abbrev pub invariant-loop-layout : goal.invariant-loop-layout
invariant-loop-layout l = All (λ layout. IsLawfulLayout l.dl layout.now) (take l.layout-index l.layouts)
