use Rattle.abi_rust.specs.Measure.{IsMeasure, Measure}
use Rattle.abi_rust.specs.Sizes.{AreSizes}
use Rattle.abi_rust.proofs.report.report_on_sized.Given as goal

-- the sizes that are known are right
abbrev pub invariant-loop-size : goal.invariant-loop-size
invariant-loop-size l = (m : Measure) → IsMeasure l.cx.dl.now m → AreSizes l.cx m l.known.items
