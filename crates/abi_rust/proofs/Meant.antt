-- What is told over sources is meant.
use Rattle.std.proofs.Common.{◌≡◌, [], Err, Option}
use Rattle.std.specs.Option.{option_map}
use Rattle.std.specs.Prelude.{Result}
use Rattle.abi_base.specs.declared.data_layout.TargetDataLayout.{TargetDataLayout}
use Rattle.abi_rust.specs.Meaning.{Means}
use Rattle.abi_rust.specs.Measure.{IsMeasure, Measure}
use Rattle.abi_rust.specs.Sizes.{IsReported}
use Rattle.abi_rust.specs.Sources.{IsMeant, IsContextOver}
use Rattle.abi_rust.specs.TypeReport.{report_read, report_under}
use Rattle.abi_rust.specs.declared.fault.Stop.{Stop}
use Rattle.abi_rust.specs.declared.fault.Stop.TheVariants.{Size}
use Rattle.abi_rust.specs.declared.sources.Sources.{Sources}
use Rattle.abi_rust.specs.declared.report.Subject.{Subject}
use Rattle.abi_rust.specs.declared.report.TypeReport.{TypeReport}
use Rattle.abi_rust.specs.declared.budget.Context.{Context}

-- the answer to work over sources
pub meant_by : (s : Sources) (dl : TargetDataLayout) (m : Measure) (cx : Context) (subject : Subject) (r : Result (Option TypeReport) Stop)
    → IsMeasure dl m → IsContextOver s dl cx
    → ((n : Measure) → IsMeasure cx.dl.now n → (report_under cx n subject s.file ≡ Err Size → ⊥) → Means (option_map report_read) (report_under cx n subject s.file) r)
    → ((n : Measure) → IsMeasure cx.dl.now n → cx.known.now ≡ [] → IsReported cx n subject s.file r)
    → IsMeant cx m subject s.file r
meant_by s dl m cx subject r is over exact report =
    let under : IsMeasure cx.dl.now m = rw over.layout is in
    record { exact = exact m under; report = report m under over.knows }
