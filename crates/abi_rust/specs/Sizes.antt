-- The report on a type whose tree asks for sizes.
use Rattle.std.specs.Prelude.{◌≡◌, ◌⊎◌, true, List, [], ◌∷◌, ◌++◌, Option, None, Result, Err}
use Rattle.std.specs.Option.{option_map}
use Rattle.std.specs.Result.{IsErrAnd}
use Rattle.rust_source.specs.declared.place.Place.{Place}
use Rattle.abi_rust.specs.Meaning.{Means, is_beside}
use Rattle.abi_rust.specs.Measure.{Measure}
use Rattle.abi_rust.specs.TypeReport.{place_of_request, size_meant, report_read, report_under}
use Rattle.abi_rust.specs.declared.fault.FaultKind.TheVariants.{TooDeep}
use Rattle.abi_rust.specs.declared.fault.Stop.{Stop}
use Rattle.abi_rust.specs.declared.fault.Stop.TheVariants.{Fault, Size}
use Rattle.abi_rust.specs.declared.report.Subject.{Subject}
use Rattle.abi_rust.specs.declared.report.TypeReport.{TypeReport}
use Rattle.abi_rust.specs.declared.budget.Context.{Context}
use Rattle.abi_rust.specs.declared.budget.KnownSize.{KnownSize}

-- the same work, but that these sizes are known
pub record IsUnder (cx : Context) (known : List KnownSize) (under : Context) : Type 0 where
  pub items : under.items ≡ cx.items
  pub scope : under.scope ≡ cx.scope
  pub dl : under.dl ≡ cx.dl
  pub pointer_bits : under.pointer_bits ≡ cx.pointer_bits
  pub knows : under.known.now ≡ known

-- what is known of a request is the size of the type that its call names where it stands, or its fault; want of memory and of parts aside
abbrev pub IsRight : Context → Measure → KnownSize → Type 0
IsRight under m k = Means (λ s. s) (size_meant under m k.asked.at (place_of_request k.asked) k.asked.ty.now) k.found

-- each of these sizes is right under those before it
pub data AreSizes (cx : Context) (m : Measure) : List KnownSize → Type 0 where
  none : AreSizes cx m []
  more : (known : List KnownSize) (k : KnownSize) (under : Context) → AreSizes cx m known → IsUnder cx known under → IsRight under m k
      → AreSizes cx m (known ++ k ∷ [])

-- there is no end: sizes need one another too deep, or memory or parts are wanting
abbrev pub IsOver : Stop → Type 0
IsOver e = (e ≡ Fault None TooDeep) ⊎ (is_beside e ≡ true)

-- the report: what is meant under sizes that are right, none that is asked for being left; or else, where one is asked for, that there is no end to it
abbrev pub IsReported : Context → Measure → Subject → (file : Place) → Result (Option TypeReport) Stop → Type 0
IsReported cx m s file r =
    ((known : List KnownSize) × (under : Context) × AreSizes cx m known × IsUnder cx known under
    × Means (option_map report_read) (report_under under m s file) r × (r ≡ Err Size → ⊥))
    ⊎ ((report_under cx m s file ≡ Err Size) × IsErrAnd r IsOver)
