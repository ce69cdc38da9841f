-- Sizes that are known, one more, and what is told under them.
use Rattle.std.proofs.Common.{◌≡◌, ℕ, List, [], ◌∷◌, ◌++◌, Option, Ok, Err, inl, inr, refl}
use Rattle.std.specs.Prelude.{OnOk, Result}
use Rattle.std.specs.Option.{option_map}
use Rattle.std.specs.Result.{IsErrAnd}
use Rattle.rust_source.specs.declared.place.Place.{Place}
use Rattle.abi_rust.specs.Meaning.{Means}
use Rattle.abi_rust.specs.Measure.{Measure}
use Rattle.abi_rust.specs.Sizes.{AreSizes, IsOver, IsReported, IsUnder, more}
use Rattle.abi_rust.specs.TypeReport.{place_of_request, size_meant, report_read, report_under}
use Rattle.abi_rust.specs.declared.fault.Stop.{Stop}
use Rattle.abi_rust.specs.declared.fault.Stop.TheVariants.{Size}
use Rattle.abi_rust.specs.declared.report.Subject.{Subject}
use Rattle.abi_rust.specs.declared.report.TypeReport.{TypeReport}
use Rattle.abi_rust.specs.declared.budget.Context.{Context}
use Rattle.abi_rust.specs.declared.budget.KnownSize.{KnownSize}
use Rattle.abi_rust.specs.declared.budget.Request.{Request}

pub on_ok : {A E P Q : Type 0} (r : Result A E) → (P → Q) → OnOk r P → OnOk r Q
on_ok (Ok a) f p = f p
on_ok (Err e) f p = p

module _ (cx : Context) (m : Measure) where
  -- what the size is that a request asks for, under these sizes
  abbrev pub Sized : List KnownSize → Request → Result (ℕ × ℕ) Stop → Type 0
  Sized known r found = (under : Context) × IsUnder cx known under × Means (λ s. s) (size_meant under m r.at (place_of_request r) r.ty.now) found

  -- what is told under these sizes
  abbrev pub Attempted : List KnownSize → Subject → Place → Result (Option TypeReport) Stop → Type 0
  Attempted known s file found = (under : Context) × IsUnder cx known under × Means (option_map report_read) (report_under under m s file) found

  pub one_more : (known new : List KnownSize) (r : Request) (found : Result (ℕ × ℕ) Stop)
      → Sized known r found → new ≡ known ++ record { asked = r; found = found } ∷ [] → AreSizes cx m known → AreSizes cx m new
  one_more known new r found under noted sizes =
      rw noted (more known (record { asked = r; found = found }) under.0 sizes under.1 under.2)

  pub report_meant : (known : List KnownSize) (s : Subject) (file : Place) (found r : Result (Option TypeReport) Stop)
      → AreSizes cx m known → Attempted known s file found → found ≡ r → (r ≡ Err Size → ⊥) → IsReported cx m s file r
  report_meant known s file found r sizes under is settled = inl (known, under.0, sizes, under.1, rw is at under.2, settled)

  -- that there is no going on, which was passed on
  pub report_over : (s : Subject) (file : Place) (e : Stop) (r : Result (Option TypeReport) Stop)
      → report_under cx m s file ≡ Err Size → IsOver e → IsErrAnd r (λ stop. stop ≡ e) → IsReported cx m s file r
  report_over s file e (Ok found) asks over passed = absurd passed
  report_over s file e (Err stop) asks over passed = inr (asks, rw passed over)

  -- no size is known
  pub alone : (s : Subject) (file : Place) (found : Result (Option TypeReport) Stop) → cx.known.now ≡ [] → Means (option_map report_read) (report_under cx m s file) found → Attempted [] s file found
  alone s file found empty answers = (cx, record { items = refl; scope = refl; dl = refl; pointer_bits = refl; knows = empty }, answers)
