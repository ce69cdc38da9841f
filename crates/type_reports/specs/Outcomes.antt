-- What came of types, and how bad it is.
use Rattle.std.specs.Prelude.{ℕ}
use Rattle.type_reports.specs.declared.answer.Outcome.{Outcome}
use Rattle.type_reports.specs.declared.answer.Outcome.TheVariants.{Reported, Denied, Faulty, Refused}

-- the worse one is further down
abbrev pub rank_of : Outcome → ℕ
rank_of Reported = 0
rank_of Denied = 1
rank_of Faulty = 2
rank_of Refused = 3

-- the status that tells it
abbrev pub status_of : Outcome → ℕ
status_of Reported = 0
status_of Denied = 3
status_of Faulty = 2
status_of Refused = 1
