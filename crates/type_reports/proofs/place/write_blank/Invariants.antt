-- As many spaces are left as turns.
use Rattle.std.proofs.Common.{◌≡◌, ◌-◌, ◌++◌, string_bytes}
use Rattle.std.specs.Prelude.{replicate}
use Rattle.type_reports.proofs.place.write_blank.Given as goal

abbrev pub invariant-loop : goal.invariant-loop
invariant-loop l = string_bytes l.out ++ replicate (l.end - l.counter) 32 ≡ string_bytes l.fn.out ++ replicate l.end 32
