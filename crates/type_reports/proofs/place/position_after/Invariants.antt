-- What is left leads on from here to the end, and no number is above the bytes so far.
use Rattle.std.proofs.Common.{◌≡◌, ◌≤◌, ◌+◌, drop}
use Rattle.type_reports.specs.Position.{after_bytes}
use Rattle.type_reports.proofs.place.position_after.Given as goal

abbrev pub invariant-loop-byte : goal.invariant-loop-byte
invariant-loop-byte l = (after_bytes (drop l.byte-index l.bytes) l.at ≡ after_bytes l.bytes (record { line = 1; column = 1 }))
    × (l.at.line ≤ l.byte-index + 1) × (l.at.column ≤ l.byte-index + 1)
