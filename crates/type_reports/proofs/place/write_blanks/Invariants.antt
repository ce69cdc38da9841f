-- What is as wide as the characters that are left is left.
use Rattle.std.proofs.Common.{◌≡◌, ◌++◌, drop, string_bytes}
use Rattle.type_reports.specs.Position.{blanks_of}
use Rattle.type_reports.proofs.place.write_blanks.Given as goal

abbrev pub invariant-loop-character : goal.invariant-loop-character
invariant-loop-character l = string_bytes l.out ++ blanks_of (drop l.character-index l.characters) ≡ string_bytes l.fn.out ++ blanks_of l.characters
