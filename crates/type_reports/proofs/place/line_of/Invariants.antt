-- Behind as many ends of lines as turns are left stands the line.
use Rattle.std.proofs.Common.{◌≡◌, ◌-◌}
use denote.Shadow.{shadow}
use denote.Text.{Utf8}
use Rattle.type_reports.specs.Position.{rest_after_lines}
use Rattle.type_reports.proofs.place.line_of.Given as goal

abbrev pub invariant-loop-line : goal.invariant-loop-line
invariant-loop-line l = (rest_after_lines (l.number - l.line) l.rest ≡ rest_after_lines (l.number - 1) l.text) × shadow (Utf8 l.rest)
