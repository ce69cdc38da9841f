-- The path so far.
use Rattle.std.proofs.Common.{◌≡◌, ◌-◌}
use Rattle.rust_source.specs.Modules.{path_passed, path_passed_from}
use Rattle.rust_source.proofs.reader.items.pass_path.Given as goal

abbrev pub invariant-loop-turn : goal.invariant-loop-turn
invariant-loop-turn l = path_passed_from (l.turns - l.turn) l.cursor ≡ path_passed l.fn.cursor
