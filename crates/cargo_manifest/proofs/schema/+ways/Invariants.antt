-- The values so far are of the kind; each step leads on by a shorter way.
use Rattle.std.proofs.Common.{◌≡◌, ◌*◌, ◌+◌, drop, length, map}
use Rattle.std.specs.List.{list_all}
use Rattle.toml.specs.View.{view}
use Rattle.cargo_manifest.specs.Schema.{fits, step_view}
use Rattle.cargo_manifest.proofs.schema.+ways.Given as goal

abbrev pub decreases-wrong_key : goal.decreases-wrong_key
decreases-wrong_key l = 2 * length l.way.now

abbrev pub decreases-wrong_among : goal.decreases-wrong_among
decreases-wrong_among l = 2 * length l.way.now + 1

abbrev pub invariant-wrong_among-loop-key : goal.invariant-wrong_among-loop-key
invariant-wrong_among-loop-key l =
    list_all (fits (map step_view l.way) l.kind) (map (λ e. view e.1.now) (drop l.key-index l.values)) ≡ list_all (fits (map step_view l.way) l.kind) (map (λ e. view e.1.now) l.values)
