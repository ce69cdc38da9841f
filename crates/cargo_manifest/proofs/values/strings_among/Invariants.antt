-- The strings so far stand before those that are left.
use Rattle.std.proofs.Common.{◌≡◌, ◌++◌, drop, map}
use Rattle.std.specs.Prelude.{filter_map}
use Rattle.toml.specs.Data.{as_str}
use Rattle.toml.specs.View.{view}
use Rattle.cargo_manifest.specs.Values.{texts}
use Rattle.cargo_manifest.proofs.values.strings_among.Given as goal

abbrev pub invariant-loop-value : goal.invariant-loop-value
invariant-loop-value l =
    texts l.all.items ++ filter_map as_str (map (λ v. view v.now) (drop l.value-index l.values)) ≡ filter_map as_str (map (λ v. view v.now) l.values)
