-- The items so far stand before those that are left.
use Rattle.std.proofs.Common.{◌≡◌, ◌++◌, drop, map}
use Rattle.toml.specs.View.{view}
use Rattle.cargo_manifest.proofs.schema.items_below.Given as goal

abbrev pub invariant-loop-item : goal.invariant-loop-item
invariant-loop-item l =
    map (λ e. view e.1.now) l.all.items ++ map (λ v. view v.now) (drop l.item-index l.item-items) ≡ map (λ v. view v.now) l.item-items
