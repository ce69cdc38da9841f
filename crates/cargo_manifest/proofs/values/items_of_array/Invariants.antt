-- The items so far stand before those that are left.
use Rattle.std.proofs.Common.{◌≡◌, ◌++◌, drop, map}
use Rattle.toml.specs.View.{items_view, view}
use Rattle.cargo_manifest.specs.Values.{items}
use Rattle.cargo_manifest.proofs.values.items_of_array.Given as goal

abbrev pub invariant-loop-item : goal.invariant-loop-item
invariant-loop-item l = map (λ v. view v.now) l.all.items ++ items (items_view (drop l.item-index l.item-items)) ≡ items (items_view l.item-items)
