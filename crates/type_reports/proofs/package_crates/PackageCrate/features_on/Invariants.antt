use Rattle.std.proofs.Common.{◌≡◌, ◌∷◌, ◌++◌, [], drop, map, string_bytes}
use Rattle.type_reports.proofs.package_crates.PackageCrate.features_on.Given as goal

-- the names that were put, and those that are left
abbrev pub invariant-loop-feature : goal.invariant-loop-feature
invariant-loop-feature l =
    map (λ name. name.now) l.on.items ++ map string_bytes (drop l.feature-index l.feature-items) ≡ [] ∷ map string_bytes l.feature-items
