use Rattle.std.proofs.Common.{◌≡◌, ◌++◌, drop, map}
use Rattle.serde_json.specs.View.{items_view}
use Rattle.type_reports.specs.Facts.{fact_read, variants_said}
use Rattle.type_reports.proofs.facts.put_variants.Given as goal

-- what was put, and what the variants that are left say
abbrev pub invariant-loop-variant : goal.invariant-loop-variant
invariant-loop-variant l =
    map fact_read l.all.items ++ variants_said (items_view (drop l.variant-index l.variants))
    ≡ map fact_read l.fn.all.items ++ variants_said (items_view l.variants)
