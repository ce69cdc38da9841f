-- Each rule so far holds.
use Rattle.std.proofs.Common.{◌≡◌, drop, map}
use Rattle.std.specs.List.{list_all}
use Rattle.toml.specs.View.{view}
use Rattle.cargo_manifest.specs.Schema.{fits_rule, rule_view}
use Rattle.cargo_manifest.proofs.schema.first_wrong.Given as goal

abbrev pub invariant-loop-rule : goal.invariant-loop-rule
invariant-loop-rule l =
    list_all (fits_rule (view l.value)) (map rule_view (drop l.rule-index l.rule-items)) ≡ list_all (fits_rule (view l.value)) (map rule_view l.rule-items)
