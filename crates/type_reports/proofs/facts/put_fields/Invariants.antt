use Rattle.std.proofs.Common.{◌≡◌, ◌++◌, drop, map}
use Rattle.std.specs.Option.{option_map}
use Rattle.serde_json.specs.View.{items_view}
use Rattle.type_reports.specs.Facts.{fact_read, fields_said}
use Rattle.type_reports.proofs.facts.put_fields.Given as goal

-- what was put, and what the fields that are left say
abbrev pub invariant-loop-field : goal.invariant-loop-field
invariant-loop-field l =
    map fact_read l.all.items ++ fields_said (option_map (λ text. text.now) l.variant) (items_view (drop l.field-index l.fields))
    ≡ map fact_read l.fn.all.items ++ fields_said (option_map (λ text. text.now) l.variant) (items_view l.fields)
