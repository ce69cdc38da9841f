use Rattle.std.proofs.Common.{◌≡◌, ◌<◌, ◌++◌, ℕ, List, None, Some, append-nil, ap, arith, get_or, length, map, rules, subst, sym, ◌∙◌}
use Rattle.std.proofs.lemmas.List.{get_or_default}
use Rattle.std.proofs.lemmas.Result.{on_ok_weaker}
use Rattle.abi_scalar.specs.Shape.{listed_offsets}
use Rattle.abi_tree.specs.Nodes.{parts_at, placed_in, types_in}
use Rattle.abi_tree.specs.Parts.{field_parts, kept_part}
use Rattle.abi_tree.proofs.Deciding.ChosenLemmas.{kept_below}
use Rattle.abi_tree.proofs.Places.PartsLemmas.{fields_made, fields_own, others_own}
use Rattle.abi_tree.proofs.parts.put_variant.Goals as goal

pub put_fields-requires : goal.put_fields-requires
put_fields-requires c =
    let here : get_or c.args.sets.kept.now c.args.place None ≡ Some c.in-Some.node =
    get_or_default c.args.sets.kept.now c.args.place None _ (kept_below c.args.sets.kept.now c.args.place c.requires.2) ∙ c.in-Some.is in
    rw c.deref.ensures.value
    (types_in c.requires.0, fields_made c.requires.0 c.args.sets.kept.now c.args.sets.done.now c.requires.1 c.args.place c.in-Some.node here c.in-Fields.field-0 c.in-Fields.children c.in-Fields.is)

pub returns-in-Fields : goal.returns-in-Fields
returns-in-Fields c =
    on_ok_weaker c.put_fields.result
    (λ put ns have keeps.
    let here : get_or c.args.sets.kept.now c.args.place None ≡ Some c.in-Some.node =
    get_or_default c.args.sets.kept.now c.args.place None _ (kept_below c.args.sets.kept.now c.args.place keeps) ∙ c.in-Some.is in
    let made = fields_made ns c.args.sets.kept.now c.args.sets.done.now have c.args.place c.in-Some.node here c.in-Fields.field-0 c.in-Fields.children c.in-Fields.is in
    put (types_in ns) (rw c.deref.ensures.value made)
    ∙ ap (λ cs. map kept_part c.args.parts.now.items ++ field_parts (Some c.args.variant) 0 (parts_at (listed_offsets c.in-Some.node.layout.now.fields) (map (placed_in (types_in ns)) cs))) c.deref.ensures.value
    ∙ ap (λ parts. map kept_part c.args.parts.now.items ++ field_parts (Some c.args.variant) 0 parts)
    (fields_own ns c.args.sets.kept.now c.args.sets.done.now have c.args.place c.in-Some.node here c.in-Fields.field-0 c.in-Fields.children c.in-Fields.is))
    c.put_fields.ensures

pub returns-in_default : goal.returns-in_default
returns-in_default c = λ ns have keeps.
    let here : get_or c.args.sets.kept.now c.args.place None ≡ Some c.in-Some.node =
    get_or_default c.args.sets.kept.now c.args.place None _ (kept_below c.args.sets.kept.now c.args.place keeps) ∙ c.in-Some.is in
    sym (append-nil (map kept_part c.args.parts.now.items))
    ∙ ap (λ parts. map kept_part c.args.parts.now.items ++ field_parts (Some c.args.variant) 0 parts)
    (others_own ns c.args.sets.kept.now c.args.sets.done.now have c.args.place c.in-Some.node here c.in_default.not-Fields)
