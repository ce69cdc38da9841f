use Rattle.std.proofs.Common.{◌≡◌, ℕ, List, [], ◌∷◌, ◌++◌, None, append_assoc, ap, length, map, refl, subst, sym, ◌∙◌}
use Rattle.std.proofs.lemmas.Result.{on_ok_weaker}
use Rattle.abi_scalar.specs.Shape.{listed_offsets}
use Rattle.abi_tree.specs.declared.node.Node.{Node}
use Rattle.abi_tree.specs.declared.node.Shape.TheVariants.{Scalar, Pair, Never, Elements, Fields, Union, Vector, Single, Tagged, States}
use Rattle.abi_tree.specs.declared.parts.PartName.TheVariants.{Number, Elements as AllElements, Lanes, Tag}
use Rattle.abi_tree.specs.Needed.{ArePartsMade, IsPartMade}
use Rattle.abi_tree.specs.Nodes.{parts_at, parts_at_0, placed_in, state_tag_offset, tag_offset, types_in}
use Rattle.abi_tree.specs.Parts.{Part, field_parts, kept_part, placed_part}
use Rattle.abi_tree.proofs.Places.PartsLemmas.{fields_made, pair_made, put_as, put_whole, single_made, states_made, tagged_made, union_made, whole_made}
use Rattle.abi_tree.proofs.parts.put_common.Goals as goal

pub put_one-requires : goal.put_one-requires
put_one-requires c = rw c.bytes-size.ensures (types_in c.requires.sets.0, whole_made c.requires.sets.0 c.args.sets.kept.now c.args.sets.done.now c.requires.sets.1 c.args.place c.args.node c.requires.here)

pub returns-in-Scalar : goal.returns-in-Scalar
returns-in-Scalar c =
    on_ok_weaker c.put_one.result
    (λ put ns have. put_whole ns c.args.sets.kept.now c.args.sets.done.now have c.args.place c.args.node c.requires.here (Scalar c.in-Scalar.field-0) Number (map kept_part c.args.parts.now.items) (map kept_part c.put_one.new.parts.items) c.in-Scalar.is
    (put (types_in ns) (rw c.bytes-size.ensures (whole_made ns c.args.sets.kept.now c.args.sets.done.now have c.args.place c.args.node c.requires.here))) (λ p is. ap (λ q. placed_part Number 0 q ∷ []) is))
    c.put_one.ensures

pub put_one-requires-in-Never : goal.put_one-requires-in-Never
put_one-requires-in-Never c = rw c.bytes-size.ensures (types_in c.requires.sets.0, whole_made c.requires.sets.0 c.args.sets.kept.now c.args.sets.done.now c.requires.sets.1 c.args.place c.args.node c.requires.here)

pub returns-in-Never : goal.returns-in-Never
returns-in-Never c =
    on_ok_weaker c.put_one-in-Never.result
    (λ put ns have. put_whole ns c.args.sets.kept.now c.args.sets.done.now have c.args.place c.args.node c.requires.here (Never c.in-Never.field-0) Number (map kept_part c.args.parts.now.items) (map kept_part c.put_one-in-Never.new.parts.items) c.in-Never.is
    (put (types_in ns) (rw c.bytes-size.ensures (whole_made ns c.args.sets.kept.now c.args.sets.done.now have c.args.place c.args.node c.requires.here))) (λ p is. ap (λ q. placed_part Number 0 q ∷ []) is))
    c.put_one-in-Never.ensures

pub put_one-requires-in-Elements : goal.put_one-requires-in-Elements
put_one-requires-in-Elements c = rw c.bytes-size.ensures (types_in c.requires.sets.0, whole_made c.requires.sets.0 c.args.sets.kept.now c.args.sets.done.now c.requires.sets.1 c.args.place c.args.node c.requires.here)

pub returns-in-Elements : goal.returns-in-Elements
returns-in-Elements c =
    on_ok_weaker c.put_one-in-Elements.result
    (λ put ns have. put_whole ns c.args.sets.kept.now c.args.sets.done.now have c.args.place c.args.node c.requires.here (Elements c.in-Elements.count c.in-Elements.element) AllElements (map kept_part c.args.parts.now.items) (map kept_part c.put_one-in-Elements.new.parts.items) c.in-Elements.is
    (put (types_in ns) (rw c.bytes-size.ensures (whole_made ns c.args.sets.kept.now c.args.sets.done.now have c.args.place c.args.node c.requires.here))) (λ p is. ap (λ q. placed_part AllElements 0 q ∷ []) is))
    c.put_one-in-Elements.ensures

pub put_one-requires-in-Vector : goal.put_one-requires-in-Vector
put_one-requires-in-Vector c = rw c.bytes-size.ensures (types_in c.requires.sets.0, whole_made c.requires.sets.0 c.args.sets.kept.now c.args.sets.done.now c.requires.sets.1 c.args.place c.args.node c.requires.here)

pub returns-in-Vector : goal.returns-in-Vector
returns-in-Vector c =
    on_ok_weaker c.put_one-in-Vector.result
    (λ put ns have. put_whole ns c.args.sets.kept.now c.args.sets.done.now have c.args.place c.args.node c.requires.here (Vector c.in-Vector.field-0) Lanes (map kept_part c.args.parts.now.items) (map kept_part c.put_one-in-Vector.new.parts.items) c.in-Vector.is
    (put (types_in ns) (rw c.bytes-size.ensures (whole_made ns c.args.sets.kept.now c.args.sets.done.now have c.args.place c.args.node c.requires.here))) (λ p is. ap (λ q. placed_part Lanes 0 q ∷ []) is))
    c.put_one-in-Vector.ensures

pub put_fields-requires : goal.put_fields-requires
put_fields-requires c = (types_in c.requires.sets.0, pair_made c.requires.sets.0 c.args.sets.kept.now c.args.sets.done.now c.requires.sets.1 c.args.place c.args.node c.requires.here c.in-Pair.first c.in-Pair.second c.in-Pair.is)

pub returns-in-Pair : goal.returns-in-Pair
returns-in-Pair c =
    on_ok_weaker c.put_fields.result
    (λ put ns have. put_as ns c.args.sets.kept.now c.args.sets.done.now have c.args.place c.args.node c.requires.here (Pair c.in-Pair.first c.in-Pair.second) (map kept_part c.args.parts.now.items) (map kept_part c.put_fields.new.parts.items) _ c.in-Pair.is
    (put (types_in ns) (pair_made ns c.args.sets.kept.now c.args.sets.done.now have c.args.place c.args.node c.requires.here c.in-Pair.first c.in-Pair.second c.in-Pair.is)) refl)
    c.put_fields.ensures

pub put_fields-requires-in-Fields : goal.put_fields-requires-in-Fields
put_fields-requires-in-Fields c = rw c.deref.ensures.value (types_in c.requires.sets.0, fields_made c.requires.sets.0 c.args.sets.kept.now c.args.sets.done.now c.requires.sets.1 c.args.place c.args.node c.requires.here c.in-Fields.field-0 c.in-Fields.children c.in-Fields.is)

pub returns-in-Fields : goal.returns-in-Fields
returns-in-Fields c =
    on_ok_weaker c.put_fields-in-Fields.result
    (λ put ns have. put_as ns c.args.sets.kept.now c.args.sets.done.now have c.args.place c.args.node c.requires.here (Fields c.in-Fields.field-0 c.in-Fields.children) (map kept_part c.args.parts.now.items) (map kept_part c.put_fields-in-Fields.new.parts.items) _ c.in-Fields.is
    (put (types_in ns) (rw c.deref.ensures.value (fields_made ns c.args.sets.kept.now c.args.sets.done.now have c.args.place c.args.node c.requires.here c.in-Fields.field-0 c.in-Fields.children c.in-Fields.is)))
    (ap (λ cs. field_parts None 0 (parts_at (listed_offsets c.args.node.layout.now.fields) (map (placed_in (types_in ns)) cs))) c.deref.ensures.value))
    c.put_fields-in-Fields.ensures

pub put_fields-requires-in-Single : goal.put_fields-requires-in-Single
put_fields-requires-in-Single c = rw c.deref-in-Single.ensures.value (types_in c.requires.sets.0, single_made c.requires.sets.0 c.args.sets.kept.now c.args.sets.done.now c.requires.sets.1 c.args.place c.args.node c.requires.here c.in-Single.field-0 c.in-Single.children c.in-Single.is)

pub returns-in-Single : goal.returns-in-Single
returns-in-Single c =
    on_ok_weaker c.put_fields-in-Single.result
    (λ put ns have. put_as ns c.args.sets.kept.now c.args.sets.done.now have c.args.place c.args.node c.requires.here (Single c.in-Single.field-0 c.in-Single.children) (map kept_part c.args.parts.now.items) (map kept_part c.put_fields-in-Single.new.parts.items) _ c.in-Single.is
    (put (types_in ns) (rw c.deref-in-Single.ensures.value (single_made ns c.args.sets.kept.now c.args.sets.done.now have c.args.place c.args.node c.requires.here c.in-Single.field-0 c.in-Single.children c.in-Single.is)))
    (ap (λ cs. field_parts None 0 (parts_at (listed_offsets c.args.node.layout.now.fields) (map (placed_in (types_in ns)) cs))) c.deref-in-Single.ensures.value))
    c.put_fields-in-Single.ensures

pub put_overlapping-requires : goal.put_overlapping-requires
put_overlapping-requires c = rw (c.deref-in-Union.ensures.value, c.bytes-size.ensures) (types_in c.requires.sets.0, union_made c.requires.sets.0 c.args.sets.kept.now c.args.sets.done.now c.requires.sets.1 c.args.place c.args.node c.requires.here c.in-Union.field-0 c.in-Union.children c.in-Union.is)

pub returns-in-Union : goal.returns-in-Union
returns-in-Union c =
    on_ok_weaker c.put_overlapping.result
    (λ put ns have. put_as ns c.args.sets.kept.now c.args.sets.done.now have c.args.place c.args.node c.requires.here (Union c.in-Union.field-0 c.in-Union.children) (map kept_part c.args.parts.now.items) (map kept_part c.put_overlapping.new.parts.items) _ c.in-Union.is
    (put (types_in ns) (rw (c.deref-in-Union.ensures.value, c.bytes-size.ensures) (union_made ns c.args.sets.kept.now c.args.sets.done.now have c.args.place c.args.node c.requires.here c.in-Union.field-0 c.in-Union.children c.in-Union.is)))
    (ap (λ cs. field_parts None 0 (parts_at_0 (map (placed_in (types_in ns)) cs))) c.deref-in-Union.ensures.value))
    c.put_overlapping.ensures

pub put_one-requires-in-Tagged : goal.put_one-requires-in-Tagged
put_one-requires-in-Tagged c = rw (c.tag_offset.ensures, c.bytes-size.ensures) (types_in c.requires.sets.0, tagged_made c.requires.sets.0 c.args.sets.kept.now c.args.sets.done.now c.requires.sets.1 c.args.place c.args.node c.requires.here c.in-Tagged.mark c.in-Tagged.tag c.in-Tagged.variants c.requires.some c.in-Tagged.is)

pub returns-in-Tagged : goal.returns-in-Tagged
returns-in-Tagged c =
    on_ok_weaker c.put_one-in-Tagged.result
    (λ put ns have. put_as ns c.args.sets.kept.now c.args.sets.done.now have c.args.place c.args.node c.requires.here (Tagged c.in-Tagged.mark c.in-Tagged.tag c.in-Tagged.variants) (map kept_part c.args.parts.now.items) (map kept_part c.put_one-in-Tagged.new.parts.items) _ c.in-Tagged.is
    (put (types_in ns) (rw (c.tag_offset.ensures, c.bytes-size.ensures) (tagged_made ns c.args.sets.kept.now c.args.sets.done.now have c.args.place c.args.node c.requires.here c.in-Tagged.mark c.in-Tagged.tag c.in-Tagged.variants c.requires.some c.in-Tagged.is)))
    (ap (λ o. placed_part Tag o (placed_in (types_in ns) c.in-Tagged.tag) ∷ []) c.tag_offset.ensures))
    c.put_one-in-Tagged.ensures

pub put_fields-requires-in-States : goal.put_fields-requires-in-States
put_fields-requires-in-States c = rw c.deref-in-States.ensures.value (types_in c.requires.sets.0, (states_made c.requires.sets.0 c.args.sets.kept.now c.args.sets.done.now c.requires.sets.1 c.args.place c.args.node c.requires.here c.in-States.prefix c.in-States.tag c.in-States.states c.requires.some c.in-States.is).0)

pub put_one-requires-in-States : goal.put_one-requires-in-States
put_one-requires-in-States c =
    let at : c.state_tag_offset-offset.result ≡ state_tag_offset c.args.node.layout.now (length c.in-States.prefix.items) = (c.state_tag_offset-offset.ensures ∙ ap (state_tag_offset c.args.node.layout.now) (c.len.ensures ∙ sym c.deref-in-States.ensures.len ∙ ap length c.deref-in-States.ensures.value)) in
    rw (at, c.bytes-size.ensures) (types_in c.requires.sets.0, (states_made c.requires.sets.0 c.args.sets.kept.now c.args.sets.done.now c.requires.sets.1 c.args.place c.args.node c.requires.here c.in-States.prefix c.in-States.tag c.in-States.states c.requires.some c.in-States.is).1)

pub returns-in_ok-put_fields-in-States : goal.returns-in_ok-put_fields-in-States
returns-in_ok-put_fields-in-States c =
    let at : c.state_tag_offset-offset.result ≡ state_tag_offset c.args.node.layout.now (length c.in-States.prefix.items) = (c.state_tag_offset-offset.ensures ∙ ap (state_tag_offset c.args.node.layout.now) (c.len.ensures ∙ sym c.deref-in-States.ensures.len ∙ ap length c.deref-in-States.ensures.value)) in
    on_ok_weaker c.put_one-in-States.result
    (λ put ns have.
    let types = types_in ns in
    let made = states_made ns c.args.sets.kept.now c.args.sets.done.now have c.args.place c.args.node c.requires.here c.in-States.prefix c.in-States.tag c.in-States.states c.requires.some c.in-States.is in
    let front : List Part = field_parts None 0 (parts_at (listed_offsets c.args.node.layout.now.fields) (map (placed_in types) c.in-States.prefix.items)) in
    let first : map kept_part c.put_fields-in-States.new.parts.items ≡ map kept_part c.args.parts.now.items ++ front =
    c.in_ok-put_fields-in-States.ensures types (rw c.deref-in-States.ensures.value made.0)
    ∙ ap (λ cs. map kept_part c.args.parts.now.items ++ field_parts None 0 (parts_at (listed_offsets c.args.node.layout.now.fields) (map (placed_in types) cs))) c.deref-in-States.ensures.value in
    let tag : List Part = placed_part Tag c.state_tag_offset-offset.result (placed_in types c.in-States.tag) ∷ [] in
    put_as ns c.args.sets.kept.now c.args.sets.done.now have c.args.place c.args.node c.requires.here (States c.in-States.prefix c.in-States.tag c.in-States.states) (map kept_part c.args.parts.now.items) (map kept_part c.put_one-in-States.new.parts.items) (front ++ tag) c.in-States.is
    (put types (rw (at, c.bytes-size.ensures) made.1) ∙ ap (λ xs. xs ++ tag) first ∙ append_assoc (map kept_part c.args.parts.now.items) front tag)
    (ap (λ o. front ++ placed_part Tag o (placed_in types c.in-States.tag) ∷ []) at))
    c.put_one-in-States.ensures
