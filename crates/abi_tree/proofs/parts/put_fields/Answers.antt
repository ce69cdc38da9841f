use Rattle.std.proofs.Common.{◌≡◌, ◌<◌, ◌++◌, ℕ, List, ap, arith, get_or, length, map, subst, sym, ◌∙◌}
use Rattle.std.proofs.lemmas.List.{get_or_default}
use Rattle.abi_index.specs.Runs.{moved_to}
use Rattle.abi_tree.specs.Needed.{ArePartsMade}
use Rattle.abi_tree.specs.Nodes.{parts_at, placed_in}
use Rattle.abi_tree.specs.Parts.{field_parts, kept_part}
use Rattle.abi_tree.specs.Places.{is_data_place}
use Rattle.abi_tree.proofs.Places.PartsLemmas.{field_put, fields_put}
use Rattle.abi_tree.proofs.parts.put_fields.Goals as goal

pub loop-i-preserved : goal.loop-i-preserved
loop-i-preserved c = λ types made.
    let os : List ℕ = c.offsets-offsets.result.now in
    let cs : List ℕ = c.args.children.now in
    let i : ℕ = c.loop-i.i in
    let lt : i < length os = omega (arith, c.min-i-end.ensures, c.loop-i-test.true) in
    let below : i < length cs = omega (arith, c.min-i-end.ensures, c.loop-i-test.true) in
    let offset : c.bytes.result ≡ get_or os i 0 = c.bytes.ensures ∙ c.index-offsets-i.is ∙ get_or_default os i c.index-offsets-i.result 0 lt in
    field_put types c.args.variant os cs c.args.parts.now.items c.loop-i.parts.items c.push.new.self.items i c.field_name-name.result c.in_ok-bytes.bytes lt below (c.loop-i.invariant types made)
    c.field_name-name.ensures c.in_ok-push.ensures.items
    (λ k. c.in_ok-bytes.ensures types (rw (offset, c.bytes-size.ensures) (made i lt below)) k ∙ ap (λ o. moved_to o (is_data_place (placed_in types (get_or cs i 0))) k) offset)

pub returns : goal.returns
returns c = λ types made.
    let cs : List ℕ = c.args.children.now in
    let at : c.offsets-offsets.result.now ≡ _ = c.offsets-offsets.ensures in
    fields_put types c.args.variant c.offsets-offsets.result.now cs c.args.parts.now.items c.loop-i.parts.items c.loop-i.i
    (omega (arith, c.min-i-end.ensures, c.loop-i.auto.i-end, c.loop-i-test.false))
    (c.loop-i.invariant types (subst (λ os. ArePartsMade types c.args.sets.done.now c.args.layout.now.size os cs) (sym at) made))
    ∙ ap (λ os. map kept_part c.args.parts.now.items ++ field_parts c.args.variant 0 (parts_at os (map (placed_in types) cs))) at
