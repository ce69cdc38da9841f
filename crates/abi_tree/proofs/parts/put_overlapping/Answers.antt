use Rattle.std.proofs.Common.{◌<◌, ℕ, List, None, ap, arith, get_or, length, map, refl, sym, ◌∙◌}
use Rattle.std.proofs.lemmas.List.{length-map}
use Rattle.abi_index.specs.Runs.{moved_to}
use Rattle.abi_tree.specs.Nodes.{placed_in}
use Rattle.abi_tree.specs.Placed.{Placed}
use Rattle.abi_tree.specs.Places.{is_data_place}
use Rattle.abi_tree.proofs.Places.PartsLemmas.{at_start, field_put, starts, starts_many}
use Rattle.abi_tree.proofs.parts.put_overlapping.Goals as goal

pub loop-i-preserved : goal.loop-i-preserved
loop-i-preserved c = λ types made.
    let cs : List ℕ = c.args.children.now in
    let ps : List Placed = map (placed_in types) cs in
    let i : ℕ = c.loop-i.i in
    let below : i < length cs = omega (arith, c.loop-i-test.true) in
    let many = length-map cs (placed_in types) in
    field_put types None (starts ps) cs c.args.parts.now.items c.loop-i.parts.items c.push.new.self.items i _ c.in_ok-bytes.bytes (omega (arith, below, starts_many types cs)) below (c.loop-i.invariant types made) refl
    c.in_ok-push.ensures.items
    (λ k. c.in_ok-bytes.ensures types (made i below) k ∙ ap (λ o. moved_to o (is_data_place (placed_in types (get_or cs i 0))) k) (sym (at_start ps i (omega (arith, below, many)))))
