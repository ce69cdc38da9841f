use Rattle.std.proofs.Common.{◌≡◌, ◌<◌, ℕ, List, ap, arith, get_or, length, refl, ◌∙◌}
use Rattle.std.specs.Prelude.{◌||◌, false}
use Rattle.std.proofs.lemmas.List.{get_or-map, get_or_default, length-map}
use Rattle.abi_index.specs.RangeSet.{is_in_run}
use Rattle.abi_tree.specs.Nodes.{placed_in, types_in}
use Rattle.abi_tree.specs.Placed.{nothing}
use Rattle.abi_tree.specs.Places.{is_data_place}
use Rattle.abi_tree.specs.Well.{all_at}
use Rattle.abi_tree.proofs.Places.MarkedLemmas.{parts_all, parts_next}
use Rattle.abi_tree.proofs.runs_of.mark_numbers.Goals as goal

pub loop-i-preserved : goal.loop-i-preserved
loop-i-preserved c = λ ns needed.
    let os : List ℕ = c.args.offsets.now in
    let cs : List ℕ = c.args.children.now in
    let i : ℕ = c.loop-i.i in
    let size : ℕ = c.in-Some.size in
    let lt : i < length os = omega (arith, c.min-i-end.ensures, c.loop-i-test.true) in
    let below : i < length cs = omega (arith, c.min-i-end.ensures, c.loop-i-test.true) in
    let within : i < length (all_at ns cs) = omega (arith, below, length-map cs (placed_in (types_in ns))) in
    let offset : c.bytes.result ≡ get_or os i 0 = c.bytes.ensures ∙ c.index-offsets-i.is ∙ get_or_default os i c.index-offsets-i.result 0 lt in
    parts_next c.args.marks.now c.loop-i.marks c.mark_run.new.marks os (all_at ns cs) i size lt within (c.loop-i.invariant ns needed)
    (λ k. c.if-not-mark_run.ensures.marked refl k ∙ ap (λ o. get_or c.loop-i.marks k false || is_in_run k (o, size)) offset)
    (λ k. ap (λ p. is_data_place p k) (get_or-map (placed_in (types_in ns)) cs i 0 nothing below) ∙ c.in-Some.ensures ns needed k)

pub returns : goal.returns
returns c = λ yes ns needed k.
    let cs : List ℕ = c.args.children.now in
    c.loop-i.invariant ns needed k ∙ ap (λ b. get_or c.args.marks.now k false || b)
    (parts_all c.args.offsets.now (all_at ns cs) c.loop-i.i k
    (omega (arith, c.min-i-end.ensures, c.loop-i.auto.i-end, c.loop-i-test.false, length-map cs (placed_in (types_in ns)))))
