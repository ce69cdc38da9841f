use Rattle.std.proofs.Common.{◌≡◌, ℕ, ◌+◌, ◌≤◌, All, arith, ap, ◌∙◌}
use Rattle.std.proofs.lemmas.Result.{IfOk-weaker}
use Rattle.abi_index.specs.RangeSet.{is_in_ranges}
use Rattle.abi_tree.specs.Bytes.{picked_bytes}
use Rattle.abi_tree.specs.Placed.{Placed, size_of}
use Rattle.abi_tree.specs.Places.{is_data_place}
use Rattle.abi_tree.specs.Nodes.{placed_at}
use Rattle.abi_tree.proofs.Places.DataPlacesLemmas.{runs_inside}
use Rattle.abi_tree.proofs.value.read.read_union.Goals as goal

pub read_places-requires-clause-inside : goal.read_places-requires-clause-inside
read_places-requires-clause-inside c =
    let p : Placed = placed_at c.args.walk.nodes.now c.args.node in
    let same : (k : ℕ) → is_in_ranges c.as_slice.result.now k ≡ is_data_place p k = λ k. ap (λ rs. is_in_ranges rs k) c.as_slice.ensures.runs ∙ c.in_ok-places.ensures k ∙ ap (λ ns. is_data_place (placed_at ns c.args.node) k) c.new.ensures.nodes in
    let inside : All (λ run. run.0 + run.1 ≤ size_of p) c.as_slice.result.now = runs_inside p c.as_slice.result.now c.requires.room c.as_slice.ensures.maximal same in
    λ k d lt. omega (arith, inside k d lt, c.requires.size)

pub returns : goal.returns
returns c =
    IfOk-weaker c.read_places.result _ _
    (λ content is. is ∙ ap (λ rs. picked_bytes (is_in_ranges rs) 0 c.args.bytes.now) c.as_slice.ensures.runs ∙ ap (λ p. picked_bytes p 0 c.args.bytes.now) (λ i k. (c.in_ok-places.ensures k ∙ ap (λ ns. is_data_place (placed_at ns c.args.node) k) c.new.ensures.nodes) i))
    c.read_places.ensures
