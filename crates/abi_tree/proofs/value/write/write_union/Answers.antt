use Rattle.std.proofs.Common.{◌≡◌, ℕ, ◌+◌, ◌≤◌, All, arith, sym, ap, ◌∙◌, subst}
use Rattle.abi_tree.specs.Bytes.{picked_bytes}
use Rattle.abi_tree.specs.Placed.{Placed, size_of}
use Rattle.abi_tree.specs.Places.{is_data_place}
use Rattle.abi_tree.specs.Nodes.{placed_at}
use Rattle.abi_index.specs.RangeSet.{is_in_ranges}
use Rattle.abi_tree.specs.Writing.{IsPutOver}
use Rattle.abi_tree.proofs.Places.DataPlacesLemmas.{runs_inside}
use Rattle.abi_tree.proofs.value.write.write_union.Goals as goal

pub put_places-requires-clause-inside : goal.put_places-requires-clause-inside
put_places-requires-clause-inside c =
    let p : Placed = placed_at c.args.walk.nodes.now c.args.node in
    let size : c.bytes-size.result ≡ size_of p = rw c.bytes-size.ensures (ap (λ l. l.size) c.layout.ensures) in
    let same : (k : ℕ) → is_in_ranges c.as_slice.result.now k ≡ is_data_place p k = λ k. ap (λ rs. is_in_ranges rs k) c.as_slice.ensures.runs ∙ c.in_ok-places.ensures k ∙ ap (λ ns. is_data_place (placed_at ns c.args.node) k) c.new.ensures.nodes in
    let inside : All (λ run. run.0 + run.1 ≤ size_of p) c.as_slice.result.now = runs_inside p c.as_slice.result.now c.requires.room c.as_slice.ensures.maximal same in
    λ k d lt. omega (arith, inside k d lt, size)

pub put_places-requires-clause-fits : goal.put_places-requires-clause-fits
put_places-requires-clause-fits c =
    let size : c.bytes-size.result ≡ size_of (placed_at c.args.walk.nodes.now c.args.node) = rw c.bytes-size.ensures (ap (λ l. l.size) c.layout.ensures) in
    omega (arith, size, c.requires.fits)

pub returns-clause-put : goal.returns-clause-put
returns-clause-put c = λ b long content.
    let p : Placed = placed_at c.args.walk.nodes.now c.args.node in
    let size : c.bytes-size.result ≡ size_of p = rw c.bytes-size.ensures (ap (λ l. l.size) c.layout.ensures) in
    let places : is_in_ranges c.as_slice.result.now ≡ is_data_place p = ap is_in_ranges c.as_slice.ensures.runs ∙ (λ i k. (c.in_ok-places.ensures k ∙ ap (λ ns. is_data_place (placed_at ns c.args.node) k) c.new.ensures.nodes) i) in
    subst (λ q. IsPutOver q c.args.at b c.args.bytes.now c.put_places.new.bytes) places
    (c.put_places.ensures.put b (long ∙ sym size) (content ∙ ap (λ q. picked_bytes q 0 b) (sym places)))
