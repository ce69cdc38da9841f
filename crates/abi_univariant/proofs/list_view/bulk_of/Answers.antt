use Rattle.std.proofs.Common.{◌≡◌, ℕ, ◌+◌, ◌-◌, Bool, arith, filter, length, sym, ap, ap₂, ◌∙◌}
use Rattle.std.specs.Prelude.{not}
use Rattle.abi_univariant.specs.Part.{is_empty_view}
use Rattle.abi_univariant.specs.ListView.{bulk_of, is_bulky, part_at}
use Rattle.abi_univariant.specs.Placement.{source_order}
use Rattle.abi_univariant.proofs.Views.ViewLemmas.{bulk_else, bulk_stays, bulk_then}
use Rattle.abi_univariant.proofs.list_view.bulk_of.Goals as goal
use Rattle.abi_univariant.proofs.list_view.bulk_of.Goals.{then-is_bulky, else-is_bulky}

pub loop-index-preserved : goal.loop-index-preserved
loop-index-preserved g c =
    let test : c.is_bulky.result ≡ is_bulky (part_at c.args.parts.now c.loop-index.index)
    = c.is_bulky.ensures ∙ ap₂ (λ view size. not (is_empty_view view size)) c.layout_at-layout.ensures.view c.layout_at-layout.ensures.size in
    elim c.if-is_bulky.branch [
      | then-is_bulky w ↦
          bulk_then (λ i. is_bulky (part_at c.args.parts.now i)) c.loop-index.index c.loop-index.bulk c.if-is_bulky.bulk c.loop-index.invariant (sym test ∙ w.if-is_bulky.true)
          (w.bulk-is ∙ w.bulk_with-bulk.ensures)
      | else-is_bulky w ↦
          bulk_else (λ i. is_bulky (part_at c.args.parts.now i)) c.loop-index.index c.loop-index.bulk c.if-is_bulky.bulk c.loop-index.invariant (sym test ∙ w.if-is_bulky.false) w.bulk-is
    ]

pub returns-then-is_more : goal.returns-then-is_more
returns-then-is_more g c =
    let P : ℕ → Bool = λ i. is_bulky (part_at c.args.parts.now i) in
    let seen = c.loop-index.index in
    let left = length c.args.parts.now - seen in
    let all : seen + left ≡ length c.args.parts.now = omega (arith, c.loop-index-test.true, c.len-index-end.ensures) in
    c.if-is_more.ensures
    ∙ sym (ap (λ n. bulk_of (filter P (source_order n))) (sym all) ∙ bulk_stays P seen left (sym c.loop-index.invariant ∙ c.if-is_more.ensures))
