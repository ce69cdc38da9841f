use Rattle.std.proofs.Common.{◌≡◌, ap, arith, map, sym, ◌∙◌}
use Rattle.abi_calc.specs.Enums.Niche.{span_of}
use Rattle.abi_calc.proofs.EnumLemmas.Niche.{needs_number, needs_read, span_else, span_end, span_then}
use Rattle.abi_calc.proofs.enums.niche.span_of.Goals as goal
use Rattle.abi_calc.proofs.enums.niche.span_of.Goals.{then-needs_number, else-needs_number}

pub loop-index-preserved : goal.loop-index-preserved
loop-index-preserved g c =
    let test : needs_number c.args.untagged (map (map g.F.LayoutHandle.layout_of) c.args.variants.now) c.loop-index.index ≡ c.needs_number.result =
    needs_read g.F.LayoutHandle.layout_of c.args.untagged c.args.variants.now c.loop-index.index _ _ c.needs_number.result c.loop-index-test.true c.index-variants-index.is (c.as_raw.ensures.items ∙ c.as_slice.ensures)
    (sym c.needs_number.ensures) in
    elim c.if-needs_number.branch [
      | then-needs_number w ↦
          span_then (needs_number c.args.untagged (map (map g.F.LayoutHandle.layout_of) c.args.variants.now)) c.loop-index.index c.loop-index.span w.span_to-span.result c.if-needs_number.span c.loop-index.invariant
          (test ∙ w.if-needs_number.true) w.span_to-span.ensures w.span-is
      | else-needs_number w ↦
          span_else (needs_number c.args.untagged (map (map g.F.LayoutHandle.layout_of) c.args.variants.now)) c.loop-index.index c.loop-index.span c.if-needs_number.span c.loop-index.invariant
          (test ∙ w.if-needs_number.false) w.span-is
    ]

pub returns : goal.returns
returns g c =
    c.loop-index.invariant ∙ ap span_of (span_end g.F.LayoutHandle.layout_of c.args.untagged c.args.variants.now c.loop-index.index (omega arith))
