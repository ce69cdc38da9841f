use Rattle.std.proofs.Common.{None, Some, ap, ◌∙◌}
use Rattle.abi_index.specs.RangeSet.{is_in_ranges}
use Rattle.abi_tree.specs.Laid.{placed_of}
use Rattle.abi_tree.proofs.Places.MaximalLemmas.{padding_listed}
use Rattle.abi_c.proofs.NumberLemmas.Layouts.{are_listed, not_listed, whole_layout}
use Rattle.abi_c.proofs.numbers.layout.write_layout.Goals as goal

pub returns-then-bytes-gt-MOST_LISTED : goal.returns-then-bytes-gt-MOST_LISTED
returns-then-bytes-gt-MOST_LISTED c =
    let placed = placed_of c.args.laid.now in
    whole_layout placed c.layout-layout.result.now None _ c.write_head.new.out.items c.write_lists.new.out.items c.layout-layout.ensures
    (not_listed placed c.layout-layout.result.now c.bytes.result c.layout-layout.ensures c.bytes.ensures c.if-bytes-gt-MOST_LISTED.true) c.in_ok-out.ensures.items c.in_ok-write_head.ensures c.in_ok-write_lists.ensures

pub returns : goal.returns
returns c =
    let placed = placed_of c.args.laid.now in
    let runs = c.as_slice.result.now in
    whole_layout placed c.layout-layout.result.now (Some runs) _ c.write_head.new.out.items c.write_lists-2.new.out.items c.layout-layout.ensures
    (are_listed placed c.layout-layout.result.now c.bytes.result runs c.layout-layout.ensures c.bytes.ensures c.if-bytes-gt-MOST_LISTED.false
    (padding_listed placed runs c.as_slice.ensures.maximal (λ k. ap (λ rs. is_in_ranges rs k) c.as_slice.ensures.runs ∙ c.in_ok-bytes.ensures.ranges k)))
    c.in_ok-out.ensures.items c.in_ok-write_head.ensures c.in_ok-write_lists-2.ensures
