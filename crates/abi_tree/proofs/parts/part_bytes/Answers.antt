use Rattle.std.proofs.Common.{◌≡◌, ◌<◌, ap, arith, sym, ◌∙◌}
use Rattle.std.specs.Prelude.{◌^◌}
use Rattle.abi_index.specs.RangeSet.{is_in_ranges}
use Rattle.abi_tree.proofs.Places.PartsLemmas.{bare_part, part_fits}
use Rattle.abi_tree.proofs.parts.part_bytes.Goals as goal

pub returns-then-size-eq0 : goal.returns-then-size-eq0
returns-then-size-eq0 c = λ types made k.
    ap (λ rs. is_in_ranges rs k) c.new.ensures ∙ bare_part types c.args.sets.done.now c.args.size c.args.offset c.args.child made (search c.if-size-eq0.true) k

pub add_set-requires : goal.add_set-requires
add_set-requires c =
    rw c.set_at.ensures (part_fits c.requires.0 c.args.sets.done.now c.args.size c.args.offset c.args.child c.requires.1 (omega (arith, c.if-size-eq0.false)) c.ranges.size.fits)
