use Rattle.std.proofs.Common.{◌≤◌, ◌∙◌, ap, arith, sym, subst}
use Rattle.std.specs.Prelude.{All}
use Rattle.abi_univariant.proofs.Offsets.ByNumber.{as_many, numbers_more, source_within}
use Rattle.abi_univariant.proofs.memory_order.MemoryOrder.in_source_order.Goals as goal

pub loop-index-preserved : goal.loop-index-preserved
loop-index-preserved g c =
    let own = ap g.FieldIdx.Idx.number c.new.ensures ∙ g.met.FieldIdx.Idx.number_at c.loop-index.index (omega arith) in
    rw c.in_ok-push.ensures.items (numbers_more g.FieldIdx.Idx.number c.loop-index.fields.items c.loop-index.index c.new.result c.loop-index.invariant own)

pub invariant_of-result : goal.invariant_of-result
invariant_of-result g c =
    let many = as_many g.FieldIdx.Idx.number c.loop-index.fields.items c.loop-index.index c.loop-index.invariant in
    (subst (All (λ n. n ≤ g.FieldIdx.Idx.MAX_INDEX)) (sym c.loop-index.invariant) (source_within c.loop-index.index g.FieldIdx.Idx.MAX_INDEX (omega arith)), omega (arith, many))
