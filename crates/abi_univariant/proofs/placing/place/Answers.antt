use Rattle.std.proofs.Common.{rules, arith, ◌≡◌, ◌<◌, ap, length, inl, nat_lt, sym, ◌∙◌}
use Rattle.std.specs.Prelude.{if◌then◌else◌}
use Rattle.abi_univariant.specs.ListNiche.{IsPlacedField, niche_found, niche_of_part, niche_of_placed, placed_field}
use Rattle.abi_univariant.specs.LawfulPart.{IsLawfulPart}
use Rattle.abi_univariant.specs.Placement.{start_of}
use Rattle.abi_univariant.proofs.Views.NicheLemmas.{part_fits}
use Rattle.abi_univariant.proofs.Sorted.Sorting.{within_order}
use Rattle.abi_univariant.proofs.Placed.PlacingLemmas.{niche_if, part_lawful_at, placed_followed, placed_if, placed_large, placed_more, placed_unsized}
use Rattle.abi_univariant.proofs.placing.place.Goals as goal

pub at-part-requires : goal.at-part-requires
at-part-requires g c = rw c.at-index.ensures (within_order (length c.args.parts.now) c.args.order.now c.requires.order c.loop-at.at 0 (rw (← c.len-count.ensures) c.loop-at-test.true))

pub index_mut-requires : goal.index_mut-requires
index_mut-requires g c =
    let within : c.at-index.result < length c.args.parts.now = rw c.at-index.ensures (within_order (length c.args.parts.now) c.args.order.now c.requires.order c.loop-at.at 0 (rw (← c.len-count.ensures) c.loop-at-test.true)) in
    grind (arith, c.loop-at.invariant.placed.room)

pub round_up-offset-requires-clause-align : goal.round_up-offset-requires-clause-align
round_up-offset-requires-clause-align g c =
    let within : c.at-index.result < length c.args.parts.now = rw c.at-index.ensures (within_order (length c.args.parts.now) c.args.order.now c.requires.order c.loop-at.at 0 (rw (← c.len-count.ensures) c.loop-at-test.true)) in
    let law : IsLawfulPart c.args.dl.now c.at-part.result = part_lawful_at c.args.dl.now c.args.parts.now c.at-index.result c.at-part.result c.requires.lawful within c.at-part.ensures in
    omega (arith, law.aligned, c.cut_to.ensures.bound)

pub returns-then-is_misplaced-clause-fault : goal.returns-then-is_misplaced-clause-fault
returns-then-is_misplaced-clause-fault g c =
    inl (placed_unsized c.args.dl.now c.args.repr.now _ (start_of c.args.repr.now.pack c.args.repr.now.kind) c.args.parts.now c.args.order.now c.loop-at.at c.at-index.result
    c.loop-at.offsets.items c.loop-at.end (niche_found c.args.parts.now c.loop-at.niche) c.at-part.result c.loop-at.invariant.placed (rw (← c.len-count.ensures) c.loop-at-test.true) c.at-index.ensures c.at-part.ensures (sym c.is_misplaced.ensures ∙ c.if-is_misplaced.true))

pub returns-in_default-clause-fault : goal.returns-in_default-clause-fault
returns-in_default-clause-fault g c =
    inl (placed_large c.args.dl.now c.args.repr.now _ (start_of c.args.repr.now.pack c.args.repr.now.kind) c.args.parts.now c.args.order.now c.loop-at.at c.at-index.result
    c.loop-at.offsets.items c.loop-at.end c.round_up-offset.result (niche_found c.args.parts.now c.loop-at.niche) c.at-part.result c.loop-at.invariant.placed (rw (← c.len-count.ensures) c.loop-at-test.true) c.at-index.ensures c.at-part.ensures
    (sym c.is_misplaced.ensures ∙ c.if-is_misplaced.false) (search rules) c.in_default.ensures)

pub returns-then-is_followed-clause-fault : goal.returns-then-is_followed-clause-fault
returns-then-is_followed-clause-fault g c =
    inl (placed_followed c.args.dl.now c.args.repr.now _ (start_of c.args.repr.now.pack c.args.repr.now.kind) c.args.parts.now c.args.order.now c.loop-at.at c.at-index.result
    c.loop-at.offsets.items c.loop-at.end c.round_up-offset.result (niche_found c.args.parts.now c.loop-at.niche) c.at-part.result c.loop-at.invariant.placed (rw (← c.len-count.ensures) c.loop-at-test.true) c.at-index.ensures c.at-part.ensures
    (sym c.is_misplaced.ensures ∙ c.if-is_misplaced.false) (search rules) (search rules) (rw (← c.len-count.ensures) (sym c.is_followed.ensures ∙ c.if-is_followed.true)))

pub loop-at-preserved : goal.loop-at-preserved
loop-at-preserved g c =
    let within : c.at-index.result < length c.args.parts.now = rw c.at-index.ensures (within_order (length c.args.parts.now) c.args.order.now c.requires.order c.loop-at.at 0 (rw (← c.len-count.ensures) c.loop-at-test.true)) in
    let law : IsLawfulPart c.args.dl.now c.at-part.result = part_lawful_at c.args.dl.now c.args.parts.now c.at-index.result c.at-part.result c.requires.lawful within c.at-part.ensures in
    let here : IsPlacedField c.args.parts.now (placed_field c.at-index.result c.round_up-offset.result)
    = rw (← c.at-part.ensures) (within, part_fits c.args.dl.now c.round_up-offset.result c.at-part.result.size c.at-part.result.largest_niche law.niche (search rules)) in
    let own : niche_of_placed c.args.parts.now (placed_field c.at-index.result c.round_up-offset.result) ≡ niche_of_part c.round_up-offset.result c.at-part.result.largest_niche
    = ap (λ part. niche_of_part c.round_up-offset.result part.largest_niche) (sym c.at-part.ensures) in
    let first = ap (niche_of_placed c.args.parts.now) c.with-niche.ensures.first ∙ niche_if c.args.parts.now _ (placed_field c.at-index.result c.round_up-offset.result) c.loop-at.niche.first
    ∙ ap (λ niche. if nat_lt c.loop-at.niche.free c.at-part.result.free then niche else niche_of_placed c.args.parts.now c.loop-at.niche.first) own in
    let last = ap (niche_of_placed c.args.parts.now) c.with-niche.ensures.last ∙ niche_if c.args.parts.now _ c.loop-at.niche.last (placed_field c.at-index.result c.round_up-offset.result)
    ∙ ap (λ niche. if nat_lt c.at-part.result.free c.loop-at.niche.free then niche_of_placed c.args.parts.now c.loop-at.niche.last else niche) own in
    record {
      placed = placed_more c.args.dl.now c.args.repr.now _ _ c.args.parts.now c.args.order.now c.loop-at.at c.at-index.result
          c.loop-at.offsets.items c.loop-at.end c.round_up-offset.result c.in-Some.next (niche_found c.args.parts.now c.loop-at.niche) (niche_found c.args.parts.now c.with-niche.result) c.at-part.result
          c.requires.order c.loop-at.invariant.placed (rw (← c.len-count.ensures) c.loop-at-test.true) c.at-index.ensures within c.at-part.ensures (search rules) (search rules) law
          first last c.with-niche.ensures.free
          (sym c.is_misplaced.ensures ∙ c.if-is_misplaced.false) (search rules) (rw (← c.len-count.ensures) (sym c.is_followed.ensures ∙ c.if-is_followed.false));
      first = rw c.with-niche.ensures.first (placed_if c.args.parts.now _ (placed_field c.at-index.result c.round_up-offset.result) c.loop-at.niche.first here c.loop-at.invariant.first);
      last = rw c.with-niche.ensures.last (placed_if c.args.parts.now _ c.loop-at.niche.last (placed_field c.at-index.result c.round_up-offset.result) c.loop-at.invariant.last here);
      small = search rules;
    }
