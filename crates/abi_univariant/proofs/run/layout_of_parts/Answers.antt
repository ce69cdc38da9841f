use Rattle.std.proofs.Common.{◌≡◌, ◌∙◌, None, Some, ap, length, sym}
use Rattle.std.specs.Prelude.{if◌then◌else◌}
use Rattle.abi_univariant.specs.ListNiche.{space_beside}
use Rattle.abi_univariant.specs.Run.{may_move}
use Rattle.abi_univariant.proofs.Placed.RunLemmas.{named_fixed, named_second, named_still, second_never}
use Rattle.abi_univariant.proofs.run.layout_of_parts.Goals as goal

pub returns-in-Err-clause-fault : goal.returns-in-Err-clause-fault
returns-in-Err-clause-fault g c =
    let wanted : (if may_move c.args.repr.now.kind (length c.args.parts.now) then space_beside c.args.dl.now c.in_ok-first.first.size c.in_ok-first.first.largest_niche else None) ≡ Some c.in-Some.space
    = ap (λ n. if may_move c.args.repr.now.kind n then space_beside c.args.dl.now c.in_ok-first.first.size c.in_ok-first.first.largest_niche else None) (sym c.len.ensures) ∙ sym c.in-Some.ensures in
    second_never c.args.dl.now c.args.repr.now c.args.parts.now c.in_ok-first.first.order _ c.in-Some.space c.in-Err.fault c.requires.lawful c.requires.repr.kind
    c.in_ok-first.ensures.named c.in_ok-first.ensures.placed.faultless wanted c.in-Err.ensures.fault

pub returns-then-begins_after-clause-named : goal.returns-then-begins_after-clause-named
returns-then-begins_after-clause-named g c =
    let wanted : (if may_move c.args.repr.now.kind (length c.args.parts.now) then space_beside c.args.dl.now c.in_ok-first.first.size c.in_ok-first.first.largest_niche else None) ≡ Some c.in-Some.space
    = ap (λ n. if may_move c.args.repr.now.kind n then space_beside c.args.dl.now c.in_ok-first.first.size c.in_ok-first.first.largest_niche else None) (sym c.len.ensures) ∙ sym c.in-Some.ensures in
    let first = c.in_ok-first.ensures in
    named_second c.args.dl.now c.args.repr.now c.args.parts.now c.in_ok-first.first.order c.in-Ok.second.order c.in-Ok.second.offsets.items
    c.in_ok-first.first.size c.in-Ok.second.size c.in-Ok.second.align c.in-Some.space c.in_ok-first.first.largest_niche c.in-Ok.second.largest_niche
    first.named first.placed.faultless first.placed.extent first.placed.largest wanted c.in-Ok.ensures.named c.in-Ok.ensures.placed (sym c.begins_after.ensures ∙ c.if-begins_after.true)

pub returns-else-begins_after-clause-named : goal.returns-else-begins_after-clause-named
returns-else-begins_after-clause-named g c =
    let wanted : (if may_move c.args.repr.now.kind (length c.args.parts.now) then space_beside c.args.dl.now c.in_ok-first.first.size c.in_ok-first.first.largest_niche else None) ≡ Some c.in-Some.space
    = ap (λ n. if may_move c.args.repr.now.kind n then space_beside c.args.dl.now c.in_ok-first.first.size c.in_ok-first.first.largest_niche else None) (sym c.len.ensures) ∙ sym c.in-Some.ensures in
    let first = c.in_ok-first.ensures in
    named_still c.args.dl.now c.args.repr.now c.args.parts.now c.in_ok-first.first.order c.in-Ok.second.order c.in_ok-first.first.offsets.items
    c.in_ok-first.first.size c.in_ok-first.first.align c.in-Some.space c.in_ok-first.first.largest_niche c.in-Ok.second.largest_niche
    first.named first.placed wanted c.in-Ok.ensures.named c.in-Ok.ensures.placed.largest (sym c.begins_after.ensures ∙ c.if-begins_after.false)

pub returns-then-not-repr-clause-named : goal.returns-then-not-repr-clause-named
returns-then-not-repr-clause-named g c =
    let wanted : (if may_move c.args.repr.now.kind (length c.args.parts.now) then space_beside c.args.dl.now c.in_ok-first.first.size c.in_ok-first.first.largest_niche else None) ≡ Some c.in-Some.space
    = ap (λ n. if may_move c.args.repr.now.kind n then space_beside c.args.dl.now c.in_ok-first.first.size c.in_ok-first.first.largest_niche else None) (sym c.len.ensures) ∙ sym c.in-Some.ensures in
    let first = c.in_ok-first.ensures in
    let same = c.with_last_niche.ensures.same in
    rw (same.0, same.1, same.2, same.3, c.with_last_niche.ensures.niche)
    (named_fixed c.args.dl.now c.args.repr.now c.args.parts.now c.in_ok-first.first.order c.in_ok-first.first.offsets.items c.in_ok-first.first.size c.in_ok-first.first.align c.in-Some.space
    c.in_ok-first.first.largest_niche c.in_ok-first.first.last_niche c.if-not-repr.true first.named first.placed wanted first.last)
