use Rattle.std.proofs.Common.{◌≡◌, ◌<◌, arith, ap, length, true, subst}
use Rattle.abi_tree.specs.declared.laid.Laid.{Laid}
use Rattle.abi_tree.specs.Bytes.{AreBytes}
use Rattle.abi_tree.specs.Deciding.{DifferAt}
use Rattle.abi_tree.specs.Laid.{placed_of}
use Rattle.abi_tree.specs.Placed.{size_of}
use Rattle.abi_tree.specs.Places.{is_data_place}
use Rattle.abi_tree.proofs.Deciding.DecideLemmas.{put_decides}
use Rattle.abi_tree.proofs.Places.RoomLemmas.{within_room}
use Rattle.abi_tree.proofs.value.decide.decider.Goals as goal

pub with_next-requires : goal.with_next-requires
with_next-requires c =
    let laid : Laid = c.args.laid.now in
    let place : is_data_place (placed_of laid) c.args.place ≡ true = rw c.in-Some.is at c.in_ok-bytes.ensures.some in
    let long : length c.in-Some.bytes.items ≡ size_of (placed_of laid) = rw c.in-Some.is at c.in_ok-bytes.ensures.long in
    let lt : c.args.place < size_of (placed_of laid) = within_room (placed_of laid) c.args.place laid.room place in
    omega (arith, lt, long, ap length c.deref.ensures.value)

pub returns-in_ok-other-in-Some-clause-decides : goal.returns-in_ok-other-in-Some-clause-decides
returns-in_ok-other-in-Some-clause-decides c = λ dl tree keeps.
    let laid : Laid = c.args.laid.now in
    let place : is_data_place (placed_of laid) c.args.place ≡ true = rw c.in-Some.is at c.in_ok-bytes.ensures.some in
    let long : length c.in-Some.bytes.items ≡ size_of (placed_of laid) = rw c.in-Some.is at c.in_ok-bytes.ensures.long in
    let put = rw c.in-Some.is at c.in_ok-bytes.ensures.put in
    let lent : c.deref.result.now ≡ c.in-Some.bytes.items = c.deref.ensures.value in
    put_decides dl tree laid keeps c.args.place place put.0 c.in-Some.bytes.items c.in_ok-other-in-Some.other.items long (subst AreBytes lent c.in_ok-other-in-Some.ensures.bytes) c.in_ok-other-in-Some.ensures.made put.1
    (subst (λ a. DifferAt c.args.place a c.in_ok-other-in-Some.other.items) lent c.in_ok-other-in-Some.ensures.differ)
