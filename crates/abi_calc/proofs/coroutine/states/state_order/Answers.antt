-- The tables fit one another.
use Rattle.std.proofs.Common.{◌≡◌, ◌<◌, ◌≤◌, ◌∙◌, None, ap, arith, length, map, subst, sym}
use Rattle.std.specs.Prelude.{All, IfOk, IfSome, slice_index_or}
use Rattle.std.specs.Option.{option_to_list}
use Rattle.std.proofs.lemmas.List.{get_or-map, length-map}
use Rattle.std.proofs.lemmas.List.Elements.{All-map, All-weaker}
use Rattle.abi_univariant.proofs.Sorted.Sorting.{within_order}
use Rattle.abi_calc.specs.Coroutine.Lists.{own_of}
use Rattle.abi_calc.proofs.CoroutineLemmas.States.{count_own_places, held_small, joined_is, members_and_own, order_count}
use Rattle.abi_calc.proofs.coroutine.states.state_order.Goals as goal

pub joined_places-requires-clause-ranks : goal.joined_places-requires-clause-ranks
joined_places-requires-clause-ranks g c k d short =
    let long : length c.deref.result.now ≡ length c.args.ranks.now = ap length c.deref.ensures.value ∙ c.in_ok-held.ensures.count in
    let low = c.requires.each k d short in
    omega (arith, low, long, c.requires.ranks)

pub joined_places-requires-clause-own : goal.joined_places-requires-clause-own
joined_places-requires-clause-own g c k d short =
    let low = within_order (length (own_of c.args.promoted.now (map g.LocalIdx.Idx.number c.args.state.now))) (map g.FieldIdx.Idx.number c.args.own.now) c.requires.own k (g.FieldIdx.Idx.number d)
    (omega (arith, short, length-map c.args.own.now g.FieldIdx.Idx.number)) in
    let read = get_or-map g.FieldIdx.Idx.number c.args.own.now k d (g.FieldIdx.Idx.number d) short in
    let long : length c.deref-2.result.now ≡ length (own_of c.args.promoted.now (map g.LocalIdx.Idx.number c.args.state.now))
    = ap length (c.deref-2.ensures.value ∙ c.in_ok-places.ensures.places) ∙ count_own_places c.args.promoted.now (map g.LocalIdx.Idx.number c.args.state.now) in
    omega (arith, low, read, long)

pub joined_places-requires-clause-held : goal.joined_places-requires-clause-held
joined_places-requires-clause-held g c =
    subst (All (λ found. IfSome found (λ place. place ≤ g.FieldIdx.Idx.MAX_INDEX))) (sym c.deref.ensures.value)
    (All-weaker (λ found. IfSome found (λ place. place < length c.args.state.now)) (λ found. IfSome found (λ place. place ≤ g.FieldIdx.Idx.MAX_INDEX))
    (λ found. held_small (length c.args.state.now) g.FieldIdx.Idx.MAX_INDEX found c.requires.few) c.in_ok-held.held.items c.in_ok-held.ensures.within)

pub joined_places-requires-clause-places : goal.joined_places-requires-clause-places
joined_places-requires-clause-places g c k d short =
    let low = subst (All (λ place. place < length c.args.state.now)) (sym c.deref-2.ensures.value) c.in_ok-places.ensures.within k d short in
    omega (arith, low, c.requires.few)

pub joined_places-requires-clause-room : goal.joined_places-requires-clause-room
joined_places-requires-clause-room g c =
    let few = members_and_own c.args.promoted.now (map g.LocalIdx.Idx.number c.args.state.now) c.requires.once (All-map (λ l. l < length c.args.promoted.now) g.LocalIdx.Idx.number c.args.state.now c.requires.within) in
    let first = c.requires.ranks in
    let second = order_count (length (own_of c.args.promoted.now (map g.LocalIdx.Idx.number c.args.state.now))) (map g.FieldIdx.Idx.number c.args.own.now) c.requires.own in
    omega (arith, few, first, second, length-map c.args.own.now g.FieldIdx.Idx.number, c.requires.named, g.met.LocalIdx.Idx.small)

pub returns : goal.returns
returns g c =
    let first = c.requires.ranks in
    let same = joined_is c.args.promoted.now c.deref.result.now c.args.ranks.now c.deref-2.result.now (map g.FieldIdx.Idx.number c.args.own.now) (map g.LocalIdx.Idx.number c.args.state.now)
    (λ k d short. (let low = c.requires.each k d short in omega (arith, low, first)))
    (λ rank low. ap (λ h. option_to_list (slice_index_or h rank None)) c.deref.ensures.value ∙ c.in_ok-held.ensures.held rank low)
    (c.deref-2.ensures.value ∙ c.in_ok-places.ensures.places) in
    subst (λ order. IfOk c.joined_places.result (λ list. list ≡ map g.FieldIdx.Idx.at order)) same c.joined_places.ensures
