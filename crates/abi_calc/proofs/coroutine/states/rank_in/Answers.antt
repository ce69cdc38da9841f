-- The table says the rank, which is one of the members'.
use Rattle.std.proofs.Common.{◌<◌, ◌∙◌, ap, length, slice_index_or, subst, sym}
use Rattle.abi_calc.proofs.CoroutineLemmas.States.{member_below, rank_member, rank_read}
use Rattle.abi_calc.proofs.coroutine.states.rank_in.Goals as goal

pub bounds-below-index : goal.bounds-below-index
bounds-below-index g c =
    subst (λ n. n < length c.args.below.now) (sym c.index.ensures.place)
    (rank_read c.args.promoted.now c.args.below.now (g.LocalIdx.Idx.number c.args.local) c.requires.below (member_below c.args.promoted.now (g.LocalIdx.Idx.number c.args.local) c.requires.promoted)).0

pub returns : goal.returns
returns g c =
    let l = g.LocalIdx.Idx.number c.args.local in
    let read = rank_read c.args.promoted.now c.args.below.now l c.requires.below (member_below c.args.promoted.now l c.requires.promoted) in
    let rank = ap (λ n. slice_index_or c.args.below.now n 0) c.index.ensures.place ∙ read.1 in
    record { rank = rank; within = rw rank (rank_member c.args.promoted.now l c.requires.promoted 0).0 }
