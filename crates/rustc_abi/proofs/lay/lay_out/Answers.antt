use Rattle.std.proofs.Common.{◌≡◌, Ok, Result, Some, ap, arith, length, subst, sym, true, ◌∙◌}
use Rattle.abi_base.specs.declared.data_layout.TargetDataLayout.{TargetDataLayout}
use Rattle.abi_tree.specs.declared.laid.Laid.{Laid}
use Rattle.abi_tree.specs.Faithful.{IsFaithful}
use Rattle.abi_tree.specs.Reading.{KeepsValues}
use Rattle.abi_tree.specs.Tree.{Tree, tree_of}
use Rattle.abi_tree.specs.Untagged.{UntaggedNamed}
use Rattle.abi_tree.specs.Values.{LocalsHaveValues}
use Rattle.rustc_abi.specs.Clash.{AreClashingLocalsApart, HaveLocalsOneOffset}
use Rattle.rustc_abi.specs.Count.{HasNodes}
use Rattle.abi_tree.specs.Laid.{endian_of, node_count_of, placed_of, typed_of}
use Rattle.abi_tree.specs.Placed.{Placed, layout_of}
use Rattle.abi_scalar.specs.Lawful.{IsLawfulLayout}
use Rattle.abi_tree.specs.Deciding.{are_inhabited, covering_value}
use Rattle.abi_tree.specs.Room.{has_room}
use Rattle.abi_tree.proofs.Deciding.DecideLemmas.{each_decides}
use Rattle.abi_tree.proofs.Places.RoomLemmas.{within_room}
use Rattle.rustc_abi.proofs.Places.DecidingLemmas.{coverable}
use Rattle.rustc_abi.proofs.Places.HaveLemmas.{each_inhabited}
use Rattle.rustc_abi.proofs.Places.OwnPlacesLemmas.{laid_own_places}
use Rattle.rustc_abi.specs.Least.{HasOverlapSize, IsLeast}
use Rattle.rustc_abi.specs.Lists.{HasLeastLists}
use Rattle.rustc_abi.specs.Aligns.{HasAlignOfParts}
use Rattle.rustc_abi.specs.Marks.{HasMarksOfParts}
use Rattle.rustc_abi.specs.Niches.{HasNicheOfParts}
use Rattle.rustc_abi.specs.Orders.{LiesAsAsked}
use Rattle.rustc_abi.proofs.Coroutines.ClashLemmas.{laid_clash, laid_one_offset}
use Rattle.rustc_abi.proofs.Sizes.EachListLemmas.{laid_lists}
use Rattle.rustc_abi.proofs.Sizes.PlacedLemmas.{laid_as_asked}
use Rattle.abi_tree.proofs.Deciding.AgreeLemmas.{covered_decides}
use Rattle.rustc_abi.proofs.Trees.EverywhereLemmas.{everywhere}
use Rattle.rustc_abi.proofs.Trees.LaidLemmas.{laid_sized, laid_whole}
use Rattle.rustc_abi.proofs.Trees.TakenLemmas.{laid_taken}
use Rattle.rustc_abi.specs.declared.error.LayError.{LayError}
use Rattle.rustc_abi.specs.Laying.{IsLaying}
use Rattle.rustc_abi.proofs.Trees.LayLemmas.{begins_root, common_root, faithful_root, laid_root, lawful_root, room_root, untagged_root}
use Rattle.rustc_abi.proofs.Sizes.LeastLemmas.{laid_least, laid_overlap, never_large, passed_as, told_large, told_overflow}
use Rattle.rustc_abi.proofs.Trees.ListLemmas.{passed_on}
use Rattle.rustc_abi.proofs.Trees.OneAnswer.{one_answer}
use Rattle.rustc_abi.proofs.Places.SeenPlacesLemmas.{laid_told, seen_root}
use Rattle.rustc_abi.proofs.Trees.SomeAnswer.{some_answer}
use Rattle.rustc_abi.proofs.lay.lay_out.Goals as goal

pub returns-clause-faithful : goal.returns-clause-faithful
returns-clause-faithful c = λ locals. faithful_root _ _ _ _ _ _ c.in_ok-_root.ensures.ok c.new.ensures.placed locals

pub returns-clause-untagged : goal.returns-clause-untagged
returns-clause-untagged c = λ locals. untagged_root _ _ _ _ _ _ c.in_ok-_root.ensures.ok c.new.ensures.placed locals

pub returns-clause-begins : goal.returns-clause-begins
returns-clause-begins c = begins_root _ _ _ _ _ _ c.in_ok-_root.ensures.ok c.new.ensures.placed

pub returns-clause-common : goal.returns-clause-common
returns-clause-common c = λ locals. common_root _ _ _ _ _ _ c.in_ok-_root.ensures.ok c.new.ensures.placed locals

pub returns-clause-layout : goal.returns-clause-layout
returns-clause-layout c = lawful_root _ _ _ _ _ _ c.in_ok-_root.ensures.ok c.new.ensures.placed

pub returns-clause-least : goal.returns-clause-least
returns-clause-least c =
    let law = c.in_ok-refuse_unlawful.ensures.lawful in
    everywhere c.args.dl.now law (IsLeast c.args.dl.now) (laid_least c.args.dl.now law) (tree_of c.args.tree.now) _ (laid_root _ _ _ _ _ _ c.in_ok-_root.ensures.ok c.new.ensures.placed)

pub returns-clause-overlap : goal.returns-clause-overlap
returns-clause-overlap c =
    let law = c.in_ok-refuse_unlawful.ensures.lawful in
    everywhere c.args.dl.now law (HasOverlapSize c.args.dl.now) (laid_overlap c.args.dl.now law)
    (tree_of c.args.tree.now) _ (laid_root _ _ _ _ _ _ c.in_ok-_root.ensures.ok c.new.ensures.placed)

pub returns-clause-each_list : goal.returns-clause-each_list
returns-clause-each_list c =
    let law = c.in_ok-refuse_unlawful.ensures.lawful in
    everywhere c.args.dl.now law (HasLeastLists c.args.dl.now) (laid_lists c.args.dl.now law)
    (tree_of c.args.tree.now) _ (laid_root _ _ _ _ _ _ c.in_ok-_root.ensures.ok c.new.ensures.placed)

pub returns-clause-placed : goal.returns-clause-placed
returns-clause-placed c =
    let law = c.in_ok-refuse_unlawful.ensures.lawful in
    everywhere c.args.dl.now law (LiesAsAsked c.args.dl.now) (laid_as_asked c.args.dl.now law)
    (tree_of c.args.tree.now) _ (laid_root _ _ _ _ _ _ c.in_ok-_root.ensures.ok c.new.ensures.placed)

pub returns-clause-best_niche : goal.returns-clause-best_niche
returns-clause-best_niche c =
    let law = c.in_ok-refuse_unlawful.ensures.lawful in
    everywhere c.args.dl.now law (HasNicheOfParts c.args.dl.now) (λ t p h. (laid_taken c.args.dl.now law t p h).0)
    (tree_of c.args.tree.now) _ (laid_root _ _ _ _ _ _ c.in_ok-_root.ensures.ok c.new.ensures.placed)

pub returns-clause-alignment : goal.returns-clause-alignment
returns-clause-alignment c =
    let law = c.in_ok-refuse_unlawful.ensures.lawful in
    everywhere c.args.dl.now law (HasAlignOfParts c.args.dl.now) (λ t p h. (laid_taken c.args.dl.now law t p h).1)
    (tree_of c.args.tree.now) _ (laid_root _ _ _ _ _ _ c.in_ok-_root.ensures.ok c.new.ensures.placed)

pub returns-clause-marks : goal.returns-clause-marks
returns-clause-marks c =
    let law = c.in_ok-refuse_unlawful.ensures.lawful in
    everywhere c.args.dl.now law (HasMarksOfParts c.args.dl.now) (λ t p h. (laid_taken c.args.dl.now law t p h).2)
    (tree_of c.args.tree.now) _ (laid_root _ _ _ _ _ _ c.in_ok-_root.ensures.ok c.new.ensures.placed)

pub returns-clause-clash : goal.returns-clause-clash
returns-clause-clash c =
    let law = c.in_ok-refuse_unlawful.ensures.lawful in
    everywhere c.args.dl.now law AreClashingLocalsApart (laid_clash c.args.dl.now law) (tree_of c.args.tree.now) _ (laid_root _ _ _ _ _ _ c.in_ok-_root.ensures.ok c.new.ensures.placed)

pub returns-clause-one_offset : goal.returns-clause-one_offset
returns-clause-one_offset c =
    let law = c.in_ok-refuse_unlawful.ensures.lawful in
    everywhere c.args.dl.now law HaveLocalsOneOffset (laid_one_offset c.args.dl.now law) (tree_of c.args.tree.now) _ (laid_root _ _ _ _ _ _ c.in_ok-_root.ensures.ok c.new.ensures.placed)

pub returns-clause-parts : goal.returns-clause-parts
returns-clause-parts c =
    let law = c.in_ok-refuse_unlawful.ensures.lawful in
    everywhere c.args.dl.now law (λ t p. IsLaying c.args.dl.now t (Ok p)) (λ t p h. h) (tree_of c.args.tree.now) _ (laid_root _ _ _ _ _ _ c.in_ok-_root.ensures.ok c.new.ensures.placed)

abbrev ok : Placed → Result Placed LayError
ok placed = Ok placed

inj-Ok : (p q : Placed) → ok q ≡ ok p → q ≡ p
inj-Ok p q e = cc

pub returns-clause-one_each : goal.returns-clause-one_each
returns-clause-one_each c =
    let law = c.in_ok-refuse_unlawful.ensures.lawful in
    everywhere c.args.dl.now law (λ t p. (q : Placed) → IsLaying c.args.dl.now t (Ok q) → q ≡ p)
    (λ t p h q k. inj-Ok p q (one_answer c.args.dl.now t (Ok q) (Ok p) k h))
    (tree_of c.args.tree.now) _ (laid_root _ _ _ _ _ _ c.in_ok-_root.ensures.ok c.new.ensures.placed)

pub returns-clause-each_layout : goal.returns-clause-each_layout
returns-clause-each_layout c =
    let law = c.in_ok-refuse_unlawful.ensures.lawful in
    everywhere c.args.dl.now law (λ t p. IsLawfulLayout c.args.dl.now (layout_of p)) (λ t p h. (laid_whole c.args.dl.now law t p h).0)
    (tree_of c.args.tree.now) _ (laid_root _ _ _ _ _ _ c.in_ok-_root.ensures.ok c.new.ensures.placed)

pub returns-clause-sized : goal.returns-clause-sized
returns-clause-sized c =
    let law = c.in_ok-refuse_unlawful.ensures.lawful in
    laid_sized c.args.dl.now law (tree_of c.args.tree.now) _ (laid_root _ _ _ _ _ _ c.in_ok-_root.ensures.ok c.new.ensures.placed)

pub returns-clause-covered : goal.returns-clause-covered
returns-clause-covered c = covered_decides c.args.dl.now.endian (placed_of c.new.result)

pub returns-clause-inhabited : goal.returns-clause-inhabited
returns-clause-inhabited c = (
  λ all. (c.in_ok-_root.ensures.counted.3.0 (sym c.new.ensures.flags ∙ all)).1,
  λ each. c.new.ensures.flags ∙ c.in_ok-_root.ensures.counted.3.1 (ap are_inhabited c.new-nodes.ensures, each),
)

pub returns-clause-all_have : goal.returns-clause-all_have
returns-clause-all_have c = λ have.
    let law = c.in_ok-refuse_unlawful.ensures.lawful in
    (returns-clause-inhabited c).1
    (each_inhabited c.args.dl.now law (tree_of c.args.tree.now) _ (laid_root _ _ _ _ _ _ c.in_ok-_root.ensures.ok c.new.ensures.placed) have).0

-- the values are kept, where the layout is faithful to them
keeps_values : (dl : TargetDataLayout) (tree : Tree) (laid : Laid) → endian_of laid ≡ dl.endian → IsFaithful dl tree (placed_of laid) → UntaggedNamed dl.endian (placed_of laid) → KeepsValues dl tree laid
keeps_values dl tree laid order faithful untagged = record { order = order; exists = faithful.exists; only = faithful.only; unique = faithful.unique; untagged = untagged }

pub returns-clause-of_tree : goal.returns-clause-of_tree
returns-clause-of_tree c =
    let dl = c.args.dl.now in
    let tree = tree_of c.args.tree.now in
    let laid = c.new.result in
    let law = c.in_ok-refuse_unlawful.ensures.lawful in
    let laying = laid_root _ _ _ _ _ _ c.in_ok-_root.ensures.ok c.new.ensures.placed in
    let values : LocalsHaveValues dl tree → KeepsValues dl tree laid = λ locals. keeps_values dl tree laid c.new.ensures.endian (returns-clause-faithful c locals) (returns-clause-untagged c locals) in
    record {
      order = c.new.ensures.endian;
      values = values;
      padding = λ locals. (returns-clause-faithful c locals).padding;
      places = λ all.
          let some = (c.in_ok-_root.ensures.counted.3.0 (sym c.new.ensures.flags ∙ all)).1 in
          let own = coverable dl law tree _ laying some in
          record {
            values = values own.locals;
            value = λ k place. own.value (Some k);
            covers = λ k place. own.covers (room_root _ _ _ _ _ _ c.in_ok-_root.ensures.ok c.new.ensures.placed) k place;
          };
      own_places = laid_own_places dl.endian dl law tree _ laying;
      unused = λ i k index. (laid_told dl law tree _ laying).unused (typed_of laid) (seen_root laid) i k index;
    }

pub returns-clause-decides : goal.returns-clause-decides
returns-clause-decides c = λ all k place.
    let law = c.in_ok-refuse_unlawful.ensures.lawful in
    let some = (c.in_ok-_root.ensures.counted.3.0 (sym c.new.ensures.flags ∙ all)).1 in
    let p : Placed = placed_of c.new.result in
    let own = coverable c.args.dl.now law (tree_of c.args.tree.now) _ (laid_root _ _ _ _ _ _ c.in_ok-_root.ensures.ok c.new.ensures.placed) some in
    let room : has_room p ≡ true = room_root _ _ _ _ _ _ c.in_ok-_root.ensures.ok c.new.ensures.placed in
    let faithful = faithful_root _ _ _ _ _ _ c.in_ok-_root.ensures.ok c.new.ensures.placed own.locals in
    let held = faithful.exists (covering_value p (Some k)) (own.value (Some k)) in
    each_decides c.args.dl.now.endian p k (covering_value p (Some k)) held.0 held.1 held.2 (own.covers room k place) (within_room p k room place)

pub returns-clause-places : goal.returns-clause-places
returns-clause-places c k =
    let law = c.in_ok-refuse_unlawful.ensures.lawful in
    let tag_distinguishes = laid_told c.args.dl.now law (tree_of c.args.tree.now) _ (laid_root _ _ _ _ _ _ c.in_ok-_root.ensures.ok c.new.ensures.placed) in
    tag_distinguishes.places (typed_of c.new.result) (seen_root c.new.result) k

pub returns-clause-too_large : goal.returns-clause-too_large
returns-clause-too_large c law large =
    never_large c.args.dl.now law (tree_of c.args.tree.now) _ (laid_root _ _ _ _ _ _ c.in_ok-_root.ensures.ok c.new.ensures.placed) large

pub returns-in_err-_root-clause-overflow : goal.returns-in_err-_root-clause-overflow
returns-in_err-_root-clause-overflow c =
    let law = c.in_ok-refuse_unlawful.ensures.lawful in
    passed_on _ _ _ c.from_residual-in_err-_root.ensures.1 (λ size. told_overflow c.args.dl.now law (tree_of c.args.tree.now) _ c.in_err-_root.ensures.err size)

pub returns-in_err-_root-clause-too_large : goal.returns-in_err-_root-clause-too_large
returns-in_err-_root-clause-too_large c law large =
    passed_as _ _ _ c.from_residual-in_err-_root.ensures.1 (told_large c.args.dl.now law (tree_of c.args.tree.now) _ c.in_err-_root.ensures.err large)

pub returns-clause-one : goal.returns-clause-one
returns-clause-one c a b h k = one_answer c.args.dl.now (tree_of c.args.tree.now) a b h k

pub returns-in_err-_root-clause-one : goal.returns-in_err-_root-clause-one
returns-in_err-_root-clause-one c a b h k = one_answer c.args.dl.now (tree_of c.args.tree.now) a b h k

pub returns-in_err-refuse_unlawful-clause-one : goal.returns-in_err-refuse_unlawful-clause-one
returns-in_err-refuse_unlawful-clause-one c a b h k = one_answer c.args.dl.now (tree_of c.args.tree.now) a b h k

pub returns-clause-some : goal.returns-clause-some
returns-clause-some c law = some_answer c.args.dl.now law (tree_of c.args.tree.now)

pub returns-in_err-_root-clause-some : goal.returns-in_err-_root-clause-some
returns-in_err-_root-clause-some c law = some_answer c.args.dl.now law (tree_of c.args.tree.now)

pub returns-in_err-refuse_unlawful-clause-some : goal.returns-in_err-refuse_unlawful-clause-some
returns-in_err-refuse_unlawful-clause-some c law = some_answer c.args.dl.now law (tree_of c.args.tree.now)

pub returns-clause-counted : goal.returns-clause-counted
returns-clause-counted c =
    let counted = c.in_ok-_root.ensures.counted in
    let all : counted.0 ≡ node_count_of c.new.result = omega (arith, counted.2, ap length c.new-nodes.ensures, c.new.ensures.count) in
    subst (HasNodes c.args.dl.now (tree_of c.args.tree.now)) all counted.1
