-- One place more; a place below the number of locals names one.
use Rattle.std.proofs.Common.{◌≡◌, ◌≤◌, ◌∷◌, ◌++◌, ◌∙◌, [], ap, arith, length, sym}
use Rattle.std.specs.Prelude.{filter}
use Rattle.std.specs.List.{range_with_len}
use Rattle.std.proofs.lemmas.List.{append_assoc, length-append}
use Rattle.abi_index.specs.BitSet.{is_member}
use Rattle.abi_calc.specs.Coroutine.Lists.{picked}
use Rattle.abi_calc.proofs.CoroutineLemmas.Lists.{picked_kept, picked_left}
use Rattle.abi_calc.proofs.coroutine.lists.first_fields.Goals as goal
use Rattle.abi_calc.proofs.coroutine.lists.first_fields.Goals.{then-contains+in_ok-_index-2, else-contains}

pub new-requires : goal.new-requires
new-requires g c = omega (arith, c.requires.named, c.loop-place-test.true)

pub contains-requires : goal.contains-requires
contains-requires g c =
    let small : c.loop-place.place ≤ g.LocalIdx.Idx.MAX_INDEX = omega (arith, c.requires.named, c.loop-place-test.true) in
    rw (c.new.ensures, g.met.LocalIdx.Idx.number_at c.loop-place.place small, c.requires.same) c.loop-place-test.true

pub loop-place-preserved : goal.loop-place-preserved
loop-place-preserved g c =
    let small : c.loop-place.place ≤ g.LocalIdx.Idx.MAX_INDEX = omega (arith, c.requires.named, c.loop-place-test.true) in
    let place : g.LocalIdx.Idx.number c.new.result ≡ c.loop-place.place = ap g.LocalIdx.Idx.number c.new.ensures ∙ g.met.LocalIdx.Idx.number_at c.loop-place.place small in
    let before = filter (is_member c.args.promoted.now) (range_with_len 0 c.loop-place.place) in
    elim c.if-contains.branch [
      | then-contains+in_ok-_index-2 w ↦
          let x = c.index-locals-place.result in
          let pushed : c.if-contains.fields ≡ c.loop-place.fields ++ x ∷ [] = w.fields-is ∙ w.in_ok-_index-2.ensures.ok in
          let more = length-append c.loop-place.fields (x ∷ []) in
          record {
            all = pushed ∙ ap (λ xs. xs ++ x ∷ []) c.loop-place.invariant.all ∙ append_assoc c.args.prefix (c.args.tag ∷ picked c.args.locals.now before) (x ∷ [])
                ∙ ap (λ xs. c.args.prefix ++ c.args.tag ∷ xs)
                (sym (picked_kept c.args.locals.now (is_member c.args.promoted.now) c.loop-place.place x c.loop-place-test.true c.index-locals-place.is (sym (w.if-contains.ensures ∙ ap (is_member c.args.promoted.now) place))));
            room = omega (arith, c.loop-place.invariant.room, more, ap length pushed);
          }
      | else-contains w ↦ record {
        all = w.fields-is ∙ c.loop-place.invariant.all
            ∙ ap (λ xs. c.args.prefix ++ c.args.tag ∷ xs) (sym (picked_left c.args.locals.now (is_member c.args.promoted.now) c.loop-place.place (sym (w.if-contains.ensures ∙ ap (is_member c.args.promoted.now) place))));
        room = omega (arith, c.loop-place.invariant.room, ap length w.fields-is);
      }
    ]
