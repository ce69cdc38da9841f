use Rattle.std.proofs.Common.{◌≡◌, ◌<◌, ◌∙◌, true, length, get_or, sym, rules, arith}
use Rattle.std.proofs.lemmas.Grind.{elements}
use Rattle.abi_base.proofs.Entries.{put_set}
use Rattle.abi_base.proofs.keyed_list.KeyedList.place.Goals as goal

pub returns-then-eq : goal.returns-then-eq
returns-then-eq g c =
    let same = g.K.PartialEq.eq in
    let low : c.loop-index.index < length c.args.self.now = (search rules) in (
      low,
      λ value.
          let here : same (get_or c.args.self.now c.loop-index.index (c.args.key, value)).0 c.args.key ≡ true = grind (arith, elements) in
          sym (c.loop-index.invariant value) ∙ put_set same c.args.key value c.args.self.now c.loop-index.index (c.args.key, value) low here,
    )
