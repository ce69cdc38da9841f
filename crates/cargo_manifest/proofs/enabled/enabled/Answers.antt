-- The search.
use Rattle.std.proofs.Common.{◌≡◌, ◌<◌, ◌≤◌, ◌+◌, arith, get_or, length, map, subst, sym}
use Rattle.std.proofs.lemmas.Grind.{common_steps}
use Rattle.cargo_manifest.specs.Enabled.{followed, link_view, other_links}
use Rattle.cargo_manifest.specs.Values.{texts}
use Rattle.cargo_manifest.proofs.EnabledLemmas.{IsFollowed, all_followed, followed_init, followed_next, texts_length}
use Rattle.cargo_manifest.proofs.enabled.enabled.Goals as goal

pub loop-at-init : goal.loop-at-init
loop-at-init c =
    let links = map link_view c.args.links.now in
    let asked = texts c.args.asked.items in
    record { so_far = subst (λ ls. IsFollowed links asked asked (map link_view ls) 0) (sym c.in_ok-left.ensures) (followed_init links asked) }

pub loop-at-preserved : goal.loop-at-preserved
loop-at-preserved c =
    let links = map link_view c.args.links.now in
    let asked = texts c.args.asked.items in
    let on = c.loop-at.on.items in
    let left = map link_view c.loop-at.left.items in
    let at = c.loop-at.at in
    let e = c.index-feature.result.now in
    let short : at < length on = grind (arith, common_steps) in
    let is : e ≡ get_or on at e = grind (arith, common_steps) in
    let next = followed_next links asked on left at e short is c.loop-at.invariant.so_far in
    let same_on : texts c.follow.new.on.items ≡ followed e.now left (texts on) = grind (arith, common_steps) in
    let same_left : map link_view c.in_ok-left-2.left.items ≡ other_links e.now left = grind (arith, common_steps) in
    record {
      so_far = subst (λ ls. IsFollowed links asked (texts c.follow.new.on.items) ls (at + 1)) (sym same_left)
          (subst (λ xs. IsFollowed links asked xs (other_links e.now left) (at + 1)) (sym same_on) next);
    }

pub returns : goal.returns
returns c =
    let on = c.loop-at.on.items in
    let over : length on ≤ c.loop-at.at = grind (arith, common_steps) in
    all_followed (map link_view c.args.links.now) (texts c.args.asked.items) (texts on) (map link_view c.loop-at.left.items) c.loop-at.at
    (subst (λ n. n ≤ c.loop-at.at) (sym (texts_length on)) over) c.loop-at.invariant.so_far
