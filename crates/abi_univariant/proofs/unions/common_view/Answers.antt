use Rattle.std.proofs.Common.{rules, refl, ◌≡◌}
use Rattle.std.proofs.lemmas.Bool.{false≢true}
use Rattle.abi_scalar.specs.View.{union_view}
use Rattle.abi_univariant.proofs.UnionsVectors.UnionLemmas.{no_view, some_view, same_view}
use Rattle.abi_univariant.proofs.unions.common_view.Goals as goal

pub returns-in_err-first-clause-none : goal.returns-in_err-first-clause-none
returns-in_err-first-clause-none g c none =
    no_view g.F.LayoutHandle.layout_of c.args.fields.now (c.in_err-first.ensures.none refl)

pub returns-then-all_agree-clause-some : goal.returns-then-all_agree-clause-some
returns-then-all_agree-clause-some g c =
    let h = c.in_ok-first.first in
    let view : c.to_union.result ≡ union_view (g.F.LayoutHandle.layout_of c.in_ok-first.first).backend_repr = search rules in
    let all = c.if-all_agree.ensures.0 refl in
    let agree = rw c.layout.ensures at all in (
      (g.F.LayoutHandle.layout_of h).align.abi,
      rw view (some_view g.F.LayoutHandle.layout_of c.args.fields.now h (union_view (g.F.LayoutHandle.layout_of h).backend_repr) (g.F.LayoutHandle.layout_of h).align.abi c.in_ok-first.ensures.some c.in_ok-first.ensures.counts agree),
    )

pub returns-else-all_agree-clause-none : goal.returns-else-all_agree-clause-none
returns-else-all_agree-clause-none g c none view align common =
    let h = c.in_ok-first.first in
    let all = same_view g.F.LayoutHandle.layout_of c.args.fields.now h view align c.in_ok-first.ensures.some c.in_ok-first.ensures.counts common in
    let agree = rw (← c.layout.ensures) at all in
    false≢true (c.if-all_agree.ensures.1 agree)
