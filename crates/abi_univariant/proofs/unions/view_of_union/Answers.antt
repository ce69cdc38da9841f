use Rattle.std.proofs.Common.{refl, sym, subst, map, inr}
use Rattle.std.proofs.lemmas.Bool.{false≢true}
use Rattle.abi_univariant.specs.Union.{IsAlignedFor}
use Rattle.abi_univariant.proofs.UnionsVectors.UnionLemmas.{knows_common, not_aligned, not_common, not_free}
use Rattle.abi_univariant.proofs.unions.view_of_union.Goals as goal
use Rattle.abi_univariant.proofs.unions.view_of_union.Goals.{then-not-inhibits_union_abi_opt+in-Some+else-is_aligned_for, then-not-inhibits_union_abi_opt+in_default, else-not-inhibits_union_abi_opt}

pub is_aligned_for-requires : goal.is_aligned_for-requires
is_aligned_for-requires g c =
    knows_common c.args.dl.now g.F.LayoutHandle.layout_of c.args.fields.now c.in-Some.view c.in-Some.ensures.some.0
    c.requires.fields c.in-Some.ensures.some.1

pub returns : goal.returns
returns g c =
    let dl = c.args.dl.now in
    let ls = map g.F.LayoutHandle.layout_of c.args.fields.now in
    inr (
      refl,
      elim c.if-not-inhibits_union_abi_opt.branch [
        | then-not-inhibits_union_abi_opt+in-Some+else-is_aligned_for w ↦
            not_aligned dl c.args.repr.now ls w.in-Some.view w.in-Some.ensures.some.0 w.in-Some.ensures.some.1
            (λ (fits : IsAlignedFor c.args.dl.now w.in-Some.view _). false≢true
            (w.if-is_aligned_for.ensures.1 (subst (λ a. IsAlignedFor dl w.in-Some.view a) (sym c.requires.align) fits)))
        | then-not-inhibits_union_abi_opt+in_default w ↦ not_common dl c.args.repr.now ls
            (w.common_view.ensures.none w.in_default.is)
        | else-not-inhibits_union_abi_opt w ↦ not_free dl c.args.repr.now ls
            (sym w.if-not-inhibits_union_abi_opt.ensures)
      ],
    )
