use Rattle.std.proofs.Common.{sym, subst, ap, ◌≡◌, ◌*◌, ◌^◌, ◌∙◌, arith, IsTrue}
use Rattle.std.specs.Int.{◌∣◌}
use Rattle.abi_base.specs.DataLayout.{size_bound}
use Rattle.abi_scalar.specs.Lawful.{IsLawfulView, IsNicheOfView}
use Rattle.abi_univariant.specs.Simd.{is_tight}
use Rattle.abi_univariant.proofs.Offsets.Rounding.{round_multiple}
use Rattle.abi_univariant.proofs.UnionsVectors.VectorLemmas.{below_ok, lanes_are, lanes_found, simd_of_view, simd_viewed, vectors_lawful}
use Rattle.abi_univariant.proofs.simd.layout_of_simd.Goals as goal

pub simd_align-align-requires-clause-some : goal.simd_align-align-requires-clause-some
simd_align-align-requires-clause-some g c = (lanes_found g.F.LayoutHandle.layout_of c.args.dl.now c.args.element c.args.count c.in_ok-lanes.lanes c.requires.element c.in_ok-lanes.ensures).some

pub simd_align-align-requires-clause-small : goal.simd_align-align-requires-clause-small
simd_align-align-requires-clause-small g c = omega (arith, (lanes_found g.F.LayoutHandle.layout_of c.args.dl.now c.args.element c.args.count c.in_ok-lanes.lanes c.requires.element c.in_ok-lanes.ensures).most)

pub layout_of_vectors-requires-clause-small : goal.layout_of_vectors-requires-clause-small
layout_of_vectors-requires-clause-small g c = omega (arith, (lanes_found g.F.LayoutHandle.layout_of c.args.dl.now c.args.element c.args.count c.in_ok-lanes.lanes c.requires.element c.in_ok-lanes.ensures).most)

pub returns-clause-tight : goal.returns-clause-tight
returns-clause-tight g c t =
    let are = lanes_are g.F.LayoutHandle.layout_of (size_bound c.args.dl.now) c.args.element c.args.count
    c.in_ok-lanes.lanes c.in_ok-lanes.ensures in
    let tight : IsTrue (is_tight c.args.repr_packed c.in_ok-lanes.lanes.count) = subst
    (λ n. IsTrue (is_tight c.args.repr_packed n)) (sym are.count_is) t in
    let d : 2 ^ c.simd_align-align.result ∣ c.in_ok-lanes.lanes.size = c.simd_align-align.ensures.tight tight in
    below_ok (λ l. l.size ≡ (g.F.LayoutHandle.layout_of c.args.element).size * c.args.count) _ _
    c.layout_of_vectors.result c.layout_of_vectors.ensures
    (λ small. round_multiple c.in_ok-lanes.lanes.size c.simd_align-align.result d ∙ are.size ∙ ap
    (λ n. (g.F.LayoutHandle.layout_of c.args.element).size * n) are.count_is)

pub returns-clause-lawful : goal.returns-clause-lawful
returns-clause-lawful g c =
    let dl = c.args.dl.now in
    let are = lanes_are g.F.LayoutHandle.layout_of (size_bound c.args.dl.now) c.args.element c.args.count
    c.in_ok-lanes.lanes c.in_ok-lanes.ensures in
    let answer = rw c.layout.ensures at c.layout_of_vectors.ensures in
    vectors_lawful dl (g.F.LayoutHandle.layout_of c.args.element) c.args.count c.in_ok-lanes.lanes _ _
    c.simd_view-backend_repr.result c.in_ok-lanes.lanes.size c.simd_align-align.result
    c.layout_of_vectors.result c.requires.element are (omega arith) c.simd_align-align.ensures.limit
    (λ n h. subst (λ v. IsLawfulView dl n v) (sym c.simd_view-backend_repr.ensures)
    (simd_viewed dl c.args.repr_packed c.in_ok-lanes.lanes n h))
    (λ n. subst (λ v. IsNicheOfView v n) (sym c.simd_view-backend_repr.ensures)
    (simd_of_view c.args.repr_packed c.in_ok-lanes.lanes n)) answer
