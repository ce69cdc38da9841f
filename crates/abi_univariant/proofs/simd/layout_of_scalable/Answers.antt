use Rattle.std.proofs.Common.{rules, ap, ◌≡◌, ◌≤◌, ◌*◌, ◌∙◌, arith}
use Rattle.abi_base.specs.DataLayout.{size_bound}
use Rattle.std.proofs.Math.Nat.{mul-le-mul_left}
use Rattle.abi_univariant.proofs.UnionsVectors.VectorLemmas.{lanes_are, vectors_lawful, vectors_most}
use Rattle.abi_univariant.proofs.simd.layout_of_scalable.Goals as goal

pub mul-bytes-requires : goal.mul-bytes-requires
mul-bytes-requires g c =
    let few : c.from.result ≤ 255 = search rules in
    omega (arith, vectors_most g.F.LayoutHandle.layout_of c.args.dl.now c.args.element c.args.count c.in_ok-lanes.lanes c.from.result few c.requires.element c.in_ok-lanes.ensures)

pub layout_of_vectors-requires-clause-small : goal.layout_of_vectors-requires-clause-small
layout_of_vectors-requires-clause-small g c =
    let few : c.from.result ≤ 255 = search rules in
    omega (arith, vectors_most g.F.LayoutHandle.layout_of c.args.dl.now c.args.element c.args.count c.in_ok-lanes.lanes c.from.result few c.requires.element c.in_ok-lanes.ensures)

pub returns-clause-lawful : goal.returns-clause-lawful
returns-clause-lawful g c some =
    let dl = c.args.dl.now in
    let are = lanes_are g.F.LayoutHandle.layout_of (size_bound c.args.dl.now) c.args.element c.args.count
    c.in_ok-lanes.lanes c.in_ok-lanes.ensures in
    let answer = rw c.layout.ensures at c.layout_of_vectors.ensures in
    let one : c.in_ok-lanes.lanes.size * 1 ≤ c.in_ok-lanes.lanes.size * c.args.number_of_vectors.0 = mul-le-mul_left
    c.in_ok-lanes.lanes.size (omega arith) in
    let all : c.mul-bytes.result ≡ c.in_ok-lanes.lanes.size * c.args.number_of_vectors.0 = c.mul-bytes.ensures ∙ ap
    (λ n. c.in_ok-lanes.lanes.size * n) c.from.ensures in
    vectors_lawful dl (g.F.LayoutHandle.layout_of c.args.element) c.args.count c.in_ok-lanes.lanes _ _ _
    c.mul-bytes.result c.vector_align-align.result
    c.layout_of_vectors.result c.requires.element are (omega arith) c.vector_align-align.ensures.limit (λ n h. h)
    (λ n. tt) answer
