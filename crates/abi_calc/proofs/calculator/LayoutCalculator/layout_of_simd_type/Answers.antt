use Rattle.std.proofs.Common.{◌≡◌, ◌*◌, ◌∙◌, ap, refl, arith, sym, true}
use Rattle.abi_base.specs.declared.data_layout.TargetDataLayout.{TargetDataLayout}
use Rattle.abi_scalar.specs.declared.backend_repr.BackendRepr.TheVariants.{Memory, Scalar as OneScalar, SimdVector}
use Rattle.abi_scalar.specs.declared.scalar.Scalar.{Scalar}
use Rattle.abi_scalar.specs.Order.{HasPlaceForEach, IsAscending}
use Rattle.abi_univariant.specs.Simd.{lanes_align}
use Rattle.abi_univariant.proofs.UnionsVectors.TooLarge.{vector_sized}
use Rattle.abi_univariant.proofs.UnionsVectors.VectorLemmas.{simd_ok}
use Rattle.abi_calc.proofs.calculator.LayoutCalculator.layout_of_simd_type.Goals as goal

-- a view that is one scalar is of no other
same_scalar : (a b : Scalar) → OneScalar a ≡ OneScalar b → a ≡ b
same_scalar a b e = cc

pub layout_of_simd-requires-clause-element : goal.layout_of_simd-requires-clause-element
layout_of_simd-requires-clause-element g c = rw c.data_layout.ensures c.requires.element

pub returns-clause-exact : goal.returns-clause-exact
returns-clause-exact g c = rw c.data_layout.ensures at c.layout_of_simd.ensures.exact

pub returns-clause-lawful : goal.returns-clause-lawful
returns-clause-lawful g c = rw c.data_layout.ensures at c.layout_of_simd.ensures.lawful

pub returns-clause-places : goal.returns-clause-places
returns-clause-places g c =
    simd_ok g.F.LayoutHandle.layout_of (g.VariantIdx.Idx.at 0) (g.FieldIdx.Idx.at 0) c.data_layout.result.now
    c.args.element c.args.count (λ l. HasPlaceForEach l.fields) c.args.repr_packed
    c.layout_of_simd.result c.layout_of_simd.ensures.exact (λ lanes are. refl)

pub returns-clause-ascending : goal.returns-clause-ascending
returns-clause-ascending g c =
    simd_ok g.F.LayoutHandle.layout_of (g.VariantIdx.Idx.at 0) (g.FieldIdx.Idx.at 0) c.data_layout.result.now
    c.args.element c.args.count (λ l. IsAscending g.FieldIdx.Idx.number l.fields) c.args.repr_packed
    c.layout_of_simd.result c.layout_of_simd.ensures.exact (λ lanes are i j d low high. absurd (omega arith))

pub returns-clause-niche : goal.returns-clause-niche
returns-clause-niche g c =
    simd_ok g.F.LayoutHandle.layout_of (g.VariantIdx.Idx.at 0) (g.FieldIdx.Idx.at 0) c.data_layout.result.now
    c.args.element c.args.count (λ l. l.largest_niche ≡ (g.F.LayoutHandle.layout_of c.args.element).largest_niche) c.args.repr_packed
    c.layout_of_simd.result c.layout_of_simd.ensures.exact (λ lanes are. refl)

pub returns-clause-alignment : goal.returns-clause-alignment
returns-clause-alignment g c =
    let dl : TargetDataLayout = g.Cx.HasDataLayout.target c.args.self.now.cx in
    let exact = rw c.data_layout.ensures at c.layout_of_simd.ensures.exact in
    simd_ok g.F.LayoutHandle.layout_of (g.VariantIdx.Idx.at 0) (g.FieldIdx.Idx.at 0) dl
    c.args.element c.args.count (λ l. l.align.abi ≡ lanes_align dl c.args.repr_packed c.args.count ((g.F.LayoutHandle.layout_of c.args.element).size * c.args.count)) c.args.repr_packed
    c.layout_of_simd.result exact (λ lanes are. rw (are.size, are.count_is) refl)

pub returns-clause-view : goal.returns-clause-view
returns-clause-view g c scalar is loose =
    let dl : TargetDataLayout = g.Cx.HasDataLayout.target c.args.self.now.cx in
    let exact = rw c.data_layout.ensures at c.layout_of_simd.ensures.exact in
    simd_ok g.F.LayoutHandle.layout_of (g.VariantIdx.Idx.at 0) (g.FieldIdx.Idx.at 0) dl
    c.args.element c.args.count (λ l. l.backend_repr ≡ SimdVector scalar c.args.count) c.args.repr_packed
    c.layout_of_simd.result exact (λ lanes are. rw (are.count_is, loose) (ap (λ s. SimdVector s c.args.count) (same_scalar lanes.scalar scalar (sym are.view ∙ is))))

pub returns-clause-tight_view : goal.returns-clause-tight_view
returns-clause-tight_view g c tight =
    let dl : TargetDataLayout = g.Cx.HasDataLayout.target c.args.self.now.cx in
    let exact = rw c.data_layout.ensures at c.layout_of_simd.ensures.exact in
    simd_ok g.F.LayoutHandle.layout_of (g.VariantIdx.Idx.at 0) (g.FieldIdx.Idx.at 0) dl
    c.args.element c.args.count (λ l. l.backend_repr ≡ Memory true) c.args.repr_packed
    c.layout_of_simd.result exact (λ lanes are. rw (are.count_is, tight) refl)

pub returns-clause-sized : goal.returns-clause-sized
returns-clause-sized g c =
    let exact = rw c.data_layout.ensures at c.layout_of_simd.ensures.exact in
    vector_sized g.F.LayoutHandle.layout_of (g.VariantIdx.Idx.at 0) (g.FieldIdx.Idx.at 0)
    (g.Cx.HasDataLayout.target c.args.self.now.cx) c.args.element c.args.count c.args.repr_packed
    c.layout_of_simd.result exact
