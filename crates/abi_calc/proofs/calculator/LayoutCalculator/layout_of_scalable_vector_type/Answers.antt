use Rattle.std.proofs.Common.{◌≡◌, refl, arith}
use Rattle.abi_scalar.specs.Order.{HasPlaceForEach, IsAscending}
use Rattle.abi_univariant.proofs.UnionsVectors.TooLarge.{vectors_sized}
use Rattle.abi_univariant.proofs.UnionsVectors.VectorLemmas.{scalable_ok}
use Rattle.abi_calc.proofs.calculator.LayoutCalculator.layout_of_scalable_vector_type.Goals as goal

pub layout_of_scalable-requires-clause-element : goal.layout_of_scalable-requires-clause-element
layout_of_scalable-requires-clause-element g c = rw c.data_layout.ensures c.requires.element

pub returns-clause-exact : goal.returns-clause-exact
returns-clause-exact g c = rw c.data_layout.ensures at c.layout_of_scalable.ensures.exact

pub returns-clause-lawful : goal.returns-clause-lawful
returns-clause-lawful g c = rw c.data_layout.ensures at c.layout_of_scalable.ensures.lawful

pub returns-clause-places : goal.returns-clause-places
returns-clause-places g c =
    scalable_ok g.F.LayoutHandle.layout_of (g.VariantIdx.Idx.at 0) (g.FieldIdx.Idx.at 0) c.data_layout.result.now
    c.args.element c.args.count (λ l. HasPlaceForEach l.fields) c.args.number_of_vectors
    c.layout_of_scalable.result c.layout_of_scalable.ensures.exact (λ lanes are. refl)

pub returns-clause-ascending : goal.returns-clause-ascending
returns-clause-ascending g c =
    scalable_ok g.F.LayoutHandle.layout_of (g.VariantIdx.Idx.at 0) (g.FieldIdx.Idx.at 0) c.data_layout.result.now
    c.args.element c.args.count (λ l. IsAscending g.FieldIdx.Idx.number l.fields) c.args.number_of_vectors
    c.layout_of_scalable.result c.layout_of_scalable.ensures.exact (λ lanes are i j d low high. absurd (omega arith))

pub returns-clause-niche : goal.returns-clause-niche
returns-clause-niche g c =
    scalable_ok g.F.LayoutHandle.layout_of (g.VariantIdx.Idx.at 0) (g.FieldIdx.Idx.at 0) c.data_layout.result.now
    c.args.element c.args.count (λ l. l.largest_niche ≡ (g.F.LayoutHandle.layout_of c.args.element).largest_niche) c.args.number_of_vectors
    c.layout_of_scalable.result c.layout_of_scalable.ensures.exact (λ lanes are. refl)

pub returns-clause-sized : goal.returns-clause-sized
returns-clause-sized g c =
    let exact = rw c.data_layout.ensures at c.layout_of_scalable.ensures.exact in
    vectors_sized g.F.LayoutHandle.layout_of (g.VariantIdx.Idx.at 0) (g.FieldIdx.Idx.at 0)
    (g.Cx.HasDataLayout.target c.args.self.now.cx) c.args.element c.args.count c.args.number_of_vectors
    c.layout_of_scalable.result exact
