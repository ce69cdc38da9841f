use Rattle.std.proofs.Common.{◌≡◌, ◌*◌, None, refl}
use Rattle.std.specs.Prelude.{is_some, unwrap_or}
use Rattle.abi_scalar.specs.declared.backend_repr.BackendRepr.TheVariants.{Memory}
use Rattle.abi_scalar.specs.Order.{HasPlaceForEach, IsAscending}
use Rattle.abi_univariant.proofs.Views.Lawful.{array_ok}
use Rattle.abi_calc.proofs.Arrays.{array_large, array_no_other, array_refused, no_niche, some_niche}
use Rattle.abi_calc.proofs.calculator.LayoutCalculator.layout_of_array_like.Goals as goal

pub returns-clause-size : goal.returns-clause-size
returns-clause-size g c =
    array_ok (λ l. l.size ≡ c.args.element.now.size * unwrap_or c.args.count_if_sized 0) (g.VariantIdx.Idx.at 0)
    c.data_layout.result.now c.args.element.now c.args.count_if_sized c.layout_of_array.result
    c.layout_of_array.ensures.exact refl

pub returns-clause-lawful : goal.returns-clause-lawful
returns-clause-lawful g c = rw c.data_layout.ensures at c.layout_of_array.ensures.lawful

pub returns-clause-places : goal.returns-clause-places
returns-clause-places g c =
    array_ok (λ l. HasPlaceForEach l.fields) (g.VariantIdx.Idx.at 0) c.data_layout.result.now c.args.element.now
    c.args.count_if_sized c.layout_of_array.result c.layout_of_array.ensures.exact tt

pub returns-clause-ascending : goal.returns-clause-ascending
returns-clause-ascending g c =
    array_ok (λ l. IsAscending g.FieldIdx.Idx.number l.fields) (g.VariantIdx.Idx.at 0) c.data_layout.result.now
    c.args.element.now c.args.count_if_sized c.layout_of_array.result c.layout_of_array.ensures.exact tt

pub returns-clause-alignment : goal.returns-clause-alignment
returns-clause-alignment g c =
    array_ok (λ l. l.align ≡ c.args.element.now.align) (g.VariantIdx.Idx.at 0) c.data_layout.result.now c.args.element.now
    c.args.count_if_sized c.layout_of_array.result c.layout_of_array.ensures.exact refl

pub returns-clause-view : goal.returns-clause-view
returns-clause-view g c =
    array_ok (λ l. l.backend_repr ≡ Memory (is_some c.args.count_if_sized)) (g.VariantIdx.Idx.at 0) c.data_layout.result.now c.args.element.now
    c.args.count_if_sized c.layout_of_array.result c.layout_of_array.ensures.exact refl

pub returns-clause-niche : goal.returns-clause-niche
returns-clause-niche g c some =
    array_ok (λ l. l.largest_niche ≡ c.args.element.now.largest_niche) (g.VariantIdx.Idx.at 0) c.data_layout.result.now c.args.element.now
    c.args.count_if_sized c.layout_of_array.result c.layout_of_array.ensures.exact (some_niche _ (unwrap_or c.args.count_if_sized 0) some)

pub returns-clause-no_niche : goal.returns-clause-no_niche
returns-clause-no_niche g c none =
    array_ok (λ l. l.largest_niche ≡ None) (g.VariantIdx.Idx.at 0) c.data_layout.result.now c.args.element.now
    c.args.count_if_sized c.layout_of_array.result c.layout_of_array.ensures.exact (no_niche _ (unwrap_or c.args.count_if_sized 0) none)

pub returns-clause-too_large : goal.returns-clause-too_large
returns-clause-too_large g c =
    let exact = rw c.data_layout.ensures at c.layout_of_array.ensures.exact in
    array_large (g.VariantIdx.Idx.at 0) (g.Cx.HasDataLayout.target c.args.self.now.cx) c.args.element.now
    c.args.count_if_sized c.layout_of_array.result exact

pub returns-clause-refused : goal.returns-clause-refused
returns-clause-refused g c =
    let exact = rw c.data_layout.ensures at c.layout_of_array.ensures.exact in
    array_refused (g.VariantIdx.Idx.at 0) (g.Cx.HasDataLayout.target c.args.self.now.cx) c.args.element.now
    c.args.count_if_sized c.layout_of_array.result exact

pub returns-clause-no_other : goal.returns-clause-no_other
returns-clause-no_other g c =
    let exact = rw c.data_layout.ensures at c.layout_of_array.ensures.exact in
    array_no_other (g.VariantIdx.Idx.at 0) (g.Cx.HasDataLayout.target c.args.self.now.cx) c.args.element.now
    c.args.count_if_sized c.layout_of_array.result exact
