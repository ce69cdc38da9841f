-- The layout's offset and the size of the field's handle are those of the field.
use Rattle.std.proofs.Common.{◌≡◌, ℕ, Some, arith, ap₂, subst, sym, ◌∙◌}
use Rattle.abi_tree.specs.Bytes.{bytes_at}
use Rattle.abi_tree.specs.Holding.{Holds}
use Rattle.abi_tree.specs.Laid.{endian_of, placed_of}
use Rattle.abi_tree.specs.Handles.{tree_type}
use Rattle.abi_tree.specs.Placed.{Placed, size_of}
use Rattle.abi_tree.specs.Value.{Value, Values, list}
use Rattle.guarantees.specs.Field.{HasFieldAt, value_at}
use Rattle.guarantees.proofs.Fields.{each_slice, field_fits, field_inside, field_there, held_field, no_slice}
use Rattle.guarantees.proofs.debugger.slices.slice_of_field.Goals as goal
use Rattle.guarantees.proofs.debugger.slices.slice_of_field.Goals.{After-bytes_from}

pub offset-offset-requires-clause-fits : goal.offset-offset-requires-clause-fits
offset-offset-requires-clause-fits c =
    let is = c.layout-layout.ensures ∙ sym c.root-root.ensures.layout ∙ sym c.root-root.ensures.valid.layout in
    let inside = field_inside (tree_type c.root-root.result) c.layout-layout.result.now c.args.index c.root-root.ensures.valid.lawful is (omega arith) in
    omega (arith, inside)

there : (c : After-bytes_from) (offset : ℕ) (field : Placed) → HasFieldAt (placed_of c.args.laid.now) c.args.index offset field →
    (c.bytes.result ≡ offset) × (c.bytes-2.result ≡ size_of field)
there c offset field h =
    field_there (tree_type c.root-root.result) (tree_type c.field-field.result) (placed_of c.args.laid.now) c.layout-layout.result.now c.field-field.result.layout.0.now c.args.index c.bytes.result c.bytes-2.result
    c.root-root.ensures.seen c.layout-layout.ensures (c.bytes.ensures ∙ c.offset-offset.ensures) c.field-field.ensures.field c.field-field.ensures.valid.layout (c.bytes-2.ensures ∙ c.size-size.ensures) offset field h

pub returns-clause-slice : goal.returns-clause-slice
returns-clause-slice c =
    each_slice c.args.bytes.now c.bytes.result c.bytes-2.result c.bytes_from.result
    (λ slice. (offset : ℕ) (field : Placed) → HasFieldAt (placed_of c.args.laid.now) c.args.index offset field → slice ≡ bytes_at c.args.bytes.now offset (size_of field)) c.bytes_from.ensures
    (λ offset field h. let at = there c offset field h in ap₂ (λ o n. bytes_at c.args.bytes.now o n) at.0 at.1)

pub returns-clause-holds : goal.returns-clause-holds
returns-clause-holds c =
    each_slice c.args.bytes.now c.bytes.result c.bytes-2.result c.bytes_from.result
    (λ slice. (offset : ℕ) (field : Placed) → HasFieldAt (placed_of c.args.laid.now) c.args.index offset field → (vs : Values) (v : Value) →
    Holds (endian_of c.args.laid.now) (placed_of c.args.laid.now) c.args.bytes.now (list vs) → value_at vs c.args.index ≡ Some v → Holds (endian_of c.args.laid.now) field slice v) c.bytes_from.ensures
    (λ offset field h vs v held e.
    let at = there c offset field h in
    let same : bytes_at c.args.bytes.now c.bytes.result c.bytes-2.result ≡ bytes_at c.args.bytes.now offset (size_of field) = ap₂ (λ o n. bytes_at c.args.bytes.now o n) at.0 at.1 in
    subst (λ slice. Holds (endian_of c.args.laid.now) field slice v) (sym same) (held_field (endian_of c.args.laid.now) (placed_of c.args.laid.now) c.args.index offset field c.args.bytes.now vs v h held e))

pub returns-clause-none : goal.returns-clause-none
returns-clause-none c = λ none lt offset field h vs held.
    let at = there c offset field h in
    let fits = field_fits (endian_of c.args.laid.now) (placed_of c.args.laid.now) c.args.index offset field c.args.bytes.now vs h held in
    no_slice c.args.bytes.now c.bytes.result c.bytes-2.result c.bytes_from.result c.bytes_from.ensures none (omega (arith, at.0, at.1, fits))
