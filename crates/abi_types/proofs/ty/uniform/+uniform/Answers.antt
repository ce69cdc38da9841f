use Rattle.std.proofs.Common.{rules, ◌≡◌, ◌+◌, ◌≤◌, arith, ap, length, ◌∙◌}
use Rattle.std.proofs.lemmas.List.{get_or_default}
use Rattle.abi_types.specs.Homogeneous.{AllRun, register_of}
use Rattle.abi_types.specs.Ty.Typed.{layout_in}
use Rattle.abi_types.specs.Uniform.{FieldsRun}
use Rattle.abi_types.proofs.UniformWalkLemmas.{bulky_is, count_is, count_of, ends_elsewhere, ends_inside, listed_apart, listed_begun, listed_count, listed_failed, listed_gap, listed_next, listed_offset, listed_passed, pair_parts, run_refused, union_apart, union_begun, union_failed, union_next, union_passed, variant_apart, variant_count, variant_failed, variant_is, variant_next, variants_are, variants_begun, variants_in}
use Rattle.abi_types.proofs.ty.uniform.+uniform.Goals as goal

-- ---- variants

pub run_all-loop-v-init : goal.run_all-loop-v-init
run_all-loop-v-init g t c =
    let t = g.W.Walk.typed_of c.args.this in
    variants_begun t c.in_ok-shared.shared_end (register_of c.in_ok-shared.shared) _ _ _ _ (variants_are t c.layout.result.now _ _ _ _ c.layout.ensures c.in-Multiple.is) c.in_ok-shared.ensures

pub run_all-returns-in_err-own-in-Multiple : goal.run_all-returns-in_err-own-in-Multiple
run_all-returns-in_err-own-in-Multiple g t c =
    let t = g.W.Walk.typed_of c.args.this in
    let several = variants_are t c.layout.result.now _ _ _ _ c.layout.ensures c.in-Multiple.is in
    let count : c.len-v-end.result ≡ variants_in t = variant_count t c.len-v-end.result _ _ _ _ several c.len-v-end.ensures.count in
    run_refused c.from_residual-in_err-own-in-Multiple.result (AllRun t) c.from_residual-in_err-own-in-Multiple.ensures.0
    (variant_failed (AllRun t) t (g.W.Walk.typed_of c.variant-variant.result) c.in_ok-shared.shared_end c.loop-v.v (register_of c.loop-v.found) c.loop-v.end (omega (arith, count, c.loop-v-test.true))
    (variant_is t (g.W.Walk.typed_of c.variant-variant.result) c.loop-v.v c.from_usize.result _ _ _ _ several c.variant-variant.ensures.variant c.from_usize.ensures) (search rules) c.loop-v.invariant)

pub run_all-returns-in_err-found-in-Multiple : goal.run_all-returns-in_err-found-in-Multiple
run_all-returns-in_err-found-in-Multiple g t c =
    let t = g.W.Walk.typed_of c.args.this in
    let several = variants_are t c.layout.result.now _ _ _ _ c.layout.ensures c.in-Multiple.is in
    let count : c.len-v-end.result ≡ variants_in t = variant_count t c.len-v-end.result _ _ _ _ several c.len-v-end.ensures.count in
    run_refused c.from_residual-in_err-found-in-Multiple.result (AllRun t) c.from_residual-in_err-found-in-Multiple.ensures.0
    (variant_apart (AllRun t) t (g.W.Walk.typed_of c.variant-variant.result) c.in_ok-shared.shared_end c.loop-v.v (register_of c.loop-v.found) c.loop-v.end c.in_ok-own-in-Multiple.own_end
    (register_of c.in_ok-own-in-Multiple.own) (omega (arith, count, c.loop-v-test.true))
    (variant_is t (g.W.Walk.typed_of c.variant-variant.result) c.loop-v.v c.from_usize.result _ _ _ _ several c.variant-variant.ensures.variant c.from_usize.ensures) (search rules)
    c.in_err-found-in-Multiple.ensures c.loop-v.invariant)

pub run_all-loop-v-preserved : goal.run_all-loop-v-preserved
run_all-loop-v-preserved g t c =
    let t = g.W.Walk.typed_of c.args.this in
    let several = variants_are t c.layout.result.now _ _ _ _ c.layout.ensures c.in-Multiple.is in
    let count : c.len-v-end.result ≡ variants_in t = variant_count t c.len-v-end.result _ _ _ _ several c.len-v-end.ensures.count in
    rw c.max-end.ensures
    (variant_next (AllRun t) t (g.W.Walk.typed_of c.variant-variant.result) c.in_ok-shared.shared_end c.loop-v.v (register_of c.loop-v.found) c.loop-v.end c.in_ok-own-in-Multiple.own_end
    (register_of c.in_ok-own-in-Multiple.own) (register_of c.in_ok-found-in-Multiple.found) (omega (arith, count, c.loop-v-test.true))
    (variant_is t (g.W.Walk.typed_of c.variant-variant.result) c.loop-v.v c.from_usize.result _ _ _ _ several c.variant-variant.ensures.variant c.from_usize.ensures) (search rules)
    c.in_ok-found-in-Multiple.ensures c.loop-v.invariant)

-- ---- fields that are listed

pub run_listed-loop-i-init : goal.run_listed-loop-i-init
run_listed-loop-i-init g t c = listed_begun (g.W.Walk.typed_of c.args.this) c.args.start c.requires.listed

pub run_listed-loop-i-preserved-then-holds : goal.run_listed-loop-i-preserved-then-holds
run_listed-loop-i-preserved-then-holds g t c =
    let t = g.W.Walk.typed_of c.args.this in
    let count : length c.args.offsets.now ≡ count_of t = listed_count t c.args.offsets.now c.requires.listed c.requires.offsets in
    listed_passed (FieldsRun t c.args.start) t c.loop-i.i (register_of c.loop-i.found) c.loop-i.end (omega (arith, count, c.loop-i-test.true))
    (bulky_is t (g.W.Walk.typed_of c.field-field.result) c.loop-i.i c.layout.result.now c.holds.result _ c.field-field.ensures.field c.layout.ensures c.holds.ensures c.if-holds.true) c.loop-i.invariant

pub run_listed-returns-then-bytes-end : goal.run_listed-returns-then-bytes-end
run_listed-returns-then-bytes-end g t c =
    let t = g.W.Walk.typed_of c.args.this in
    let count : length c.args.offsets.now ≡ count_of t = listed_count t c.args.offsets.now c.requires.listed c.requires.offsets in
    listed_gap (FieldsRun t c.args.start) t c.loop-i.i (register_of c.loop-i.found) c.loop-i.end c.bytes.result (omega (arith, count, c.loop-i-test.true))
    (bulky_is t (g.W.Walk.typed_of c.field-field.result) c.loop-i.i c.layout.result.now c.holds.result _ c.field-field.ensures.field c.layout.ensures c.holds.ensures c.if-holds.false)
    (listed_offset t c.args.offsets.now c.loop-i.i c.bytes.result c.index-offsets-i.result c.requires.listed c.requires.offsets (c.index-offsets-i.is ∙ get_or_default c.args.offsets.now c.loop-i.i c.index-offsets-i.result 0 c.loop-i-test.true) c.bytes.ensures) (omega (arith, c.if-bytes-end.true)) c.loop-i.invariant

pub run_listed-returns-in_err-uniform : goal.run_listed-returns-in_err-uniform
run_listed-returns-in_err-uniform g t c =
    let t = g.W.Walk.typed_of c.args.this in
    let count : length c.args.offsets.now ≡ count_of t = listed_count t c.args.offsets.now c.requires.listed c.requires.offsets in
    run_refused c.from_residual.result (FieldsRun t c.args.start) c.from_residual.ensures.0
    (listed_failed (FieldsRun t c.args.start) t (g.W.Walk.typed_of c.field-field.result) c.loop-i.i (register_of c.loop-i.found) c.loop-i.end (omega (arith, count, c.loop-i-test.true))
    (bulky_is t (g.W.Walk.typed_of c.field-field.result) c.loop-i.i c.layout.result.now c.holds.result _ c.field-field.ensures.field c.layout.ensures c.holds.ensures c.if-holds.false)
    c.field-field.ensures.field c.in_err-uniform.ensures c.loop-i.invariant)

pub run_listed-returns-in_err-found : goal.run_listed-returns-in_err-found
run_listed-returns-in_err-found g t c =
    let t = g.W.Walk.typed_of c.args.this in
    let count : length c.args.offsets.now ≡ count_of t = listed_count t c.args.offsets.now c.requires.listed c.requires.offsets in
    run_refused c.from_residual-in_err-found.result (FieldsRun t c.args.start) c.from_residual-in_err-found.ensures.0
    (listed_apart (FieldsRun t c.args.start) t (g.W.Walk.typed_of c.field-field.result) c.loop-i.i (register_of c.loop-i.found) c.loop-i.end (register_of c.in_ok-uniform.field-0)
    (omega (arith, count, c.loop-i-test.true))
    (bulky_is t (g.W.Walk.typed_of c.field-field.result) c.loop-i.i c.layout.result.now c.holds.result _ c.field-field.ensures.field c.layout.ensures c.holds.ensures c.if-holds.false)
    c.field-field.ensures.field c.in_ok-uniform.ensures c.in_err-found.ensures c.loop-i.invariant)

pub run_listed-loop-i-preserved : goal.run_listed-loop-i-preserved
run_listed-loop-i-preserved g t c =
    let t = g.W.Walk.typed_of c.args.this in
    let u = g.W.Walk.typed_of c.field-field.result in
    let count : length c.args.offsets.now ≡ count_of t = listed_count t c.args.offsets.now c.requires.listed c.requires.offsets in
    listed_next (FieldsRun t c.args.start) t u c.loop-i.i (register_of c.loop-i.found) c.loop-i.end c.bytes.result c.bytes-in-loop-i.result (register_of c.in_ok-uniform.field-0) (register_of c.in_ok-found.found)
    (omega (arith, count, c.loop-i-test.true))
    (bulky_is t u c.loop-i.i c.layout.result.now c.holds.result _ c.field-field.ensures.field c.layout.ensures c.holds.ensures c.if-holds.false)
    c.field-field.ensures.field
    (listed_offset t c.args.offsets.now c.loop-i.i c.bytes.result c.index-offsets-i.result c.requires.listed c.requires.offsets (c.index-offsets-i.is ∙ get_or_default c.args.offsets.now c.loop-i.i c.index-offsets-i.result 0 c.loop-i-test.true) c.bytes.ensures) (omega (arith, c.if-bytes-end.false))
    (c.bytes-in-loop-i.ensures ∙ ap (λ l. l.size) c.layout-in-loop-i.ensures) c.in_ok-uniform.ensures c.in_ok-found.ensures c.loop-i.invariant

pub run_listed-overflow_add-end : goal.run_listed-overflow_add-end
run_listed-overflow_add-end g t c =
    let t = g.W.Walk.typed_of c.args.this in
    let count : length c.args.offsets.now ≡ count_of t = listed_count t c.args.offsets.now c.requires.listed c.requires.offsets in
    let begin = listed_offset t c.args.offsets.now c.loop-i.i c.bytes.result c.index-offsets-i.result c.requires.listed c.requires.offsets (c.index-offsets-i.is ∙ get_or_default c.args.offsets.now c.loop-i.i c.index-offsets-i.result 0 c.loop-i-test.true) c.bytes.ensures in
    let inside = ends_inside t (g.W.Walk.typed_of c.field-field.result) c.loop-i.i c.loop-i.end c.bytes-in-loop-i.result (g.met.W.Walk.lawful_law c.args.this c.requires.valid) (omega (arith, count, c.loop-i-test.true))
    c.field-field.ensures.field (omega (arith, c.if-bytes-end.false, begin)) (c.bytes-in-loop-i.ensures ∙ ap (λ l. l.size) c.layout-in-loop-i.ensures) in
    let size : c.bytes-size.result ≡ (layout_in t).size = c.bytes-size.ensures ∙ ap (λ l. l.size) c.layout-layout.ensures in
    let fits : c.loop-i.end + c.bytes-in-loop-i.result ≤ c.bytes-size.result = omega (arith, inside, size) in
    search rules

-- ---- fields of a union

pub run_union-loop-i-init : goal.run_union-loop-i-init
run_union-loop-i-init g t c = union_begun (g.W.Walk.typed_of c.args.this) c.args.start c.requires.union

pub run_union-loop-i-preserved-then-holds : goal.run_union-loop-i-preserved-then-holds
run_union-loop-i-preserved-then-holds g t c =
    let t = g.W.Walk.typed_of c.args.this in
    let count : c.count-i-end.result ≡ count_of t = count_is t c.layout.result.now c.count-i-end.result c.layout.ensures c.count-i-end.ensures in
    union_passed (FieldsRun t c.args.start) t c.loop-i.i (register_of c.loop-i.found) c.loop-i.end (omega (arith, count, c.loop-i-test.true))
    (bulky_is t (g.W.Walk.typed_of c.field-field.result) c.loop-i.i c.layout-in-loop-i.result.now c.holds.result _ c.field-field.ensures.field c.layout-in-loop-i.ensures c.holds.ensures c.if-holds.true) c.loop-i.invariant

pub run_union-returns-in_err-uniform : goal.run_union-returns-in_err-uniform
run_union-returns-in_err-uniform g t c =
    let t = g.W.Walk.typed_of c.args.this in
    let count : c.count-i-end.result ≡ count_of t = count_is t c.layout.result.now c.count-i-end.result c.layout.ensures c.count-i-end.ensures in
    run_refused c.from_residual.result (FieldsRun t c.args.start) c.from_residual.ensures.0
    (union_failed (FieldsRun t c.args.start) t (g.W.Walk.typed_of c.field-field.result) c.loop-i.i (register_of c.loop-i.found) c.loop-i.end (omega (arith, count, c.loop-i-test.true))
    (bulky_is t (g.W.Walk.typed_of c.field-field.result) c.loop-i.i c.layout-in-loop-i.result.now c.holds.result _ c.field-field.ensures.field c.layout-in-loop-i.ensures c.holds.ensures c.if-holds.false)
    c.field-field.ensures.field c.in_err-uniform.ensures c.loop-i.invariant)

pub run_union-returns-in_err-found : goal.run_union-returns-in_err-found
run_union-returns-in_err-found g t c =
    let t = g.W.Walk.typed_of c.args.this in
    let count : c.count-i-end.result ≡ count_of t = count_is t c.layout.result.now c.count-i-end.result c.layout.ensures c.count-i-end.ensures in
    run_refused c.from_residual-in_err-found.result (FieldsRun t c.args.start) c.from_residual-in_err-found.ensures.0
    (union_apart (FieldsRun t c.args.start) t (g.W.Walk.typed_of c.field-field.result) c.loop-i.i (register_of c.loop-i.found) c.loop-i.end (register_of c.in_ok-uniform.field-0)
    (omega (arith, count, c.loop-i-test.true))
    (bulky_is t (g.W.Walk.typed_of c.field-field.result) c.loop-i.i c.layout-in-loop-i.result.now c.holds.result _ c.field-field.ensures.field c.layout-in-loop-i.ensures c.holds.ensures c.if-holds.false)
    c.field-field.ensures.field c.in_ok-uniform.ensures c.in_err-found.ensures c.loop-i.invariant)

pub run_union-loop-i-preserved : goal.run_union-loop-i-preserved
run_union-loop-i-preserved g t c =
    let t = g.W.Walk.typed_of c.args.this in
    let u = g.W.Walk.typed_of c.field-field.result in
    let count : c.count-i-end.result ≡ count_of t = count_is t c.layout.result.now c.count-i-end.result c.layout.ensures c.count-i-end.ensures in
    rw c.max-end.ensures
    (union_next (FieldsRun t c.args.start) t u c.loop-i.i (register_of c.loop-i.found) c.loop-i.end c.bytes.result (register_of c.in_ok-uniform.field-0) (register_of c.in_ok-found.found)
    (omega (arith, count, c.loop-i-test.true))
    (bulky_is t u c.loop-i.i c.layout-in-loop-i.result.now c.holds.result _ c.field-field.ensures.field c.layout-in-loop-i.ensures c.holds.ensures c.if-holds.false)
    c.field-field.ensures.field
    (c.bytes.ensures ∙ ap (λ l. l.size) c.layout-in-loop-i-2.ensures) c.in_ok-uniform.ensures c.in_ok-found.ensures c.loop-i.invariant)

-- ---- the whole

pub uniform-returns-in-ScalarPair : goal.uniform-returns-in-ScalarPair
uniform-returns-in-ScalarPair g t c = pair_parts (g.W.Walk.typed_of c.args.this) c.layout-layout.result.now c.uniform_parts.result _ _ _ c.layout-layout.ensures c.in-ScalarPair.is c.uniform_parts.ensures

pub uniform_parts-returns-else-end-bytes : goal.uniform_parts-returns-else-end-bytes
uniform_parts-returns-else-end-bytes g t c =
    let t = g.W.Walk.typed_of c.args.this in
    ends_elsewhere t c.in_ok-found.end (register_of c.in_ok-found.found) c.in_ok-found.ensures (omega (arith, c.if-end-bytes.false, c.bytes.ensures, ap (λ l. l.size) c.layout.ensures))
