use Rattle.std.proofs.Common.{rules, ◌<◌, length, arith, subst}
use Rattle.std.proofs.lemmas.Result.{on_ok_weaker}
use Rattle.abi_index.specs.RangeSet.{AreMaximalRuns}
use Rattle.abi_types.specs.Ty.Typed.{layout_in}
use Rattle.abi_types.proofs.PlacesLemmas.{adds_empty, adds_field, adds_type, adds_stacked, adds_union, adds_variant, cut_ends, cut_ends_inside, offset_of, one_ends, several_of, variant_falls, variant_fits}
use Rattle.abi_types.proofs.ty.places.+places.Goals as goal

pub put_elements-add_set-requires : goal.put_elements-add_set-requires
put_elements-add_set-requires g n c = λ k d lt.
    let t = g.W.Walk.typed_of c.args.element in
    let ends = one_ends t c.in_ok-one.one (g.met.W.Walk.lawful_law c.args.element c.requires.valid) (subst (AreMaximalRuns 0) c.one.view_is c.one.invariant) c.in_ok-one.ensures in
    omega (arith, ends k d lt, c.requires.fits)

pub put_elements-returns-then-stride-eq0 : goal.put_elements-returns-then-stride-eq0
put_elements-returns-then-stride-eq0 g n c =
    on_ok_weaker c.add_set.result
    (adds_stacked c.args.all.now c.add_set.new.self c.args.offset (g.W.Walk.typed_of c.args.element) c.in_ok-one.one c.args.stride c.args.count
    c.in_ok-one.ensures c.requires.some c.if-stride-eq0.true)
    c.add_set.ensures.bytes

pub put_elements-add_repeated-requires-clause-inside : goal.put_elements-add_repeated-requires-clause-inside
put_elements-add_repeated-requires-clause-inside g n c =
    cut_ends c.in_ok-one.one c.in_ok-below.below c.args.stride (subst (AreMaximalRuns 0) c.below.view_is c.below.invariant) c.in_ok-below.ensures.bytes

pub put_elements-add_repeated-requires-clause-fits : goal.put_elements-add_repeated-requires-clause-fits
put_elements-add_repeated-requires-clause-fits g n c = λ k d lt.
    let t = g.W.Walk.typed_of c.args.element in
    let ends = cut_ends_inside t c.in_ok-one.one c.in_ok-below.below c.args.stride (g.met.W.Walk.lawful_law c.args.element c.requires.valid)
    (subst (AreMaximalRuns 0) c.below.view_is c.below.invariant) c.in_ok-one.ensures c.in_ok-below.ensures.bytes in
    omega (arith, ends k d lt, c.requires.fits)

pub put_fields-returns-in-Union : goal.put_fields-returns-in-Union
put_fields-returns-in-Union g n c =
    on_ok_weaker c.put_listed.result
    (adds_union c.args.all.now c.put_listed.new.all c.args.offset (g.W.Walk.typed_of c.args.this) c.layout.result.now c.in-Union.count c.get.result c.layout.ensures c.in-Union.is c.get.ensures)
    c.put_listed.ensures

pub put_listed-loop-i-preserved : goal.put_listed-loop-i-preserved
put_listed-loop-i-preserved g n c =
    let t = g.W.Walk.typed_of c.args.this in
    adds_field c.args.all.now c.loop-i.all c.put_places.new.all c.args.offset t (g.W.Walk.typed_of c.field.result) c.loop-i.i c.bytes.result
    (offset_of t c.layout.result.now c.loop-i.i c.bytes.result c.offset.result c.layout.ensures c.offset.ensures c.bytes.ensures) c.field.ensures.field c.loop-i.invariant c.in_ok-put_places.ensures

pub put_places-returns-then-eq : goal.put_places-returns-then-eq
put_places-returns-then-eq g n c =
    adds_empty c.args.all.now c.args.offset (g.W.Walk.typed_of c.args.this) (g.met.W.Walk.lawful_law c.args.this c.requires.valid) (search rules)

pub put_places-returns : goal.put_places-returns
put_places-returns g n c =
    on_ok_weaker c.put_variants.result
    (λ variants. adds_type c.args.all.now c.put_fields.new.all c.put_variants.new.all c.args.offset (g.W.Walk.typed_of c.args.this) c.in_ok-put_fields.ensures variants)
    c.put_variants.ensures

pub put_variants-put_places-requires : goal.put_variants-put_places-requires
put_variants-put_places-requires g n c = λ κs short.
    let t = g.W.Walk.typed_of c.args.this in
    let law = g.met.W.Walk.lawful_law c.args.this c.requires.valid in
    let several = several_of t c.layout.result.now _ _ _ _ c.layout.ensures c.in-Multiple.is in
    let lt : c.from_usize.result < length c.in-Multiple.variants = omega (arith, c.from_usize.ensures, c.len-v-end.ensures.count, c.loop-v-test.true) in
    let less = variant_falls (layout_in t).variants _ _ _ _ _ _ c.variant.ensures.falls several in
    let fits = variant_fits t c.from_usize.result c.args.offset _ _ _ _ law several lt c.requires.fits in
    (omega (arith, c.decreases, less), (short, (c.variant.ensures.valid, rw c.variant.ensures.variant fits)))

pub put_variants-loop-v-preserved : goal.put_variants-loop-v-preserved
put_variants-loop-v-preserved g n c =
    let t = g.W.Walk.typed_of c.args.this in
    adds_variant c.args.all.now c.loop-v.all c.put_places.new.all c.args.offset t (g.W.Walk.typed_of c.variant.result) c.loop-v.v c.from_usize.result _ _ _ _
    (several_of t c.layout.result.now _ _ _ _ c.layout.ensures c.in-Multiple.is) c.variant.ensures.variant c.from_usize.ensures c.loop-v.invariant c.in_ok-put_places-in-Multiple.ensures
