-- The layout has what its parts are told to be.
use Rattle.std.proofs.Common.{◌+◌, ◌∙◌, ap, ap₂, arith, length, map, refl}
use Rattle.std.proofs.lemmas.List.{length-map}
use Rattle.abi_index.specs.BitSet.{members_of}
use Rattle.abi_scalar.specs.declared.variants.TagEncoding.TheVariants.{Direct}
use Rattle.abi_scalar.specs.declared.variants.Variants.TheVariants.{Multiple}
use Rattle.abi_scalar.specs.Shape.{listed_order}
use Rattle.abi_calc.specs.Coroutine.Layout.{coroutine_layout}
use Rattle.abi_calc.proofs.CoroutineLemmas.States.{order_count}
use Rattle.abi_calc.proofs.EnumLemmas.Tagged.{same_parts}
use Rattle.abi_calc.proofs.coroutine.layout.layout_of_size.Goals as goal

pub shared_fields-requires-clause-within : goal.shared_fields-requires-clause-within
shared_fields-requires-clause-within g c = omega (arith, c.requires.first.offsets)

pub shared_fields-requires-clause-few : goal.shared_fields-requires-clause-few
shared_fields-requires-clause-few g c = omega (arith, c.requires.prefix)

pub shared_fields-requires-clause-order : goal.shared_fields-requires-clause-order
shared_fields-requires-clause-order g c =
    let count = order_count (c.args.prefix + 1 + length (members_of c.args.saved.promoted.now)) (map g.FieldIdx.Idx.number (listed_order c.args.first.fields)) c.requires.first.order in
    let long = length-map (listed_order c.args.first.fields) g.FieldIdx.Idx.number in
    omega (arith, count, long, c.requires.prefix, g.met.FieldIdx.Idx.small)

pub returns : goal.returns
returns g c =
    same_parts _ (coroutine_layout g.FieldIdx.Idx.at g.FieldIdx.Idx.number c.args.prefix c.args.tag c.args.saved.promoted.now (map (map g.LocalIdx.Idx.number) c.args.saved.states.now) c.args.first c.args.lists)
    c.in_ok-fields.ensures
    (ap₂ (λ f v. Multiple c.args.tag Direct f v) c.new.ensures c.in_ok-variants.ensures)
    refl
    refl
    c.is_uninhabited-uninhabited.ensures
    (ap (λ a. record { abi = a }) (c.new-2.ensures ∙ c.requires.align))
    c.requires.size
    refl
    c.requires.align
    refl
    refl
