-- The layout has what its parts are told to be.
use Rattle.std.proofs.Common.{◌≡◌, ◌∙◌, ◌&&◌, ◌==◌, true, ap, arith, max, refl, sym, if◌then◌else◌}
use Rattle.std.specs.Prelude.{Some, None}
use Rattle.abi_scalar.specs.Niche.{niche_at}
use Rattle.abi_scalar.specs.declared.backend_repr.BackendRepr.TheVariants.{Memory}
use Rattle.abi_scalar.proofs.ReadableLemmas.{lawful_readable}
use Rattle.abi_univariant.specs.Fields.{greater_of}
use Rattle.abi_calc.specs.Enums.Niche.{if_placed, layout_in_niche, others_empty, room_beside, span_count, variants_from, view_with}
use Rattle.abi_calc.specs.Enums.Tagged.{lists_align, lists_size}
use Rattle.abi_scalar.specs.Reserve.{reserved}
use Rattle.abi_calc.proofs.EnumLemmas.Tagged.{same_parts}
use Rattle.abi_calc.proofs.enums.in_niche.layout_in_niche.Goals as goal

pub from_scalar-requires : goal.from_scalar-requires
from_scalar-requires g c = lawful_readable c.args.dl.now c.args.handed.1 c.requires.tag

-- there is no room
pub returns-in_default : goal.returns-in_default
returns-in_default g c = λ list is.
    let size : c.lists_size-size.result ≡ lists_size c.args.dl.now c.args.lists = c.lists_size-size.ensures in
    let room : c.room_beside-room.result ≡ room_beside c.args.dl.now c.args.niche c.args.lists
    = λ i. record { before = c.room_beside-room.ensures.before i; after = c.room_beside-room.ensures.after i; whole = (c.room_beside-room.ensures.whole ∙ size) i } in
    let none : variants_from (room_beside c.args.dl.now c.args.niche c.args.lists) c.args.among.untagged 0 c.args.lists ≡ None
    = ap (λ r. variants_from r c.args.among.untagged 0 c.args.lists) (sym room) ∙ sym c.in_ok-variants.ensures ∙ c.in_default.is in
    sym (ap (if_placed (g.FieldIdx.Idx.at 0) g.VariantIdx.Idx.at c.args.dl.now c.args.repr.now c.args.among.untagged c.args.among.span c.args.lists list c.args.niche) none)

pub returns : goal.returns
returns g c = λ list is.
    let dl = c.args.dl.now in
    let lists = c.args.lists in
    let align : c.lists_align-align.result ≡ lists_align dl lists = c.lists_align-align.ensures in
    let size : c.lists_size-size.result ≡ lists_size dl lists = c.lists_size-size.ensures in
    let room : c.room_beside-room.result ≡ room_beside dl c.args.niche lists
    = λ i. record { before = c.room_beside-room.ensures.before i; after = c.room_beside-room.ensures.after i; whole = (c.room_beside-room.ensures.whole ∙ size) i } in
    let some : variants_from (room_beside dl c.args.niche lists) c.args.among.untagged 0 lists ≡ Some c.in-Some.variants
    = ap (λ r. variants_from r c.args.among.untagged 0 lists) (sym room) ∙ sym c.in_ok-variants.ensures ∙ c.in-Some.is in
    let fills : c.untagged_view-fills.result.0 ≡ ((lists_size dl lists == list.size) && (lists_align dl lists == list.align.abi))
    = c.untagged_view-fills.ensures.fills list is ∙ (λ i. (size i == list.size) && (align i == list.align.abi)) in
    let view = c.untagged_view-fills.ensures.view list is in
    let made = layout_in_niche (g.FieldIdx.Idx.at 0) g.VariantIdx.Idx.at dl c.args.repr.now c.args.among.untagged c.args.among.span lists list c.args.niche (reserved dl c.args.niche (span_count c.args.among.span)) c.in-Some.variants in
    ap (λ l. Some l) (same_parts _ made
    (rw (c.one.ensures, c.one-2.ensures, c.new-first.ensures) refl)
    (rw (c.niche_encoding.ensures, c.new-first.ensures, c.requires.handed) refl)
    (c.niche_view-backend_repr.ensures ∙ (λ i. if◌then◌else◌ (fills i && others_empty c.args.among.untagged 0 c.in-Some.variants) (view_with c.args.niche.offset (c.requires.handed i).1 (view i)) (Memory true)))
    (c.from_scalar.ensures.exact ∙ ap (λ h. niche_at dl c.args.niche.offset h.1) c.requires.handed)
    (ap (λ o. o.uninhabited) c.summary-summary.ensures)
    (ap (λ a. record { abi = a }) (c.new.ensures ∙ align))
    size
    (c.max_repr_align_with-max_repr_align.ensures ∙ ap (λ o. greater_of c.args.repr.now.align o.max_repr_align) c.summary-summary.ensures)
    (c.unadjusted_align_with-unadjusted_abi_align.ensures ∙ ap (λ o. max c.args.dl.now.aggregate_align o.unadjusted_abi_align) c.summary-summary.ensures)
    c.c.ensures
    (omega (arith, c.seed_with-randomization_seed.ensures, ap (λ o. o.randomization_seed) c.summary-summary.ensures)))
    ∙ sym (ap (if_placed (g.FieldIdx.Idx.at 0) g.VariantIdx.Idx.at dl c.args.repr.now c.args.among.untagged c.args.among.span lists list c.args.niche) some)
