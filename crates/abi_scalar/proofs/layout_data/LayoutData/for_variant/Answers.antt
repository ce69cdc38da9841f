use Rattle.std.proofs.Common.{◌≡◌, ◌<◌, ◌∙◌, Some, sym, ap, subst, length, slice_index_or, IfSome, rules}
use Rattle.std.proofs.lemmas.Option.{slice_get-get_or}
use Rattle.abi_scalar.specs.Variant.{IsOrderedVariant, variants_of}
use Rattle.abi_scalar.proofs.layout_data.LayoutData.for_variant.Goals as goal

pub returns-clause-order : goal.returns-clause-order
returns-clause-order g c h =
    let all = variants_of c.args.parent.now.variants in
    let number = g.VariantIdx.Idx.number c.args.index in
    let variant = c.index-as_raw-index.result in
    let within : number < length all = c.requires in
    let at : variant ≡ slice_index_or all number variant = search (rules, c.in-Multiple.is, c.as_slice.ensures, c.as_raw.ensures.items, c.index.ensures.place) in
    let there = slice_get-get_or all number variant within ∙ ap (λ v. Some v) (sym at) in
    let ordered = subst (λ v. IfSome v (IsOrderedVariant g.FieldIdx.Idx.number)) there h in
    rw (c.in_ok-try_clone.ensures.ok, c.in_ok-try_clone-2.ensures.ok) ordered
