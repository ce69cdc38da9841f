-- The discriminants that are given are those of the list, and what is answered for the tag's integer is the enum's.
use Rattle.std.proofs.Common.{◌≡◌, Bor, List, length, rules, subst, sym, ◌∙◌, IsPermutation}
use Rattle.std.proofs.lemmas.List.Sorted.{IsPermutation-refl}
use Rattle.abi_index.specs.declared.idx.FieldIdx.{FieldIdx}
use Rattle.abi_index.specs.declared.idx.VariantIdx.{VariantIdx}
use Rattle.abi_index.specs.Slice.{items_of}
use Rattle.abi_scalar.specs.declared.layout_data.LayoutData.{LayoutData}
use Rattle.abi_univariant.specs.Placement.{source_order}
use Rattle.abi_calc.specs.Enums.Answer.{HasOneEach}
use Rattle.bench.proofs.calculator.size_of_enum.Goals as goal

pub layout_of_struct_or_enum-requires-clause-fields : goal.layout_of_struct_or_enum-requires-clause-fields
layout_of_struct_or_enum-requires-clause-fields c = rw (c.new.ensures, c.new-variants.ensures, c.deref.ensures.value) c.requires.fields

pub layout_of_struct_or_enum-requires-clause-each : goal.layout_of_struct_or_enum-requires-clause-each
layout_of_struct_or_enum-requires-clause-each c p trigger from whole =
    let Fields : Type 0 = List (Bor (LayoutData FieldIdx VariantIdx)) in
    let variants : List Fields = c.args.it.now.variants.items in
    let items : p.items ≡ c.args.it.now.discriminants.items = search rules in
    let lists : items_of c.new-variants.result ≡ variants = c.new-variants.ensures ∙ c.deref.ensures.value in
    let dl : c.new.result.cx.now ≡ c.args.it.now.dl.now = search rules in
    let one : HasOneEach (λ i. i) (length variants) c.args.it.now.discriminants.items =
    subst (λ xs. IsPermutation (source_order (length variants)) xs) (sym c.requires.each) (IsPermutation-refl (source_order (length variants))) in (
      rw (lists, items) one,
      λ asked signed h.
          let same : asked ≡ c.args.it.now.tag = search rules in
          rw (dl, lists, items, same) c.requires.tag,
    )
