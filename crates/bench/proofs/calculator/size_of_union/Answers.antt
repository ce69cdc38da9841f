use Rattle.std.proofs.Common.{Bor, List, [], ◌∷◌, All}
use Rattle.std.proofs.lemmas.List.Elements.{All-head, All-nil}
use Rattle.abi_univariant.specs.Union.{only_of}
use Rattle.abi_index.specs.declared.idx.FieldIdx.{FieldIdx}
use Rattle.abi_index.specs.declared.idx.VariantIdx.{VariantIdx}
use Rattle.abi_scalar.specs.declared.layout_data.LayoutData.{LayoutData}
use Rattle.abi_scalar.specs.Lawful.{IsLawfulLayout}
use Rattle.bench.proofs.calculator.size_of_union.Goals as goal

-- what holds of each field of each list holds of those of the first
first_of : {H : Type 0} (P : H → Type 0) (lists : List (List H)) → All (All P) lists → All P (only_of lists)
first_of P [] all = All-nil P
first_of P (fields ∷ others) all = All-head (All P) fields others all

pub layout_of_union-requires-clause-fields : goal.layout_of_union-requires-clause-fields
layout_of_union-requires-clause-fields c =
    let P = λ (f : Bor (LayoutData FieldIdx VariantIdx)). IsLawfulLayout c.args.it.now.dl.now f.now in
    rw (c.new.ensures, c.new-variants.ensures, c.deref.ensures.value) (first_of P c.args.it.now.lists.items c.requires.fields)
