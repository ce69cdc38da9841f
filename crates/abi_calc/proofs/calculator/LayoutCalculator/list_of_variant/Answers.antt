-- What a list's layout is told to be.
use Rattle.abi_calc.proofs.EnumLemmas.GoodLists.{good_answer}
use Rattle.abi_calc.proofs.EnumLemmas.Lists.{fault_of}
use Rattle.abi_calc.proofs.calculator.LayoutCalculator.list_of_variant.Goals as goal

-- the slice has the list's items
pub list_of_fields-requires-clause-fields : goal.list_of_fields-requires-clause-fields
list_of_fields-requires-clause-fields g c = rw (c.data_layout.ensures, c.as_slice.ensures) c.requires.fields

pub returns-clause-good : goal.returns-clause-good
returns-clause-good g c =
    good_answer g.F.LayoutHandle.layout_of g.FieldIdx.Idx.at (g.VariantIdx.Idx.at 0) (g.Cx.HasDataLayout.target c.args.self.now.cx) c.args.repr.now c.args.kind.now c.args.fields.now
    c.list_of_fields.result c.requires.data_layout c.requires.fields c.requires.repr c.requires.prefix c.requires.sized
    (rw (c.data_layout.ensures, c.as_slice.ensures) at c.list_of_fields.ensures.exact)

pub returns-clause-fault : goal.returns-clause-fault
returns-clause-fault g c =
    fault_of g.F.LayoutHandle.layout_of g.FieldIdx.Idx.at (g.VariantIdx.Idx.at 0) (g.Cx.HasDataLayout.target c.args.self.now.cx) c.args.repr.now c.args.kind.now c.args.fields.now
    c.list_of_fields.result (rw (c.data_layout.ensures, c.as_slice.ensures) at c.list_of_fields.ensures.exact)
