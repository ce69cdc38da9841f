use Rattle.std.proofs.Common.{ap, length, map, sym, ◌∙◌}
use Rattle.rustc_abi.specs.Adding.{variants_in}
use Rattle.rustc_abi.proofs.Enums.AddedEnumLemmas.{lengths_in, own_fault}
use Rattle.rustc_abi.proofs.lay_enum.add_enum.Goals as goal

pub add_faultless_enum-requires-clause-faultless : goal.add_faultless_enum-requires-clause-faultless
add_faultless_enum-requires-clause-faultless c =
    let ns = c.args.nodes.now in
    sym (c.in_ok-fault.ensures (variants_in ns c.args.children.items) (lengths_in ns c.args.children.items ∙ ap (map (λ fields. length fields.items)) (sym c.deref.ensures.value))) ∙ c.in-None.is

pub returns-in-Some-clause-err : goal.returns-in-Some-clause-err
returns-in-Some-clause-err c =
    let ns = c.args.nodes.now in
    own_fault c.args.cx.dl.now c.args.repr.now c.args.numbers.now (variants_in ns c.args.children.items) c.in-Some.fault
    (sym (c.in_ok-fault.ensures (variants_in ns c.args.children.items) (lengths_in ns c.args.children.items ∙ ap (map (λ fields. length fields.items)) (sym c.deref.ensures.value))) ∙ c.in-Some.is)
