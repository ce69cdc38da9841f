use Rattle.std.proofs.Common.{◌≤◌, arith, length, map, ap, ◌∙◌}
use Rattle.std.proofs.lemmas.List.{length-map}
use Rattle.std.proofs.lemmas.List.Elements.{All-weaker}
use Rattle.std.proofs.lemmas.Result.{IfErr-weaker, IfOk-weaker}
use Rattle.abi_tree.specs.Well.{all_at}
use Rattle.rustc_abi.specs.Adding.{variants_in}
use Rattle.abi_tree.specs.Placed.{layout_of}
use Rattle.abi_tree.specs.Nodes.{placed_in, types_in}
use Rattle.rustc_abi.specs.Laying.{most_fields}
use Rattle.rustc_abi.proofs.Enums.AddedEnumLemmas.{lent_lawful}
use Rattle.rustc_abi.proofs.Faults.FaultlessLemmas.{all_discriminants, few_fields, few_variants, lawful_aligns, none_equal}
use Rattle.rustc_abi.proofs.Trees.ListLemmas.{All-from_map}
use Rattle.rustc_abi.proofs.lay_enum.enum_layout.Goals as goal

pub variant_layouts-requires-clause-count : goal.variant_layouts-requires-clause-count
variant_layouts-requires-clause-count c =
    let ns = c.args.nodes.now in
    All-weaker (λ fields. length (all_at ns fields.items) ≤ most_fields) (λ fields. length fields.items ≤ most_fields)
    (λ fields few. omega (arith, few, length-map fields.items (placed_in (types_in ns)))) c.args.children.now
    (All-from_map (λ ps. length ps ≤ most_fields) (λ fields. all_at ns fields.items) c.args.children.now
    (few_fields c.args.cx.dl.now c.args.repr.now c.args.numbers.now (variants_in ns c.args.children.now) c.requires.faultless))

pub calculator_answer-requires-clause-aligns : goal.calculator_answer-requires-clause-aligns
calculator_answer-requires-clause-aligns c = lawful_aligns c.args.cx.dl.now c.args.repr.now c.args.numbers.now (variants_in c.args.nodes.now c.args.children.now) c.requires.faultless

pub calculator_answer-requires-clause-few : goal.calculator_answer-requires-clause-few
calculator_answer-requires-clause-few c =
    let variants = variants_in c.args.nodes.now c.args.children.now in
    let few = few_variants c.args.cx.dl.now c.args.repr.now c.args.numbers.now variants c.requires.faultless in
    let lent = ap (map (map (λ r. r.now))) c.deref.ensures.value ∙ c.in_ok-variants.ensures in
    omega (arith, few, ap length lent, length-map c.deref.result.now (map (λ r. r.now)), length-map variants (map layout_of))

pub calculator_answer-requires-clause-each : goal.calculator_answer-requires-clause-each
calculator_answer-requires-clause-each c =
    let variants = variants_in c.args.nodes.now c.args.children.now in
    let lent = ap (map (map (λ r. r.now))) c.deref.ensures.value ∙ c.in_ok-variants.ensures in
    omega (arith, c.requires.each, ap length lent, length-map c.deref.result.now (map (λ r. r.now)), length-map variants (map layout_of), length-map c.args.children.now (λ fields. all_at c.args.nodes.now fields.items))

pub calculator_answer-requires-clause-lawful : goal.calculator_answer-requires-clause-lawful
calculator_answer-requires-clause-lawful c =
    let lent = ap (map (map (λ r. r.now))) c.deref.ensures.value ∙ c.in_ok-variants.ensures in
    lent_lawful (λ r. r.now) c.args.cx.dl.now c.deref.result.now (variants_in c.args.nodes.now c.args.children.now) lent c.requires.lawful

pub calculator_answer-requires-clause-differ : goal.calculator_answer-requires-clause-differ
calculator_answer-requires-clause-differ c = none_equal c.args.cx.dl.now c.args.repr.now c.args.numbers.now (variants_in c.args.nodes.now c.args.children.now) c.requires.faultless

pub calculator_answer-requires-clause-narrow : goal.calculator_answer-requires-clause-narrow
calculator_answer-requires-clause-narrow c = all_discriminants c.args.cx.dl.now c.args.repr.now c.args.numbers.now (variants_in c.args.nodes.now c.args.children.now) c.requires.faultless

pub returns-clause-ok : goal.returns-clause-ok
returns-clause-ok c =
    let lent = ap (map (map (λ r. r.now))) c.deref.ensures.value ∙ c.in_ok-variants.ensures in
    IfOk-weaker c.calculator_answer.result _ _ (λ l h. h (variants_in c.args.nodes.now c.args.children.now) lent) c.calculator_answer.ensures.ok

pub returns-clause-err : goal.returns-clause-err
returns-clause-err c =
    let lent = ap (map (map (λ r. r.now))) c.deref.ensures.value ∙ c.in_ok-variants.ensures in
    IfErr-weaker c.calculator_answer.result _ _ (λ e h. h (variants_in c.args.nodes.now c.args.children.now) lent) c.calculator_answer.ensures.err
