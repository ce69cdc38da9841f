use Rattle.std.proofs.Common.{sym, ap, ◌∙◌}
use Rattle.abi_index.specs.RangeSet.{is_in_ranges}
use Rattle.abi_tree.specs.Nodes.{types_in}
use Rattle.abi_tree.proofs.Deciding.ChosenLemmas.{kept_set, variant_set}
use Rattle.abi_tree.proofs.Deciding.CoverLemmas.{with_later, with_this}
use Rattle.abi_tree.proofs.value.decide.first_with.Goals as goal

pub set_at-requires : goal.set_at-requires
set_at-requires c =
    (kept_set c.args.cover.nodes.now c.args.cover.kept.now c.args.cover.sets.now c.requires.sets _ (c.requires.kept c.loop-i.i (0, 0) c.loop-i-test.true)).0.0

pub loop-i-preserved : goal.loop-i-preserved
loop-i-preserved c =
    let own = variant_set c.args.cover.nodes.now c.args.cover.kept.now c.args.cover.sets.now c.requires.sets c.args.variants.now c.requires.kept c.requires.listed c.loop-i.i (0, 0) c.loop-i-test.true c.args.k in
    c.loop-i.invariant
    ∙ with_later (types_in c.args.cover.nodes.now) c.args.variants.now c.args.k c.args.otherwise c.loop-i.i (0, 0) c.loop-i-test.true
    (sym own ∙ ap (λ rs. is_in_ranges rs c.args.k) (sym c.set_at.ensures) ∙ sym c.has_byte.ensures ∙ c.if-has_byte.false)

pub returns-then-has_byte : goal.returns-then-has_byte
returns-then-has_byte c =
    let own = variant_set c.args.cover.nodes.now c.args.cover.kept.now c.args.cover.sets.now c.requires.sets c.args.variants.now c.requires.kept c.requires.listed c.loop-i.i (0, 0) c.loop-i-test.true c.args.k in
    sym (c.loop-i.invariant
    ∙ with_this (types_in c.args.cover.nodes.now) c.args.variants.now c.args.k c.args.otherwise c.loop-i.i (0, 0) c.loop-i-test.true
    (sym own ∙ ap (λ rs. is_in_ranges rs c.args.k) (sym c.set_at.ensures) ∙ sym c.has_byte.ensures ∙ c.if-has_byte.true))
