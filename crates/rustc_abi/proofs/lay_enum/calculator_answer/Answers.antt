-- The discriminants that are given are those of the list, and what is answered for the tag's integer is the enum's.
use Rattle.std.proofs.Common.{◌≡◌, ℕ, Bool, List, Ok, Err, arith, length, map, sym, ap, subst, ◌∙◌, rules, true}
use Rattle.std.specs.Prelude.{ℤ}
use Rattle.abi_base.specs.declared.data_layout.TargetDataLayout.{TargetDataLayout}
use Rattle.abi_base.specs.declared.integer.Integer.{Integer}
use Rattle.abi_index.specs.Slice.{items_of}
use Rattle.abi_scalar.specs.declared.repr.ReprOptions.{ReprOptions}
use Rattle.abi_scalar.specs.declared.variants.RangeFrom.{RangeFrom}
use Rattle.abi_scalar.specs.declared.variants.RangeToInclusive.{RangeToInclusive}
use Rattle.abi_calc.specs.Enums.Answer.{HasOneEach}
use Rattle.abi_calc.specs.Enums.Discriminants.{IsAskedWith, counted_discriminants, inhabited_of}
use Rattle.abi_calc.specs.Enums.EnumStrategy.{strategy_of}
use Rattle.abi_calc.specs.Enums.Several.{AreWellFormedTags, IsAskedFor, IsLawfulTag}
use Rattle.abi_scalar.specs.Layout.{Layout}
use Rattle.rustc_abi.specs.Enums.{IsTagIntegerAnswer, numbered_from}
use Rattle.rustc_abi.proofs.Enums.AddedEnumLemmas.{asked_otherwise, enumed_err, enumed_ok}
use Rattle.rustc_abi.proofs.Trees.ListLemmas.{passed_on}
use Rattle.rustc_abi.proofs.Enums.TagIntegerLemmas.{lawful_tags, one_each}
use Rattle.rustc_abi.proofs.lay_enum.calculator_answer.Goals as goal

pub layout_of_struct_or_enum-answer-requires-clause-fields : goal.layout_of_struct_or_enum-answer-requires-clause-fields
layout_of_struct_or_enum-answer-requires-clause-fields g c = rw (c.new.ensures, c.new-2.ensures) c.requires.lawful

pub layout_of_struct_or_enum-answer-requires-clause-each : goal.layout_of_struct_or_enum-answer-requires-clause-each
layout_of_struct_or_enum-answer-requires-clause-each g c p trigger from whole =
    let dl : TargetDataLayout = c.args.cx.dl.now in
    let repr : ReprOptions = c.args.repr.now in
    let numbers : List ℕ = c.args.numbers.now in
    let hs = items_of c.new-2.result in
    let layouts : List (List Layout) = map (map (λ r. r.now)) hs in
    let count : length numbers ≡ length hs = omega (arith, c.requires.each, ap length c.new-2.ensures) in
    let items : p.items ≡ numbered_from 0 numbers = search rules in
    let one : HasOneEach (λ i. i) (length hs) p.items = subst (HasOneEach (λ i. i) (length hs)) (sym items) (one_each numbers (length hs) count) in
    let tag : (asked : Integer) (signed : Bool) → IsAskedFor dl repr (IsTagIntegerAnswer dl repr) (counted_discriminants (λ i. i) repr layouts p.items) asked signed → IsLawfulTag dl repr (inhabited_of (λ i. i) layouts p.items) asked =
    subst (AreWellFormedTags (λ i. i) dl repr (IsTagIntegerAnswer dl repr) layouts) (sym items) (lawful_tags dl c.requires.data_layout repr numbers layouts c.requires.differ c.requires.narrow) in
    let same : c.new.result.cx.now ≡ dl = search rules in (
      one,
      λ asked signed h.
          let ends : IsAskedWith dl repr (counted_discriminants (λ i. i) repr layouts p.items) h.0 h.1 = subst (λ d. IsAskedWith d repr (counted_discriminants (λ i. i) repr layouts p.items) h.0 h.1) same h.2 in
          subst (λ d. IsLawfulTag d repr (inhabited_of (λ i. i) layouts p.items) asked) (sym same)
          (tag asked signed (h.0, h.1, ends, c.requires.asked (record { start = h.0 }) (record { last = h.1 }) (asked, signed) h.3)),
    )

pub returns-in_err-answer-clause-err : goal.returns-in_err-answer-clause-err
returns-in_err-answer-clause-err g c =
    let dl : TargetDataLayout = c.args.cx.dl.now in
    let repr : ReprOptions = c.args.repr.now in
    let hs = items_of c.new-2.result in
    let asks : RangeFrom ℤ → RangeToInclusive ℕ → Integer × Bool → Type 0 = λ least greatest answer. g.D.Fn.post c.args.discr_range_of_repr (least, (greatest, tt)) answer in
    let exact = rw c.new.ensures at c.in_err-answer.ensures.exact in
    let otherwise = asked_otherwise (λ r. r.now) dl repr hs asks _ (strategy_of true repr (map (map (λ r. r.now)) hs)) (Err c.in_err-answer.field-0.0) exact in
    let own = otherwise (IsTagIntegerAnswer dl repr) (λ items. items ≡ numbered_from 0 c.args.numbers.now)
    (λ items given. let all : items ≡ numbered_from 0 c.args.numbers.now = search rules in all)
    (λ least greatest answer h. c.requires.asked (record { start = least }) (record { last = greatest }) answer h) in
    passed_on _ _ _ c.from_residual-in_err-answer.ensures.1
    (λ all same. enumed_err (λ r. r.now) dl repr c.args.numbers.now hs all (ap (map (map (λ r. r.now))) c.new-2.ensures ∙ same) c.in_err-answer.field-0.0 own)

pub returns-clause-ok : goal.returns-clause-ok
returns-clause-ok g c all same =
    let dl : TargetDataLayout = c.args.cx.dl.now in
    let repr : ReprOptions = c.args.repr.now in
    let hs = items_of c.new-2.result in
    let asks : RangeFrom ℤ → RangeToInclusive ℕ → Integer × Bool → Type 0 = λ least greatest answer. g.D.Fn.post c.args.discr_range_of_repr (least, (greatest, tt)) answer in
    let exact = rw c.new.ensures at c.in_ok-answer.ensures.exact in
    let otherwise = asked_otherwise (λ r. r.now) dl repr hs asks _ (strategy_of true repr (map (map (λ r. r.now)) hs)) (Ok c.in_ok-answer.field-0) exact in
    let own = otherwise (IsTagIntegerAnswer dl repr) (λ items. items ≡ numbered_from 0 c.args.numbers.now)
    (λ items given. let all : items ≡ numbered_from 0 c.args.numbers.now = search rules in all)
    (λ least greatest answer h. c.requires.asked (record { start = least }) (record { last = greatest }) answer h) in
    enumed_ok (λ r. r.now) dl repr c.args.numbers.now hs all (ap (map (map (λ r. r.now))) c.new-2.ensures ∙ same) c.in_ok-answer.field-0 own
