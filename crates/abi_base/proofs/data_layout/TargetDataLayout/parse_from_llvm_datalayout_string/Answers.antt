use Rattle.std.proofs.Common.{◌≡◌, ◌∙◌, [], sym, rules, refl, arith}
use Rattle.std.specs.Option.{option_copied}
use Rattle.abi_base.specs.DataLayoutSpec.{spec_parts_left, setting_of}
use Rattle.abi_base.specs.DataLayoutText.{data_layout_in}
use Rattle.abi_base.proofs.Instructions.{knows_instructions}
use Rattle.abi_base.proofs.Parts.{left_next}
use Rattle.abi_base.proofs.Specs.{at_first, err_passes, first_fault, none_left, one_more}
use Rattle.abi_base.proofs.data_layout.TargetDataLayout.parse_from_llvm_datalayout_string.Goals as goal

pub loop-rest-init : goal.loop-rest-init
loop-rest-init c = record { rest = at_first c.in_ok-dl.dl c.args.default_address_space c.args.input.now c.in_ok-dl.ensures; wide = (omega arith, omega arith) }

pub returns-in_err-setting-clause-err : goal.returns-in_err-setting-clause-err
returns-in_err-setting-clause-err c =
    err_passes (setting_of c.split_at_mark.result.0.now) (data_layout_in c.args.default_address_space c.args.input.now) c.in_err-setting.field-0.0 c.from_residual-in_err-setting.result c.in_err-setting.ensures
    (λ f is. sym c.loop-rest.invariant.rest ∙ first_fault c.loop-rest.reading.dl c.loop-rest.reading.widest (spec_parts_left 45 (option_copied c.loop-rest.rest)) c.split_at_mark.result.0.now (spec_parts_left 45 (option_copied c.split_at_mark.result.1)) f (left_next 45 c.loop-rest.rest c.in-Some.text c.split_at_mark.result.0.now (spec_parts_left 45 (option_copied c.split_at_mark.result.1)) c.in-Some.is c.split_at_mark.ensures.parts) is) (search rules)

pub loop-rest-preserved : goal.loop-rest-preserved
loop-rest-preserved c = record {
  rest = one_more c.loop-rest.reading.dl c.set.new.self.dl c.loop-rest.reading.widest c.set.new.self.widest (spec_parts_left 45 (option_copied c.loop-rest.rest)) c.split_at_mark.result.0.now (spec_parts_left 45 (option_copied c.split_at_mark.result.1)) c.in_ok-setting.setting (left_next 45 c.loop-rest.rest c.in-Some.text c.split_at_mark.result.0.now (spec_parts_left 45 (option_copied c.split_at_mark.result.1)) c.in-Some.is c.split_at_mark.ensures.parts) c.in_ok-setting.ensures c.in_ok-set.ensures.one_more ∙ c.loop-rest.invariant.rest;
  wide = c.in_ok-set.ensures.wide;
}

pub returns-clause-ok : goal.returns-clause-ok
returns-clause-ok c =
    let none : (spec_parts_left 45 (option_copied c.loop-rest.rest)) ≡ [] = rw c.in_default.is refl in
    sym c.loop-rest.invariant.rest ∙ none_left c.loop-rest.reading.dl c.loop-rest.reading.widest (spec_parts_left 45 (option_copied c.loop-rest.rest)) none ∙ rw c.in_ok-dl-2.ensures refl

pub returns-clause-instructions : goal.returns-clause-instructions
returns-clause-instructions c = knows_instructions c.loop-rest.reading.dl c.in_ok-dl-2.dl c.in_ok-dl-2.ensures
