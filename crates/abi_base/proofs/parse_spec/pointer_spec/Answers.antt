use Rattle.std.proofs.Common.{◌≡◌, ◌∷◌, refl, sym}
use Rattle.std.specs.Option.{option_copied}
use Rattle.abi_base.specs.DataLayoutSpec.{spec_parts_left, pointer_setting, pointers_in}
use Rattle.abi_base.proofs.Parts.{left_next, some_parts}
use Rattle.abi_base.proofs.Specs.{pointer_first, pointer_unknown, same_reading}
use Rattle.abi_base.proofs.parse_spec.pointer_spec.Goals as goal

pub returns-in_default : goal.returns-in_default
unfolding pointer_setting
returns-in_default c =
    rw c.in_default.is refl

pub returns-then-begins_alphabetic : goal.returns-then-begins_alphabetic
returns-then-begins_alphabetic c =
    pointer_unknown c.args.rest.now c.space_text-space.result.now (spec_parts_left 58 (option_copied c.args.parts)) (rw c.in-Some.is (some_parts 58 c.in-Some.parts.now)) c.space_text-space.ensures (sym c.if-begins_alphabetic.ensures)

pub returns : goal.returns
returns c =
    let parts : spec_parts_left 58 (option_copied c.args.parts) ≡ c.split_at_mark.result.0.now ∷ spec_parts_left 58 (option_copied c.split_at_mark.result.1) = left_next 58 c.args.parts c.in-Some.parts c.split_at_mark.result.0.now (spec_parts_left 58 (option_copied c.split_at_mark.result.1)) c.in-Some.is c.split_at_mark.ensures.parts in
    same_reading (pointer_setting c.args.rest.now (spec_parts_left 58 (option_copied c.args.parts))) (pointers_in c.begins.result c.space_text-space.result.now c.split_at_mark.result.0.now (spec_parts_left 58 (option_copied c.split_at_mark.result.1))) c.pointers.result (pointer_first c.args.rest.now c.space_text-space.result.now c.split_at_mark.result.0.now (spec_parts_left 58 (option_copied c.args.parts)) (spec_parts_left 58 (option_copied c.split_at_mark.result.1)) c.begins.result parts c.space_text-space.ensures c.begins.ensures (sym c.if-begins_alphabetic.ensures)) c.pointers.ensures
