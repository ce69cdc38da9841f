use Rattle.std.proofs.Common.{◌≡◌, ◌∙◌, ◌&&◌, true, false, refl, ap}
use Rattle.std.specs.Option.{option_copied}
use Rattle.abi_base.specs.DataLayoutSpec.{begins, has_parts, integer, lettered_row, spec_parts_left, pointer_setting, setting_in, vector}
use Rattle.abi_base.proofs.Specs.{same_reading}
use Rattle.abi_base.proofs.Rows.{row_ignored, row_integer, row_pointer, row_vector}
use Rattle.abi_base.proofs.parse_spec.lettered_spec.Goals as goal

pub returns-then-begins-has_parts : goal.returns-then-begins-has_parts
unfolding setting_in
returns-then-begins-has_parts c =
    let p : begins 112 c.args.word.now && has_parts (spec_parts_left 58 (option_copied c.args.parts)) ≡ true = (cc) in
    same_reading (setting_in (lettered_row c.args.word.now (spec_parts_left 58 (option_copied c.args.parts)))) (pointer_setting c.tail.result.now (spec_parts_left 58 (option_copied c.args.parts))) c.pointer_spec.result (ap setting_in (row_pointer c.args.word.now (spec_parts_left 58 (option_copied c.args.parts)) p) ∙ rw c.tail.ensures refl) c.pointer_spec.ensures

pub returns-then-begins : goal.returns-then-begins
returns-then-begins c =
    let p : begins 112 c.args.word.now && has_parts (spec_parts_left 58 (option_copied c.args.parts)) ≡ false = (cc) in
    let i : begins 105 c.args.word.now ≡ true = (cc) in
    same_reading (setting_in (lettered_row c.args.word.now (spec_parts_left 58 (option_copied c.args.parts)))) (setting_in (integer c.args.word.now (spec_parts_left 58 (option_copied c.args.parts)))) c.integer.result (ap setting_in (row_integer c.args.word.now (spec_parts_left 58 (option_copied c.args.parts)) p i)) c.integer.ensures

pub returns-then-begins-2 : goal.returns-then-begins-2
returns-then-begins-2 c =
    let p : begins 112 c.args.word.now && has_parts (spec_parts_left 58 (option_copied c.args.parts)) ≡ false = (cc) in
    let i : begins 105 c.args.word.now ≡ false = (cc) in
    let v : begins 118 c.args.word.now ≡ true = (cc) in
    same_reading (setting_in (lettered_row c.args.word.now (spec_parts_left 58 (option_copied c.args.parts)))) (setting_in (vector c.args.word.now (spec_parts_left 58 (option_copied c.args.parts)))) c.vector.result (ap setting_in (row_vector c.args.word.now (spec_parts_left 58 (option_copied c.args.parts)) p i v)) c.vector.ensures

pub returns-else-begins-2 : goal.returns-else-begins-2
unfolding setting_in
returns-else-begins-2 c =
    let p : begins 112 c.args.word.now && has_parts (spec_parts_left 58 (option_copied c.args.parts)) ≡ false = (cc) in
    let i : begins 105 c.args.word.now ≡ false = (cc) in
    let v : begins 118 c.args.word.now ≡ false = (cc) in
    ap setting_in (row_ignored c.args.word.now (spec_parts_left 58 (option_copied c.args.parts)) p i v)
