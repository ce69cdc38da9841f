use Rattle.std.proofs.Common.{◌≡◌, ◌∙◌, ◌&&◌, true, false, refl, ap, sym, codes}
use Rattle.std.specs.Prelude.{not}
use Rattle.std.specs.Option.{option_copied}
use Rattle.std.specs.Str.{bytes_eq}
use Rattle.abi_base.specs.DataLayoutSpec.{aligned_spec, begins, has_parts, instructions, lettered_row, spec_parts_left, setting_in, setting_of}
use Rattle.abi_base.proofs.Specs.{same_reading}
use Rattle.abi_base.proofs.Rows.{row_aligned, row_big, row_instructions, row_lettered, row_little, setting_first}
use Rattle.abi_base.proofs.parse_spec.read_spec.Goals as goal

pub returns-then-alone-eq : goal.returns-then-alone-eq
unfolding setting_in
returns-then-alone-eq c =
    let l : not (has_parts (spec_parts_left 58 (option_copied c.split_at_mark.result.1))) && bytes_eq c.split_at_mark.result.0.now (codes "e") ≡ true = (cc) in
    setting_first c.args.spec.now c.split_at_mark.result.0.now (spec_parts_left 58 (option_copied c.split_at_mark.result.1)) c.split_at_mark.ensures.parts ∙ ap setting_in (row_little c.split_at_mark.result.0.now (spec_parts_left 58 (option_copied c.split_at_mark.result.1)) l)

pub returns-then-alone-eq-2 : goal.returns-then-alone-eq-2
unfolding setting_in
returns-then-alone-eq-2 c =
    let l : not (has_parts (spec_parts_left 58 (option_copied c.split_at_mark.result.1))) && bytes_eq c.split_at_mark.result.0.now (codes "e") ≡ false = (cc) in
    let b : not (has_parts (spec_parts_left 58 (option_copied c.split_at_mark.result.1))) && bytes_eq c.split_at_mark.result.0.now (codes "E") ≡ true = (cc) in
    setting_first c.args.spec.now c.split_at_mark.result.0.now (spec_parts_left 58 (option_copied c.split_at_mark.result.1)) c.split_at_mark.ensures.parts ∙ ap setting_in (row_big c.split_at_mark.result.0.now (spec_parts_left 58 (option_copied c.split_at_mark.result.1)) l b)

pub returns-then-alone-begins : goal.returns-then-alone-begins
returns-then-alone-begins c =
    let l : not (has_parts (spec_parts_left 58 (option_copied c.split_at_mark.result.1))) && bytes_eq c.split_at_mark.result.0.now (codes "e") ≡ false = (cc) in
    let b : not (has_parts (spec_parts_left 58 (option_copied c.split_at_mark.result.1))) && bytes_eq c.split_at_mark.result.0.now (codes "E") ≡ false = (cc) in
    let p : not (has_parts (spec_parts_left 58 (option_copied c.split_at_mark.result.1))) && begins 80 c.split_at_mark.result.0.now ≡ true = (cc) in
    same_reading (setting_of c.args.spec.now) (setting_in (instructions c.tail.result.now)) c.instructions.result (setting_first c.args.spec.now c.split_at_mark.result.0.now (spec_parts_left 58 (option_copied c.split_at_mark.result.1)) c.split_at_mark.ensures.parts ∙ ap setting_in (row_instructions c.split_at_mark.result.0.now (spec_parts_left 58 (option_copied c.split_at_mark.result.1)) l b p) ∙ rw c.tail.ensures refl) c.instructions.ensures

pub returns-in-Some : goal.returns-in-Some
returns-in-Some c =
    let l : not (has_parts (spec_parts_left 58 (option_copied c.split_at_mark.result.1))) && bytes_eq c.split_at_mark.result.0.now (codes "e") ≡ false = (cc) in
    let b : not (has_parts (spec_parts_left 58 (option_copied c.split_at_mark.result.1))) && bytes_eq c.split_at_mark.result.0.now (codes "E") ≡ false = (cc) in
    let p : not (has_parts (spec_parts_left 58 (option_copied c.split_at_mark.result.1))) && begins 80 c.split_at_mark.result.0.now ≡ false = (cc) in
    same_reading (setting_of c.args.spec.now) (setting_in (aligned_spec c.in-Some.named c.split_at_mark.result.0.now (spec_parts_left 58 (option_copied c.split_at_mark.result.1)))) c.aligned_spec.result (setting_first c.args.spec.now c.split_at_mark.result.0.now (spec_parts_left 58 (option_copied c.split_at_mark.result.1)) c.split_at_mark.ensures.parts ∙ ap setting_in (row_aligned c.split_at_mark.result.0.now (spec_parts_left 58 (option_copied c.split_at_mark.result.1)) c.in-Some.named l b p (sym c.in-Some.ensures))) c.aligned_spec.ensures

pub returns-in_default : goal.returns-in_default
returns-in_default c =
    let l : not (has_parts (spec_parts_left 58 (option_copied c.split_at_mark.result.1))) && bytes_eq c.split_at_mark.result.0.now (codes "e") ≡ false = (cc) in
    let b : not (has_parts (spec_parts_left 58 (option_copied c.split_at_mark.result.1))) && bytes_eq c.split_at_mark.result.0.now (codes "E") ≡ false = (cc) in
    let p : not (has_parts (spec_parts_left 58 (option_copied c.split_at_mark.result.1))) && begins 80 c.split_at_mark.result.0.now ≡ false = (cc) in
    same_reading (setting_of c.args.spec.now) (setting_in (lettered_row c.split_at_mark.result.0.now (spec_parts_left 58 (option_copied c.split_at_mark.result.1)))) c.lettered_spec.result (setting_first c.args.spec.now c.split_at_mark.result.0.now (spec_parts_left 58 (option_copied c.split_at_mark.result.1)) c.split_at_mark.ensures.parts ∙ ap setting_in (row_lettered c.split_at_mark.result.0.now (spec_parts_left 58 (option_copied c.split_at_mark.result.1)) l b p (sym c.in_default.ensures))) c.lettered_spec.ensures
