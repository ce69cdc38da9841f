use Rattle.std.proofs.Common.{◌≡◌, Bool, true, false, Some, None, arith, rules, refl, sym, ap, ◌∙◌, to_z, of_z}
use Rattle.std.specs.Int.{w128}
use Rattle.std.specs.Prelude.{◌&&◌, nat_le, unwrap_or, if◌then◌else◌}
use Rattle.std.proofs.lemmas.Bool.{lt-leb, and_left, and_right}
use Rattle.std.proofs.lemmas.Int.{to_z-of_z}
use Rattle.abi_base.specs.declared.integer.Integer.{Integer}
use Rattle.abi_base.specs.declared.integer.Integer.TheVariants.{I8, I16, I32, I64, I128}
use Rattle.rustc_abi.specs.Enums.{holds_both}
use Rattle.rustc_abi.proofs.tag_integer.least_integer.Goals as goal
use Rattle.rustc_abi.proofs.tag_integer.least_integer.Goals.{else-bytes-le1-via-then-bytes-le1+else-holds_both, else-bytes-le1-via-else-bytes-le1}
use Rattle.rustc_abi.proofs.tag_integer.least_integer.Goals.{else-bytes-le2-via-then-bytes-le2+else-holds_both-2, else-bytes-le2-via-else-bytes-le2}
use Rattle.rustc_abi.proofs.tag_integer.least_integer.Goals.{else-bytes-le4-via-then-bytes-le4+else-holds_both-3, else-bytes-le4-via-else-bytes-le4}
use Rattle.rustc_abi.proofs.tag_integer.least_integer.Goals.{else-bytes-le8-via-then-bytes-le8+else-holds_both-4, else-bytes-le8-via-else-bytes-le8}

last_of : (a b c d e : Bool) → a ≡ false → b ≡ false → c ≡ false → d ≡ false →
    I128 ≡ unwrap_or (if a then Some I8 else (if b then Some I16 else (if c then Some I32 else (if d then Some I64 else (if e then Some I128 else None))))) I128
last_of true b c d e fa fb fc fd = absurd (cc)
last_of false true c d e fa fb fc fd = absurd (cc)
last_of false false true d e fa fb fc fd = absurd (cc)
last_of false false false true e fa fb fc fd = absurd (cc)
last_of false false false false true fa fb fc fd = refl
last_of false false false false false fa fb fc fd = refl

pub returns-else-bytes-le8 : goal.returns-else-bytes-le8
returns-else-bytes-le8 c =
    let bytes = c.args.bytes in
    let holds : Integer → Bool = holds_both c.args.least c.args.greatest in
    let read : c.args.least ≡ to_z w128 (of_z w128 c.args.least) = sym (to_z-of_z w128 c.args.least (search rules)) in
    let one : (nat_le bytes 1 && holds I8) ≡ false =
    elim c.else-bytes-le1.branch [
      | else-bytes-le1-via-then-bytes-le1+else-holds_both w ↦
          and_right (nat_le bytes 1) (holds I8) (ap (λ least. holds_both least c.args.greatest I8) read ∙ sym w.holds_both.ensures ∙ w.if-holds_both.false)
      | else-bytes-le1-via-else-bytes-le1 w ↦ and_left (nat_le bytes 1) (holds I8) (lt-leb bytes 1 (omega arith))
    ] in
    let two : (nat_le bytes 2 && holds I16) ≡ false =
    elim c.else-bytes-le2.branch [
      | else-bytes-le2-via-then-bytes-le2+else-holds_both-2 w ↦
          and_right (nat_le bytes 2) (holds I16) (ap (λ least. holds_both least c.args.greatest I16) read ∙ sym w.holds_both-then-bytes-le2.ensures ∙ w.if-holds_both-2.false)
      | else-bytes-le2-via-else-bytes-le2 w ↦ and_left (nat_le bytes 2) (holds I16) (lt-leb bytes 2 (omega arith))
    ] in
    let four : (nat_le bytes 4 && holds I32) ≡ false =
    elim c.else-bytes-le4.branch [
      | else-bytes-le4-via-then-bytes-le4+else-holds_both-3 w ↦
          and_right (nat_le bytes 4) (holds I32) (ap (λ least. holds_both least c.args.greatest I32) read ∙ sym w.holds_both-then-bytes-le4.ensures ∙ w.if-holds_both-3.false)
      | else-bytes-le4-via-else-bytes-le4 w ↦ and_left (nat_le bytes 4) (holds I32) (lt-leb bytes 4 (omega arith))
    ] in
    let eight : (nat_le bytes 8 && holds I64) ≡ false =
    elim c.else-bytes-le8.branch [
      | else-bytes-le8-via-then-bytes-le8+else-holds_both-4 w ↦
          and_right (nat_le bytes 8) (holds I64) (ap (λ least. holds_both least c.args.greatest I64) read ∙ sym w.holds_both-then-bytes-le8.ensures ∙ w.if-holds_both-4.false)
      | else-bytes-le8-via-else-bytes-le8 w ↦ and_left (nat_le bytes 8) (holds I64) (lt-leb bytes 8 (omega arith))
    ] in
    last_of (nat_le bytes 1 && holds I8) (nat_le bytes 2 && holds I16) (nat_le bytes 4 && holds I32) (nat_le bytes 8 && holds I64) (nat_le bytes 16 && holds I128)
    one two four eight
