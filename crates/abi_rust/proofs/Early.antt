-- The names of a path before its last, one more.
use Rattle.std.proofs.Common.{◌≡◌, ℕ, zero, suc, ◌+◌, ◌<◌, ◌≤◌, List, [], ◌∷◌, None, length, drop, get_or, drop-cons, add-one, refl, arith}
use Rattle.std.proofs.lemmas.List.{length-drop}
use Rattle.std.specs.Prelude.{Some, if◌then◌else◌}
use Rattle.rust_source.specs.declared.syntax.Segment.{Segment}
use Rattle.abi_rust.specs.Kinds.{is_given}
use Rattle.abi_rust.specs.Resolving.{given_early}

early_two : (s : Segment) (ss : List Segment) → 0 < length ss → given_early (s ∷ ss) ≡ (if is_given s then Some s else given_early ss)
early_two s [] more = absurd (omega (arith, more))
early_two s (t ∷ ss) more = refl

-- of one more that isn't the last
pub early_on : (all : List Segment) (i : ℕ) (s : Segment) → i + 1 < length all → s ≡ get_or all i s
    → given_early (drop i all) ≡ (if is_given s then Some s else given_early (drop (i + 1) all))
early_on all i s more is =
    let within : i < length all = omega (arith, more) in
    let left : 0 < length (drop (suc i) all) = rw (length-drop (suc i) all) (omega (arith, more)) in
    rw (drop-cons all i s, ← is, add-one i) (early_two s (drop (suc i) all) left)

-- of the last, and behind it
pub early_end : (all : List Segment) (i : ℕ) → length all ≤ i + 1 → given_early (drop i all) ≡ None
early_end [] zero done = refl
early_end [] (suc i) done = refl
early_end (s ∷ []) zero done = refl
early_end (s ∷ t ∷ all) zero done = absurd (omega (arith, done))
early_end (s ∷ all) (suc i) done = early_end all i (omega (arith, done))
