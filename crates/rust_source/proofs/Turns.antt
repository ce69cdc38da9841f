-- A loop of so many turns, a turn before its end, and at its end.
use Rattle.std.proofs.Common.{◌≡◌, ℕ, suc, ◌+◌, ◌-◌, ◌<◌, ◌≤◌, Bool, List, [], ◌∷◌, ◌++◌, Some, Err, refl, ap, arith}
use Rattle.rust_source.specs.declared.reader.cursor.Cursor.{Cursor}
use Rattle.rust_source.specs.declared.fault.SourceFaultKind.TheVariants.{TooDeep}
use Rattle.rust_source.specs.declared.place.Place.{Place}
use Rattle.rust_source.specs.declared.reader.types.Pointing.{Pointing}
use Rattle.rust_source.specs.declared.syntax.Unary.{Unary}
use Rattle.rust_source.specs.Cursor.{fault, is_next, is_pair, next_kind, passed, place}
use Rattle.rust_source.specs.Simple.{Signs, names_from, pointing, pointing_step, pointings_from, sign_of, sign_step, signs_from}
use Rattle.rust_source.specs.Definition.{defines_type, types_from}
use Rattle.rust_source.specs.Passing.{angles_from, angles_passed, body_by, body_from, bound_by, bounds_from, one_passed, open_behind}
use Rattle.std.specs.Prelude.{◌==◌, if◌then◌else◌}

pub turns : (n i : ℕ) → i < n → n - i ≡ suc (n - (i + 1))
turns n i more = omega arith

pub none_left : (n i : ℕ) → n ≤ i → n - i ≡ 0
none_left n i done = omega arith

pub bounds_more : (n i depth : ℕ) (asked : Bool) (c : Cursor) → i < n → bounds_from (n - i) depth asked c ≡ bound_by (bounds_from (n - (i + 1))) depth asked c (next_kind c)
bounds_more n i depth asked c more = ap (λ k. bounds_from k depth asked c) (turns n i more)

pub bounds_done : (n i depth : ℕ) (asked : Bool) (c : Cursor) → n ≤ i → bounds_from (n - i) depth asked c ≡ (asked, c)
bounds_done n i depth asked c done = ap (λ k. bounds_from k depth asked c) (none_left n i done)

pub angles_more : (n i depth : ℕ) (c : Cursor) → i < n → angles_from (n - i) depth c ≡ (if open_behind c depth == 0 then one_passed c else angles_from (n - (i + 1)) (open_behind c depth) (one_passed c))
angles_more n i depth c more = ap (λ k. angles_from k depth c) (turns n i more)

pub angles_done : (n i depth : ℕ) (c : Cursor) → n ≤ i → angles_from (n - i) depth c ≡ c
angles_done n i depth c done = ap (λ k. angles_from k depth c) (none_left n i done)

pub body_more : (n i depth : ℕ) (c : Cursor) → i < n → body_from (n - i) depth c ≡ body_by (body_from (n - (i + 1))) depth c (next_kind c)
body_more n i depth c more = ap (λ k. body_from k depth c) (turns n i more)

pub body_done : (n i depth : ℕ) (c : Cursor) → n ≤ i → body_from (n - i) depth c ≡ c
body_done n i depth c done = ap (λ k. body_from k depth c) (none_left n i done)

pub types_more : (n i : ℕ) (c : Cursor) → i < n → types_from (n - i) c ≡ (if defines_type c then 1 else 0) + types_from (n - (i + 1)) (passed c 1)
types_more n i c more = ap (λ k. types_from k c) (turns n i more)

pub types_done : (n i : ℕ) (c : Cursor) → n ≤ i → types_from (n - i) c ≡ 0
types_done n i c done = ap (λ k. types_from k c) (none_left n i done)

pub pointings_more : (n i : ℕ) (all : List Pointing) (c : Cursor) → i < n → pointings_from (n - i) all c ≡ pointing_step (pointings_from (n - (i + 1))) all (pointing c)
pointings_more n i all c more = ap (λ k. pointings_from k all c) (turns n i more)

pub pointings_done : (n i : ℕ) (all : List Pointing) (c : Cursor) → n ≤ i → pointings_from (n - i) all c ≡ Err (fault c TooDeep)
pointings_done n i all c done = ap (λ k. pointings_from k all c) (none_left n i done)

pub names_more : (n i : ℕ) (c : Cursor) → i < n → names_from (n - i) c ≡ (let behind_two = passed c 2 in if is_pair c 58 58 then names_from (n - (i + 1)) (angles_passed (if is_next behind_two 60 then behind_two else passed behind_two 1)) else c)
names_more n i c more = ap (λ k. names_from k c) (turns n i more)

pub names_done : (n i : ℕ) (c : Cursor) → n ≤ i → names_from (n - i) c ≡ c
names_done n i c done = ap (λ k. names_from k c) (none_left n i done)

pub signs_more : (n i : ℕ) (all : Signs) (c : Cursor) → i < n → signs_from (n - i) all c ≡ sign_step (signs_from (n - (i + 1))) all c (sign_of (next_kind c))
signs_more n i all c more = ap (λ k. signs_from k all c) (turns n i more)

pub signs_done : (n i : ℕ) (all : Signs) (c : Cursor) → n ≤ i → signs_from (n - i) all c ≡ Err (fault c TooDeep)
signs_done n i all c done = ap (λ k. signs_from k all c) (none_left n i done)

pub signs_on : (n i : ℕ) (all : Signs) (c : Cursor) (s : Unary) (at : Place) → i < n → Some s ≡ sign_of (next_kind c) → at ≡ place c → signs_from (n - (i + 1)) (all ++ (s, at) ∷ []) (passed c 1) ≡ signs_from (n - i) all c
signs_on n i all c s at more is here = rw (signs_more n i all c more, ← is, here) refl
