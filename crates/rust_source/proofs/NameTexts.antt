-- The numbers of names.
use Rattle.std.proofs.Common.{◌≡◌, ℕ, zero, suc, ◌<◌, ◌^◌, Bool, true, false, List, [], ◌∷◌, ◌++◌, length, map, get_or, slice_get, position, Option, None, Some, refl, sym, ap, ◌∙◌, arith, if◌then◌else◌}
use Rattle.std.specs.Prelude.{◌||◌, nat_lt, is_some, String, string_bytes}
use Rattle.std.specs.List.{list_any, position_or_len}
use Rattle.std.specs.Str.{bytes_eq}
use Rattle.std.proofs.lemmas.Bool.Decides.{nat_tests}
use Rattle.std.proofs.lemmas.Slice.Eq.{bytes_eq-Decides}
use Rattle.std.proofs.lemmas.List.{get_or-map, map-append}
use Rattle.std.proofs.lemmas.List.Quantifiers.{position-Some}
use Rattle.rust_source.specs.Growth.{BeginsWith}
use Rattle.rust_source.specs.Names.{added, symbol_found, is_known, number_of_name}
use Rattle.rust_source.specs.declared.place.Symbol.{Symbol}
use Rattle.rust_source.proofs.Growth.{begins_same, begins_pushed}

-- a name that is found by its text has it
pub found_text : {Z : Type 0} (text : List ℕ) (ks : List (String Z)) (i : ℕ) → position (λ k. bytes_eq text (string_bytes k)) ks ≡ Some i → get_or (map string_bytes ks) i [] ≡ text
found_text text [] i h = cc
found_text text (k ∷ ks) i h =
    let at = position-Some (λ s. bytes_eq text (string_bytes s)) (k ∷ ks) i k h in
    get_or-map string_bytes (k ∷ ks) i k [] at.0 ∙ sym ((bytes_eq-Decides text (string_bytes (get_or (k ∷ ks) i k))).0 at.1)

-- a name that stands at its number has its text
pub stored_text : {Z : Type 0} (text : List ℕ) (ks : List (String Z)) (i : ℕ) (k : String Z) → slice_get ks i ≡ Some k → bytes_eq text (string_bytes k) ≡ true → get_or (map string_bytes ks) i [] ≡ text
stored_text text [] i k at same = cc
stored_text text (x ∷ xs) zero k at same =
    let e : x ≡ k = cc in
    ap string_bytes e ∙ sym ((bytes_eq-Decides text (string_bytes k)).0 same)
stored_text text (x ∷ xs) (suc i) k at same = stored_text text xs i k at same

-- names stay where they are when one is put behind them
pub kept_in_front : {A : Type 0} (known : Bool) (ks : List A) (k : A) → BeginsWith (if known then ks else ks ++ k ∷ []) ks
kept_in_front true ks k = begins_same ks
kept_in_front false ks k = begins_pushed ks k

-- the program's test on a name's text
abbrev pub has_text : {Z : Type 0} → (text : List ℕ) → String Z → Bool
has_text text k = bytes_eq text (string_bytes k)

-- the number of a name, and whether it is known, by the program's names
pub same_number : {Z : Type 0} (text : List ℕ) (ks : List (String Z)) → position_or_len (has_text text) ks ≡ number_of_name (map string_bytes ks) text
same_number text [] = refl
same_number text (k ∷ ks) =
    let P : Bool → Type 0 = λ v. bytes_eq text (string_bytes k) ≡ v → position_or_len (has_text text) (k ∷ ks) ≡ number_of_name (map string_bytes (k ∷ ks)) text in
    (elim (bytes_eq text (string_bytes k)) as P [
      | true ↦ λ e. rw e refl
      | false ↦ λ e. let ih = same_number text ks in rw e (omega (arith, ih))
    ]) refl

pub same_known : {Z : Type 0} (text : List ℕ) (ks : List (String Z)) → list_any (has_text text) ks ≡ is_known (map string_bytes ks) text
same_known text [] = refl
same_known text (k ∷ ks) = ap (λ b. bytes_eq text (string_bytes k) || b) (same_known text ks)

-- a number that is found, where it is small enough
abbrev pub small : Option ℕ → Option Symbol
small None = None
small (Some n) = if nat_lt n (2 ^ 32) then Some (record { 0 = n }) else None

-- the name that is found is that of the definition
pub found_is : {Z : Type 0} (text : List ℕ) (ks : List (String Z)) (o : Option ℕ) → o ≡ position (has_text text) ks → is_some o ≡ list_any (has_text text) ks → small o ≡ symbol_found (map string_bytes ks) text
found_is text ks None at some =
    let no : is_known (map string_bytes ks) text ≡ false = sym (some ∙ same_known text ks) in
    rw no refl
found_is text ks (Some n) at some =
    let is : is_known (map string_bytes ks) text ≡ true = sym (some ∙ same_known text ks) in
    let P : Bool → Type 0 = λ v. Some n ≡ (if v then Some (position_or_len (has_text text) ks) else None) → n ≡ number_of_name (map string_bytes ks) text in
    let number : n ≡ number_of_name (map string_bytes ks) text =
    (elim (nat_lt (position_or_len (has_text text) ks) (length ks)) as P [
      | true ↦ λ e. let same : n ≡ position_or_len (has_text text) ks = cc in same ∙ same_number text ks
      | false ↦ λ e. cc
    ]) at in
    rw (is, ← number) refl

-- the number that a name gets, and the names with it
pub number_is : {Z : Type 0} (text : List ℕ) (ks : List (String Z)) (value : String Z) (n : ℕ) → n ≡ position_or_len (has_text (string_bytes value)) ks → string_bytes value ≡ text → n ≡ number_of_name (map string_bytes ks) text
number_is text ks value n at is = at ∙ same_number (string_bytes value) ks ∙ ap (number_of_name (map string_bytes ks)) is

pub names_are : {Z : Type 0} (text : List ℕ) (ks : List (String Z)) (value : String Z) → string_bytes value ≡ text → map string_bytes (if list_any (has_text (string_bytes value)) ks then ks else ks ++ value ∷ []) ≡ added (map string_bytes ks) text
names_are text ks value is =
    let known = same_known (string_bytes value) ks in
    let P : Bool → Type 0 = λ v. map string_bytes (if v then ks else ks ++ value ∷ []) ≡ (if v then map string_bytes ks else map string_bytes ks ++ string_bytes value ∷ []) in
    (elim (list_any (has_text (string_bytes value)) ks) as P [ true ↦ refl | false ↦ map-append string_bytes ks (value ∷ []) ])
    ∙ ap (λ b. if b then map string_bytes ks else map string_bytes ks ++ string_bytes value ∷ []) known
    ∙ ap (added (map string_bytes ks)) is

pub small_fits : (n m : ℕ) → n < 2 ^ 32 → m ≡ n → Some (record { 0 = m }) ≡ small (Some n)
small_fits n m few same =
    let t : nat_lt n (2 ^ 32) ≡ true = grind (arith, nat_tests) in
    rw (t, same) refl

pub small_none : (n : ℕ) → ¬ (n < 2 ^ 32) → None ≡ small (Some n)
small_none n many =
    let P : Bool → Type 0 = λ v. nat_lt n (2 ^ 32) ≡ v → None ≡ small (Some n) in
    (elim (nat_lt n (2 ^ 32)) as P [
      | true ↦ λ e. let few : n < 2 ^ 32 = grind (arith, nat_tests) in absurd (many few)
      | false ↦ λ e. rw e refl
    ]) refl
