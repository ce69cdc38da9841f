-- A turn of the loops over parameters, and what stands at their ends.
use Rattle.std.proofs.Common.{◌≡◌, ◌∙◌, ℕ, ◌+◌, ◌-◌, ◌<◌, ◌≤◌, ◌^◌, List, ap, false, refl, true}
use Rattle.std.specs.Prelude.{if◌then◌else◌, min}
use Rattle.rust_source.specs.declared.fault.SourceFaultKind.TheVariants.{ExpectedAngle}
use Rattle.rust_source.specs.declared.reader.cursor.Cursor.{Cursor}
use Rattle.rust_source.specs.declared.tokens.token.Bracket.TheVariants as bracket
use Rattle.rust_source.specs.Cursor.{group_passed, inside, is_lifetime, is_next, next_kind, passed}
use Rattle.rust_source.specs.Passing.{bounds}
use Rattle.rust_source.specs.Lifetimes.{comma_behind, hashes_from, hashes_passed, lifetimes_from}
use Rattle.rust_source.specs.Generics.{parameter_more, parameters_from, where_from, where_on, where_one}
use Rattle.rust_source.specs.Items.{ParameterRead}
use Rattle.rust_source.specs.Reading.{read_on}
use Rattle.rust_source.specs.Terms.{Known, arguments_on, done, fault_next}
use Rattle.rust_source.proofs.Turns.{none_left, turns}

module _ (n i : ℕ) where
  pub hashes_more : (c : Cursor) → i < n → hashes_from (n - i) c ≡ (if is_next c 35 then hashes_from (n - (i + 1)) (group_passed (passed c 1) (inside (passed c 1) bracket.Square)) else c)
  hashes_more c more = ap (λ k. hashes_from k c) (turns n i more)

  pub lifetimes_more : (count : ℕ) (c : Cursor) → i < n → is_lifetime (next_kind (hashes_passed c)) ≡ true
      → lifetimes_from (n - i) count c ≡ lifetimes_from (n - (i + 1)) (min (count + 1) (2 ^ 32 - 1)) (comma_behind (bounds (hashes_passed c)).1)
  lifetimes_more count c more is = ap (λ k. lifetimes_from k count c) (turns n i more) ∙ rw is refl

  pub lifetimes_end : (count : ℕ) (c : Cursor) → i < n → is_lifetime (next_kind (hashes_passed c)) ≡ false → lifetimes_from (n - i) count c ≡ count
  lifetimes_end count c more is = ap (λ k. lifetimes_from k count c) (turns n i more) ∙ rw is refl

  pub lifetimes_done : (count : ℕ) (c : Cursor) → n ≤ i → lifetimes_from (n - i) count c ≡ count
  lifetimes_done count c past = ap (λ k. lifetimes_from k count c) (none_left n i past)

  pub hashes_done : (c : Cursor) → n ≤ i → hashes_from (n - i) c ≡ c
  hashes_done c past = ap (λ k. hashes_from k c) (none_left n i past)

  pub another : (all : List ParameterRead) (c : Cursor) (names : Known) → i < n → parameters_from (n - i) all c names ≡ (if is_next c 62 then done (all, passed c 1) names else read_on (λ (p : List ParameterRead × Cursor) ns. arguments_on (parameters_from (n - (i + 1))) p.0 p.1 ns) (parameter_more all c names))
  another all c names more = ap (λ k. parameters_from k all c names) (turns n i more)

  pub none_more : (all : List ParameterRead) (c : Cursor) (names : Known) → n ≤ i → parameters_from (n - i) all c names ≡ fault_next ExpectedAngle c names
  none_more all c names past = ap (λ k. parameters_from k all c names) (none_left n i past)

  pub where_more : (all : List ParameterRead) (c : Cursor) (names : Known) → i < n → where_from (n - i) all c names ≡ read_on (λ (p : List ParameterRead × Cursor) ns. where_on (where_from (n - (i + 1))) p.0 p.1 ns) (where_one all c names)
  where_more all c names more = ap (λ k. where_from k all c names) (turns n i more)

  pub where_done : (all : List ParameterRead) (c : Cursor) (names : Known) → n ≤ i → where_from (n - i) all c names ≡ done (all, c) names
  where_done all c names past = ap (λ k. where_from k all c names) (none_left n i past)
