-- A turn of the loops over what may stand before `fn`, and over parameters, and what stands at their ends.
use Rattle.std.proofs.Common.{◌≡◌, ℕ, ◌+◌, ◌-◌, ◌<◌, ◌≤◌, ◌∷◌, ◌++◌, [], List, ap}
use Rattle.std.specs.Prelude.{if◌then◌else◌}
use Rattle.rust_source.specs.declared.reader.cursor.Cursor.{Cursor}
use Rattle.rust_source.specs.Cursor.{comma_passed, is_done, passed}
use Rattle.rust_source.specs.Functions.{is_qualifier, qualifiers_from, value_parameter, value_parameters_from}
use Rattle.rust_source.specs.Items.{ParameterRead}
use Rattle.rust_source.specs.Reading.{read_on}
use Rattle.rust_source.specs.Terms.{Known, done as read}
use Rattle.rust_source.proofs.Turns.{none_left, turns}

module _ (n i : ℕ) where
  pub more : (c : Cursor) → i < n → qualifiers_from (n - i) c ≡ (if is_qualifier c then qualifiers_from (n - (i + 1)) (passed c 1) else c)
  more c left = ap (λ k. qualifiers_from k c) (turns n i left)

  pub done : (c : Cursor) → n ≤ i → qualifiers_from (n - i) c ≡ c
  done c past = ap (λ k. qualifiers_from k c) (none_left n i past)

  pub parameters_more : (all : List ParameterRead) (c : Cursor) (names : Known) → i < n → value_parameters_from (n - i) all c names
      ≡ (if is_done c then read all names else read_on (λ (p : ParameterRead × Cursor) ns. read_on (λ d ms. value_parameters_from (n - (i + 1)) (all ++ p.0 ∷ []) d ms) (comma_passed p.1, ns)) (value_parameter c names))
  parameters_more all c names left = ap (λ k. value_parameters_from k all c names) (turns n i left)

  pub parameters_done : (all : List ParameterRead) (c : Cursor) (names : Known) → n ≤ i → value_parameters_from (n - i) all c names ≡ read all names
  parameters_done all c names past = ap (λ k. value_parameters_from k all c names) (none_left n i past)
