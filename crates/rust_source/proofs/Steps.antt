-- One more space or comment, and one more character of a name.
use Rattle.std.proofs.Common.{◌≡◌, ℕ, ◌+◌, ◌<◌, true, false, List, length, drop, None, Some, Ok, Err, refl, sym, ap, ◌∙◌}
use Rattle.std.specs.Prelude.{◌==◌}
use Rattle.std.proofs.lemmas.List.{drop_more}
use Rattle.rust_source.specs.Blanks.{blank_from, one_blank_length}
use Rattle.rust_source.specs.Characters.{name_from, name_length, name_more, name_start}

module _ (bytes rest : List ℕ) (i at : ℕ) (short : i < length bytes) (behind : rest ≡ drop at bytes) where
  pub name_ends : (more : ℕ) → more ≡ name_more rest → (more == 0) ≡ true → name_from (drop i bytes) at bytes ≡ at
  name_ends more found none =
      let t : (name_more (drop at bytes) == 0) ≡ true = ap (λ r. name_more r == 0) (sym behind) ∙ ap (λ n. n == 0) (sym found) ∙ none in
      rw (drop_more bytes i 0 short, t) refl

  pub name_goes_on : (more : ℕ) → more ≡ name_more rest → (more == 0) ≡ false → name_from (drop i bytes) at bytes ≡ name_from (drop (i + 1) bytes) (at + more) bytes
  name_goes_on more found some =
      let e : name_more (drop at bytes) ≡ more = ap name_more (sym behind) ∙ sym found in
      rw (drop_more bytes i 0 short, e, some) refl

  pub blank_ends : (more : ℕ) → Some more ≡ one_blank_length rest → (more == 0) ≡ true → blank_from (drop i bytes) at bytes ≡ Ok at
  blank_ends more found none =
      let e : one_blank_length (drop at bytes) ≡ Some more = ap one_blank_length (sym behind) ∙ sym found in
      rw (drop_more bytes i 0 short, e, none) refl

  pub blank_open : None ≡ one_blank_length rest → blank_from (drop i bytes) at bytes ≡ Err at
  blank_open found =
      let e : one_blank_length (drop at bytes) ≡ None = ap one_blank_length (sym behind) ∙ sym found in
      rw (drop_more bytes i 0 short, e) refl

  pub blank_goes_on : (more : ℕ) → Some more ≡ one_blank_length rest → (more == 0) ≡ false → blank_from (drop i bytes) at bytes ≡ blank_from (drop (i + 1) bytes) (at + more) bytes
  blank_goes_on more found some =
      let e : one_blank_length (drop at bytes) ≡ Some more = ap one_blank_length (sym behind) ∙ sym found in
      rw (drop_more bytes i 0 short, e, some) refl

-- a name that begins is as long as it goes on
pub name_by : (bytes : List ℕ) (first length : ℕ) → first ≡ name_start bytes → (first == 0) ≡ false → length ≡ name_from bytes (name_start bytes) bytes → length ≡ name_length bytes
unfolding name_length
name_by bytes first length found some goes =
    let t : (name_start bytes == 0) ≡ false = ap (λ n. n == 0) (sym found) ∙ some in
    rw t goes
