-- By what the types of a report follow one another.
use Rattle.std.specs.Prelude.{ℕ, List, Bool, get_or, slice_get}
use Rattle.std.specs.Borrow.{Bor}
use Rattle.std.specs.declared.cmp.Ordering.{Ordering}
use Rattle.std.specs.Ordering.{is_lt, nat_cmp}
use Rattle.std.specs.Option.{option_cmp}
use Rattle.std.specs.Cmp.Lexicographic.{slice_cmp}

-- the number at the first place is greater than that at the second; past the last one is 0
abbrev pub is_greater : List ℕ → ℕ → ℕ → Bool
is_greater numbers a b = is_lt (nat_cmp (get_or numbers b 0) (get_or numbers a 0))

-- how texts compare: by their bytes
abbrev pub text_cmp : Bor (List ℕ) → Bor (List ℕ) → Ordering
text_cmp a b = slice_cmp nat_cmp a.now b.now

-- the text at the first place comes before that at the second; a place past the last one before all
abbrev pub is_before : List (Bor (List ℕ)) → ℕ → ℕ → Bool
is_before texts a b = is_lt (option_cmp text_cmp (slice_get texts a) (slice_get texts b))
