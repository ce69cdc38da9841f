-- An item that is taken from the front of what is left of a list.
use Rattle.std.proofs.Common.{◌≡◌, ℕ, zero, ◌<◌, ◌++◌, List, [], ◌∷◌, ap, append-nil, arith, get_or, length, refl, subst, sym, ◌∙◌}
use Rattle.std.proofs.lemmas.List.{length-append}

-- it stands behind those that were taken
behind : {A : Type 0} (before rest : List A) (x : A) → x ≡ get_or (before ++ x ∷ rest) (length before) x
behind [] rest x = refl
behind (y ∷ ys) rest x = behind ys rest x

module _ {A B : Type 0} (before rest all left : List A) (x : A) (is : before ++ left ≡ all) (next : left ≡ x ∷ rest) (others : List B) (as_many : length others ≡ length before) where
  -- so it is the item at that index, of which there are as many others
  pub moved_from : x ≡ get_or all (length others) x
  moved_from = behind before rest x ∙ ap (λ xs. get_or xs (length before) x) (ap (λ xs. before ++ xs) (sym next) ∙ is) ∙ ap (λ i. get_or all i x) (sym as_many)

  -- which is within the list
  pub moved_within : length others < length all
  moved_within =
      let long = ap length (ap (λ xs. before ++ xs) (sym next) ∙ is) in
      omega (arith, long, as_many, length-append before (x ∷ rest))

-- where none is left, all were taken
pub none_moved : {A : Type 0} (before all left : List A) → before ++ left ≡ all → length left ≡ 0 → before ≡ all
none_moved before all [] is none = sym (append-nil before) ∙ is
none_moved before all (x ∷ rest) is none = absurd (omega (arith, none))
