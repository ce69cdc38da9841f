-- An item at an index, items behind it, and numbers that are told to be others.
use Rattle.std.proofs.Common.{◌≡◌, ℕ, ◌+◌, ◌<◌, ◌≤◌, List, Bool, true, false, Some, drop, get_or, length, map, min, nat_lt, refl, set, sym, take, ◌∙◌, ◌++◌, ◌∷◌, [], add-one, ap, ap₂, arith, drop-cons, subst, suc}
use Rattle.std.specs.Prelude.{slice_get}
use Rattle.std.specs.List.{list_all}
use Rattle.std.proofs.lemmas.Option.{get_or_from_slice_get, slice_get_read}
use Rattle.std.proofs.lemmas.List.{append-nil, append_assoc, at_drop_more, drop-set-lt, drop_all, drop_more, get_or-map, take_all, take_more_set}
use Rattle.std.proofs.Math.Seq.{take-append_seam}
use Rattle.std.proofs.lemmas.List.Folds.{list_all_at}
use Rattle.std.proofs.lemmas.Bool.Decides.{nat_tests}

-- the test of an index says that it is within the list, or behind it
pub tested_within : (i n : ℕ) → true ≡ nat_lt i n → i < n
tested_within i n is = grind (arith, nat_tests)

pub tested_beyond : (i n : ℕ) → false ≡ nat_lt i n → n ≤ i
tested_beyond i n is = grind (arith, nat_tests)

-- what holds of two numbers holds of what they are told to be
pub still_below : (a b m n : ℕ) → a ≡ m → b ≡ n → a < b → m < n
still_below a b m n first second below = omega arith

pub still_within : (a b m n : ℕ) → a ≡ m → b ≡ n → a ≤ b → m ≤ n
still_within a b m n first second within = omega arith

pub at_most : (a b : ℕ) → a < b → a ≤ b
at_most a b below = omega arith

-- the lesser of two is within what the first is within
pub least_within : (a b r top : ℕ) → r ≡ min a b → a ≤ top → r ≤ top
least_within a b r top is within = omega arith

-- what is found is one thing
pub same_some : {A : Type 0} (x y : A) → Some x ≡ Some y → x ≡ y
same_some x y e = cc

module _ {A : Type 0} (xs : List A) (i : ℕ) (x : A) where
  -- an item that is read within the list is there
  pub item_there : i < length xs → x ≡ get_or xs i x → slice_get xs i ≡ Some x
  item_there within is = slice_get_read xs (length xs) i x refl within is

  -- so it is what is found there
  pub same_item : (y : A) → i < length xs → x ≡ get_or xs i x → slice_get xs i ≡ Some y → x ≡ y
  same_item y within is found = same_some x y (sym (item_there within is) ∙ found)

  -- an item that passes is passed over
  pub passed_on : (p : A → Bool) → i < length xs → x ≡ get_or xs i x → p x ≡ true → list_all p (drop (i + 1) xs) ≡ list_all p (drop i xs)
  passed_on p within is pass =
      sym (at_drop_more (list_all p) xs i x within ∙ rw (← is, pass) refl)

  -- where one doesn't pass, not all do
  pub not_passed : (p : A → Bool) → i < length xs → x ≡ get_or xs i x → p x ≡ false → list_all p xs ≡ false
  not_passed p within is fail = list_all_at p xs i x within (rw (← is) fail)

-- what is left of a list is the item at the index and what is left behind it
pub left_at : {A : Type 0} (xs : List A) (i : ℕ) (x : A) → i < length xs → x ≡ get_or xs i x → drop i xs ≡ x ∷ drop (i + 1) xs
left_at xs i x short is = rw add-one (drop-cons xs i x short ∙ ap (λ y. y ∷ drop (suc i) xs) (sym is))

-- what is found at an index is the item there
pub found_there : {A : Type 0} (xs : List A) (i : ℕ) (x : A) → slice_get xs i ≡ Some x → x ≡ get_or xs i x
found_there xs i x found = sym (get_or_from_slice_get xs i x x found)

-- where two lists give the same, so do their items at an index
pub same_there : {A B C : Type 0} (f : A → C) (g : B → C) (xs : List A) (ys : List B) (i : ℕ) (x : A) (y : B) → map f xs ≡ map g ys → i < length xs → i < length ys → x ≡ get_or xs i x → y ≡ get_or ys i y → f x ≡ g y
same_there f g xs ys i x y same here there first second =
    ap f first ∙ sym (get_or-map f xs i x (f x) here) ∙ ap (λ zs. get_or zs i (f x)) same ∙ get_or-map g ys i y (f x) there ∙ ap g (sym second)

-- what stands before and at an index, once one item more is replaced, and what is to replace those behind it
pub replaced : {A : Type 0} (f : A → A) (xs : List A) (i : ℕ) (d y : A) (whole : List A) → i < length xs → y ≡ f (get_or xs i d) → take i xs ++ map f (drop i xs) ≡ whole
    → take (i + 1) (set xs i y) ++ map f (drop (i + 1) (set xs i y)) ≡ whole
replaced f xs i d y whole within new before =
    ap₂ (λ done left. done ++ map f left) (take_more_set xs i y within) (drop-set-lt (i + 1) xs i y (omega arith))
    ∙ append_assoc (take i xs) (y ∷ []) (map f (drop (i + 1) xs))
    ∙ ap (λ z. take i xs ++ z ∷ map f (drop (i + 1) xs)) new
    ∙ sym (ap (λ ys. take i xs ++ map f ys) (drop_more xs i d within))
    ∙ before

-- behind the last item all are replaced
pub all_replaced : {A : Type 0} (f : A → A) (xs : List A) (i : ℕ) (whole : List A) → length xs ≤ i → take i xs ++ map f (drop i xs) ≡ whole → xs ≡ whole
all_replaced f xs i whole past all =
    sym (ap₂ (λ done left. done ++ map f left) (take_all i xs past) (drop_all i xs past) ∙ append-nil xs) ∙ all

-- a vector that its items are written back to has these items
pub written_back : {A : Type 0} (xs more : List A) (n : ℕ) → length xs ≡ n → take n (xs ++ more) ≡ xs
written_back xs more n long = subst (λ m. take m (xs ++ more) ≡ xs) long (take-append_seam xs more)

-- behind the last item there is none
pub none_left : {A : Type 0} (p : A → Bool) (xs : List A) (i : ℕ) → length xs ≤ i → list_all p (drop i xs) ≡ true
none_left p xs i past = ap (list_all p) (drop_all i xs past)
