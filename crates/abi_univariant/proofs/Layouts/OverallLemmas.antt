-- What lists have together with one more of them.
use Rattle.std.proofs.Common.{◌≡◌, ℕ, ◌+◌, ◌%◌, ◌^◌, ◌&&◌, Bool, true, false, List, [], ◌∷◌, ◌++◌, ap, ap₂, arith, map, max, refl, sym, ◌∙◌}
use Rattle.std.specs.Prelude.{None, Option, Some, sum_by}
use Rattle.std.specs.List.{list_all}
use Rattle.std.proofs.lemmas.List.Sums.{sum_by-cons}
use Rattle.abi_scalar.specs.declared.layout_data.LayoutData.{LayoutData}
use Rattle.abi_univariant.specs.declared.summary.Summary.{Summary}
use Rattle.abi_univariant.specs.Fields.{greater_of, greatest, greatest_asked}
use Rattle.abi_univariant.specs.Summary.{summary_of, with_list}

-- the greatest with a number more
greatest_more : {A : Type 0} (number : A → ℕ) (xs : List A) (x : A) → max (greatest (map number xs)) (number x) ≡ greatest (map number (xs ++ x ∷ []))
greatest_more number [] x = omega arith
greatest_more number (y ∷ ys) x = let more = greatest_more number ys x in omega (arith, more)

-- it doesn't matter which of three alignments are compared first
greater_assoc : (a b c : Option ℕ) → greater_of (greater_of a b) c ≡ greater_of a (greater_of b c)
greater_assoc None b c = refl
greater_assoc (Some a) None c = refl
greater_assoc (Some a) (Some b) None = refl
greater_assoc (Some a) (Some b) (Some c) = ap (λ n. Some n) (omega arith)

-- an alignment beside none is the greater
greater_none : (a : Option ℕ) → greater_of a None ≡ a
greater_none None = refl
greater_none (Some a) = refl

-- the greatest that is asked for with a list more
asked_more : {F V : Type 0} (xs : List (LayoutData F V)) (x : LayoutData F V) → greater_of (greatest_asked xs) x.max_repr_align ≡ greatest_asked (xs ++ x ∷ [])
asked_more [] x = sym (greater_none x.max_repr_align)
asked_more (y ∷ ys) x = greater_assoc y.max_repr_align (greatest_asked ys) x.max_repr_align ∙ ap (greater_of y.max_repr_align) (asked_more ys x)

-- the sum with a number more
sum_more : {A : Type 0} (number : A → ℕ) (xs : List A) (x : A) → sum_by number xs + number x ≡ sum_by number (xs ++ x ∷ [])
sum_more number [] x = let one = sum_by-cons number x [] in omega (arith, one)
sum_more number (y ∷ ys) x =
    let more = sum_more number ys x in
    let fewer = sum_by-cons number y ys in
    let all = sum_by-cons number y (ys ++ x ∷ []) in
    omega (arith, more, fewer, all)

-- the sum modulo 2 to the 64
seed_more : {A : Type 0} (number : A → ℕ) (xs : List A) (x : A) → (sum_by number xs % 2 ^ 64 + number x) % 2 ^ 64 ≡ sum_by number (xs ++ x ∷ []) % 2 ^ 64
seed_more number xs x = let sum = sum_more number xs x in omega (arith, sum)

-- all of a list with one more
all_more : {A : Type 0} (p : A → Bool) (xs : List A) (x : A) → (list_all p xs && p x) ≡ list_all p (xs ++ x ∷ [])
all_more p [] x = by (p x)
  where
    by : (b : Bool) → (true && b) ≡ (b && true)
    by true = refl
    by false = refl
all_more p (y ∷ ys) x = by (p y) ∙ ap (λ b. p y && b) (all_more p ys x)
  where
    by : (b : Bool) → ((b && list_all p ys) && p x) ≡ (b && (list_all p ys && p x))
    by true = refl
    by false = refl

-- what the lists have together with one more of them
pub overall_more : {F V : Type 0} (xs : List (LayoutData F V)) (x : LayoutData F V) → with_list (summary_of xs) x ≡ summary_of (xs ++ x ∷ [])
overall_more xs x =
    rw (
      greatest_more (λ l. l.size) xs x,
      greatest_more (λ l. l.align.abi) xs x,
      greatest_more (λ l. l.unadjusted_abi_align) xs x,
      asked_more xs x,
      all_more (λ l. l.uninhabited) xs x,
      seed_more (λ l. l.randomization_seed) xs x,
    ) refl
