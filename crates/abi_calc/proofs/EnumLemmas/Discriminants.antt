-- The discriminants that count, and the numbers that a tag has to hold.
use Rattle.std.proofs.Common.{◌≡◌, ℕ, zero, suc, ◌+◌, ◌<◌, ◌≤◌, List, [], ◌∷◌, length, map, get_or, take, inl, inr, refl, sym, ap, subst, ◌∙◌, arith, rules, cond, false, Bool, true, ◌++◌}
use Rattle.std.specs.Prelude.{◌*◌, ◌%◌, ◌^◌, ◌⊎◌, Option, ℤ, pos, ◌≤ℤ◌, All, Contains, filter, fold}
use Rattle.std.specs.Int.{int_max, int_min}
use Rattle.std.proofs.lemmas.Int.{fold-int_max_bounds, fold-int_max_reached, fold-int_min_bounds, fold-int_min_reached}
use Rattle.std.specs.Iterator.Runs.{ItemsAre, Run}
use Rattle.std.proofs.lemmas.Option.{same_Some}
use Rattle.std.proofs.lemmas.Nat.{mod_below, pow_pos}
use Rattle.std.proofs.lemmas.List.{append-nil, map-append, take_all}
use Rattle.std.proofs.lemmas.List.Folds.{fold-map}
use Rattle.std.proofs.lemmas.List.Sums.{fold_more}
use Rattle.std.proofs.lemmas.List.Elements.{Contains-append_right, filter_more}
use Rattle.abi_base.specs.declared.data_layout.TargetDataLayout.{TargetDataLayout}
use Rattle.abi_base.specs.IntegerType.{is_signed_type}
use Rattle.abi_base.specs.Size.{signed_value}
use Rattle.abi_scalar.specs.declared.repr.ReprOptions.{ReprOptions}
use Rattle.abi_scalar.specs.Range.{numbers_of}
use Rattle.abi_scalar.specs.Repr.{discr_type_of}
use Rattle.abi_calc.specs.Enums.Discriminants.{IsAskedWith, IsGreatestOf, IsLeastOf, discr_bits, meant_by}

-- what is the first or one of the others is one of all
first_or : {A : Type 0} (x y : A) (xs : List A) → (y ≡ x) ⊎ Contains xs y → Contains (x ∷ xs) y
first_or x y xs (inl same) = (0, omega arith, sym same)
first_or x y xs (inr there) = Contains-append_right (x ∷ []) xs y there

-- what holds of the first and of the others holds of all
first_and : {A : Type 0} (P : A → Type 0) (x : A) (xs : List A) → P x → All P xs → All P (x ∷ xs)
first_and P x xs p all zero d short = p
first_and P x xs p all (suc k) d short = all k d (omega arith)

-- the running minimum is the least of the numbers
pub least_reached : (a r : ℤ) (xs : List ℤ) → r ≡ fold int_min a xs → IsLeastOf (a ∷ xs) r
least_reached a r xs e =
    let bounds = fold-int_min_bounds a xs r e in
    (first_or a r xs (fold-int_min_reached a xs r e), first_and (λ n. r ≤ℤ n) a xs bounds.0 bounds.1)

-- the running maximum is the greatest of the numbers
pub greatest_reached : (a r : ℤ) (xs : List ℤ) → r ≡ fold int_max a xs → IsGreatestOf (a ∷ xs) r
greatest_reached a r xs e =
    let bounds = fold-int_max_bounds a xs r e in
    (first_or a r xs (fold-int_max_reached a xs r e), first_and (λ n. n ≤ℤ r) a xs bounds.0 bounds.1)

-- a running fold, with one number more
pub fold_map_more : (f : ℤ → ℤ → ℤ) (m : ℕ → ℤ) (a old : ℤ) (xs : List ℕ) (i : ℕ) → i < length xs → old ≡ fold f a (map m (take i xs))
    → f old (m (get_or xs i 0)) ≡ fold f a (map m (take (i + 1) xs))
fold_map_more f m a old xs i short before =
    let g : ℤ → ℕ → ℤ = λ b v. f b (m v) in
    ap (λ b. f b (m (get_or xs i 0))) (before ∙ fold-map f m a (take i xs)) ∙ sym (fold_more g a xs i 0 short) ∙ sym (fold-map f m a (take (i + 1) xs))

-- at the end, the running fold is that of all numbers
pub fold_map_all : (f : ℤ → ℤ → ℤ) (m : ℕ → ℤ) (a last : ℤ) (xs : List ℕ) (i : ℕ) → length xs ≤ i → last ≡ fold f a (map m (take i xs)) → last ≡ fold f a (map m xs)
fold_map_all f m a last xs i past before = before ∙ ap (λ ys. fold f a (map m ys)) (take_all i xs past)

-- the greatest of 0 and other numbers isn't negative
pub not_negative : (r : ℤ) (xs : List ℤ) → r ≡ fold int_max (pos 0) xs → pos 0 ≤ℤ r
not_negative r xs e = (fold-int_max_bounds (pos 0) xs r e).0

-- ---- discriminants without a sign

-- each stands for itself
meant_plain : (dl : TargetDataLayout) (repr : ReprOptions) (value : ℕ) → is_signed_type (discr_type_of repr) ≡ false → meant_by dl repr value ≡ pos value
meant_plain dl repr value plain = ap (λ b. cond b (signed_value (discr_bits dl repr) (value % 2 ^ discr_bits dl repr)) (pos value)) plain

-- so each of a list does
all_plain : (dl : TargetDataLayout) (repr : ReprOptions) (values : List ℕ) → is_signed_type (discr_type_of repr) ≡ false → map pos values ≡ map (meant_by dl repr) values
all_plain dl repr [] plain = refl
all_plain dl repr (v ∷ values) plain = let first = meant_plain dl repr v plain in let more = all_plain dl repr values plain in cc

-- none is less than 0
none_less : (values : List ℕ) → All (λ n. pos 0 ≤ℤ n) (map pos values)
none_less [] k d short = absurd (omega arith)
none_less (v ∷ values) zero d short = search rules
none_less (v ∷ values) (suc k) d short = none_less values k d (omega arith)

-- so 0 is the least, and the greatest is that of 0 and the discriminants
pub asked_plain : (dl : TargetDataLayout) (repr : ReprOptions) (values : List ℕ) (greatest : ℕ) → is_signed_type (discr_type_of repr) ≡ false
    → IsGreatestOf (pos 0 ∷ map pos values) (pos greatest) → IsAskedWith dl repr values (pos 0) greatest
asked_plain dl repr values greatest plain most =
    let least : IsLeastOf (pos 0 ∷ map pos values) (pos 0) =
    ((0, omega arith, refl), first_and (λ n. pos 0 ≤ℤ n) (pos 0) (map pos values) (search rules) (none_less values)) in
    subst (λ (numbers : List ℤ). IsLeastOf (pos 0 ∷ numbers) (pos 0) × IsGreatestOf (pos 0 ∷ numbers) (pos greatest)) (all_plain dl repr values plain) (least, most)

-- ---- discriminants with a sign

-- each stands for the number that its low bits do
all_signed : (dl : TargetDataLayout) (repr : ReprOptions) (values : List ℕ) → is_signed_type (discr_type_of repr) ≡ true
    → map (λ v. signed_value (discr_bits dl repr) (v % 2 ^ discr_bits dl repr)) values ≡ map (meant_by dl repr) values
all_signed dl repr [] sign = refl
all_signed dl repr (v ∷ values) sign =
    let first : signed_value (discr_bits dl repr) (v % 2 ^ discr_bits dl repr) ≡ meant_by dl repr v =
    ap (λ b. cond b (signed_value (discr_bits dl repr) (v % 2 ^ discr_bits dl repr)) (pos v)) (sym sign) in
    let more = all_signed dl repr values sign in
    cc

-- so the least and the greatest of 0 and those numbers are what is asked
pub asked_signed : (dl : TargetDataLayout) (repr : ReprOptions) (values : List ℕ) (bits : ℕ) (least : ℤ) (greatest : ℕ) → is_signed_type (discr_type_of repr) ≡ true
    → bits ≡ discr_bits dl repr → IsLeastOf (pos 0 ∷ map (λ v. signed_value bits (v % 2 ^ bits)) values) least
    → IsGreatestOf (pos 0 ∷ map (λ v. signed_value bits (v % 2 ^ bits)) values) (pos greatest) → IsAskedWith dl repr values least greatest
asked_signed dl repr values bits least greatest sign same low high =
    let numbers : map (λ v. signed_value bits (v % 2 ^ bits)) values ≡ map (meant_by dl repr) values =
    ap (λ (n : ℕ). map (λ v. signed_value n (v % 2 ^ n)) values) same ∙ all_signed dl repr values sign in
    subst (λ (ns : List ℤ). IsLeastOf (pos 0 ∷ ns) least × IsGreatestOf (pos 0 ∷ ns) (pos greatest)) numbers (low, high)

-- ---- the discriminants that count

-- one more item, kept where it passes the test
kept_more : {A B : Type 0} (p : A → Bool) (f : A → B) (items : List A) (i : ℕ) (item : A) → i < length items → item ≡ get_or items i item
    → map f (filter p (take (i + 1) items)) ≡ map f (filter p (take i items)) ++ map f (cond (p item) (item ∷ []) [])
kept_more p f items i item short is =
    ap (map f) (filter_more p items i item short ∙ ap (λ x. filter p (take i items) ++ cond (p x) (x ∷ []) []) (sym is))
    ∙ map-append f (filter p (take i items)) (cond (p item) (item ∷ []) [])

-- an item that passes the test is added to those before
pub kept : {A B : Type 0} (p : A → Bool) (f : A → B) (items : List A) (i : ℕ) (item : A) (test : Bool) (old more new : List B) → old ≡ map f (filter p (take i items)) → i < length items
    → item ≡ get_or items i item → test ≡ p item → test ≡ true → new ≡ more → more ≡ old ++ f item ∷ [] → new ≡ map f (filter p (take (i + 1) items))
kept p f items i item test old more new before short is tag_distinguishes passes same pushed =
    same ∙ pushed ∙ ap (λ xs. xs ++ f item ∷ []) before ∙ ap (λ b. map f (filter p (take i items)) ++ map f (cond b (item ∷ []) [])) (sym passes ∙ tag_distinguishes)
    ∙ sym (kept_more p f items i item short is)

-- an item that fails the test adds nothing
pub left_out : {A B : Type 0} (p : A → Bool) (f : A → B) (items : List A) (i : ℕ) (item : A) (test : Bool) (old new : List B) → old ≡ map f (filter p (take i items)) → i < length items
    → item ≡ get_or items i item → test ≡ p item → test ≡ false → new ≡ old → new ≡ map f (filter p (take (i + 1) items))
left_out p f items i item test old new before short is tag_distinguishes fails same =
    same ∙ before ∙ sym (append-nil (map f (filter p (take i items))))
    ∙ ap (λ b. map f (filter p (take i items)) ++ map f (cond b (item ∷ []) [])) (sym fails ∙ tag_distinguishes)
    ∙ sym (kept_more p f items i item short is)

-- ---- the range of the tag

-- each number that is cut to so many bytes is one of them
pub cut_within : (width : ℕ) (values : List ℕ) → All (λ v. v < numbers_of width) (map (λ v. v % numbers_of width) values)
cut_within width [] k d short = absurd (omega arith)
cut_within width (v ∷ values) zero d short = mod_below v (numbers_of width) (pow_pos (8 * width))
cut_within width (v ∷ values) (suc k) d short = cut_within width values k d (omega arith)

-- what holds of each item of a list holds of those that a run over it gave
pub run_within : {S : Type 0} {steps : S → Option ℕ → S → Type 0} (p : Run steps) (P : ℕ → Type 0) (xs : List ℕ) → All P xs → ItemsAre p xs → All P p.items
run_within p P xs all are k d short =
    let within : k < p.len = omega (arith, p.long) in
    subst P (same_Some _ _ (sym (are.2 k d within) ∙ p.reads k d within)) (all k d (omega (arith, are.0)))
