-- Features that are on, while those that they turn on are looked for.
use Rattle.std.proofs.Common.{◌≡◌, ◌∙◌, ◌≤◌, ◌<◌, ◌+◌, ◌++◌, ◌||◌, ◌↔◌, ℕ, zero, suc, Bool, true, false, List, [], ◌∷◌, ap, arith, drop, get_or, inl, inr, length, map, None, refl, rules, Some, subst, sym, take, ◌⊎◌, length-append, append_assoc, not, append-nil}
use Rattle.std.proofs.lemmas.Bool.{cases_Bool, false≢true, or_cases}
use Rattle.std.proofs.lemmas.List.{take-append-le, take_all, take_more}
use Rattle.std.proofs.lemmas.Slice.Eq.{bytes_eq-Decides}
use Rattle.std.specs.Borrow.{Bor}
use Rattle.std.specs.Prelude.{bytes_eq, if◌then◌else◌}
use Rattle.cargo_manifest.specs.Enabled.{IsEnabled, is_asked, is_turned_on, IsIn, Link, followed, other_links, put_feature}
use Rattle.cargo_manifest.specs.Features.{first_other}
use Rattle.cargo_manifest.specs.Switches.{TurnsOn, dependency, dependency_feature, feature, weak_feature}
use Rattle.cargo_manifest.specs.Values.{Text, is_one_of, texts}

none_is : (t : Text) → None ≡ Some t → ⊥
none_is t h = absurd (search (rules, h))

some_is : (s t : Text) → Some s ≡ Some t → s ≡ t
some_is s t h = search (rules, h)

-- ---- lists

pub in_front : {A : Type 0} (xs ys : List A) (x : A) → IsIn xs x → IsIn (xs ++ ys) x
in_front [] ys x h = absurd h
in_front (y ∷ xs) ys x (inl same) = inl same
in_front (y ∷ xs) ys x (inr more) = inr (in_front xs ys x more)

pub in_back : {A : Type 0} (xs ys : List A) (x : A) → IsIn ys x → IsIn (xs ++ ys) x
in_back [] ys x h = h
in_back (y ∷ xs) ys x h = inr (in_back xs ys x h)

pub in_either : {A : Type 0} (xs ys : List A) (x : A) → IsIn (xs ++ ys) x → IsIn xs x ⊎ IsIn ys x
in_either [] ys x h = inr h
in_either (y ∷ xs) ys x (inl same) = inl (inl same)
in_either (y ∷ xs) ys x (inr more) = elim (in_either xs ys x more) [ inl a ↦ inl (inr a) | inr b ↦ inr b ]

or_true : (b : Bool) → (b || true) ≡ true
or_true true = refl
or_true false = refl

pair_is : {A B : Type 0} (p : A × B) (a : A) (b : B) → p.0 ≡ a → p.1 ≡ b → p ≡ (a, b)
pair_is p a b one two = rw (← one, ← two) refl

-- the test is true of what is one of them
pub one_of_in : (all : List Text) (t : Text) → is_one_of all t ≡ true → IsIn all t
one_of_in [] t h = absurd (false≢true h)
one_of_in (one ∷ all) t h = elim (or_cases (bytes_eq one t) (is_one_of all t) h) [
  | inl same ↦ inl ((bytes_eq-Decides one t).0 same)
  | inr more ↦ inr (one_of_in all t more)
]

pub in_one_of : (all : List Text) (t : Text) → IsIn all t → is_one_of all t ≡ true
in_one_of [] t h = absurd h
in_one_of (one ∷ all) t (inl same) = rw ((bytes_eq-Decides one t).1 same)
in_one_of (one ∷ all) t (inr more) = rw (in_one_of all t more) (or_true (bytes_eq one t))

-- ---- a feature that is put behind the others

pub put_keeps : (on : List Text) (to : TurnsOn) → (more : List Text) × (put_feature on to ≡ on ++ more)
put_keeps on (feature name) = elim (cases_Bool (is_one_of on name)) [
  | inl is ↦ ([], rw is (sym (append-nil on)))
  | inr isnt ↦ (name ∷ [], rw isnt refl)
]
put_keeps on (dependency name) = ([], sym (append-nil on))
put_keeps on (dependency_feature name of) = ([], sym (append-nil on))
put_keeps on (weak_feature name of) = ([], sym (append-nil on))

put_has : (on : List Text) (name : Text) → IsIn (put_feature on (feature name)) name
put_has on name = elim (cases_Bool (is_one_of on name)) [
  | inl is ↦ rw is (one_of_in on name is)
  | inr isnt ↦ rw isnt (in_back on (name ∷ []) name (inl refl))
]

put_from : (on : List Text) (to : TurnsOn) (x : Text) → IsIn (put_feature on to) x → IsIn on x ⊎ (to ≡ feature x)
put_from on (feature name) x h = elim (cases_Bool (is_one_of on name)) [
  | inl is ↦ inl (rw is at h)
  | inr isnt ↦ elim (in_either on (name ∷ []) x (rw isnt at h)) [ inl a ↦ inl a | inr (inl same) ↦ inr (ap feature same) | inr (inr none) ↦ absurd none ]
]
put_from on (dependency name) x h = inl h
put_from on (dependency_feature name of) x h = inl h
put_from on (weak_feature name of) x h = inl h

put_length : (on : List Text) (to : TurnsOn) → length (put_feature on to) ≤ length on + 1
put_length on (feature name) = elim (cases_Bool (is_one_of on name)) [
  | inl is ↦ rw is (omega arith)
  | inr isnt ↦ rw (isnt, length-append on (name ∷ [])) (omega arith)
]
put_length on (dependency name) = omega arith
put_length on (dependency_feature name of) = omega arith
put_length on (weak_feature name of) = omega arith

-- ---- what a feature turns on

abbrev step : Text → Link → List Text → List Text
step name l on = if bytes_eq l.0 name then put_feature on l.1 else on

step_keeps : (name : Text) (l : Link) (on : List Text) → (more : List Text) × (step name l on ≡ on ++ more)
step_keeps name l on = elim (cases_Bool (bytes_eq l.0 name)) [
  | inl is ↦ rw is (put_keeps on l.1)
  | inr isnt ↦ ([], rw isnt (sym (append-nil on)))
]

step_from : (name : Text) (l : Link) (ls : List Link) (on : List Text) (x : Text) → IsIn (step name l on) x → IsIn on x ⊎ IsIn (l ∷ ls) (name, feature x)
step_from name l ls on x h = elim (cases_Bool (bytes_eq l.0 name)) [
  | inl is ↦ elim (put_from on l.1 x (rw is at h)) [ inl a ↦ inl a | inr to ↦ inr (inl (pair_is l name (feature x) ((bytes_eq-Decides l.0 name).0 is) to)) ]
  | inr isnt ↦ inl (rw isnt at h)
]

-- what was on stays in front
pub followed_keeps : (name : Text) (ls : List Link) (on : List Text) → (more : List Text) × (followed name ls on ≡ on ++ more)
followed_keeps name [] on = ([], sym (append-nil on))
followed_keeps name (l ∷ ls) on =
    let (first, one) = step_keeps name l on in
    let (rest, all) = followed_keeps name ls (step name l on) in
    (first ++ rest, all ∙ ap (λ xs. xs ++ rest) one ∙ append_assoc on first rest)

pub followed_has : (name : Text) (ls : List Link) (on : List Text) (x : Text) → IsIn on x → IsIn (followed name ls on) x
followed_has name ls on x h = let (more, all) = followed_keeps name ls on in subst (λ xs. IsIn xs x) (sym all) (in_front on more x h)

-- what it turns on is on
pub followed_reaches : (name : Text) (ls : List Link) (on : List Text) (x : Text) → IsIn ls (name, feature x) → IsIn (followed name ls on) x
followed_reaches name [] on x h = absurd h
followed_reaches name (l ∷ ls) on x (inl same) =
    let is : bytes_eq l.0 name ≡ true = (bytes_eq-Decides l.0 name).1 (ap (λ p. p.0) same) in
    let to : l.1 ≡ feature x = ap (λ p. p.1) same in
    followed_has name ls (step name l on) x (rw (is, to) (put_has on x))
followed_reaches name (l ∷ ls) on x (inr more) = followed_reaches name ls (step name l on) x more

-- what is on was so before, or the feature turns it on
pub followed_from : (name : Text) (ls : List Link) (on : List Text) (x : Text) → IsIn (followed name ls on) x → IsIn on x ⊎ IsIn ls (name, feature x)
followed_from name [] on x h = inl h
followed_from name (l ∷ ls) on x h = elim (followed_from name ls (step name l on) x h) [
  | inl here ↦ step_from name l ls on x here
  | inr more ↦ inr (inr more)
]

-- the links of other features
pub others_sub : (name : Text) (ls : List Link) (l : Link) → IsIn (other_links name ls) l → IsIn ls l
others_sub name [] l h = absurd h
others_sub name (m ∷ ls) l h = elim (cases_Bool (bytes_eq m.0 name)) [
  | inl is ↦ inr (others_sub name ls l (rw is at h))
  | inr isnt ↦ elim (in_either (m ∷ []) (other_links name ls) l (rw isnt at h)) [ inl (inl same) ↦ inl same | inl (inr none) ↦ absurd none | inr more ↦ inr (others_sub name ls l more) ]
]

pub others_or : (name : Text) (ls : List Link) (l : Link) → IsIn ls l → IsIn (other_links name ls) l ⊎ (l.0 ≡ name)
others_or name [] l h = absurd h
others_or name (m ∷ ls) l (inl same) = elim (cases_Bool (bytes_eq m.0 name)) [
  | inl is ↦ inr (ap (λ p. p.0) (sym same) ∙ (bytes_eq-Decides m.0 name).0 is)
  | inr isnt ↦ inl (rw isnt (inl same))
]
others_or name (m ∷ ls) l (inr more) = elim (others_or name ls l more) [
  | inr is ↦ inr is
  | inl stays ↦ elim (cases_Bool (bytes_eq m.0 name)) [ inl is ↦ inl (rw is stays) | inr isnt ↦ inl (rw isnt (inr stays)) ]
]

pub followed_length : (name : Text) (ls : List Link) (on : List Text) → length (followed name ls on) + length (other_links name ls) ≤ length on + length ls
followed_length name [] on = omega arith
followed_length name (l ∷ ls) on = elim (cases_Bool (bytes_eq l.0 name)) [
  | inl is ↦ rw is (omega (arith, followed_length name ls (put_feature on l.1), put_length on l.1))
  | inr isnt ↦ rw isnt (omega (arith, followed_length name ls on))
]

-- ---- the search

-- so many of the features that are on were followed, the links that are left are those of others
pub record IsFollowed (links : List Link) (asked on : List Text) (left : List Link) (at : ℕ) : Type 0 where
  pub sound : (x : Text) → IsIn on x → IsEnabled links asked x
  pub asked_for : (x : Text) → IsIn asked x → IsIn on x
  pub sub : (l : Link) → IsIn left l → IsIn links l
  pub closed : (by x : Text) → IsIn links (by, feature x) → IsIn (take at on) by → IsIn on x
  pub met : (by x : Text) → IsIn links (by, feature x) → IsIn left (by, feature x) ⊎ IsIn on x
  pub bound : length on + length left ≤ length asked + length links
  pub within : at ≤ length on

pub followed_init : (links : List Link) (asked : List Text) → IsFollowed links asked asked links 0
followed_init links asked = record {
  sound = λ x h. is_asked x h;
  asked_for = λ x h. h;
  sub = λ l h. h;
  closed = λ by x h none. absurd none;
  met = λ by x h. inl h;
  bound = omega arith;
  within = omega arith;
}

in_at : (on : List Text) (at : ℕ) (d : Text) → at < length on → IsIn on (get_or on at d)
in_at [] at d h = absurd (omega arith)
in_at (x ∷ on) zero d h = inl refl
in_at (x ∷ on) (suc at) d h = inr (in_at on at d (omega arith))

reached : (links : List Link) (asked on : List Text) (left : List Link) (at : ℕ) (name x : Text) → IsFollowed links asked on left at → IsIn links (name, feature x) → IsIn (followed name left on) x
reached links asked on left at name x far h = elim (far.met name x h) [ inl link ↦ followed_reaches name left on x link | inr before ↦ followed_has name left on x before ]

complete : (links : List Link) (asked on : List Text) (left : List Link) (at : ℕ) → length on ≤ at → IsFollowed links asked on left at
    → (name : Text) → IsEnabled links asked name → IsIn on name
complete links asked on left at short far name (is_asked _ h) = far.asked_for name h
complete links asked on left at short far name (is_turned_on by _ on_by link) =
    far.closed by name link (subst (λ xs. IsIn xs by) (sym (take_all at on short)) (complete links asked on left at short far by on_by))

-- a feature more was followed
pub followed_more : (links : List Link) (asked on : List Text) (left : List Link) (at : ℕ) (name : Text) → at < length on → name ≡ get_or on at name
    → IsFollowed links asked on left at → IsFollowed links asked (followed name left on) (other_links name left) (at + 1)
followed_more links asked on left at name short is far =
    let (more, all) = followed_keeps name left on in
    let front : take (at + 1) (followed name left on) ≡ take at on ++ name ∷ [] =
    ap (take (at + 1)) all ∙ take-append-le (at + 1) on more (omega arith) ∙ take_more on at name short ∙ ap (λ y. take at on ++ y ∷ []) (sym is) in
    let here : IsIn on name = subst (λ y. IsIn on y) (sym is) (in_at on at name short) in
    let reaches : (x : Text) → IsIn links (name, feature x) → IsIn (followed name left on) x = λ x h. reached links asked on left at name x far h in
    record {
      sound = λ x h. elim (followed_from name left on x h) [ inl before ↦ far.sound x before | inr link ↦ is_turned_on name x (far.sound name here) (far.sub (name, feature x) link) ];
      asked_for = λ x h. followed_has name left on x (far.asked_for x h);
      sub = λ l h. far.sub l (others_sub name left l h);
      closed = λ by x h in_front_of. elim (in_either (take at on) (name ∷ []) by (subst (λ xs. IsIn xs by) front in_front_of)) [
        | inl before ↦ followed_has name left on x (far.closed by x h before)
        | inr (inl same) ↦ reaches x (subst (λ y. IsIn links (y, feature x)) (sym same) h)
        | inr (inr none) ↦ absurd none
      ];
      met = λ by x h. elim (far.met by x h) [
        | inl stays ↦ elim (others_or name left (by, feature x) stays) [ inl a ↦ inl a | inr same ↦ inr (reaches x (subst (λ y. IsIn links (y, feature x)) same h)) ]
        | inr before ↦ inr (followed_has name left on x before)
      ];
      bound = omega (arith, followed_length name left on, far.bound);
      within = rw (all, length-append on more) (omega arith);
    }

-- all were followed
pub all_followed : (links : List Link) (asked on : List Text) (left : List Link) (at : ℕ) → length on ≤ at → IsFollowed links asked on left at
    → (name : Text) → IsIn on name ↔ IsEnabled links asked name
all_followed links asked on left at short far name = (far.sound name, complete links asked on left at short far name)

-- the same of texts that are lent
text_at : (on : List (Bor Text)) (at : ℕ) (e : Bor Text) → at < length on → e ≡ get_or on at e → e.now ≡ get_or (texts on) at e.now
text_at [] at e short is = absurd (omega arith)
text_at (x ∷ on) zero e short is = ap (λ b. b.now) is
text_at (x ∷ on) (suc at) e short is = text_at on at e (omega arith) is

pub texts_length : (on : List (Bor Text)) → length (texts on) ≡ length on
texts_length [] = refl
texts_length (x ∷ on) = ap suc (texts_length on)

pub followed_next : (links : List Link) (asked : List Text) (on : List (Bor Text)) (left : List Link) (at : ℕ) (e : Bor Text) → at < length on → e ≡ get_or on at e
    → IsFollowed links asked (texts on) left at → IsFollowed links asked (followed e.now left (texts on)) (other_links e.now left) (at + 1)
followed_next links asked on left at e short is far =
    followed_more links asked (texts on) left at e.now (rw (texts_length on) short) (text_at on at e short is) far

-- the first text that isn't among others
pub first_other_is : (some others : List Text) (t : Text) → first_other some others ≡ Some t → IsIn some t × (IsIn others t → ⊥)
first_other_is [] others t h = absurd (none_is t h)
first_other_is (s ∷ some) others t h = elim (cases_Bool (is_one_of others s)) [
  | inl is ↦ let (more, isnt) = first_other_is some others t (rw is at h) in (inr more, isnt)
  | inr isnt ↦ let same : s ≡ t = some_is s t (rw isnt at h) in (inl same, λ among. false≢true (sym isnt ∙ in_one_of others s (subst (IsIn others) (sym same) among)))
]

pub first_other_none : (some others : List Text) → first_other some others ≡ None → (t : Text) → IsIn some t → IsIn others t
first_other_none [] others h t none = absurd none
first_other_none (s ∷ some) others h t among = elim (cases_Bool (is_one_of others s)) [
  | inl is ↦ elim among [ inl same ↦ subst (IsIn others) same (one_of_in others s is) | inr more ↦ first_other_none some others (rw is at h) t more ]
  | inr isnt ↦ absurd (none_is s (sym (rw isnt at h)))
]
