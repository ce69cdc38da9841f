-- Globs and ways, one more, and where they lead.
use Rattle.std.proofs.Common.{◌≡◌, ◌∙◌, ℕ, zero, suc, ◌+◌, ◌-◌, ◌<◌, ◌≤◌, List, [], ◌∷◌, ◌++◌, Bool, Err, Ok, Option, Result, true, false, Vec, Some, None, add-one, ap, arith, drop, drop-cons, get_or, length, map, refl, set, subst, sym, take}
use Rattle.std.proofs.lemmas.List.{map-append, map-set, take_all, take_more}
use Rattle.std.specs.Prelude.{IfOk, not, replicate, slice_get, if◌then◌else◌}
use Rattle.std.proofs.Math.Seq.{map-set_same}
use Rattle.rust_source.specs.declared.item.Items.{Items}
use Rattle.abi_rust.specs.declared.fault.Stop.{Stop}
use Rattle.abi_rust.specs.declared.scope.Scope.{Scope}
use Rattle.abi_rust.specs.declared.ways.Glob.{Glob}
use Rattle.abi_rust.specs.declared.ways.Way.{Way}
use Rattle.abi_rust.specs.Globs.{AreRounds, Leads, no_round, round, globs_added, if_all, is_in, led_from, led_to, list_at, lists_of, most_ways, none_direct, with_glob, with_next, with_target, with_way, with_ways}
use Rattle.abi_rust.specs.Scope.{all_listed, reached_from}
use Rattle.abi_rust.specs.ScopeNames.{HasSameNames}

-- one more way
pub ways_more : (items : Items) (ways : List Way) (before : Option ℕ) (more : List Glob) (i : ℕ) (d : Glob) → i < length more
    → with_ways items ways before (drop i more) ≡ with_ways items (with_way items ways before (get_or more i d)) before (drop (i + 1) more)
ways_more items ways before more i d within = rw (drop-cons more i d, add-one i) refl

-- the list of a module, and one more in it
at_is : {A S : Type 0} (all : List (Vec A S)) (i : ℕ) (v : Vec A S) → i < length all → v ≡ get_or all i v → list_at (lists_of all) i ≡ v.items
at_is [] i v within is = absurd (omega arith)
at_is (w ∷ all) zero v within is = ap (λ x. x.items) (sym is)
at_is (w ∷ all) (suc i) v within is = let less : i < length all = omega arith in at_is all i v less is

pub target_at : {S : Type 0} (all : List (Vec Glob S)) (g : Glob) (v w : Vec Glob S) → g.inside < length all → v ≡ get_or all g.inside v → w.items ≡ with_glob v.items g
    → lists_of (set all g.inside w) ≡ with_target (lists_of all) (Some g)
target_at all g v w within is one = map-set (λ x. x.items) all g.inside w ∙ ap (set (lists_of all) g.inside) (one ∙ ap (λ gs. with_glob gs g) (sym (at_is all g.inside v within is)))

-- as many lists as are kept
map_long : {A B : Type 0} (f : A → B) (xs : List A) → length (map f xs) ≡ length xs
map_long f [] = refl
map_long f (x ∷ xs) = ap suc (map_long f xs)

pub long_lists : {A S : Type 0} (all : List (Vec A S)) → length (lists_of all) ≡ length all
long_lists {A} {S} all = map_long (λ (v : Vec A S). v.items) all

-- a list that no glob was added to
glob_kept : (gs : List Glob) (g : Glob) (is_new : Bool) → is_new ≡ not (is_in gs g) → is_new ≡ false → with_glob gs g ≡ gs
glob_kept gs g is_new report none =
    elim (is_in gs g) as (λ b. is_new ≡ not b → is_new ≡ false → (if b then gs else gs ++ g ∷ []) ≡ gs) [
      | true ↦ λ report none. refl
      | false ↦ λ report none. cc
    ] report none

pub target_kept : {S : Type 0} (all : List (Vec Glob S)) (i : ℕ) (g : Glob) (v w : Vec Glob S) (is_new : Bool) → v ≡ get_or all i v → w.items ≡ with_glob v.items g
    → is_new ≡ not (is_in v.items g) → is_new ≡ false → lists_of (set all i w) ≡ lists_of all
target_kept {S} all i g v w is_new is one report none =
    map-set_same (λ (v : Vec Glob S). v.items) all i w v (one ∙ (glob_kept v.items g is_new report none ∙ ap (λ (v : Vec Glob S). v.items) is))

-- what an answer tells, if there is one
pub of_ok : {B : Type 0} (P Q R : B → Type 0) (r : Result B Stop) → ((b : B) → P b → Q b → R b) → IfOk r P → IfOk r Q → IfOk r R
of_ok P Q R (Ok b) tells p q = tells b p q
of_ok P Q R (Err stop) tells p q = p

-- one list more
pub reached_more : {A B S : Type 0} (f : List A → List B) (xs : List (Vec A S)) (made : List (Vec B S)) (i : ℕ) (x : Vec A S) (r : Vec B S) → i < length xs → x ≡ get_or xs i x → r.items ≡ f x.items
    → lists_of made ≡ map (λ (v : Vec A S). f v.items) (take i xs) → lists_of (made ++ r ∷ []) ≡ map (λ (v : Vec A S). f v.items) (take (i + 1) xs)
reached_more {A} {B} {S} f xs made i x r within is one before =
    let g : Vec A S → List B = λ v. f v.items in
    let step : map g (take (i + 1) xs) ≡ map g (take i xs) ++ g x ∷ [] = rw (take_more xs i x within, ← is, map-append g (take i xs) (x ∷ [])) refl in
    map-append (λ (v : Vec B S). v.items) made (r ∷ []) ∙ (ap (λ ls. ls ++ r.items ∷ []) before ∙ (ap (λ l. map g (take i xs) ++ l ∷ []) one ∙ sym step))

twice : {A B S : Type 0} (f : List A → List B) (xs : List (Vec A S)) → map (λ (v : Vec A S). f v.items) xs ≡ map f (lists_of xs)
twice f [] = refl
twice f (x ∷ xs) = ap (λ rest. f x.items ∷ rest) (twice f xs)

pub reached_all : {A B S : Type 0} (f : List A → List B) (xs : List (Vec A S)) (i : ℕ) → length xs ≤ i
    → map (λ (v : Vec A S). f v.items) (take i xs) ≡ map f (lists_of xs)
reached_all {A} {B} {S} f xs i done = ap (map (λ (v : Vec A S). f v.items)) (take_all i xs done) ∙ twice f xs

-- one more that is empty
none_on : {A : Type 0} (n : ℕ) → replicate n [] ++ [] ∷ [] ≡ replicate (suc n) (let none : List A = [] in none)
none_on zero = refl
none_on (suc n) = ap (λ rest. [] ∷ rest) (none_on n)

pub none_more : {A S : Type 0} (all : List (Vec A S)) (v : Vec A S) (n : ℕ) → lists_of all ≡ replicate n [] → v.items ≡ [] → lists_of (all ++ v ∷ []) ≡ replicate (n + 1) []
none_more {A} {S} all v n before none =
    map-append (λ (v : Vec A S). v.items) all (v ∷ []) ∙ (ap (λ ls. ls ++ v.items ∷ []) before ∙ (ap (λ l. replicate n [] ++ l ∷ []) none ∙ (none_on n ∙ ap (λ k. replicate k []) (sym (add-one n)))))

-- where there is none the list has ended
pub get_none : {A : Type 0} (xs : List A) (i : ℕ) → slice_get xs i ≡ None → length xs ≤ i
get_none [] i none = omega arith
get_none (x ∷ xs) zero none = cc
get_none (x ∷ xs) (suc i) none = let less : length xs ≤ i = get_none xs i none in omega arith

-- past the end of a list there is none
get_past : {A : Type 0} (xs : List A) (i : ℕ) → length xs ≤ i → slice_get xs i ≡ None
get_past [] i past = refl
get_past (x ∷ xs) zero past = absurd (omega arith)
get_past (x ∷ xs) (suc i) past = let less : length xs ≤ i = omega arith in get_past xs i less

module _ (items : Items) (direct : List (List Glob)) where
  -- one way more that is looked at
  pub led_more : (n i : ℕ) (ways : List Way) → i < n
      → led_from items direct (n - i) i ways ≡ led_from items direct (n - (i + 1)) (i + 1) (with_next items direct i ways (slice_get ways i))
  led_more n i ways more = let e : n - i ≡ suc (n - (i + 1)) = omega arith in ap (λ k. led_from items direct k i ways) e

  pub led_done : (n i : ℕ) (ways : List Way) → n ≤ i → led_from items direct (n - i) i ways ≡ ways
  led_done n i ways done = let e : n - i ≡ 0 = omega arith in ap (λ k. led_from items direct k i ways) e

  -- a list that ends leads no further
  led_past : (k i : ℕ) (ways : List Way) → length ways ≤ i → led_from items direct k i ways ≡ ways
  led_past zero i ways past = refl
  led_past (suc k) i ways past =
      let behind : length ways ≤ i + 1 = omega arith in
      rw (get_past ways i past) (led_past k (i + 1) ways behind)

  pub led_end : (k i : ℕ) (ways : List Way) → slice_get ways i ≡ None → led_from items direct k i ways ≡ ways
  led_end k i ways none = led_past k i ways (get_none ways i none)

  -- no globs lead to nothing
  led_none : led_to items direct [] ≡ []
  unfolding most_ways
  led_none = let least : 0 ≤ 0 = omega arith in ap if_all (led_past most_ways 0 [] least)

listed_at : {A B S : Type 0} (all : List (Vec B S)) (lists : List (List A)) (f : List A → List B) → f [] ≡ [] → lists_of all ≡ map f lists
    → (m : ℕ) → all_listed (slice_get all m) ≡ f (list_at lists m)
listed_at [] [] f none same m = sym none
listed_at [] (l ∷ lists) f none same m = cc
listed_at (v ∷ all) [] f none same m = cc
listed_at (v ∷ all) (l ∷ lists) f none same zero = cc
listed_at (v ∷ all) (l ∷ lists) f none same (suc m) = let rest : lists_of all ≡ map f lists = cc in listed_at all lists f none rest m

-- what is kept is where the lists lead
pub reaches : (items : Items) (direct : List (List Glob)) (scope : Scope) → lists_of scope.reached.items ≡ map (led_to items direct) direct
    → (m : ℕ) → reached_from scope m ≡ led_to items direct (list_at direct m)
unfolding reached_from
reaches items direct scope same = listed_at scope.reached.items direct (led_to items direct) (led_none items direct) same

pub leads_through : (items : Items) (direct is : List (List Glob)) (scope : Scope) → direct ≡ is → Leads items direct scope → Leads items is scope
leads_through items direct is scope same leads = subst (λ d. Leads items d scope) same leads

-- as many empty lists as there are modules
pub none_each : {A B : Type 0} (xs : List A) → replicate (length xs) [] ≡ map (λ (x : A). let none : List B = [] in none) xs
none_each [] = refl
none_each (x ∷ xs) = ap (λ rest. [] ∷ rest) (none_each xs)

-- names that stay, and stay
pub names_on : (a b c : Scope) → HasSameNames a b → HasSameNames b c → HasSameNames a c
names_on a b c ab bc = record {
  roots = record { words = bc.roots.words ∙ ab.roots.words; root = bc.roots.root ∙ ab.roots.root };
  modules = bc.modules ∙ ab.modules;
  types = bc.types ∙ ab.types;
  constants = bc.constants ∙ ab.constants;
  uses = bc.uses ∙ ab.uses;
  crates = bc.crates ∙ ab.crates;
  prelude = bc.prelude ∙ ab.prelude;
}

-- no round was made
pub begun : (items : Items) (scope : Scope) (direct : List (List Glob)) (n : ℕ) → direct ≡ replicate n [] → n ≡ length items.modules.items
    → Leads items direct scope → AreRounds items 0 direct scope
begun items scope direct n none long leads =
    let is : direct ≡ none_direct items = none ∙ (ap (λ m. replicate m []) long ∙ none_each items.modules.items) in
    subst (λ d. AreRounds items 0 d scope) (sym is) (no_round scope (leads_through items direct (none_direct items) scope is leads))

-- and one more
pub once_more : (items : Items) (rounds : ℕ) (direct next : List (List Glob)) (before after : Scope) → AreRounds items rounds direct before → HasSameNames before after
    → next ≡ globs_added items before direct → Leads items next after → AreRounds items (rounds + 1) next after
once_more items rounds direct next before after made same is leads =
    subst (λ d. AreRounds items (rounds + 1) d after) (sym is)
    (round rounds direct before after made same (leads_through items next (globs_added items before direct) after is leads))
