-- Names that starts get.
use Rattle.std.proofs.Common.{◌≡◌, ℕ, ◌+◌, ◌<◌, ◌≤◌, List, [], ◌∷◌, ◌++◌, Bool, true, false, Vec, Ok, Err, append_assoc, append-nil, arith, get_or, inl, inr, length, map, refl, set, sym, ap, ◌∙◌, take}
use Rattle.std.specs.Prelude.{◌&&◌, ◌||◌, nat_le, nat_lt, if◌then◌else◌}
use Rattle.std.specs.List.{filter, flat_map}
use Rattle.std.specs.List.Sorted.{IsBinarySearchResult}
use Rattle.std.specs.Ordering.{nat_cmp}
use Rattle.std.specs.declared.alloc.Global.{Global}
use Rattle.std.specs.Cmp.Derive.{both_true}
use Rattle.std.proofs.lemmas.Bool.{cases_lt, le-leb, le-ltb, lt-leb, lt-ltb}
use Rattle.std.proofs.lemmas.Grind.{flat_map-append}
use Rattle.std.proofs.lemmas.List.{get_or-set_same, get_or-set_other, map-set, take_more, length-map, map-append, length-set, get_or-map}
use Rattle.std.proofs.lemmas.List.Elements.{filter-append}
use Rattle.std.proofs.lemmas.List.Sorted.{searched}
use Rattle.std.proofs.Math.Bool.{and-false, or-false}
use Rattle.abi_index.specs.RangeSet.{AreMaximalRuns, is_in_ranges, is_in_run}
use Rattle.abi_index.proofs.UncutLemmas.{none_below}
use Rattle.abi_tree.specs.declared.parts.PartName.{PartName}
use Rattle.abi_tree.specs.declared.parts.PartBytes.{PartBytes}
use Rattle.abi_map.specs.Covering.{AreAscending, PutsNames, name_at, name_of, names_of}
use Rattle.abi_map.specs.Map.{names_at}
use Rattle.abi_tree.specs.Parts.{Part, kept_part}

-- ---- places among numbers that ascend

rises : (starts : List ℕ) → AreAscending starts → (i j : ℕ) → i ≤ j → j < length starts → get_or starts i 0 ≤ get_or starts j 0
rises starts asc i j le lt =
    elim (cases_lt i j) [
      | inl before ↦ omega (arith, asc i j before lt)
      | inr after ↦ let same : i ≡ j = omega (arith, after) in let e : get_or starts i 0 ≡ get_or starts j 0 = ap (λ n. get_or starts n 0) same in omega (arith, e)
    ]

pub found_before : (starts : List ℕ) (bound place : ℕ) → IsBinarySearchResult (λ y. nat_cmp y bound) starts (Ok place) → AreAscending starts → (s : ℕ) → s < place → s < length starts → get_or starts s 0 < bound
found_before starts bound place h asc s lt within =
    let at = searched starts bound (Ok place) h (rises starts asc) in
    omega (arith, at.1, asc s place lt at.0)

pub found_behind : (starts : List ℕ) (bound place : ℕ) → IsBinarySearchResult (λ y. nat_cmp y bound) starts (Ok place) → AreAscending starts → (s : ℕ) → place ≤ s → s < length starts → bound ≤ get_or starts s 0
found_behind starts bound place h asc s le within =
    let at = searched starts bound (Ok place) h (rises starts asc) in
    omega (arith, at.1, rises starts asc place s le within)

pub free_before : (starts : List ℕ) (bound place : ℕ) → IsBinarySearchResult (λ y. nat_cmp y bound) starts (Err place) → AreAscending starts → (s : ℕ) → s < place → s < length starts → get_or starts s 0 < bound
free_before starts bound place h asc s lt within = (searched starts bound (Err place) h (rises starts asc)).1 s lt

pub free_behind : (starts : List ℕ) (bound place : ℕ) → IsBinarySearchResult (λ y. nat_cmp y bound) starts (Err place) → AreAscending starts → (s : ℕ) → place ≤ s → s < length starts → bound ≤ get_or starts s 0
free_behind starts bound place h asc s le within = omega (arith, (searched starts bound (Err place) h (rises starts asc)).2 s le within)

-- ---- one run

-- whether a run has a byte
in_run : (k : ℕ) (run : ℕ × ℕ) → run.0 ≤ k → k < run.0 + run.1 → is_in_run k run ≡ true
in_run k run le lt = both_true (le-leb run.0 k le) (lt-ltb k (run.0 + run.1) lt)

before_run : (k : ℕ) (run : ℕ × ℕ) → k < run.0 → is_in_run k run ≡ false
before_run k run lt = ap (λ b. b && nat_lt k (run.0 + run.1)) (lt-leb run.0 k lt)

behind_run : (k : ℕ) (run : ℕ × ℕ) → run.0 + run.1 ≤ k → is_in_run k run ≡ false
behind_run k run le = ap (λ b. nat_le run.0 k && b) (le-ltb k (run.0 + run.1) le) ∙ and-false (nat_le run.0 k)

-- Of the starts from one on up to another each has got the name; the others are as they were.
pub record IsPutting (name : PartName) (first s : ℕ) (old new : List (Vec PartName Global)) : Type 0 where
  pub long : length new ≡ length old
  pub before : (j : ℕ) → j < first → names_of new j ≡ names_of old j
  pub put : (j : ℕ) → first ≤ j → j < s → names_of new j ≡ names_of old j ++ name ∷ []
  pub behind : (j : ℕ) → s ≤ j → names_of new j ≡ names_of old j

pub putting_none : (name : PartName) (first : ℕ) (all : List (Vec PartName Global)) → IsPutting name first first all all
putting_none name first all = record {
  long = refl;
  before = λ j lt. refl;
  put = λ j le lt. absurd (omega (arith, le, lt));
  behind = λ j le. refl;
}

pub putting_more : (name : PartName) (first s m : ℕ) (old now new : List (Vec PartName Global)) (v : Vec PartName Global) → first ≤ s → m ≡ s + 1 → s < length now → IsPutting name first s old now → new ≡ set now s v →
    v.items ≡ names_of now s ++ name ∷ [] → IsPutting name first m old new
putting_more name first s m old now new v le more lt inv is pushed =
    let lists : map (λ (w : Vec PartName Global). w.items) new ≡ set (map (λ (w : Vec PartName Global). w.items) now) s v.items = ap (map (λ (w : Vec PartName Global). w.items)) is ∙ map-set (λ (w : Vec PartName Global). w.items) now s v in
    let here : names_of new s ≡ v.items = ap (λ ls. get_or ls s []) lists ∙ get_or-set_same (map (λ (w : Vec PartName Global). w.items) now) s v.items [] (omega (arith, lt, length-map now (λ (w : Vec PartName Global). w.items))) in
    let other = λ (j : ℕ) (ne : j ≡ s → ⊥). ap (λ ls. get_or ls j []) lists ∙ get_or-set_other (map (λ (w : Vec PartName Global). w.items) now) s j v.items [] ne in
    record {
      long = ap length is ∙ length-set now s v ∙ inv.long;
      before = λ j below. other j (λ e. omega (arith, e, below, le)) ∙ inv.before j below;
      put = λ j from below. elim (cases_lt j s) [
        | inl earlier ↦ other j (λ e. omega (arith, e, earlier)) ∙ inv.put j from earlier
        | inr not_earlier ↦
            let same : j ≡ s = omega (arith, below, more, not_earlier) in
            ap (names_of new) same ∙ here ∙ pushed ∙ ap (λ ns. ns ++ name ∷ []) (inv.behind s (omega arith)) ∙ ap (λ n. names_of old n ++ name ∷ []) (sym same)
      ];
      behind = λ j from. other j (λ e. omega (arith, e, from, more)) ∙ inv.behind j (omega (arith, from, more));
    }

-- where the starts from the second on lie behind the run
pub put_all : (starts : List ℕ) (name : PartName) (run : ℕ × ℕ) (first s : ℕ) (old new : List (Vec PartName Global)) → IsPutting name first s old new
    → ((j : ℕ) → j < first → j < length starts → get_or starts j 0 < run.0) → ((j : ℕ) → first ≤ j → j < length starts → run.0 ≤ get_or starts j 0)
    → ((j : ℕ) → first ≤ j → j < s → j < length starts → get_or starts j 0 < run.0 + run.1) → ((j : ℕ) → s ≤ j → j < length starts → run.0 + run.1 ≤ get_or starts j 0) → first ≤ s
    → PutsNames starts old new (name_at name run)
put_all starts name run first s old new inv below from inside past le = (
  inv.long,
  λ j lt. elim (cases_lt j first) [
    | inl earlier ↦
        inv.before j earlier ∙ sym (append-nil (names_of old j))
        ∙ ap (λ b. names_of old j ++ (if b then name ∷ [] else [])) (sym (before_run (get_or starts j 0) run (below j earlier lt)))
    | inr later ↦ elim (cases_lt j s) [
      | inl reached ↦
          inv.put j later reached
          ∙ ap (λ b. names_of old j ++ (if b then name ∷ [] else [])) (sym (in_run (get_or starts j 0) run (from j later lt) (inside j later reached lt)))
      | inr unreached ↦
          inv.behind j unreached ∙ sym (append-nil (names_of old j))
          ∙ ap (λ b. names_of old j ++ (if b then name ∷ [] else [])) (sym (behind_run (get_or starts j 0) run (past j unreached lt)))
    ]
  ],
)

-- starts ascend, so all that follow one behind the run are behind it
pub past_all : (starts : List ℕ) (s end : ℕ) → AreAscending starts → end ≤ get_or starts s 0 → (j : ℕ) → s ≤ j → j < length starts → end ≤ get_or starts j 0
past_all starts s end asc le j from lt = omega (arith, le, rises starts asc s j from lt)

-- ---- all runs of a part

-- the name, as often as one of the runs has the byte
abbrev pub name_in_each : PartName → List (ℕ × ℕ) → (k : ℕ) → List PartName
name_in_each name runs k = flat_map (λ run. name_at name run k) runs

pub puts_none : (starts : List ℕ) (all : List (Vec PartName Global)) → PutsNames starts all all (λ k. [])
puts_none starts all = (refl, λ s lt. sym (append-nil (names_of all s)))

pub puts_both : (starts : List ℕ) (old middle new : List (Vec PartName Global)) (p q : ℕ → List PartName) → PutsNames starts old middle p → PutsNames starts middle new q → PutsNames starts old new (λ k. p k ++ q k)
puts_both starts old middle new p q first next = (
  next.0 ∙ first.0,
  λ s lt. next.1 s lt ∙ ap (λ ns. ns ++ q (get_or starts s 0)) (first.1 s lt) ∙ append_assoc (names_of old s) (p (get_or starts s 0)) (q (get_or starts s 0)),
)

pub puts_same : (starts : List ℕ) (old new : List (Vec PartName Global)) (p q : ℕ → List PartName) → PutsNames starts old new p → ((k : ℕ) → p k ≡ q k) → PutsNames starts old new q
puts_same starts old new p q puts same = (puts.0, λ s lt. puts.1 s lt ∙ ap (λ ns. names_of old s ++ ns) (same (get_or starts s 0)))

pub each_more : (name : PartName) (runs : List (ℕ × ℕ)) (i : ℕ) (d : ℕ × ℕ) → i < length runs → (k : ℕ) → (name_in_each name (take i runs) k ++ name_at name (get_or runs i d) k) ≡ name_in_each name (take (i + 1) runs) k
each_more name runs i d lt k =
    let f = λ (run : ℕ × ℕ). name_at name run k in
    sym (ap (flat_map f) (take_more runs i d lt) ∙ flat_map-append f (take i runs) (get_or runs i d ∷ []) ∙ ap (λ ns. flat_map f (take i runs) ++ ns) (append-nil (name_at name (get_or runs i d) k)))

-- at most one of runs that don't meet has the byte
pub each_once : (name : PartName) (k low : ℕ) (runs : List (ℕ × ℕ)) → AreMaximalRuns low runs → name_in_each name runs k ≡ (if is_in_ranges runs k then name ∷ [] else [])
each_once name k low [] maximal = refl
each_once name k low (run ∷ runs) maximal =
    elim (cases_lt k (run.0 + run.1 + 1)) [
      | inl below ↦
          let none : is_in_ranges runs k ≡ false = none_below (run.0 + run.1 + 1) runs k maximal.3 below in
          ap (λ ns. name_at name run k ++ ns) (each_once name k (run.0 + run.1 + 1) runs maximal.3 ∙ ap (λ b. if b then name ∷ [] else []) none) ∙ append-nil (name_at name run k)
          ∙ ap (λ b. if b then name ∷ [] else []) (sym (ap (λ b. is_in_run k run || b) none ∙ or-false (is_in_run k run)))
      | inr behind ↦
          let none : is_in_run k run ≡ false = behind_run k run (omega (arith, behind)) in
          ap (λ b. (if b then name ∷ [] else []) ++ name_in_each name runs k) none ∙ each_once name k (run.0 + run.1 + 1) runs maximal.3
          ∙ ap (λ b. if b || is_in_ranges runs k then name ∷ [] else []) (sym none)
    ]

-- ---- all parts

filter_one : (p : Part) (k : ℕ) → map (λ (q : Part). q.name) (filter (λ q. q.has k) (p ∷ [])) ≡ name_of p k
filter_one p k = by (p.has k) refl
  where
    by : (b : Bool) → p.has k ≡ b → map (λ (q : Part). q.name) (filter (λ q. q.has k) (p ∷ [])) ≡ name_of p k
    by true e = rw e refl
    by false e = rw e refl

pub names_more : (ps : List PartBytes) (i : ℕ) (d : PartBytes) → i < length ps → (k : ℕ) → names_at (map kept_part (take (i + 1) ps)) k ≡ names_at (map kept_part (take i ps)) k ++ name_of (kept_part (get_or ps i d)) k
names_more ps i d lt k =
    let test = λ (q : Part). q.has k in
    let front : List Part = map kept_part (take i ps) in
    let last : Part = kept_part (get_or ps i d) in
    ap (λ xs. names_at (map kept_part xs) k) (take_more ps i d lt)
    ∙ ap (λ xs. names_at xs k) (map-append kept_part (take i ps) (get_or ps i d ∷ []))
    ∙ ap (map (λ (q : Part). q.name)) (filter-append test front (last ∷ []))
    ∙ map-append (λ (q : Part). q.name) (filter test front) (filter test (last ∷ []))
    ∙ ap (λ ns. names_at front k ++ ns) (filter_one last k)

-- the names at a place are those of the list that stands there
pub names_there : (names : List (Vec PartName Global)) (s : ℕ) (v : Vec PartName Global) → s < length names → v ≡ get_or names s v → v.items ≡ names_of names s
names_there names s v lt e = ap (λ (w : Vec PartName Global). w.items) e ∙ sym (get_or-map (λ (w : Vec PartName Global). w.items) names s v [] lt)

pub passed_more : (starts : List ℕ) (first s end : ℕ) → ((j : ℕ) → first ≤ j → j < s → j < length starts → get_or starts j 0 < end) → get_or starts s 0 < end
    → (j : ℕ) → first ≤ j → j < s + 1 → j < length starts → get_or starts j 0 < end
passed_more starts first s end passed here j from lt within =
    elim (cases_lt j s) [
      | inl before ↦ passed j from before within
      | inr reached ↦ let same : j ≡ s = omega (arith, lt, reached) in let e : get_or starts j 0 ≡ get_or starts s 0 = ap (λ n. get_or starts n 0) same in omega (arith, e, here)
    ]
