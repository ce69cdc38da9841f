-- The bytes that runs cover, taken out one run after another.
use Rattle.std.proofs.Common.{◌≡◌, ℕ, zero, suc, ◌+◌, ◌-◌, ◌<◌, ◌≤◌, List, [], ◌∷◌, ◌++◌, Bool, true, false, All, length, get_or, take, drop, length-drop, arith, refl, sym, ap, ◌∙◌, append_assoc}
use Rattle.std.proofs.lemmas.List.{append-nil, drop-drop, take_more}
use Rattle.std.proofs.lemmas.List.Elements.{All-head, All-tail}
use Rattle.abi_index.specs.RangeSet.{AreMaximalRuns, is_in_ranges}
use Rattle.abi_index.proofs.RangeSetLemmas.{earlier}
use Rattle.abi_index.proofs.UncutLemmas.{none_below}
use Rattle.abi_tree.specs.Bytes.{bytes_at, picked_bytes, put_if}
use Rattle.abi_tree.proofs.Places.MaximalLemmas.{behind_first, in_first}

-- the bytes of each run, one run after another
abbrev pub taken : List (ℕ × ℕ) → List ℕ → List ℕ
taken [] b = []
taken (run ∷ runs) b = bytes_at b run.0 run.1 ++ taken runs b

taken-push : (runs : List (ℕ × ℕ)) (run : ℕ × ℕ) (b : List ℕ) → taken (runs ++ run ∷ []) b ≡ taken runs b ++ bytes_at b run.0 run.1
taken-push [] run b = append-nil (bytes_at b run.0 run.1)
taken-push (first ∷ runs) run b =
    ap (λ xs. bytes_at b first.0 first.1 ++ xs) (taken-push runs run b) ∙ sym (append_assoc (bytes_at b first.0 first.1) (taken runs b) (bytes_at b run.0 run.1))

pub taken_more : (runs : List (ℕ × ℕ)) (i : ℕ) (d : ℕ × ℕ) (b : List ℕ) → i < length runs →
    taken (take (i + 1) runs) b ≡ taken (take i runs) b ++ bytes_at b (get_or runs i d).0 (get_or runs i d).1
taken_more runs i d b lt = ap (λ rs. taken rs b) (take_more runs i d lt) ∙ taken-push (take i runs) (get_or runs i d) b

-- no place is picked from k on
picked_none : (p : ℕ → Bool) (k : ℕ) (b : List ℕ) → ((j : ℕ) → k ≤ j → p j ≡ false) → picked_bytes p k b ≡ []
picked_none p k [] none = refl
picked_none p k (x ∷ b) none = ap (λ t. put_if t x (picked_bytes p (k + 1) b)) (none k (omega arith)) ∙ picked_none p (k + 1) b (λ j le. none j (omega arith))

-- nor of the n places from k on
picked_free : (p : ℕ → Bool) (k n : ℕ) (b : List ℕ) → ((j : ℕ) → k ≤ j → j < k + n → p j ≡ false) → picked_bytes p k b ≡ picked_bytes p (k + n) (drop n b)
picked_free p k zero b free = let same : k ≡ k + 0 = omega arith in ap (λ i. picked_bytes p i b) same
picked_free p k (suc n) [] free = refl
picked_free p k (suc n) (x ∷ b) free =
    let next : k + 1 + n ≡ k + suc n = omega arith in
    ap (λ t. put_if t x (picked_bytes p (k + 1) b)) (free k (omega arith) (omega arith))
    ∙ picked_free p (k + 1) n b (λ j le lt. free j (omega arith) (omega arith)) ∙ ap (λ i. picked_bytes p i (drop n b)) next

-- all of the n places from k on are picked
picked_taken : (p : ℕ → Bool) (k n : ℕ) (b : List ℕ) → n ≤ length b → ((j : ℕ) → k ≤ j → j < k + n → p j ≡ true) → picked_bytes p k b ≡ take n b ++ picked_bytes p (k + n) (drop n b)
picked_taken p k zero b inside all = let same : k ≡ k + 0 = omega arith in ap (λ i. picked_bytes p i b) same
picked_taken p k (suc n) [] inside all = absurd (omega arith)
picked_taken p k (suc n) (x ∷ b) inside all =
    let next : k + 1 + n ≡ k + suc n = omega arith in
    ap (λ t. put_if t x (picked_bytes p (k + 1) b)) (all k (omega arith) (omega arith))
    ∙ ap (λ xs. x ∷ xs) (picked_taken p (k + 1) n b (omega arith) (λ j le lt. all j (omega arith) (omega arith)) ∙ ap (λ i. take n b ++ picked_bytes p i (drop n b)) next)

-- another test picks the same, where they agree from k on
picked_like : (p q : ℕ → Bool) (k : ℕ) (b : List ℕ) → ((j : ℕ) → k ≤ j → p j ≡ q j) → picked_bytes p k b ≡ picked_bytes q k b
picked_like p q k [] same = refl
picked_like p q k (x ∷ b) same =
    ap (λ t. put_if t x (picked_bytes p (k + 1) b)) (same k (omega arith)) ∙ ap (put_if (q k) x) (picked_like p q (k + 1) b (λ j le. same j (omega arith)))

-- the runs' bytes are those that they cover
pub taken-picked : (runs : List (ℕ × ℕ)) (from : ℕ) (b : List ℕ) → AreMaximalRuns from runs → All (λ run. run.0 + run.1 ≤ length b) runs →
    taken runs b ≡ picked_bytes (is_in_ranges runs) from (drop from b)
taken-picked [] from b maximal inside = sym (picked_none (is_in_ranges []) from (drop from b) (λ j le. refl))
taken-picked (run ∷ runs) from b maximal inside =
    let p : ℕ → Bool = is_in_ranges (run ∷ runs) in
    let end : ℕ = run.0 + run.1 in
    let past : end ≤ length b = All-head (λ run. run.0 + run.1 ≤ length b) run runs inside in
    let to_start : from + (run.0 - from) ≡ run.0 = omega (arith, maximal.0) in
    let long : run.1 ≤ length (drop run.0 b) = omega (arith, length-drop run.0 b, past) in
    let rest_runs : AreMaximalRuns end runs = earlier end (end + 1) runs (omega arith) maximal.3 in
    let free : picked_bytes p from (drop from b) ≡ picked_bytes p run.0 (drop run.0 b) =
    picked_free p from (run.0 - from) (drop from b)
    (λ j le lt. none_below run.0 (run ∷ runs) j (omega arith, maximal.1, maximal.2, maximal.3) (omega (arith, to_start, lt)))
    ∙ ap (λ i. picked_bytes p i (drop (run.0 - from) (drop from b))) to_start
    ∙ ap (picked_bytes p run.0) (drop-drop (run.0 - from) from b ∙ ap (λ i. drop i b) to_start) in
    let all : picked_bytes p run.0 (drop run.0 b) ≡ bytes_at b run.0 run.1 ++ picked_bytes p end (drop end b) =
    picked_taken p run.0 run.1 (drop run.0 b) long (λ j le lt. in_first run.0 run.1 runs j le lt)
    ∙ ap (λ xs. bytes_at b run.0 run.1 ++ picked_bytes p end xs) (drop-drop run.1 run.0 b) in
    let rest : picked_bytes p end (drop end b) ≡ taken runs b =
    picked_like p (is_in_ranges runs) end (drop end b) (λ j le. behind_first run.0 run.1 runs j le)
    ∙ sym (taken-picked runs end b rest_runs (All-tail (λ run. run.0 + run.1 ≤ length b) run runs inside)) in
    sym (free ∙ all ∙ ap (λ xs. bytes_at b run.0 run.1 ++ xs) rest)
