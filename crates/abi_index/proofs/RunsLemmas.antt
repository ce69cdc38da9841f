-- What runs cover that are collected.
use Rattle.std.proofs.Common.{◌≡◌, ℕ, ◌+◌, ◌-◌, ◌<◌, ◌≤◌, ⊎_elim, List, [], ◌∷◌, ◌++◌, Bool, true, false, length, get_or, take, append-nil, append_assoc, arith, refl, sym, ap, ◌∙◌}
use Rattle.std.specs.Prelude.{◌&&◌, ◌||◌, nat_le, nat_lt}
use Rattle.std.proofs.Math.Bool.{and-false, or-false}
use Rattle.std.proofs.lemmas.Bool.Decides.{nat_tests}
use Rattle.std.proofs.lemmas.Bool.{le-leb, lt-leb, cases_lt}
use Rattle.std.proofs.lemmas.List.{take_more}
use Rattle.std.proofs.lemmas.List.Folds.{list_any-append}
use Rattle.abi_index.specs.RangeSet.{is_in_run, is_in_ranges}
use Rattle.abi_index.specs.Runs.{Adds, Extends, moved_to}

-- ---- what is moved on

and_or : (a b c : Bool) → (a && (b || c)) ≡ ((a && b) || (a && c))
and_or true b c = refl
and_or false b c = refl

or_assoc : (a b c : Bool) → ((a || b) || c) ≡ (a || (b || c))
or_assoc true b c = refl
or_assoc false b c = refl

-- moved on by nothing
pub moved-zero : (p : ℕ → Bool) (k : ℕ) → moved_to 0 p k ≡ p k
moved-zero p k = ap (λ b. b && p (k - 0)) (le-leb 0 k (omega arith)) ∙ ap p (let e : k - 0 ≡ k = omega arith in e)

-- moved on twice
pub moved-moved : (a b : ℕ) (p : ℕ → Bool) (k : ℕ) → moved_to (a + b) p k ≡ moved_to a (moved_to b p) k
moved-moved a b p k =
    ⊎_elim
    (λ (before : k < a). ap (λ v. v && p (k - (a + b))) (lt-leb (a + b) k (omega (arith, before))) ∙ sym (ap (λ v. v && moved_to b p (k - a)) (lt-leb a k before)))
    (λ (past : a ≤ k).
    sym (ap (λ v. v && moved_to b p (k - a)) (le-leb a k past)
    ∙ ap (λ n. nat_le b (k - a) && p n) (let e : k - a - b ≡ k - (a + b) = omega arith in e)
    ∙ ap (λ v. v && p (k - (a + b))) (let e : nat_le b (k - a) ≡ nat_le (a + b) k = grind (arith, nat_tests, past) in e)))
    (cases_lt k a)

-- of two things
pub moved-or : (a : ℕ) (p q : ℕ → Bool) (k : ℕ) → moved_to a (λ j. p j || q j) k ≡ (moved_to a p k || moved_to a q k)
moved-or a p q k = and_or (nat_le a k) (p (k - a)) (q (k - a))

-- of nothing
pub moved-none : (a : ℕ) (k : ℕ) → moved_to a (λ j. false) k ≡ false
moved-none a k = and-false (nat_le a k)

-- of the same
pub moved-same : (a : ℕ) (p q : ℕ → Bool) → ((j : ℕ) → p j ≡ q j) → (k : ℕ) → moved_to a p k ≡ moved_to a q k
moved-same a p q same k = ap (λ b. nat_le a k && b) (same (k - a))

-- ---- what is added

pub adds_nothing : (old : List (ℕ × ℕ)) (more : ℕ → Bool) → ((k : ℕ) → more k ≡ false) → Adds old old more
adds_nothing old more none = λ k. sym (ap (λ b. is_in_ranges old k || b) (none k) ∙ or-false (is_in_ranges old k))

pub adds_both : (old middle new : List (ℕ × ℕ)) (p q : ℕ → Bool) → Adds old middle p → Adds middle new q → Adds old new (λ k. p k || q k)
adds_both old middle new p q first second = λ k. second k ∙ ap (λ b. b || q k) (first k) ∙ or_assoc (is_in_ranges old k) (p k) (q k)

pub adds_same : (old new : List (ℕ × ℕ)) (p q : ℕ → Bool) → Adds old new p → ((k : ℕ) → p k ≡ q k) → Adds old new q
adds_same old new p q adds same = λ k. adds k ∙ ap (λ b. is_in_ranges old k || b) (same k)

in_moved : (offset k : ℕ) (run : ℕ × ℕ) → is_in_run k (offset + run.0, run.1) ≡ moved_to offset (λ j. is_in_run j run) k
in_moved offset k run = grind (arith, nat_tests)

run_moved : (offset size k : ℕ) → is_in_run k (offset, size) ≡ moved_to offset (λ j. nat_lt j size) k
run_moved offset size k = grind (arith, nat_tests)

-- one run more
pub adds_run : (old : List (ℕ × ℕ)) (offset size : ℕ) → Adds old (old ++ (offset, size) ∷ []) (moved_to offset (λ k. nat_lt k size))
adds_run old offset size = λ k.
    list_any-append (is_in_run k) old ((offset, size) ∷ []) ∙ ap (λ b. is_in_ranges old k || b) (or-false (is_in_run k (offset, size)) ∙ run_moved offset size k)

-- of no run so far
pub adds_none : (all : List (ℕ × ℕ)) (offset : ℕ) (runs : List (ℕ × ℕ)) → Adds all all (moved_to offset (is_in_ranges (take 0 runs)))
adds_none all offset runs = adds_nothing all (moved_to offset (is_in_ranges (take 0 runs))) (λ k. moved-none offset k)

-- the next run, moved on
pub adds_next : (all old new : List (ℕ × ℕ)) (offset : ℕ) (runs : List (ℕ × ℕ)) (i : ℕ) (d : ℕ × ℕ) → Adds all old (moved_to offset (is_in_ranges (take i runs))) → i < length runs
    → Adds old new (moved_to (offset + (get_or runs i d).0) (λ k. nat_lt k (get_or runs i d).1)) → Adds all new (moved_to offset (is_in_ranges (take (i + 1) runs)))
adds_next all old new offset runs i d adds lt next =
    let run : ℕ × ℕ = get_or runs i d in
    adds_same all new (λ k. moved_to offset (is_in_ranges (take i runs)) k || moved_to (offset + run.0) (λ j. nat_lt j run.1) k) (moved_to offset (is_in_ranges (take (i + 1) runs)))
    (adds_both all old new (moved_to offset (is_in_ranges (take i runs))) (moved_to (offset + run.0) (λ j. nat_lt j run.1)) adds next)
    (λ k. ap (λ b. moved_to offset (is_in_ranges (take i runs)) k || b) (sym (run_moved (offset + run.0) run.1 k) ∙ in_moved offset k run)
    ∙ sym (moved-same offset (is_in_ranges (take (i + 1) runs)) (λ j. is_in_ranges (take i runs) j || is_in_run j run)
    (λ j. ap (λ rs. is_in_ranges rs j) (take_more runs i d lt) ∙ list_any-append (is_in_run j) (take i runs) (run ∷ [])
    ∙ ap (λ b. is_in_ranges (take i runs) j || b) (or-false (is_in_run j run))) k
    ∙ moved-or offset (is_in_ranges (take i runs)) (λ j. is_in_run j run) k))

-- ---- what is still there

pub extends_none : (runs : List (ℕ × ℕ)) → Extends runs runs
extends_none runs = ([], sym (append-nil runs))

pub extends_by : (runs : List (ℕ × ℕ)) (run : ℕ × ℕ) → Extends runs (runs ++ run ∷ [])
extends_by runs run = (run ∷ [], refl)

pub extends_twice : (old middle new : List (ℕ × ℕ)) → Extends old middle → Extends middle new → Extends old new
extends_twice old middle new first second =
    (first.0 ++ second.0, second.1 ∙ ap (λ runs. runs ++ second.0) first.1 ∙ append_assoc old first.0 second.0)
