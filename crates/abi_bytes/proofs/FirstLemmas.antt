-- Formulas of what the first cells hold: made of one another, and of numbers.
use Rattle.std.proofs.Common.{Some, None, ◌≡◌, ◌↔◌, ◌⊎◌, ℕ, zero, suc, ◌+◌, ◌-◌, ◌*◌, ◌<◌, ◌≤◌, List, [], ◌∷◌, length, map, take, drop, reverse, arith, refl, sym, ap, ◌∙◌, subst, inl, inr, ⊎_elim, length-take, length-drop, lit<}
use mathlib.Core.List.{reverse_aux}
use Rattle.std.proofs.Math.Nat.{suc-mul}
use Rattle.std.proofs.lemmas.List.{drop-drop, drop-take, length-reverse, take-take}
use Rattle.std.proofs.lemmas.List.Elements.{All-nil, All-cons, All-head, All-tail, All-take, All-drop}
use Rattle.automata.specs.Cell.{Cell, IsCell, AreCells}
use Rattle.automata.specs.Formula.{Formula, any, never, both, either, gap, each, HoldsEach, Reads, Same}
use Rattle.automata.specs.Formulas.{Keeps, IsMade}
use Rattle.automata.specs.Nodes.{formula_in}
use Rattle.automata.specs.Number.{MakeBig, MakeLittle, ReadsLittle}
use Rattle.automata.proofs.NodesLemmas.{Keeps-trans, Keeps-at}
use Rattle.abi_base.specs.declared.endian.Endian.{Endian}
use Rattle.abi_base.specs.declared.endian.Endian.TheVariants.{Little, Big}
use Rattle.abi_scalar.specs.Range.{numbers_of}
use Rattle.abi_tree.specs.Bytes.{AreBytes, little, number_of}
use Rattle.abi_tree.proofs.Bytes.BytesLemmas.{AreBytes-reverse, numbers_of-suc}
use Rattle.abi_bytes.specs.Holding.{AreAt, AreEach, MakeNumber, cells_at}
use Rattle.abi_bytes.specs.Formulas.{IsFormula, ReadsFirst}
use Rattle.abi_bytes.proofs.CellsLemmas.{some, length-map_some, map_some-apart}

-- ---- what is kept, and the same said otherwise

pub reads_kept : (fs gs : List Formula) (i n : ℕ) (P : List Cell → Type 0) → Keeps fs gs → i < length fs → ReadsFirst (formula_in fs i) n P → ReadsFirst (formula_in gs i) n P
reads_kept fs gs i n P kept there h = subst (λ f. ReadsFirst f n P) (sym (Keeps-at fs gs kept i there)) h

pub length-first : (n : ℕ) (w : List Cell) → n ≤ length w → length (take n w) ≡ n
length-first n w le = omega (arith, length-take n w)

pub reads_like : (f : Formula) (n : ℕ) (P Q : List Cell → Type 0) → ((u : List Cell) → AreCells u → length u ≡ n → (P u ↔ Q u)) → ReadsFirst f n P → ReadsFirst f n Q
reads_like f n P Q like reads w all le =
    let same = like (take n w) (All-take IsCell n w all) (length-first n w le) in
    (λ h. same.0 ((reads w all le).0 h), λ h. (reads w all le).1 (same.1 h))

pub made_like : (old new : List Formula) (n i : ℕ) (P Q : List Cell → Type 0) → ((u : List Cell) → AreCells u → length u ≡ n → (P u ↔ Q u)) → IsFormula old new n P i → IsFormula old new n Q i
made_like old new n i P Q like is = record { kept = is.kept; there = is.there; reads = reads_like (formula_in new i) n P Q like is.reads }

pub made_after : (old mid new : List Formula) (n i : ℕ) (P : List Cell → Type 0) → Keeps old mid → IsFormula mid new n P i → IsFormula old new n P i
made_after old mid new n i P kept is = record { kept = Keeps-trans old mid new kept is.kept; there = is.there; reads = is.reads }

reads_same : (f g : Formula) (n : ℕ) (P : List Cell → Type 0) → Same f g → ReadsFirst g n P → ReadsFirst f n P
reads_same f g n P same reads w all le = (λ h. (reads w all le).0 ((same w).0 h), λ h. (same w).1 ((reads w all le).1 h))

-- ---- formulas made of others

pub made_any : (old new : List Formula) (n i : ℕ) (P : List Cell → Type 0) → ((u : List Cell) → AreCells u → length u ≡ n → P u) → IsMade old new any i → IsFormula old new n P i
made_any old new n i P all_in made = record {
  kept = made.kept;
  there = made.there;
  reads = λ w all le. (λ h. all_in (take n w) (All-take IsCell n w all) (length-first n w le), λ h. (made.same w).1 tt);
}

pub made_never : (old new : List Formula) (n i : ℕ) (P : List Cell → Type 0) → ((u : List Cell) → AreCells u → length u ≡ n → P u → ⊥) → IsMade old new never i → IsFormula old new n P i
made_never old new n i P none_in made = record {
  kept = made.kept;
  there = made.there;
  reads = λ w all le. (λ h. absurd ((made.same w).0 h), λ h. absurd (none_in (take n w) (All-take IsCell n w all) (length-first n w le) h));
}

module _ (s0 s1 s2 s3 : List Formula) (f g k n : ℕ) (P Q : List Cell → Type 0) (one : IsFormula s0 s1 n P f) (two : IsFormula s1 s2 n Q g) where
  first_reads : ReadsFirst (formula_in s2 f) n P
  first_reads = reads_kept s1 s2 f n P two.kept one.there one.reads

  pub made_both : IsMade s2 s3 (both (formula_in s2 f) (formula_in s2 g)) k → IsFormula s0 s3 n (λ u. P u × Q u) k
  made_both made = record {
    kept = Keeps-trans s0 s1 s3 one.kept (Keeps-trans s1 s2 s3 two.kept made.kept);
    there = made.there;
    reads = λ w all le. (
      λ h. let x = (made.same w).0 h in ((first_reads w all le).0 x.0, (two.reads w all le).0 x.1),
      λ h. (made.same w).1 ((first_reads w all le).1 h.0, (two.reads w all le).1 h.1),
    );
  }

  pub made_either : IsMade s2 s3 (either (formula_in s2 f) (formula_in s2 g)) k → IsFormula s0 s3 n (λ u. P u ⊎ Q u) k
  made_either made = record {
    kept = Keeps-trans s0 s1 s3 one.kept (Keeps-trans s1 s2 s3 two.kept made.kept);
    there = made.there;
    reads = λ w all le. (
      λ h. ⊎_elim (λ x. inl ((first_reads w all le).0 x)) (λ x. inr ((two.reads w all le).0 x)) ((made.same w).0 h),
      λ h. (made.same w).1 (⊎_elim (λ x. inl ((first_reads w all le).1 x)) (λ x. inr ((two.reads w all le).1 x)) h),
    );
  }

-- ---- parts

-- a part of the first cells
pub cells_at-first : (w : List Cell) (n o s : ℕ) → o + s ≤ n → cells_at (take n w) o s ≡ take s (drop o w)
cells_at-first w n o s le =
    let e : n ≡ o + (n - o) = omega arith in
    let short : s ≤ n - o = omega arith in
    ap (λ i. take s (drop o (take i w))) e
    ∙ ap (take s) (drop-take o (n - o) w)
    ∙ take-take s (n - o) (drop o w) short

module _ (f : Formula) (s : ℕ) (Q : List Cell → Type 0) (reads : ReadsFirst f s Q) where
  part_reads : (w : List Cell) (n o : ℕ) → AreCells w → n ≤ length w → o + s ≤ n → (Reads f (drop o w) ↔ AreAt o s Q (take n w))
  part_reads w n o all le room =
      let there : s ≤ length (drop o w) = omega (arith, length-drop o w) in
      let same = cells_at-first w n o s room in
      let here = reads (drop o w) (All-drop IsCell o w all) there in (
        λ h. (omega (arith, length-first n w le), subst Q (sym same) (here.0 h)),
        λ h. here.1 (subst Q same h.1),
      )

  pub gap_reads : (n o : ℕ) → o + s ≤ n → ReadsFirst (gap o f) n (AreAt o s Q)
  gap_reads n o room w all le = part_reads w n o all le room

  each_reads : (count n o : ℕ) (w : List Cell) → AreCells w → n ≤ length w → o + count * s ≤ n → (HoldsEach (Reads f) count s (drop o w) ↔ AreEach Q count s o (take n w))
  each_reads zero n o w all le room = (λ h. tt, λ h. tt)
  each_reads (suc count) n o w all le room =
      let more = suc-mul count s in
      let here = part_reads w n o all le (omega (arith, more)) in
      let rest = each_reads count n (o + s) w all le (omega (arith, more)) in
      let behind = drop-drop s o w in (
        λ h. (here.0 h.0, rest.0 (subst (HoldsEach (Reads f) count s) behind h.1)),
        λ h. (here.1 h.0, subst (HoldsEach (Reads f) count s) (sym behind) (rest.1 h.1)),
      )

  pub repetition_reads : (count n : ℕ) → count * s ≤ n → ReadsFirst (each count s f) n (AreEach Q count s 0)
  repetition_reads count n room w all le = each_reads count n 0 w all le (omega arith)

-- elements that are there end inside
each_long : (Q : List Cell → Type 0) (count s o : ℕ) (u : List Cell) → o ≤ length u → AreEach Q count s o u → o + count * s ≤ length u
each_long Q zero s o u le h = omega arith
each_long Q (suc count) s o u le h = omega (arith, suc-mul count s, each_long Q count s (o + s) u h.0.0 h.1)

pub each_too_long : (Q : List Cell → Type 0) (count s n : ℕ) → n < count * s → (u : List Cell) → length u ≡ n → AreEach Q count s 0 u → ⊥
each_too_long Q count s n lt u len h = omega (arith, each_long Q count s 0 u (omega arith) h)

pub made_gap : (s0 s1 : List Formula) (f s k n o : ℕ) (Q : List Cell → Type 0) → ReadsFirst (formula_in s0 f) s Q → o + s ≤ n → IsMade s0 s1 (gap o (formula_in s0 f)) k → IsFormula s0 s1 n (AreAt o s Q) k
made_gap s0 s1 f s k n o Q reads room made = record {
  kept = made.kept;
  there = made.there;
  reads = reads_same (formula_in s1 k) (gap o (formula_in s0 f)) n (AreAt o s Q) made.same (gap_reads (formula_in s0 f) s Q reads n o room);
}

pub made_each : (s0 s1 : List Formula) (f s k n count : ℕ) (Q : List Cell → Type 0) → ReadsFirst (formula_in s0 f) s Q → count * s ≤ n → IsMade s0 s1 (each count s (formula_in s0 f)) k → IsFormula s0 s1 n (AreEach Q count s 0) k
made_each s0 s1 f s k n count Q reads room made = record {
  kept = made.kept;
  there = made.there;
  reads = reads_same (formula_in s1 k) (each count s (formula_in s0 f)) n (AreEach Q count s 0) made.same (repetition_reads (formula_in s0 f) s Q reads count n room);
}

-- ---- numbers

head_same : (b x : ℕ) (u v : List Cell) → (some b ∷ u) ≡ (some x ∷ v) → (b ≡ x) × (u ≡ v)
head_same b x u v e = (cc, cc)

none_first : (u : List Cell) (bytes : List ℕ) → (None ∷ u) ≡ map some bytes → ⊥
none_first u [] e = omega (arith, ap length e)
none_first u (b ∷ bytes) e = cc

little_cell : (b : ℕ) (P : ℕ → Type 0) (u : List Cell) (bytes : List ℕ) → (some b ∷ u) ≡ map some bytes → P (little bytes) → MakeNumber Little (λ r. P (b + 256 * r)) u
little_cell b P u [] e p = absurd (omega (arith, ap length e))
little_cell b P u (x ∷ bytes) e p =
    let same = head_same b x u (map some bytes) e in
    (bytes, same.1, subst (λ y. P (y + 256 * little bytes)) (sym same.0) p)

little_first : (n : ℕ) (P : ℕ → Type 0) (w : List Cell) → n ≤ length w → (MakeLittle n P w ↔ MakeNumber Little P (take n w))
little_first zero P w le = (λ h. ([], refl, h), λ h. subst (λ b. P (little b)) (sym (map_some-apart [] h.0 h.1)) h.2)
little_first (suc n) P [] le = absurd (omega arith)
little_first (suc n) P (None ∷ w) le = (λ h. absurd h, λ h. none_first (take n w) h.0 h.1)
little_first (suc n) P (Some b ∷ w) le =
    let rest = little_first n (λ r. P (b + 256 * r)) w (omega arith) in (
      λ h. let x = rest.0 h in (b ∷ x.0, ap (λ v. some b ∷ v) x.1, x.2),
      λ h. rest.1 (little_cell b P (take n w) h.0 h.1 h.2),
    )

pub little_made : (f : Formula) (n : ℕ) (P : ℕ → Type 0) → ReadsLittle f n P → ReadsFirst f n (MakeNumber Little P)
little_made f n P reads w all le =
    let same = little_first n P w le in
    (λ h. same.0 ((reads w all).0 h), λ h. (reads w all).1 (same.1 h))

-- bytes, whose number with those that came before, the greatest first, is in P
abbrev MakeOnto : (ℕ → Type 0) → (before : List ℕ) → List Cell → Type 0
MakeOnto P before u = (bytes : List ℕ) × (u ≡ map some bytes) × P (little (reverse_aux bytes before))

big_cell : (b : ℕ) (P : ℕ → Type 0) (before : List ℕ) (u : List Cell) (bytes : List ℕ) → (some b ∷ u) ≡ map some bytes → P (little (reverse_aux bytes before)) → MakeOnto P (b ∷ before) u
big_cell b P before u [] e p = absurd (omega (arith, ap length e))
big_cell b P before u (x ∷ bytes) e p =
    let same = head_same b x u (map some bytes) e in
    (bytes, same.1, subst (λ y. P (little (reverse_aux bytes (y ∷ before)))) (sym same.0) p)

big_first : (n m : ℕ) (P : ℕ → Type 0) (before : List ℕ) (w : List Cell) → m ≡ little before → n ≤ length w → (MakeBig n P m w ↔ MakeOnto P before (take n w))
big_first zero m P before w e le = (
  λ h. ([], refl, subst P e h),
  λ h. subst P (sym e) (subst (λ b. P (little (reverse_aux b before))) (sym (map_some-apart [] h.0 h.1)) h.2),
)
big_first (suc n) m P before [] e le = absurd (omega arith)
big_first (suc n) m P before (None ∷ w) e le = (λ h. absurd h, λ h. none_first (take n w) h.0 h.1)
big_first (suc n) m P before (Some b ∷ w) e le =
    let rest = big_first n (256 * m + b) P (b ∷ before) w (omega (arith, e)) (omega arith) in (
      λ h. let x = rest.0 h in (b ∷ x.0, ap (λ v. some b ∷ v) x.1, x.2),
      λ h. rest.1 (big_cell b P before (take n w) h.0 h.1 h.2),
    )

pub big_made : (f : Formula) (n m : ℕ) (P : ℕ → Type 0) → m ≡ 0 → ((w : List Cell) → AreCells w → (Reads f w ↔ MakeBig n P m w)) → ReadsFirst f n (MakeNumber Big P)
big_made f n m P none reads w all le =
    let same = big_first n m P [] w none le in
    (λ h. same.0 ((reads w all).0 h), λ h. (reads w all).1 (same.1 h))

-- two facts of the number that the cells make
pub number_both : (order : Endian) (P Q : ℕ → Type 0) (u : List Cell) → ((MakeNumber order P u × MakeNumber order Q u) ↔ MakeNumber order (λ m. P m × Q m) u)
number_both order P Q u = (
  λ h.
      let same = map_some-apart h.1.0 h.0.0 (sym h.1.1 ∙ h.0.1) in
      (h.0.0, h.0.1, (h.0.2, subst (λ b. Q (number_of order b)) same h.1.2)),
  λ h. ((h.0, h.1, h.2.0), (h.0, h.1, h.2.1)),
)

-- one of two facts of it
pub number_either : (order : Endian) (P Q : ℕ → Type 0) (u : List Cell) → ((MakeNumber order P u ⊎ MakeNumber order Q u) ↔ MakeNumber order (λ m. P m ⊎ Q m) u)
number_either order P Q u = (
  λ h. ⊎_elim (λ x. (x.0, x.1, inl x.2)) (λ x. (x.0, x.1, inr x.2)) h,
  λ h. ⊎_elim (λ x. inl (h.0, h.1, x)) (λ x. inr (h.0, h.1, x)) h.2,
)

-- numbers of so many bytes are below how many there are
bytes_are : (b : List ℕ) → AreCells (map some b) → AreBytes b
bytes_are [] all = All-nil (λ b. b < 256)
bytes_are (x ∷ b) all = All-cons (λ b. b < 256) x b (All-head IsCell (some x) (map some b) all) (bytes_are b (All-tail IsCell (some x) (map some b) all))

little_fits : (b : List ℕ) → AreBytes b → little b < numbers_of (length b)
little_fits [] all = lit< tt
little_fits (x ∷ b) all =
    let byte : x < 256 = All-head (λ b. b < 256) x b all in
    let rest = little_fits b (All-tail (λ b. b < 256) x b all) in
    omega (arith, byte, rest, numbers_of-suc (length b))

number_fits : (order : Endian) (b : List ℕ) → AreBytes b → number_of order b < numbers_of (length b)
number_fits Little b all = little_fits b all
number_fits Big b all = subst (λ k. little (reverse b) < numbers_of k) (length-reverse b) (little_fits (reverse b) (AreBytes-reverse b all))

pub number_like : (order : Endian) (n : ℕ) (P Q : ℕ → Type 0) → ((m : ℕ) → m < numbers_of n → (P m ↔ Q m)) → (u : List Cell) → AreCells u → length u ≡ n → (MakeNumber order P u ↔ MakeNumber order Q u)
number_like order n P Q like u all len =
    let fits : (b : List ℕ) → u ≡ map some b → number_of order b < numbers_of n = λ b e.
    subst (λ k. number_of order b < numbers_of k) (sym (length-map_some b) ∙ ap length (sym e) ∙ len) (number_fits order b (bytes_are b (subst AreCells e all))) in (
      λ h. (h.0, h.1, (like (number_of order h.0) (fits h.0 h.1)).0 h.2),
      λ h. (h.0, h.1, (like (number_of order h.0) (fits h.0 h.1)).1 h.2),
    )
