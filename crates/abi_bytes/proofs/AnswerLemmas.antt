-- What the comparison of formulas says of types.
use Rattle.std.proofs.Common.{Some, None, ◌≡◌, ◌≢◌, ◌↔◌, ℕ, zero, suc, ◌+◌, ◌<◌, ◌≤◌, List, [], ◌∷◌, ◌++◌, length, get_or, map, take, drop, replicate, arith, refl, sym, ap, ◌∙◌, subst, lit<}
use Rattle.std.specs.Prelude.{IfSome, Option, false, ◌||◌}
use Rattle.std.proofs.lemmas.List.{drop_all, drop_more, map-append, take_all, take_more}
use Rattle.std.proofs.lemmas.List.Elements.{All-nil, All-cons, All-head, All-tail}
use Rattle.automata.specs.Cell.{Cell, IsCell, AreCells}
use Rattle.automata.specs.Formula.{Formula, any, run, each, HoldsEach, Reads, Same}
use Rattle.automata.specs.Formulas.{IsMade}
use Rattle.automata.specs.Inclusion.{IsInclusion}
use Rattle.automata.specs.Nodes.{formula_in}
use Rattle.automata.specs.declared.inclusion.Inclusion.{Inclusion}
use Rattle.automata.specs.declared.inclusion.Inclusion.TheVariants.{Included, Missing, TooLarge}
use Rattle.automata.proofs.NodesLemmas.{Keeps-trans}
use Rattle.abi_tree.specs.Bytes.{AreBytes}
use Rattle.abi_scalar.specs.declared.scalar.Scalar.{Scalar}
use Rattle.abi_tree.specs.Placed.{size_of}
use Rattle.abi_tree.specs.declared.node.Node.{Node}
use Rattle.abi_tree.specs.declared.node.Shape.{Shape}
use Rattle.abi_tree.specs.declared.node.Shape.TheVariants.{Scalar as Number, Pair, Never, Elements, Fields, Union as UnionOf, Vector, Single, Tagged, States}
use Rattle.abi_bytes.specs.Holding.{HoldCells}
use Rattle.abi_bytes.specs.Filling.{AreSet}
use Rattle.abi_bytes.specs.Formulas.{IsFormula, ReadsFirst}
use Rattle.abi_bytes.specs.GoesInto.{HoldStored, Stored}
use Rattle.abi_bytes.specs.Answers.{AreBytesBelow, HoldValue, IsComparison, SaysFromZeros, SaysGoes, SaysIntoBytes, HoldNothing, byte_in, goes_of, has_pointer_node, into_of, is_pointer_node, zeros_from, zeros_of}
use Rattle.abi_bytes.proofs.CellsLemmas.{some, AreCells-bytes, AreSet-bytes, bytes_of, length-map_some, map_some-apart}
use Rattle.abi_bytes.proofs.FirstLemmas.{reads_kept}
use Rattle.abi_bytes.proofs.LawLemmas.{bytes_hold_values, length-HoldCells}

-- ---- formulas of all cells

pub whole_reads : (f : Formula) (n : ℕ) (P : List Cell → Type 0) → ReadsFirst f n P → (w : List Cell) → AreCells w → length w ≡ n → (Reads f w ↔ P w)
whole_reads f n P reads w all len =
    let same : take n w ≡ w = take_all n w (omega (arith, len)) in
    let here = reads w all (omega (arith, len)) in
    (λ h. subst P same (here.0 h), λ h. here.1 (subst P (sym same) h))

compare_says : (f g : Formula) (n : ℕ) (P Q : List Cell → Type 0) (answer : Inclusion) → ReadsFirst f n P → ReadsFirst g n Q → IsInclusion f g n answer → IsComparison n P Q answer
compare_says f g n P Q Included first second h = λ w all len p. (whole_reads g n Q second w all len).0 (h w all len ((whole_reads f n P first w all len).1 p))
compare_says f g n P Q (Missing cells) first second h = (
  h.0,
  h.1,
  (whole_reads f n P first cells.items h.0 h.1).0 h.2,
  λ q. h.3 ((whole_reads g n Q second cells.items h.0 h.1).1 q),
)
compare_says f g n P Q TooLarge first second h = tt

-- of two formulas that were made one after the other
pub comparison : (s0 s1 s2 : List Formula) (f g n : ℕ) (P Q : List Cell → Type 0) (answer : Inclusion) → IsFormula s0 s1 n P f → IsFormula s1 s2 n Q g →
    IsInclusion (formula_in s2 f) (formula_in s2 g) n answer → IsComparison n P Q answer
comparison s0 s1 s2 f g n P Q answer one two h =
    compare_says (formula_in s2 f) (formula_in s2 g) n P Q answer (reads_kept s1 s2 f n P two.kept one.there one.reads) two.reads h

pub comparison_back : (s0 s1 s2 : List Formula) (f g n : ℕ) (P Q : List Cell → Type 0) (answer : Inclusion) → IsFormula s0 s1 n P f → IsFormula s1 s2 n Q g →
    IsInclusion (formula_in s2 g) (formula_in s2 f) n answer → IsComparison n Q P answer
comparison_back s0 s1 s2 f g n P Q answer one two h =
    compare_says (formula_in s2 g) (formula_in s2 f) n Q P answer two.reads (reads_kept s1 s2 f n P two.kept one.there one.reads) h

-- a formula for the size under another name
pub sized : (s0 s1 : List Formula) (f n m : ℕ) (P : List Cell → Type 0) → n ≡ m → IsFormula s0 s1 n P f → IsFormula s0 s1 m P f
sized s0 s1 f n m P same is = subst (λ k. IsFormula s0 s1 k P f) same is

-- ---- bytes

no_byte : (b : ℕ) → None ≡ Some b → ⊥
no_byte b e = cc

byte_small : (b end x : ℕ) → Some b ≡ Some x → x < end → b < end
byte_small b end x e lt = let same : b ≡ x = cc in omega (arith, same, lt)

run_same : (end : ℕ) (f g : Formula) → ((u : List Cell) → Reads f u → Reads g u) → (w : List Cell) → Reads (run 0 end f) w → Reads (run 0 end g) w
run_same end f g like [] h = h
run_same end f g like (c ∷ w) h = (h.0, like w h.1)

each_same : (f g : Formula) (n : ℕ) (w : List Cell) → ((u : List Cell) → Reads f u → Reads g u) → HoldsEach (Reads f) n 1 w → HoldsEach (Reads g) n 1 w
each_same f g zero w like h = tt
each_same f g (suc n) w like h = (like w h.0, each_same f g n (drop 1 w) like h.1)

each_below : (end n : ℕ) (w : List Cell) → end ≤ 256 → AreCells w → n ≤ length w → (HoldsEach (Reads (run 0 end any)) n 1 w ↔ AreBytesBelow end (take n w))
each_below end zero w small all le = (λ h. tt, λ h. tt)
each_below end (suc n) [] small all le = absurd (omega arith)
each_below end (suc n) (None ∷ w) small all le = (λ h. absurd (omega (arith, h.0.0.1, small)), λ h. absurd (no_byte h.0.0 h.0.1))
each_below end (suc n) (Some b ∷ w) small all le =
    let rest = each_below end n w small (All-tail IsCell (Some b) w all) (omega (arith, le)) in (
      λ h. ((b, refl, h.0.0.1), rest.0 h.1),
      λ h. (((omega arith, byte_small b end h.0.0 h.0.1 h.0.2), tt), rest.1 h.1),
    )

pub bytes_made : (s0 s1 s2 s3 : List Formula) (a b k n end : ℕ) → end ≤ 256 → IsMade s0 s1 any a → IsMade s1 s2 (run 0 end (formula_in s1 a)) b → IsMade s2 s3 (each n 1 (formula_in s2 b)) k →
    IsFormula s0 s3 n (AreBytesBelow end) k
bytes_made s0 s1 s2 s3 a b k n end small one two three =
    let byte : Same (formula_in s2 b) (run 0 end any) = λ w. (
      λ h. run_same end (formula_in s1 a) any (λ u x. tt) w ((two.same w).0 h),
      λ h. (two.same w).1 (run_same end any (formula_in s1 a) (λ u x. (one.same u).1 tt) w h),
    ) in
    record {
      kept = Keeps-trans s0 s1 s3 one.kept (Keeps-trans s1 s2 s3 two.kept three.kept);
      there = three.there;
      reads = λ w all le.
          let below = each_below end n w small all le in (
            λ h. below.0 (each_same (formula_in s2 b) (run 0 end any) n w (λ u x. (byte u).0 x) ((three.same w).0 h)),
            λ h. (three.same w).1 (each_same (run 0 end any) (formula_in s2 b) n w (λ u x. (byte u).1 x) (below.1 h)),
          );
    }

-- cells that are bytes are set
pub below_set : (w : List Cell) → AreBytesBelow 256 w → AreSet w
below_set [] h = tt
below_set (c ∷ w) h = ((h.0.0, h.0.1), below_set w h.1)

pub set_below : (w : List Cell) → AreCells w → AreSet w → AreBytesBelow 256 w
set_below [] all h = tt
set_below (c ∷ w) all h = ((h.0.0, h.0.1, subst IsCell h.0.1 (All-head IsCell c w all)), set_below w (All-tail IsCell c w all) h.1)

-- cells that are bytes below 1 are zeros
pub below_zeros : (n : ℕ) (w : List Cell) → length w ≡ n → AreBytesBelow 1 w → w ≡ map some (replicate n 0)
below_zeros zero [] len h = refl
below_zeros (suc n) [] len h = absurd (omega (arith, len))
below_zeros zero (c ∷ w) len h = absurd (omega (arith, len))
below_zeros (suc n) (c ∷ w) len h =
    let none : h.0.0 ≡ 0 = omega (arith, h.0.2) in
    let rest = below_zeros n w (omega (arith, len)) h.1 in
    ap (λ d. d ∷ w) (h.0.1 ∙ ap some none) ∙ ap (λ v. some 0 ∷ v) rest

pub zeros_below : (n : ℕ) → AreBytesBelow 1 (map some (replicate n 0))
zeros_below zero = tt
zeros_below (suc n) = ((0, refl, lit< tt), zeros_below n)

zeros_length : (n : ℕ) → length (map some (replicate n 0)) ≡ n
zeros_length zero = refl
zeros_length (suc n) = ap suc (zeros_length n)

zeros_bytes : (n : ℕ) → AreBytes (replicate n 0)
zeros_bytes zero = All-nil (λ b. b < 256)
zeros_bytes (suc n) = All-cons (λ b. b < 256) 0 (replicate n 0) (lit< tt) (zeros_bytes n)

pub set_again : (w : List Cell) → AreSet w → map some (map byte_in w) ≡ w
set_again [] h = refl
set_again (c ∷ w) h = ap (λ d. some (byte_in d) ∷ map some (map byte_in w)) h.0.1 ∙ ap (λ d. d ∷ map some (map byte_in w)) (sym h.0.1) ∙ ap (λ v. c ∷ v) (set_again w h.1)

bytes_same : (b d : List ℕ) → map some b ≡ map some d → AreBytes d → AreBytes b
bytes_same b d same all = subst AreBytes (sym (map_some-apart b d same)) all

-- ---- the answers

pub goes_says : (a b : Stored) (answer : Inclusion) → size_of a.placed ≡ size_of b.placed → IsComparison (size_of a.placed) (HoldStored a) (HoldStored b) answer → SaysGoes a b (goes_of answer)
goes_says a b Included long h = record { size = long; cells = λ w all held. h w all (length-HoldCells a.order a.placed w held) held }
goes_says a b (Missing cells) long h = record { size = long; cells = h.0; held = h.2; apart = h.3 }
goes_says a b TooLarge long h = tt

pub zeros_says : (a : Stored) (answer : Inclusion) → IsComparison (size_of a.placed) (AreBytesBelow 1) (HoldStored a) answer → SaysFromZeros a (zeros_from answer)
zeros_says a Included h =
    let n : ℕ = size_of a.placed in
    let bytes = zeros_bytes n in
    (bytes_hold_values a (zeros_of a) bytes).0 (h (map some (zeros_of a)) (AreCells-bytes (zeros_of a) bytes) (zeros_length n) (zeros_below n))
zeros_says a (Missing cells) h = λ value.
    let n : ℕ = size_of a.placed in
    let bytes = zeros_bytes n in
    h.3 (subst (HoldStored a) (sym (below_zeros n cells.items h.1 h.2)) ((bytes_hold_values a (zeros_of a) bytes).1 value))
zeros_says a TooLarge h = tt

pub from_says : (a : Stored) → IsComparison (size_of a.placed) (AreBytesBelow 256) (HoldStored a) Included → (b : List ℕ) → AreBytes b → length b ≡ size_of a.placed → HoldValue a b
from_says a h b all len =
    let cells = AreCells-bytes b all in
    (bytes_hold_values a b all).0 (h (map some b) cells (length-map_some b ∙ len) (set_below (map some b) cells (AreSet-bytes b)))

pub from_none : (a : Stored) (cells : List Cell) (b : List ℕ) → AreCells cells → length cells ≡ size_of a.placed → AreBytesBelow 256 cells → (HoldStored a cells → ⊥) → b ≡ map byte_in cells → HoldNothing a b
from_none a cells b all len below apart is =
    let set = below_set cells below in
    let same : map some b ≡ cells = ap (map some) is ∙ set_again cells set in
    let found = bytes_of cells all set in
    let bytes : AreBytes b = bytes_same b found.0 (same ∙ found.1) found.2 in
    record {
      bytes = bytes;
      size = sym (length-map_some b) ∙ ap length same ∙ len;
      none = λ value. apart (subst (HoldStored a) same ((bytes_hold_values a b bytes).1 value));
    }

pub into_says : (a : Stored) (answer : Inclusion) → IsComparison (size_of a.placed) (HoldStored a) (AreBytesBelow 256) answer → SaysIntoBytes a (into_of answer)
into_says a Included h = λ w all held. below_set w (h w all (length-HoldCells a.order a.placed w held) held)
into_says a (Missing cells) h = record { cells = h.0; held = h.2; left = λ set. h.3 (set_below cells.items h.0 set) }
into_says a TooLarge h = tt

-- a size under another name
pub other_size : (a b : Stored) (n m : ℕ) → n ≡ size_of a.placed → m ≡ size_of b.placed → n ≢ m → size_of a.placed ≢ size_of b.placed
other_size a b n m e f other same = other (e ∙ same ∙ sym f)

-- ---- pointers

pub pointer_other : (shape : Shape) → ((s : Scalar) → shape ≡ Number s → ⊥) → false ≡ is_pointer_node shape
pointer_other (Number s) other = absurd (other s refl)
pointer_other (Pair first second) other = refl
pointer_other (Never mark) other = refl
pointer_other (Elements count element) other = refl
pointer_other (Fields mark children) other = refl
pointer_other (UnionOf mark children) other = refl
pointer_other (Vector lanes) other = refl
pointer_other (Single mark children) other = refl
pointer_other (Tagged mark tag variants) other = refl
pointer_other (States prefix tag states) other = refl

pub pointer_from : (ns : List Node) (i : ℕ) (d : Node) → i < length ns → has_pointer_node (drop i ns) ≡ (is_pointer_node (get_or ns i d).shape || has_pointer_node (drop (i + 1) ns))
pointer_from ns i d lt = ap has_pointer_node (drop_more ns i d lt)

pub pointer_end : (ns : List Node) (i : ℕ) → length ns ≤ i → has_pointer_node (drop i ns) ≡ false
pointer_end ns i le = ap has_pointer_node (drop_all i ns le)

-- ---- bytes of cells

pub bytes_push : (w : List Cell) (i : ℕ) (d : Cell) (bytes new : List ℕ) (b : ℕ) → i < length w → bytes ≡ map byte_in (take i w) → b ≡ byte_in (get_or w i d) → new ≡ bytes ++ b ∷ [] → new ≡ map byte_in (take (i + 1) w)
bytes_push w i d bytes new b lt is here e =
    e ∙ ap (λ xs. xs ++ b ∷ []) is ∙ ap (λ x. map byte_in (take i w) ++ x ∷ []) here ∙ sym (ap (map byte_in) (take_more w i d lt) ∙ map-append byte_in (take i w) (get_or w i d ∷ []))

-- ---- as they are found

pub some_of : {X : Type 0} → (found : Option X) (x : X) (P : X → Type 0) → found ≡ Some x → IfSome found P → P x
some_of found x P is h = subst (λ o. IfSome o P) is h

pub goes_found : (a b : Stored) (s0 s1 s2 : List Formula) (f g n m : ℕ) (answer : Inclusion) → n ≡ size_of a.placed → m ≡ size_of b.placed → n ≡ m →
    IsFormula s0 s1 (size_of a.placed) (HoldCells a.order a.placed) f → IsFormula s1 s2 (size_of b.placed) (HoldCells b.order b.placed) g →
    IsInclusion (formula_in s2 f) (formula_in s2 g) n answer → SaysGoes a b (goes_of answer)
goes_found a b s0 s1 s2 f g n m answer is_n is_m same one two h =
    let long : size_of a.placed ≡ size_of b.placed = sym is_n ∙ same ∙ is_m in
    goes_says a b answer long (comparison s0 s1 s2 f g (size_of a.placed) (HoldStored a) (HoldStored b) answer one
    (sized s1 s2 g (size_of b.placed) (size_of a.placed) (HoldStored b) (sym long) two) (subst (λ k. IsInclusion (formula_in s2 f) (formula_in s2 g) k answer) is_n h))

module _ (a : Stored) (s0 s1 s2 : List Formula) (f g n : ℕ) (answer : Inclusion) (is_n : n ≡ size_of a.placed) (two : IsFormula s1 s2 (size_of a.placed) (HoldCells a.order a.placed) g) where
  pub bytes_found : (end : ℕ) → IsFormula s0 s1 n (AreBytesBelow end) f → IsInclusion (formula_in s2 f) (formula_in s2 g) n answer →
      IsComparison (size_of a.placed) (AreBytesBelow end) (HoldStored a) answer
  bytes_found end one h =
      comparison s0 s1 s2 f g (size_of a.placed) (AreBytesBelow end) (HoldStored a) answer (sized s0 s1 f n (size_of a.placed) (AreBytesBelow end) is_n one) two
      (subst (λ k. IsInclusion (formula_in s2 f) (formula_in s2 g) k answer) is_n h)

  pub zeros_found : IsFormula s0 s1 n (AreBytesBelow 1) f → IsInclusion (formula_in s2 f) (formula_in s2 g) n answer → SaysFromZeros a (zeros_from answer)
  zeros_found one h = zeros_says a answer (bytes_found 1 one h)

  pub into_found : IsFormula s0 s1 n (AreBytesBelow 256) f → IsInclusion (formula_in s2 g) (formula_in s2 f) n answer → SaysIntoBytes a (into_of answer)
  into_found one h =
      into_says a answer (comparison_back s0 s1 s2 f g (size_of a.placed) (AreBytesBelow 256) (HoldStored a) answer (sized s0 s1 f n (size_of a.placed) (AreBytesBelow 256) is_n one) two
      (subst (λ k. IsInclusion (formula_in s2 g) (formula_in s2 f) k answer) is_n h))
