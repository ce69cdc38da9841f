-- Bytes that are marked one by one: those of numbers at offsets, and what they leave.
use Rattle.std.proofs.Common.{◌≡◌, ◌≢◌, ℕ, zero, suc, ◌+◌, ◌-◌, ◌<◌, ◌≤◌, ⊎_elim, List, [], ◌∷◌, ◌++◌, Bool, true, false, None, Option, Some, length, get_or, set, take, min, replicate, length-set, arith, refl, sym, ap, ◌∙◌}
use Rattle.std.specs.Prelude.{◌&&◌, ◌||◌, nat_le, nat_lt, not, Vec}
use Rattle.std.specs.declared.alloc.Global.{Global}
use Rattle.std.proofs.Math.Bool.{and-false, or-false, or-true}
use Rattle.std.proofs.lemmas.Bool.{cases_eq}
use Rattle.std.proofs.lemmas.Bool.Decides.{nat_tests}
use Rattle.std.proofs.lemmas.List.{get_or-set_other, get_or-set_same, length-take-le, take_more}
use Rattle.abi_index.specs.RangeSet.{is_in_run, is_in_ranges}
use Rattle.abi_scalar.specs.Shape.{listed_offsets}
use Rattle.abi_scalar.specs.declared.scalar.Scalar.{Scalar}
use Rattle.abi_tree.specs.declared.mark.Mark.{Mark}
use Rattle.abi_tree.specs.declared.node.Shape.TheVariants.{Scalar as Number, Fields}
use Rattle.abi_tree.specs.declared.node.Node.{Node}
use Rattle.abi_tree.specs.declared.node.NodeRef.{NodeRef}
use Rattle.abi_tree.specs.Placed.{Placed, nothing}
use Rattle.abi_tree.specs.Places.{is_data_place, is_place_of_part}
use Rattle.abi_tree.specs.Nodes.{lent_node, parts_at, placed_at}
use Rattle.abi_tree.specs.Room.{has_room}
use Rattle.abi_tree.specs.Runs.{is_padding_of}
use Rattle.abi_tree.specs.Well.{all_at}
use Rattle.abi_tree.specs.Needed.{AreNeeded}
use Rattle.abi_tree.proofs.Places.DataPlacesLemmas.{fields_node, scalar_node}
use Rattle.abi_tree.proofs.Places.NeededLemmas.{or_assoc}

-- ---- a run

step_other : (o at k : ℕ) → o ≤ at → k ≢ at → is_in_run k (o, at - o) ≡ is_in_run k (o, at + 1 - o)
step_other o at k le other = grind (arith, nat_tests, le, other)

step_same : (o at : ℕ) → o ≤ at → is_in_run at (o, at + 1 - o) ≡ true
step_same o at le = grind (arith, nat_tests, le)

run_moved : (o size k : ℕ) → is_in_run k (o, size) ≡ (nat_le o k && nat_lt (k - o) size)
run_moved o size k = grind (arith, nat_tests)

-- the marks, and a run's from one byte up to another
abbrev pub MarksRun : (old new : List Bool) → (from to : ℕ) → Type 0
MarksRun old new from to = (length new ≡ length old) × ((k : ℕ) → get_or new k false ≡ (get_or old k false || is_in_run k (from, to - from)))

pub run_none : (old : List Bool) (o : ℕ) → MarksRun old old o o
run_none old o = (
  refl,
  λ k.
      let none : is_in_run k (o, o - o) ≡ false = grind (arith, nat_tests) in
      sym (ap (λ b. get_or old k false || b) none ∙ or-false (get_or old k false)),
)

pub run_next : (old now : List Bool) (o at : ℕ) → o ≤ at → at < length now → MarksRun old now o at → MarksRun old (set now at true) o (at + 1)
run_next old now o at le lt marks = (
  length-set now at true ∙ marks.0,
  λ k.
      ⊎_elim
      (λ (here : k ≡ at).
      ap (λ i. get_or (set now at true) i false) here ∙ get_or-set_same now at true false lt
      ∙ sym (ap (λ b. get_or old k false || b) (ap (λ i. is_in_run i (o, at + 1 - o)) here ∙ step_same o at le) ∙ or-true (get_or old k false)))
      (λ (other : k ≢ at). get_or-set_other now at k true false other ∙ marks.1 k ∙ ap (λ b. get_or old k false || b) (step_other o at k le other))
      (cases_eq k at),
)

-- no byte is marked at first
pub none_marked : (n k : ℕ) → get_or (replicate n false) k false ≡ false
none_marked zero k = refl
none_marked (suc n) zero = refl
none_marked (suc n) (suc k) = none_marked n k

-- ---- fields, each at its offset

place_of-push : (os : List ℕ) (ps : List Placed) (o : ℕ) (p : Placed) (k : ℕ) → length os ≡ length ps →
    is_place_of_part (parts_at (os ++ o ∷ []) (ps ++ p ∷ [])) k ≡ (is_place_of_part (parts_at os ps) k || (nat_le o k && is_data_place p (k - o)))
place_of-push [] [] o p k same = or-false (nat_le o k && is_data_place p (k - o))
place_of-push [] (q ∷ ps) o p k same = absurd (omega arith)
place_of-push (r ∷ os) [] o p k same = absurd (omega arith)
place_of-push (r ∷ os) (q ∷ ps) o p k same =
    ap (λ b. (nat_le r k && is_data_place q (k - r)) || b) (place_of-push os ps o p k (omega arith))
    ∙ sym (or_assoc (nat_le r k && is_data_place q (k - r)) (is_place_of_part (parts_at os ps) k) (nat_le o k && is_data_place p (k - o)))

-- the marks, and those of fields
abbrev pub MarksParts : (old new : List Bool) → (os : List ℕ) → List Placed → Type 0
MarksParts old new os ps = (k : ℕ) → get_or new k false ≡ (get_or old k false || is_place_of_part (parts_at os ps) k)

pub parts_none : (old : List Bool) (os : List ℕ) (ps : List Placed) → MarksParts old old (take 0 os) (take 0 ps)
parts_none old os ps = λ k. sym (or-false (get_or old k false))

pub parts_next : (old now new : List Bool) (os : List ℕ) (ps : List Placed) (i size : ℕ) → i < length os → i < length ps → MarksParts old now (take i os) (take i ps) →
    ((k : ℕ) → get_or new k false ≡ (get_or now k false || is_in_run k (get_or os i 0, size))) → ((k : ℕ) → is_data_place (get_or ps i nothing) k ≡ nat_lt k size) →
    MarksParts old new (take (i + 1) os) (take (i + 1) ps)
parts_next old now new os ps i size lt below before run number = λ k.
    let o : ℕ = get_or os i 0 in
    let p : Placed = get_or ps i nothing in
    let first : Bool = is_place_of_part (parts_at (take i os) (take i ps)) k in
    let here : is_in_run k (o, size) ≡ (nat_le o k && is_data_place p (k - o)) = run_moved o size k ∙ ap (λ b. nat_le o k && b) (sym (number (k - o))) in
    let long : length (take i os) ≡ length (take i ps) = length-take-le i os (omega (arith, lt)) ∙ sym (length-take-le i ps (omega (arith, below))) in
    let all : is_place_of_part (parts_at (take (i + 1) os) (take (i + 1) ps)) k ≡ (first || (nat_le o k && is_data_place p (k - o))) =
    ap (λ xs. is_place_of_part (parts_at xs (take (i + 1) ps)) k) (take_more os i 0 lt)
    ∙ ap (λ xs. is_place_of_part (parts_at (take i os ++ o ∷ []) xs) k) (take_more ps i nothing below) ∙ place_of-push (take i os) (take i ps) o p k long in
    run k ∙ ap (λ b. b || is_in_run k (o, size)) (before k) ∙ or_assoc (get_or old k false) first (is_in_run k (o, size))
    ∙ ap (λ b. get_or old k false || b) (ap (λ b. first || b) here ∙ sym all)

pub parts_all : (os : List ℕ) (ps : List Placed) (n k : ℕ) → n ≡ min (length os) (length ps) → is_place_of_part (parts_at (take n os) (take n ps)) k ≡ is_place_of_part (parts_at os ps) k
parts_all [] ps n k e = let none : n ≡ 0 = omega arith in ap (λ m. is_place_of_part (parts_at (take m []) (take m ps)) k) none
parts_all (o ∷ os) [] n k e = let none : n ≡ 0 = omega arith in ap (λ m. is_place_of_part (parts_at (take m (o ∷ os)) (take m [])) k) none
parts_all (o ∷ os) (p ∷ ps) zero k e = absurd (omega arith)
parts_all (o ∷ os) (p ∷ ps) (suc n) k e = ap (λ b. (nat_le o k && is_data_place p (k - o)) || b) (parts_all os ps n k (omega arith))

-- ---- what is kept

module _ (ns : List Node) (kept : List (Option NodeRef)) (needed : AreNeeded ns kept) (place : ℕ) (n : NodeRef) (below : place < length kept) (here : get_or kept place None ≡ Some n) where
  in_nodes : place < length ns
  in_nodes = omega (arith, below, needed.long)

  own : (lent_node n ≡ get_or ns place (lent_node n)) × (has_room (placed_at ns place) ≡ true)
  own = needed.own place n here

  -- a number has all its bytes
  pub number_places : (s : Scalar) (size : ℕ) → n.shape.now ≡ Number s → size ≡ n.layout.now.size → (k : ℕ) → is_data_place (placed_at ns place) k ≡ nat_lt k size
  number_places s size shape same k =
      ap (λ p. is_data_place p k) (scalar_node ns needed.well place (lent_node n) in_nodes own.0 own.1 s shape) ∙ ap (nat_lt k) (sym same)

  -- what the marks of fields leave is padding
  pub padding_left : (mark : Mark) (children : Vec ℕ Global) (os cs : List ℕ) (old marks : List Bool) (size : ℕ) (left : List (ℕ × ℕ)) → n.shape.now ≡ Fields mark children →
      os ≡ listed_offsets n.layout.now.fields → cs ≡ children.items → size ≡ n.layout.now.size → ((k : ℕ) → get_or old k false ≡ false) → MarksParts old marks os (all_at ns cs) →
      ((k : ℕ) → is_in_ranges left k ≡ (nat_lt k size && not (get_or marks k false))) → (k : ℕ) → is_in_ranges left k ≡ is_padding_of (placed_at ns place) k
  padding_left mark children os cs old marks size left shape lie are same none marked leaves k =
      let all : List ℕ = listed_offsets n.layout.now.fields in
      leaves k ∙ ap (λ b. nat_lt k size && not b) (marked k ∙ ap (λ b. b || is_place_of_part (parts_at os (all_at ns cs)) k) (none k))
      ∙ ap (λ xs. nat_lt k size && not (is_place_of_part (parts_at xs (all_at ns cs)) k)) lie ∙ ap (λ xs. nat_lt k size && not (is_place_of_part (parts_at all (all_at ns xs)) k)) are
      ∙ ap (λ m. nat_lt k m && not (is_place_of_part (parts_at all (all_at ns children.items)) k)) same
      ∙ ap (λ p. is_padding_of p k) (sym (fields_node ns needed.well place (lent_node n) in_nodes own.0 own.1 mark children shape).1)

-- ---- what is left

-- the bytes below one that aren't marked
abbrev pub LeavesBelow : List (ℕ × ℕ) → List Bool → (end : ℕ) → Type 0
LeavesBelow left marks end = (k : ℕ) → is_in_ranges left k ≡ (nat_lt k end && not (get_or marks k false))

below_same : (at k : ℕ) → k ≢ at → nat_lt k at ≡ nat_lt k (at + 1)
below_same at k other = grind (arith, nat_tests, other)

pub left_none : (left : List (ℕ × ℕ)) (marks : List Bool) → left ≡ [] → LeavesBelow left marks 0
left_none left marks empty = λ k.
    let none : nat_lt k 0 ≡ false = grind (arith, nat_tests) in
    ap (λ rs. is_in_ranges rs k) empty ∙ sym (ap (λ b. b && not (get_or marks k false)) none)

pub left_marked : (left : List (ℕ × ℕ)) (marks : List Bool) (at : ℕ) → get_or marks at false ≡ true → LeavesBelow left marks at → LeavesBelow left marks (at + 1)
left_marked left marks at mark before = λ k.
    before k
    ∙ ⊎_elim
    (λ (here : k ≡ at).
    let gone : not (get_or marks k false) ≡ false = ap (λ i. not (get_or marks i false)) here ∙ ap not mark in
    ap (λ b. nat_lt k at && b) gone ∙ and-false (nat_lt k at) ∙ sym (ap (λ b. nat_lt k (at + 1) && b) gone ∙ and-false (nat_lt k (at + 1))))
    (λ (other : k ≢ at). ap (λ b. b && not (get_or marks k false)) (below_same at k other))
    (cases_eq k at)

pub left_unmarked : (old new : List (ℕ × ℕ)) (marks : List Bool) (at : ℕ) → get_or marks at false ≡ false → LeavesBelow old marks at →
    ((k : ℕ) → is_in_ranges new k ≡ (is_in_run k (at, 1) || is_in_ranges old k)) → LeavesBelow new marks (at + 1)
left_unmarked old new marks at mark before adds = λ k.
    adds k
    ∙ ⊎_elim
    (λ (here : k ≡ at).
    let in_one : is_in_run k (at, 1) ≡ true = grind (arith, nat_tests, here) in
    let under : nat_lt k (at + 1) ≡ true = grind (arith, nat_tests, here) in
    let there : not (get_or marks k false) ≡ true = ap (λ i. not (get_or marks i false)) here ∙ ap not mark in
    ap (λ b. b || is_in_ranges old k) in_one ∙ sym (ap (λ b. b && not (get_or marks k false)) under ∙ there))
    (λ (other : k ≢ at).
    let outside : is_in_run k (at, 1) ≡ false = grind (arith, nat_tests, other) in
    ap (λ b. b || is_in_ranges old k) outside ∙ before k ∙ ap (λ b. b && not (get_or marks k false)) (below_same at k other))
    (cases_eq k at)
