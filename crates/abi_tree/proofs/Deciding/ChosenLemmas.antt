-- What a walk that puts a covering value knows of the nodes that it comes to.
use Rattle.std.proofs.Common.{◌≡◌, ℕ, zero, suc, ◌+◌, ◌<◌, ◌≤◌, true, false, Option, Some, None, List, [], ◌∷◌, ◌++◌, length, get_or, map, take, All, arith, refl, sym, ◌∙◌, subst, ⊎_elim}
use Rattle.std.specs.Prelude.{◌&&◌, ◌==◌, nat_le}
use Rattle.std.specs.List.{list_all}
use Rattle.std.proofs.lemmas.Bool.{and_parts, cases_lt, eq-eqb, leb-true, or_cases, or_left, or_right}
use Rattle.std.proofs.lemmas.List.{get_or_default, get_or_past, get_or-map, length-map}
use Rattle.std.proofs.lemmas.List.Elements.{All-cons, All-nil}
use Rattle.abi_index.specs.RangeSet.{is_in_ranges}
use Rattle.abi_scalar.specs.Shape.{listed_offsets}
use Rattle.abi_scalar.specs.Variant.{variants_of}
use Rattle.abi_tree.specs.declared.node.Node.{Node}
use Rattle.abi_tree.specs.declared.node.NodeRef.{NodeRef}
use Rattle.abi_tree.specs.Placed.{Placed, nothing, size_of}
use Rattle.abi_scalar.specs.Layout.{Layout}
use Rattle.abi_tree.specs.Places.{is_place_of_part}
use Rattle.abi_tree.specs.Nodes.{lent_node, own_fields, parts_at, placed_at, placed_in, types_in}
use Rattle.abi_tree.specs.Needed.{HaveSets, IsKept, IsMade, IsPartAt, is_among, named_by, placed_nodes}
use Rattle.abi_tree.specs.Typed.{variant_nodes}
use Rattle.abi_tree.specs.Laws.{has_fields, has_list, has_variants, have_lists, sizes_at}
use Rattle.abi_tree.specs.Room.{has_room, have_room}
use Rattle.abi_tree.specs.Well.{all_at}
use Rattle.abi_tree.proofs.Places.MadeLemmas.{listed_own}
use Rattle.abi_tree.proofs.Places.NeededLemmas.{laws_here, variants_listed}
use Rattle.abi_tree.proofs.Places.RoomLemmas.{room_at}

-- what is kept stands in the list
pub kept_below : (kept : List (Option NodeRef)) (i : ℕ) → IsKept kept i → i < length kept
kept_below kept i keeps =
    ⊎_elim (λ (lt : i < length kept). lt) (λ (past : length kept ≤ i). let clash : None ≡ Some keeps.0 = sym (get_or_past kept i None past) ∙ keeps.1 in absurd (cc)) (cases_lt i (length kept))

-- one of these places is among them
pub among_at : (places : List ℕ) (i : ℕ) → i < length places → is_among places (get_or places i 0) ≡ true
among_at [] i lt = absurd (omega arith)
among_at (p ∷ places) zero lt = or_left (p == p) (is_among places p) (eq-eqb p p refl)
among_at (p ∷ places) (suc i) lt = or_right (p == get_or places i 0) (is_among places (get_or places i 0)) (among_at places i (omega arith))

among_first : (places : List ℕ) (count i : ℕ) → i < count → i < length places → is_among (take count places) (get_or places i 0) ≡ true
among_first [] count i short lt = absurd (omega (arith, lt))
among_first (p ∷ places) zero i short lt = absurd (omega (arith, short))
among_first (p ∷ places) (suc count) zero short lt = or_left (p == p) (is_among (take count places) p) (eq-eqb p p refl)
among_first (p ∷ places) (suc count) (suc i) short lt = or_right (p == get_or places i 0) (is_among (take count places) (get_or places i 0)) (among_first places count i (omega (arith, short)) (omega (arith, lt)))

among_left : (xs ys : List ℕ) (j : ℕ) → is_among xs j ≡ true → is_among (xs ++ ys) j ≡ true
among_left [] ys j h = absurd (cc)
among_left (x ∷ xs) ys j h = ⊎_elim (λ here. or_left (x == j) (is_among (xs ++ ys) j) here) (λ later. or_right (x == j) (is_among (xs ++ ys) j) (among_left xs ys j later)) (or_cases (x == j) (is_among xs j) h)

among_right : (xs ys : List ℕ) (j : ℕ) → is_among ys j ≡ true → is_among (xs ++ ys) j ≡ true
among_right [] ys j h = h
among_right (x ∷ xs) ys j h = or_right (x == j) (is_among (xs ++ ys) j) (among_right xs ys j h)

module _ (ns : List Node) (kept : List (Option NodeRef)) (sets : List (List (ℕ × ℕ))) (have : HaveSets ns kept sets) (i : ℕ) (keeps : IsKept kept i) where
  pub kept_there : i < length ns
  kept_there = omega (arith, kept_below kept i keeps, have.needed.long)

  pub kept_room : has_room (placed_at ns i) ≡ true
  kept_room = (have.needed.own i keeps.0 keeps.1).1

  -- its set has its data places
  pub kept_set : IsMade (placed_at ns i) sets i
  kept_set = have.made.made i (kept_below kept i keeps) keeps

  module _ (n : Node) (at : n ≡ get_or ns i n) where
    same_node : lent_node keeps.0 ≡ n
    same_node = (have.needed.own i keeps.0 keeps.1).0 ∙ get_or_default ns i (lent_node keeps.0) n kept_there ∙ sym at

    -- the nodes whose data places are its own are kept, where it has bytes
    pub kept_named : 0 < n.layout.size → (j : ℕ) → is_among (named_by n.layout n.shape) j ≡ true → IsKept kept j
    kept_named some j among =
        have.needed.named i keeps.0 keeps.1 (subst (λ (m : Node). 0 < m.layout.size) (sym same_node) some) j
        (subst (λ (m : Node). is_among (named_by m.layout m.shape) j ≡ true) (sym same_node) among)

    -- and so are its variants, each of which is a list that is no larger
    pub kept_variants : (vs : List (ℕ × ℕ)) → variant_nodes n.shape ≡ map (λ v. v.1) vs → have_lists (types_in ns) (map (λ v. v.1) vs) ≡ true
    kept_variants vs is = subst (λ cs. have_lists (types_in ns) cs ≡ true) is (variants_listed ns have.needed.well have.needed.laws i n kept_there at)

    pub variant_sizes : (vs : List (ℕ × ℕ)) → variant_nodes n.shape ≡ map (λ v. v.1) vs → All (λ v. size_of (placed_at ns v.1) ≤ n.layout.size) vs
    variant_sizes vs is =
        let laws = laws_here ns have.needed.well have.needed.laws i n kept_there at in
        let both = and_parts (has_fields (types_in ns) n.layout n.shape) (has_variants (types_in ns) n.layout n.shape) laws in
        let cs : List ℕ = variant_nodes n.shape in
        let rest = and_parts (length (variants_of n.layout.variants) == length cs) (list_all (λ m. nat_le m n.layout.size) (sizes_at (types_in ns) cs) && have_lists (types_in ns) cs) both.1 in
        let sizes = (and_parts (list_all (λ m. nat_le m n.layout.size) (sizes_at (types_in ns) cs)) (have_lists (types_in ns) cs) rest.1).0 in
        each_size vs (subst (λ xs. list_all (λ m. nat_le m n.layout.size) (sizes_at (types_in ns) xs) ≡ true) is sizes)
      where
        each_size : (ws : List (ℕ × ℕ)) → list_all (λ m. nat_le m n.layout.size) (sizes_at (types_in ns) (map (λ v. v.1) ws)) ≡ true → All (λ v. size_of (placed_at ns v.1) ≤ n.layout.size) ws
        each_size [] h = All-nil (λ v. size_of (placed_at ns v.1) ≤ n.layout.size)
        each_size (w ∷ ws) h =
            let here = and_parts (nat_le (size_of (placed_at ns w.1)) n.layout.size) (list_all (λ m. nat_le m n.layout.size) (sizes_at (types_in ns) (map (λ v. v.1) ws))) h in
            All-cons (λ v. size_of (placed_at ns v.1) ≤ n.layout.size) w ws (leb-true (size_of (placed_at ns w.1)) n.layout.size here.0) (each_size ws here.1)

    -- its fields are parts that are kept, and end inside
    pub kept_parts : (cs : List ℕ) (whole at : ℕ) → 0 < n.layout.size → ((j : ℕ) → is_among (placed_nodes n.layout cs) j ≡ true → is_among (named_by n.layout n.shape) j ≡ true) → All (λ child. child < i) cs →
        have_room n.layout.size (parts_at (listed_offsets n.layout.fields) (all_at ns cs)) ≡ true → at + n.layout.size ≤ whole →
        (k : ℕ) → k < length (listed_offsets n.layout.fields) → k < length cs → IsPartAt ns kept i whole (at + get_or (listed_offsets n.layout.fields) k 0) (get_or cs k 0)
    kept_parts cs whole at some within before room fits k short below =
        let os : List ℕ = listed_offsets n.layout.fields in
        let child : get_or (all_at ns cs) k nothing ≡ placed_at ns (get_or cs k 0) = get_or-map (placed_at ns) cs k 0 nothing below in
        let inside = room_at n.layout.size os (all_at ns cs) k room short (omega (arith, below, length-map cs (placed_at ns))) in
        let ends : get_or os k 0 + size_of (placed_at ns (get_or cs k 0)) ≤ n.layout.size = subst (λ p. get_or os k 0 + size_of p ≤ n.layout.size) child inside.0 in
        (before k 0 below, kept_named some (get_or cs k 0) (within (get_or cs k 0) (among_first cs (length os) k short below)), omega (arith, ends, fits))

-- each variant of these is kept
pub all_kept : (kept : List (Option NodeRef)) (vs : List (ℕ × ℕ)) → ((j : ℕ) → is_among (map (λ v. v.1) vs) j ≡ true → IsKept kept j) → All (λ v. IsKept kept v.1) vs
all_kept kept vs h = λ k d lt. h (get_or vs k d).1 (among_variant vs k d lt)
  where
    among_variant : (ws : List (ℕ × ℕ)) (k : ℕ) (d : ℕ × ℕ) → k < length ws → is_among (map (λ v. v.1) ws) (get_or ws k d).1 ≡ true
    among_variant [] k d lt = absurd (omega arith)
    among_variant (w ∷ ws) zero d lt = or_left (w.1 == w.1) (is_among (map (λ v. v.1) ws) w.1) (eq-eqb w.1 w.1 refl)
    among_variant (w ∷ ws) (suc k) d lt = or_right (w.1 == (get_or ws k d).1) (is_among (map (λ v. v.1) ws) (get_or ws k d).1) (among_variant ws k d (omega arith))

pub among_tagged : (tag : ℕ) (vs : List (ℕ × ℕ)) (j : ℕ) → is_among (map (λ v. v.1) vs) j ≡ true → is_among (tag ∷ map (λ v. v.1) vs) j ≡ true
among_tagged tag vs j h = or_right (tag == j) (is_among (map (λ v. v.1) vs) j) h

pub among_prefix : (layout : Layout) (prefix : List ℕ) (tag : ℕ) (vs : List (ℕ × ℕ)) (j : ℕ) → is_among (placed_nodes layout prefix) j ≡ true → is_among (placed_nodes layout prefix ++ tag ∷ map (λ v. v.1) vs) j ≡ true
among_prefix layout prefix tag vs j h = among_left (placed_nodes layout prefix) (tag ∷ map (λ v. v.1) vs) j h

pub among_states : (layout : Layout) (prefix : List ℕ) (tag : ℕ) (vs : List (ℕ × ℕ)) (j : ℕ) → is_among (map (λ v. v.1) vs) j ≡ true → is_among (placed_nodes layout prefix ++ tag ∷ map (λ v. v.1) vs) j ≡ true
among_states layout prefix tag vs j h = among_right (placed_nodes layout prefix) (tag ∷ map (λ v. v.1) vs) j (among_tagged tag vs j h)

pub among_one : (j : ℕ) → is_among (j ∷ []) j ≡ true
among_one j = or_left (j == j) false (eq-eqb j j refl)

-- a variant's node is a list
pub list_at : (done : List Placed) (vs : List (ℕ × ℕ)) (i : ℕ) (d : ℕ × ℕ) → i < length vs → have_lists done (map (λ v. v.1) vs) ≡ true → has_list (placed_in done (get_or vs i d).1) ≡ true
list_at done [] i d lt h = absurd (omega arith)
list_at done (w ∷ ws) zero d lt h = (and_parts (has_list (placed_in done w.1)) (have_lists done (map (λ v. v.1) ws)) h).0
list_at done (w ∷ ws) (suc i) d lt h = list_at done ws i d (omega arith) (and_parts (has_list (placed_in done w.1)) (have_lists done (map (λ v. v.1) ws)) h).1

-- the set of a variant's node has the places of its fields
pub variant_set : (ns : List Node) (kept : List (Option NodeRef)) (sets : List (List (ℕ × ℕ))) → HaveSets ns kept sets → (vs : List (ℕ × ℕ)) → All (λ v. IsKept kept v.1) vs → have_lists (types_in ns) (map (λ v. v.1) vs) ≡ true →
    (i : ℕ) (d : ℕ × ℕ) → i < length vs → (k : ℕ) → is_in_ranges (get_or sets (get_or vs i d).1 []) k ≡ is_place_of_part (own_fields (placed_in (types_in ns) (get_or vs i d).1)) k
variant_set ns kept sets have vs keeps listed i d lt k =
    let j : ℕ = (get_or vs i d).1 in
    let own = kept_set ns kept sets have j (keeps i d lt) in
    own.1 k ∙ listed_own (placed_at ns j) (list_at (types_in ns) vs i d lt listed) k
