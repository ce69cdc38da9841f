-- The formula of a node, by what it consists of.
use Rattle.std.proofs.Common.{◌≡◌, ◌↔◌, ℕ, ◌<◌, List, [], ◌∷◌, All, length, get_or, arith, refl}
use Rattle.std.specs.Prelude.{◌&&◌, Vec, true, nat_lt}
use Rattle.std.specs.List.{list_all}
use Rattle.std.specs.declared.alloc.Global.{Global}
use Rattle.std.proofs.lemmas.Bool.{and_parts, ltb-true}
use Rattle.automata.specs.Cell.{Cell}
use Rattle.automata.specs.Formula.{Formula, any, never as never_read}
use Rattle.automata.specs.Formulas.{IsMade}
use Rattle.abi_base.specs.declared.endian.Endian.{Endian}
use Rattle.abi_scalar.specs.Shape.{listed_offsets}
use Rattle.abi_scalar.specs.declared.scalar.Scalar.{Scalar}
use Rattle.abi_scalar.specs.declared.variants.TagEncoding.{TagEncoding}
use Rattle.abi_scalar.specs.declared.variants.TagEncoding.TheVariants.{Direct}
use Rattle.abi_tree.specs.declared.mark.Mark.{Mark}
use Rattle.abi_tree.specs.declared.node.Node.{Node}
use Rattle.abi_tree.specs.declared.node.Shape.TheVariants.{Scalar as Number, Pair, Never, Elements, Fields, Union, Vector, Single, Tagged, States}
use Rattle.abi_tree.specs.Nodes.{encoding_of, parts_at, parts_at_0, placed_at, state_tag_offset, states_in, tag_offset, tagged_variants_in, types_in, variant_left}
use Rattle.abi_tree.specs.Placed.{Placed, Parts, scalar, pair, never, elements, vector, fields, union, single, tagged, size_of}
use Rattle.abi_tree.specs.Well.{all_at, are_nodes}
use Rattle.abi_tree.proofs.Meaning.NodesLemmas.{placed_at-node}
use Rattle.abi_tree.proofs.Places.DataPlacesLemmas.{all_before, variants_before}
use Rattle.abi_bytes.specs.Holding.{AreEach, AreTwoNumbers, HoldCells, HoldCellsOfParts, HoldCellsOfVariant, HoldScalar, HoldTag, IsList}
use Rattle.abi_bytes.specs.Formulas.{HoldAt, HoldSomeVariant, IsFormula}
use Rattle.abi_bytes.proofs.FirstLemmas.{made_any, made_never}
use Rattle.abi_bytes.proofs.NodeLemmas.{node_made}
use Rattle.abi_bytes.proofs.VariantLemmas.{variant_there}

-- some variant among all of them
some_variant : (order : Endian) (encoding : TagEncoding ℕ) (offset n : ℕ) (done : List Placed) (vs : List (ℕ × ℕ)) (u : List Cell) →
    (HoldSomeVariant order encoding offset n (tagged_variants_in done vs) 0 (length vs) u
    ↔ ((i : ℕ) × HoldTag order encoding offset n (tagged_variants_in done vs) i u × HoldCellsOfVariant order (tagged_variants_in done vs) i u))
some_variant order encoding offset n done vs u = (
  λ h. (h.0, h.3.0, h.3.1),
  λ h. (h.0, omega arith, variant_there order done vs h.0 u h.2, (h.1, h.2)),
)

module _ (order : Endian) (s0 s1 : List Formula) (k : ℕ) (ns : List Node) (well : are_nodes 0 ns ≡ true) (i : ℕ) (n : Node) (lt : i < length ns) (at : n ≡ get_or ns i n) where
  abbrev IsDone : Type 0
  IsDone = IsFormula s0 s1 (size_of (placed_at ns i)) (HoldCells order (placed_at ns i)) k

  abbrev listed : List ℕ → Parts
  listed cs = parts_at (listed_offsets n.layout.fields) (all_at ns cs)

  pub scalar_kind : (s : Scalar) → n.shape ≡ Number s → IsFormula s0 s1 n.layout.size (HoldScalar order n.layout.size s) k → IsDone
  scalar_kind s e made =
      node_made order s0 s1 (placed_at ns i) (scalar n.layout s) k n.layout.size (HoldScalar order n.layout.size s) (placed_at-node ns well i n (Number s) lt at e).1 refl
      (λ u len. (λ h. (len, h), λ h. h.1)) made

  pub pair_named : (first second : ℕ) → n.shape ≡ Pair first second → (first < i) × (second < i)
  pair_named first second e =
      let both = and_parts (nat_lt first i) (nat_lt second i) (placed_at-node ns well i n (Pair first second) lt at e).0 in
      (ltb-true first i both.0, ltb-true second i both.1)

  pub pair_kind : (first second : ℕ) → n.shape ≡ Pair first second →
      IsFormula s0 s1 n.layout.size (λ w. AreTwoNumbers (listed (first ∷ second ∷ [])) × HoldCellsOfParts order (listed (first ∷ second ∷ [])) w) k → IsDone
  pair_kind first second e made =
      node_made order s0 s1 (placed_at ns i) (pair n.layout (listed (first ∷ second ∷ []))) k n.layout.size
      (λ w. AreTwoNumbers (listed (first ∷ second ∷ [])) × HoldCellsOfParts order (listed (first ∷ second ∷ [])) w)
      (placed_at-node ns well i n (Pair first second) lt at e).1 refl (λ u len. (λ h. (len, h.0, h.1), λ h. (h.1, h.2))) made

  pub never_kind : (mark : Mark) → n.shape ≡ Never mark → IsMade s0 s1 never_read k → IsDone
  never_kind mark e made =
      node_made order s0 s1 (placed_at ns i) (never n.layout mark) k n.layout.size (λ w. ⊥) (placed_at-node ns well i n (Never mark) lt at e).1 refl
      (λ u len. (λ h. h, λ h. h)) (made_never s0 s1 n.layout.size k (λ w. ⊥) (λ u all len h. h) made)

  pub elements_named : (count element : ℕ) → n.shape ≡ Elements count element → element < i
  elements_named count element e = ltb-true element i (placed_at-node ns well i n (Elements count element) lt at e).0

  pub elements_kind : (count element z : ℕ) → n.shape ≡ Elements count element → z ≡ n.layout.size →
      IsFormula s0 s1 z (AreEach (HoldCells order (placed_at ns element)) count (size_of (placed_at ns element)) 0) k → IsDone
  elements_kind count element z e long made =
      node_made order s0 s1 (placed_at ns i) (elements n.layout count (placed_at ns element)) k z
      (AreEach (HoldCells order (placed_at ns element)) count (size_of (placed_at ns element)) 0)
      (placed_at-node ns well i n (Elements count element) lt at e).1 long (λ u len. (λ h. (len, h), λ h. h.1)) made

  pub fields_named : (mark : Mark) (children : Vec ℕ Global) → n.shape ≡ Fields mark children → All (λ child. child < i) children.items
  fields_named mark children e = all_before i children.items (placed_at-node ns well i n (Fields mark children) lt at e).0

  pub fields_kind : (mark : Mark) (children : Vec ℕ Global) → n.shape ≡ Fields mark children → IsFormula s0 s1 n.layout.size (HoldCellsOfParts order (listed children.items)) k → IsDone
  fields_kind mark children e made =
      node_made order s0 s1 (placed_at ns i) (fields n.layout mark (listed children.items)) k n.layout.size (HoldCellsOfParts order (listed children.items))
      (placed_at-node ns well i n (Fields mark children) lt at e).1 refl (λ u len. (λ h. (len, h), λ h. h.1)) made

  pub union_kind : (mark : Mark) (children : Vec ℕ Global) → n.shape ≡ Union mark children → IsMade s0 s1 any k → IsDone
  union_kind mark children e made =
      let p : Placed = union n.layout mark (parts_at_0 (all_at ns children.items)) in
      node_made order s0 s1 (placed_at ns i) p k n.layout.size (HoldCells order p) (placed_at-node ns well i n (Union mark children) lt at e).1 refl
      (λ u len. (λ h. h, λ h. h)) (made_any s0 s1 n.layout.size k (HoldCells order p) (λ u all len. len) made)

  pub vector_named : (lanes : ℕ) → n.shape ≡ Vector lanes → lanes < i
  vector_named lanes e = ltb-true lanes i (placed_at-node ns well i n (Vector lanes) lt at e).0

  pub vector_kind : (lanes z : ℕ) → n.shape ≡ Vector lanes → z ≡ n.layout.size → IsFormula s0 s1 z (λ w. IsList (placed_at ns lanes) × HoldAt order ns 0 lanes w) k → IsDone
  vector_kind lanes z e long made =
      node_made order s0 s1 (placed_at ns i) (vector n.layout (placed_at ns lanes)) k z (λ w. IsList (placed_at ns lanes) × HoldAt order ns 0 lanes w)
      (placed_at-node ns well i n (Vector lanes) lt at e).1 long (λ u len. (λ h. (len, h.0, h.1), λ h. (h.1, h.2))) made

  pub single_named : (mark : Mark) (children : Vec ℕ Global) → n.shape ≡ Single mark children → All (λ child. child < i) children.items
  single_named mark children e = all_before i children.items (placed_at-node ns well i n (Single mark children) lt at e).0

  pub single_kind : (mark : Mark) (children : Vec ℕ Global) → n.shape ≡ Single mark children → IsFormula s0 s1 n.layout.size (HoldCellsOfParts order (listed children.items)) k → IsDone
  single_kind mark children e made =
      node_made order s0 s1 (placed_at ns i) (single n.layout mark (variant_left n.layout.variants) (listed children.items)) k n.layout.size (HoldCellsOfParts order (listed children.items))
      (placed_at-node ns well i n (Single mark children) lt at e).1 refl (λ u len. (λ h. (len, h), λ h. h.1)) made

  pub tagged_named : (mark : Mark) (tag : ℕ) (variants : Vec (ℕ × ℕ) Global) → n.shape ≡ Tagged mark tag variants → (tag < i) × All (λ v. v.1 < i) variants.items
  tagged_named mark tag variants e =
      let both = and_parts (nat_lt tag i) (list_all (λ v. nat_lt v.1 i) variants.items) (placed_at-node ns well i n (Tagged mark tag variants) lt at e).0 in
      (ltb-true tag i both.0, variants_before i variants.items both.1)

  pub tagged_kind : (mark : Mark) (tag : ℕ) (variants : Vec (ℕ × ℕ) Global) → n.shape ≡ Tagged mark tag variants →
      IsFormula s0 s1 n.layout.size (HoldSomeVariant order (encoding_of n.layout.variants) (tag_offset n.layout) (size_of (placed_at ns tag))
      (tagged_variants_in (types_in ns) variants.items) 0 (length variants.items)) k → IsDone
  tagged_kind mark tag variants e made =
      let encoding : TagEncoding ℕ = encoding_of n.layout.variants in
      let same = some_variant order encoding (tag_offset n.layout) (size_of (placed_at ns tag)) (types_in ns) variants.items in
      node_made order s0 s1 (placed_at ns i) (tagged n.layout mark (tag_offset n.layout) (placed_at ns tag) encoding (tagged_variants_in (types_in ns) variants.items)) k n.layout.size
      (HoldSomeVariant order encoding (tag_offset n.layout) (size_of (placed_at ns tag)) (tagged_variants_in (types_in ns) variants.items) 0 (length variants.items))
      (placed_at-node ns well i n (Tagged mark tag variants) lt at e).1 refl
      (λ u len. (λ h. let x = (same u).0 h in (len, x.0, x.1, x.2), λ h. (same u).1 (h.1, h.2, h.3))) made

  pub states_named : (prefix : Vec ℕ Global) (tag : ℕ) (all : Vec (ℕ × ℕ) Global) → n.shape ≡ States prefix tag all →
      All (λ child. child < i) prefix.items × (tag < i) × All (λ v. v.1 < i) all.items
  states_named prefix tag all e =
      let both = and_parts (list_all (λ child. nat_lt child i) prefix.items) (nat_lt tag i && list_all (λ v. nat_lt v.1 i) all.items) (placed_at-node ns well i n (States prefix tag all) lt at e).0 in
      let beside = and_parts (nat_lt tag i) (list_all (λ v. nat_lt v.1 i) all.items) both.1 in
      (all_before i prefix.items both.0, ltb-true tag i beside.0, variants_before i all.items beside.1)

  pub states_kind : (prefix : Vec ℕ Global) (tag : ℕ) (all : Vec (ℕ × ℕ) Global) → n.shape ≡ States prefix tag all →
      IsFormula s0 s1 n.layout.size (λ w. HoldCellsOfParts order (listed prefix.items) w
      × HoldSomeVariant order Direct (state_tag_offset n.layout (length prefix.items)) (size_of (placed_at ns tag)) (tagged_variants_in (types_in ns) all.items) 0 (length all.items) w) k → IsDone
  states_kind prefix tag all e made =
      let same = some_variant order Direct (state_tag_offset n.layout (length prefix.items)) (size_of (placed_at ns tag)) (types_in ns) all.items in
      node_made order s0 s1 (placed_at ns i) (states_in (types_in ns) n.layout prefix.items tag all.items) k n.layout.size
      (λ w. HoldCellsOfParts order (listed prefix.items) w
      × HoldSomeVariant order Direct (state_tag_offset n.layout (length prefix.items)) (size_of (placed_at ns tag)) (tagged_variants_in (types_in ns) all.items) 0 (length all.items) w)
      (placed_at-node ns well i n (States prefix tag all) lt at e).1 refl
      (λ u len. (λ h. let x = (same u).0 h.1 in (len, h.0, x.0, x.1, x.2), λ h. (h.1, (same u).1 (h.2, h.3, h.4)))) made
