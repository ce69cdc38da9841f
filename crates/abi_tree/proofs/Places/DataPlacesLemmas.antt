-- What each kind of node has of data places.
use Rattle.std.proofs.Common.{◌≡◌, ℕ, zero, suc, ◌+◌, ◌*◌, ◌<◌, ◌≤◌, List, [], ◌∷◌, Bool, true, false, length, get_or, arith, refl, sym, ap, ◌∙◌, subst, All}
use Rattle.std.specs.Prelude.{◌==◌, ◌&&◌, ◌||◌, nat_le, nat_lt}
use Rattle.std.specs.List.{list_all}
use Rattle.std.proofs.lemmas.Bool.{ltb-true, leb-true, eqb-true, and_parts}
use Rattle.std.proofs.lemmas.List.{length-map, get_or-map}
use Rattle.std.proofs.lemmas.List.Elements.{All-nil, All-cons}
use Rattle.abi_scalar.specs.declared.scalar.Scalar.{Scalar}
use Rattle.abi_tree.specs.declared.node.Shape.{Shape}
use Rattle.abi_tree.specs.declared.node.Shape.TheVariants.{Scalar as Number, Pair, Never, Elements, Fields, Union, Vector, Single, Tagged, States}
use Rattle.abi_tree.specs.declared.node.Node.{Node}
use Rattle.std.specs.Prelude.{Vec}
use Rattle.std.specs.declared.alloc.Global.{Global}
use Rattle.abi_scalar.specs.Shape.{listed_offsets}
use Rattle.abi_tree.specs.declared.mark.Mark.{Mark}
use Rattle.abi_tree.specs.Placed.{Placed, scalar, pair, never, elements, vector, fields, union, single, tagged, size_of, no_parts, nothing}
use Rattle.abi_scalar.specs.Layout.{Layout}
use Rattle.abi_tree.specs.Places.{is_data_place}
use Rattle.abi_tree.specs.Nodes.{parts_at, parts_at_0, placed_in, placed_at, types_in, tagged_variants_in, own_fields, variant_left, meaning, tag_offset, encoding_of, states_in}
use Rattle.abi_tree.specs.Room.{has_room, have_room, tagged_variants_have_room}
use Rattle.abi_tree.specs.Well.{are_nodes, all_at}
use Rattle.abi_index.specs.RangeSet.{AreMaximalRuns, is_in_ranges}
use Rattle.abi_tree.proofs.Meaning.NodesLemmas.{placed_at-node, pair_before}
use Rattle.abi_tree.proofs.Places.RoomLemmas.{within_room, room_at, ends_inside}

pub all_before : (i : ℕ) (cs : List ℕ) → list_all (λ child. nat_lt child i) cs ≡ true → All (λ child. child < i) cs
all_before i [] h = All-nil (λ child. child < i)
all_before i (c ∷ cs) h =
    let both = and_parts (nat_lt c i) (list_all (λ child. nat_lt child i) cs) h in
    All-cons (λ child. child < i) c cs (ltb-true c i both.0) (all_before i cs both.1)

pub variants_before : (i : ℕ) (vs : List (ℕ × ℕ)) → list_all (λ v. nat_lt v.1 i) vs ≡ true → All (λ v. v.1 < i) vs
variants_before i [] h = All-nil (λ v. v.1 < i)
variants_before i (v ∷ vs) h =
    let both = and_parts (nat_lt v.1 i) (list_all (λ v. nat_lt v.1 i) vs) h in
    All-cons (λ v. v.1 < i) v vs (ltb-true v.1 i both.0) (variants_before i vs both.1)

module _ (ns : List Node) (well : are_nodes 0 ns ≡ true) (i : ℕ) (n : Node) (lt : i < length ns) (at : n ≡ get_or ns i n) (room : has_room (placed_at ns i) ≡ true) where
  pub scalar_node : (s : Scalar) → n.shape ≡ Number s → placed_at ns i ≡ scalar n.layout s
  scalar_node s e = (placed_at-node ns well i n (Number s) lt at e).1

  pub never_node : (mark : Mark) → n.shape ≡ Never mark → placed_at ns i ≡ never n.layout mark
  never_node mark e = (placed_at-node ns well i n (Never mark) lt at e).1

  pub elements_node : (count element : ℕ) → n.shape ≡ Elements count element →
      (element < i) × (placed_at ns i ≡ elements n.layout count (placed_at ns element)) × (n.layout.size ≡ size_of (placed_at ns element) * count)
      × (has_room (placed_at ns element) ≡ true)
  elements_node count element e =
      let is = placed_at-node ns well i n (Elements count element) lt at e in
      let both = and_parts (n.layout.size == size_of (placed_at ns element) * count) (has_room (placed_at ns element)) (ap has_room (sym is.1) ∙ room) in
      (ltb-true element i is.0, is.1, eqb-true n.layout.size (size_of (placed_at ns element) * count) both.0, both.1)

  pub fields_node : (mark : Mark) (children : Vec ℕ Global) → n.shape ≡ Fields mark children →
      All (λ child. child < i) children.items × (placed_at ns i ≡ fields n.layout mark (parts_at (listed_offsets n.layout.fields) (all_at ns children.items)))
      × (have_room n.layout.size (parts_at (listed_offsets n.layout.fields) (all_at ns children.items)) ≡ true)
  fields_node mark children e =
      let is = placed_at-node ns well i n (Fields mark children) lt at e in
      (all_before i children.items is.0, is.1, ap has_room (sym is.1) ∙ room)

  pub union_node : (mark : Mark) (children : Vec ℕ Global) → n.shape ≡ Union mark children →
      All (λ child. child < i) children.items × (placed_at ns i ≡ union n.layout mark (parts_at_0 (all_at ns children.items)))
      × (have_room n.layout.size (parts_at_0 (all_at ns children.items)) ≡ true)
  union_node mark children e =
      let is = placed_at-node ns well i n (Union mark children) lt at e in
      (all_before i children.items is.0, is.1, ap has_room (sym is.1) ∙ room)

  pub vector_node : (lanes : ℕ) → n.shape ≡ Vector lanes → (lanes < i) × (placed_at ns i ≡ vector n.layout (placed_at ns lanes)) × (has_room (placed_at ns lanes) ≡ true)
  vector_node lanes e =
      let is = placed_at-node ns well i n (Vector lanes) lt at e in
      let both = and_parts (nat_le (size_of (placed_at ns lanes)) n.layout.size) (has_room (placed_at ns lanes)) (ap has_room (sym is.1) ∙ room) in
      (ltb-true lanes i is.0, is.1, both.1)

  pub pair_node : (first second : ℕ) → n.shape ≡ Pair first second →
      All (λ child. child < i) (first ∷ second ∷ []) × (placed_at ns i ≡ pair n.layout (parts_at (listed_offsets n.layout.fields) (all_at ns (first ∷ second ∷ []))))
      × (have_room n.layout.size (parts_at (listed_offsets n.layout.fields) (all_at ns (first ∷ second ∷ []))) ≡ true)
  pair_node first second e =
      let is = placed_at-node ns well i n (Pair first second) lt at e in
      (all_before i (first ∷ second ∷ []) (pair_before i first second is.0), is.1, ap has_room (sym is.1) ∙ room)

  -- the fields of the one variant that is left
  pub single_node : (mark : Mark) (children : Vec ℕ Global) → n.shape ≡ Single mark children →
      All (λ child. child < i) children.items
      × (placed_at ns i ≡ single n.layout mark (variant_left n.layout.variants) (parts_at (listed_offsets n.layout.fields) (all_at ns children.items)))
      × (have_room n.layout.size (parts_at (listed_offsets n.layout.fields) (all_at ns children.items)) ≡ true)
  single_node mark children e =
      let is = placed_at-node ns well i n (Single mark children) lt at e in
      (all_before i children.items is.0, is.1, ap has_room (sym is.1) ∙ room)

  -- the tag and the variants beside it: all come before the node and end inside it
  pub tagged_node : (mark : Mark) (tag : ℕ) (variants : Vec (ℕ × ℕ) Global) → n.shape ≡ Tagged mark tag variants →
      (tag < i) × All (λ v. v.1 < i) variants.items
      × (placed_at ns i ≡ tagged n.layout mark (tag_offset n.layout) (placed_at ns tag) (encoding_of n.layout.variants) (tagged_variants_in (types_in ns) variants.items))
      × (tag_offset n.layout + size_of (placed_at ns tag) ≤ n.layout.size) × (has_room (placed_at ns tag) ≡ true)
      × (tagged_variants_have_room n.layout.size (tagged_variants_in (types_in ns) variants.items) ≡ true)
  tagged_node mark tag variants e =
      let is = placed_at-node ns well i n (Tagged mark tag variants) lt at e in
      let before = and_parts (nat_lt tag i) (list_all (λ v. nat_lt v.1 i) variants.items) is.0 in
      let fits = nat_le (tag_offset n.layout + size_of (placed_at ns tag)) n.layout.size in
      let both = and_parts (fits && has_room (placed_at ns tag)) (tagged_variants_have_room n.layout.size (tagged_variants_in (types_in ns) variants.items)) (ap has_room (sym is.1) ∙ room) in
      let of_tag = and_parts fits (has_room (placed_at ns tag)) both.0 in
      (ltb-true tag i before.0, variants_before i variants.items before.1, is.1, leb-true (tag_offset n.layout + size_of (placed_at ns tag)) n.layout.size of_tag.0, of_tag.1, both.1)

  -- prefix fields, the tag and the states beside it: all come before the node and end inside it
  pub states_node : (prefix : Vec ℕ Global) (tag : ℕ) (all : Vec (ℕ × ℕ) Global) → n.shape ≡ States prefix tag all →
      All (λ child. child < i) prefix.items × (tag < i) × All (λ v. v.1 < i) all.items
      × (placed_at ns i ≡ states_in (types_in ns) n.layout prefix.items tag all.items) × (has_room (states_in (types_in ns) n.layout prefix.items tag all.items) ≡ true)
  states_node prefix tag all e =
      let is = placed_at-node ns well i n (States prefix tag all) lt at e in
      let both = and_parts (list_all (λ child. nat_lt child i) prefix.items) (nat_lt tag i && list_all (λ v. nat_lt v.1 i) all.items) is.0 in
      let beside = and_parts (nat_lt tag i) (list_all (λ v. nat_lt v.1 i) all.items) both.1 in
      (all_before i prefix.items both.0, ltb-true tag i beside.0, variants_before i all.items beside.1, is.1, ap has_room (sym is.1) ∙ room)

pub own_fields_none : (done : List Placed) (layout : Layout) (shape : Shape) → ((mark : Mark) (children : Vec ℕ Global) → shape ≡ Fields mark children → ⊥) → own_fields (meaning done layout shape) ≡ no_parts
own_fields_none done layout (Number s) other = refl
own_fields_none done layout (Pair first second) other = refl
own_fields_none done layout (Never mark) other = refl
own_fields_none done layout (Elements count element) other = refl
own_fields_none done layout (Fields mark children) other = absurd (other mark children refl)
own_fields_none done layout (Union mark children) other = refl
own_fields_none done layout (Vector lanes) other = refl
own_fields_none done layout (Single mark children) other = refl
own_fields_none done layout (Tagged mark tag variants) other = refl
own_fields_none done layout (States prefix tag all) other = refl

module _ (ns : List Node) (well : are_nodes 0 ns ≡ true) (i : ℕ) (n : Node) (lt : i < length ns) (at : n ≡ get_or ns i n) where
  -- a variant's own fields are those of its node
  pub own_fields_node : (mark : Mark) (children : Vec ℕ Global) → n.shape ≡ Fields mark children →
      All (λ child. child < i) children.items × (own_fields (placed_at ns i) ≡ parts_at (listed_offsets n.layout.fields) (all_at ns children.items))
  own_fields_node mark children e =
      let is = placed_at-node ns well i n (Fields mark children) lt at e in
      (all_before i children.items is.0, ap own_fields is.1)

  -- a node of another kind has no fields of a variant
  pub own_fields_other : ((mark : Mark) (children : Vec ℕ Global) → n.shape ≡ Fields mark children → ⊥) → own_fields (placed_at ns i) ≡ no_parts
  own_fields_other other = ap own_fields (placed_at-node ns well i n n.shape lt at refl).1 ∙ own_fields_none (types_in ns) n.layout n.shape other

-- runs of a type's places end inside it
pub runs_inside : (placed : Placed) (runs : List (ℕ × ℕ)) → has_room placed ≡ true → AreMaximalRuns 0 runs → ((k : ℕ) → is_in_ranges runs k ≡ is_data_place placed k) →
    All (λ run. run.0 + run.1 ≤ size_of placed) runs
runs_inside placed runs room maximal same = ends_inside 0 (size_of placed) runs maximal (λ k h. within_room placed k room (sym (same k) ∙ h))

-- the order in which tests are joined doesn't count
pub or_shift : (a b c : Bool) → (a || (b || c)) ≡ ((a || b) || c)
or_shift true b c = refl
or_shift false b c = refl

-- the n-th field: it comes before the node, ends inside it, and so do its own parts
module _ (ns : List Node) (os children : List ℕ) (n : ℕ) (lt : n < length os) (below : n < length children) where
  child_at : get_or (all_at ns children) n nothing ≡ placed_at ns (get_or children n 0)
  child_at = get_or-map (placed_at ns) children n 0 nothing below

  as_many : n < length (all_at ns children)
  as_many = omega (arith, below, length-map children (placed_at ns))

  pub field_at : (size node : ℕ) → All (λ child. child < node) children → have_room size (parts_at os (all_at ns children)) ≡ true →
      (get_or children n 0 < node) × (get_or os n 0 + size_of (placed_at ns (get_or children n 0)) ≤ size) × (has_room (placed_at ns (get_or children n 0)) ≡ true)
  field_at size node before room =
      let at = room_at size os (all_at ns children) n room lt as_many in
      (before n 0 below, subst (λ p. get_or os n 0 + size_of p ≤ size) child_at at.0, subst (λ p. has_room p ≡ true) child_at at.1)

-- the n-th variant's fields end inside
pub tagged_variant_room : (size : ℕ) (done : List Placed) (vs : List (ℕ × ℕ)) (n : ℕ) (d : ℕ × ℕ) → tagged_variants_have_room size (tagged_variants_in done vs) ≡ true → n < length vs →
    have_room size (own_fields (placed_in done (get_or vs n d).1)) ≡ true
tagged_variant_room size done [] n d room lt = absurd (omega arith)
tagged_variant_room size done (v ∷ vs) zero d room lt = (and_parts (have_room size (own_fields (placed_in done v.1))) (tagged_variants_have_room size (tagged_variants_in done vs)) room).0
tagged_variant_room size done (v ∷ vs) (suc n) d room lt =
    tagged_variant_room size done vs n d (and_parts (have_room size (own_fields (placed_in done v.1))) (tagged_variants_have_room size (tagged_variants_in done vs)) room).1 (omega arith)
