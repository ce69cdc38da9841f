-- Why cells don't hold a node, by what it consists of.
use Rattle.std.proofs.Common.{None, Some, ◌≡◌, ◌⊎◌, ℕ, ◌+◌, ◌*◌, ◌<◌, ◌≤◌, List, [], length, get_or, true, refl, sym, ap, ◌∙◌, subst, ⊎_elim}
use Rattle.std.specs.Prelude.{◌&&◌, Option, Vec, nat_le}
use Rattle.std.specs.declared.alloc.Global.{Global}
use Rattle.std.proofs.lemmas.Bool.{and_parts, leb-true}
use Rattle.automata.specs.Cell.{Cell}
use Rattle.abi_base.specs.declared.endian.Endian.{Endian}
use Rattle.abi_scalar.specs.Layout.{Layout}
use Rattle.abi_scalar.specs.Shape.{listed_offsets}
use Rattle.abi_scalar.specs.declared.scalar.Scalar.{Scalar}
use Rattle.abi_scalar.specs.declared.variants.TagEncoding.{TagEncoding}
use Rattle.abi_scalar.specs.declared.variants.TagEncoding.TheVariants.{Direct}
use Rattle.abi_tree.specs.declared.mark.Mark.{Mark}
use Rattle.abi_tree.specs.declared.node.Node.{Node}
use Rattle.abi_tree.specs.declared.node.Shape.TheVariants.{Scalar as Number, Never, Elements, Fields, Union, Vector, Single, Tagged, States}
use Rattle.abi_tree.specs.Nodes.{encoding_of, parts_at, parts_at_0, placed_at, state_tag_offset, states_in, tag_offset, tagged_variants_in, types_in, variant_left}
use Rattle.abi_tree.specs.Placed.{Placed, Parts, TaggedVariants, scalar, never, elements, vector, fields, union, single, tagged, size_of}
use Rattle.abi_tree.specs.Room.{has_room, have_room, tagged_variants_have_room}
use Rattle.abi_tree.specs.Well.{all_at, are_nodes}
use Rattle.abi_tree.proofs.Meaning.NodesLemmas.{layout_of-placed_at, placed_at-node}
use Rattle.abi_tree.proofs.Places.DataPlacesLemmas.{elements_node, fields_node, never_node, scalar_node, single_node, states_node, tagged_node, union_node, vector_node}
use Rattle.abi_bytes.specs.Holding.{AreEach, HoldCells, HoldCellsOfParts, HoldScalar, cells_at}
use Rattle.abi_bytes.specs.NotHeld.{IsWhyNumber, IsWrong}
use Rattle.abi_bytes.specs.WrongParts.{HoldBeside, IsWrongBeside, IsWrongElement, IsWrongIn, Judges}
use Rattle.abi_bytes.specs.declared.not_held.NotHeld.{NotHeld}
use Rattle.abi_bytes.specs.declared.not_held.Why.{Why}
use Rattle.abi_bytes.specs.declared.not_held.Why.TheVariants.{NoValue}
use Rattle.abi_bytes.specs.declared.not_held.WrongPart.{WrongPart}
use Rattle.abi_bytes.proofs.WrongLemmas.{judged_like, length-at}

-- a node's size is that of its layout
pub size-node : (ns : List Node) (i : ℕ) (n : Node) → i < length ns → n ≡ get_or ns i n → size_of (placed_at ns i) ≡ n.layout.size
size-node ns i n lt at = ap (λ l. l.size) (layout_of-placed_at ns i n lt) ∙ ap (λ (m : Node). m.layout.size) (sym at)

-- a vector's lanes end inside it
pub lanes-inside : (ns : List Node) (well : are_nodes 0 ns ≡ true) (i : ℕ) (n : Node) → i < length ns → n ≡ get_or ns i n → has_room (placed_at ns i) ≡ true → (lanes : ℕ) → n.shape ≡ Vector lanes →
    size_of (placed_at ns lanes) ≤ n.layout.size
lanes-inside ns well i n lt at room lanes e =
    let is = placed_at-node ns well i n (Vector lanes) lt at e in
    let both = and_parts (nat_le (size_of (placed_at ns lanes)) n.layout.size) (has_room (placed_at ns lanes)) (ap has_room (sym is.1) ∙ room) in
    leb-true (size_of (placed_at ns lanes)) n.layout.size both.0

-- the prefix fields, the tag and the states of a coroutine end inside it
pub states-inside : (ns : List Node) (layout : Layout) (prefix : List ℕ) (tag : ℕ) (all : List (ℕ × ℕ)) → has_room (states_in (types_in ns) layout prefix tag all) ≡ true →
    (have_room layout.size (parts_at (listed_offsets layout.fields) (all_at ns prefix)) ≡ true) × (tagged_variants_have_room layout.size (tagged_variants_in (types_in ns) all) ≡ true)
    × (state_tag_offset layout (length prefix) + size_of (placed_at ns tag) ≤ layout.size)
states-inside ns layout prefix tag all room =
    let end : ℕ = state_tag_offset layout (length prefix) + size_of (placed_at ns tag) in
    let variants = tagged_variants_have_room layout.size (tagged_variants_in (types_in ns) all) in
    let both = and_parts (have_room layout.size (parts_at (listed_offsets layout.fields) (all_at ns prefix))) ((nat_le end layout.size && has_room (placed_at ns tag)) && variants) room in
    let beside = and_parts (nat_le end layout.size && has_room (placed_at ns tag)) variants both.1 in
    let of_tag = and_parts (nat_le end layout.size) (has_room (placed_at ns tag)) beside.0 in
    (both.0, beside.1, leb-true end layout.size of_tag.0)

module _ (order : Endian) (w : List Cell) (at : ℕ) where
  -- what a tag and the variants beside it are judged by
  abbrev pub JudgesBeside : TagEncoding ℕ → TaggedVariants → (offset n size : ℕ) → Option NotHeld → Type 0
  JudgesBeside encoding variants offset n size found =
      Judges (HoldBeside order encoding variants offset n (cells_at w at size)) (IsWrongBeside order w encoding variants at offset n) found

  -- the same under other names
  pub beside_like : (encoding f : TagEncoding ℕ) (done : List Placed) (vs us : List (ℕ × ℕ)) (o p n m s z : ℕ) (found : Option NotHeld) → encoding ≡ f → vs ≡ us → o ≡ p → n ≡ m → s ≡ z →
      JudgesBeside encoding (tagged_variants_in done vs) o n s found → JudgesBeside f (tagged_variants_in done us) p m z found
  beside_like encoding f done vs us o p n m s z found e1 e2 e3 e4 e5 h =
      subst (λ x. JudgesBeside x (tagged_variants_in done us) p m z found) e1
      (subst (λ x. JudgesBeside encoding (tagged_variants_in done x) p m z found) e2
      (subst (λ x. JudgesBeside encoding (tagged_variants_in done vs) x m z found) e3
      (subst (λ x. JudgesBeside encoding (tagged_variants_in done vs) o x z found) e4
      (subst (λ x. JudgesBeside encoding (tagged_variants_in done vs) o n x found) e5 h))))

  module _ (ns : List Node) where
    -- what fields are judged by
    abbrev pub JudgesParts : (variant : Option ℕ) → (os cs : List ℕ) → (size : ℕ) → Option NotHeld → Type 0
    JudgesParts variant os cs size found =
        Judges (HoldCellsOfParts order (parts_at os (all_at ns cs)) (cells_at w at size)) (IsWrongIn order w variant (parts_at os (all_at ns cs)) at) found

    pub parts_like : (variant : Option ℕ) (os us cs ds : List ℕ) (s z : ℕ) (found : Option NotHeld) → os ≡ us → cs ≡ ds → s ≡ z → JudgesParts variant os cs s found → JudgesParts variant us ds z found
    parts_like variant os us cs ds s z found e1 e2 e3 h =
        subst (λ x. JudgesParts variant x ds z found) e1 (subst (λ x. JudgesParts variant os x z found) e2 (subst (λ x. JudgesParts variant os cs x found) e3 h))

    -- what a coroutine is
    abbrev pub JudgesStates : (os cs : List ℕ) (vs : List (ℕ × ℕ)) (offset n size : ℕ) → Option NotHeld → Type 0
    JudgesStates os cs vs offset n size found =
        Judges
        (HoldCellsOfParts order (parts_at os (all_at ns cs)) (cells_at w at size) × HoldBeside order Direct (tagged_variants_in (types_in ns) vs) offset n (cells_at w at size))
        (λ way wrong. IsWrongIn order w None (parts_at os (all_at ns cs)) at way wrong ⊎ (HoldCellsOfParts order (parts_at os (all_at ns cs)) (cells_at w at size) × IsWrongBeside order w Direct (tagged_variants_in (types_in ns) vs) at offset n way wrong))
        found

    pub states_like : (os us cs ds : List ℕ) (vs xs : List (ℕ × ℕ)) (o p n m s z : ℕ) (found : Option NotHeld) → os ≡ us → cs ≡ ds → vs ≡ xs → o ≡ p → n ≡ m → s ≡ z →
        JudgesStates os cs vs o n s found → JudgesStates us ds xs p m z found
    states_like os us cs ds vs xs o p n m s z found e1 e2 e3 e4 e5 e6 h =
        subst (λ x. JudgesStates x ds xs p m z found) e1
        (subst (λ x. JudgesStates os x xs p m z found) e2
        (subst (λ x. JudgesStates os cs x p m z found) e3
        (subst (λ x. JudgesStates os cs vs x m z found) e4
        (subst (λ x. JudgesStates os cs vs o x z found) e5
        (subst (λ x. JudgesStates os cs vs o n x found) e6 h)))))

  module _ (ns : List Node) (well : are_nodes 0 ns ≡ true) (i : ℕ) (n : Node) (lt : i < length ns) (is : n ≡ get_or ns i n) (room : has_room (placed_at ns i) ≡ true) (fits : at + size_of (placed_at ns i) ≤ length w) where
    abbrev JudgesType : Placed → Option NotHeld → Type 0
    JudgesType p found = Judges (HoldCells order p (cells_at w at (size_of p))) (IsWrong order w p at) found

    abbrev IsJudged : Option NotHeld → Type 0
    IsJudged found = JudgesType (placed_at ns i) found

    abbrev listed : List ℕ → Parts
    listed cs = parts_at (listed_offsets n.layout.fields) (all_at ns cs)

    abbrev own_cells : List Cell
    own_cells = cells_at w at n.layout.size

    pub node_judged : (p : Placed) → placed_at ns i ≡ p → (found : Option NotHeld) → JudgesType p found → IsJudged found
    node_judged p e found h = subst (λ x. JudgesType x found) (sym e) h

    pub size-fits : at + n.layout.size ≤ length w
    size-fits = subst (λ m. at + m ≤ length w) (size-node ns i n lt is) fits

    long : length own_cells ≡ n.layout.size
    long = length-at w at n.layout.size size-fits

    pub scalar_judged : (s : Scalar) → n.shape ≡ Number s → (z : ℕ) → z ≡ n.layout.size → HoldScalar order z s (cells_at w at z) → IsJudged None
    scalar_judged s e z same h =
        node_judged (scalar n.layout s) (scalar_node ns well i n lt is room s e) None (long, subst (λ m. HoldScalar order m s (cells_at w at m)) same h)

    pub scalar_wrong : (s : Scalar) → n.shape ≡ Number s → (z : ℕ) (why : Why) (f : NotHeld) → z ≡ n.layout.size → f.way.items ≡ [] → f.part ≡ record { start = at; size = z; why = why } →
        (HoldScalar order z s (cells_at w at z) → ⊥) × IsWhyNumber order w s at z why → IsJudged (Some f)
    scalar_wrong s e z why f same way part h =
        let p : Placed = scalar n.layout s in
        let of : WrongPart = record { start = at; size = z; why = why } in
        node_judged p (scalar_node ns well i n lt is room s e) (Some f) (
          λ x. h.0 (subst (λ m. HoldScalar order m s (cells_at w at m)) (sym same) x.1),
          subst (λ y. IsWrong order w p at y f.part) (sym way)
              (subst (IsWrong order w p at []) (sym part) ((refl, same), subst (λ m. IsWhyNumber order w s at m why) same h.1)),
        )

    pub never_judged : (mark : Mark) → n.shape ≡ Never mark → (z : ℕ) (f : NotHeld) → z ≡ n.layout.size → f.way.items ≡ [] → f.part ≡ record { start = at; size = z; why = NoValue } → IsJudged (Some f)
    never_judged mark e z f same way part =
        let p : Placed = never n.layout mark in
        node_judged p (never_node ns well i n lt is room mark e) (Some f) (
          λ h. h,
          subst (λ y. IsWrong order w p at y f.part) (sym way) (subst (IsWrong order w p at []) (sym part) ((refl, same), refl, λ u h. h)),
        )

    pub union_judged : (mark : Mark) (children : Vec ℕ Global) → n.shape ≡ Union mark children → IsJudged None
    union_judged mark children e =
        node_judged (union n.layout mark (parts_at_0 (all_at ns children.items))) (union_node ns well i n lt is room mark children e).1 None long

    pub elements_judged : (count element : ℕ) → n.shape ≡ Elements count element → (found : Option NotHeld) →
        Judges (AreEach (HoldCells order (placed_at ns element)) count (size_of (placed_at ns element)) 0 (cells_at w at (size_of (placed_at ns element) * count)))
        (IsWrongElement order w (placed_at ns element) at count) found → IsJudged found
    elements_judged count element e found h =
        let facts = elements_node ns well i n lt is room count element e in
        let q : Placed = placed_at ns element in
        let p : Placed = elements n.layout count q in
        let each : ℕ → Type 0 = λ m. AreEach (HoldCells order q) count (size_of q) 0 (cells_at w at m) in
        node_judged p facts.1 found
        (judged_like (each (size_of q * count)) (HoldCells order p own_cells) (IsWrongElement order w q at count) (IsWrong order w p at) found
        (λ x. (long, subst each (sym facts.2) x)) (λ x. subst each facts.2 x.1)
        (λ way wrong y. subst (λ v. IsWrong order w p at v wrong) (sym y.2) (y.3, y.4, y.5)) h)

    pub vector_judged : (lanes : ℕ) → n.shape ≡ Vector lanes → (z : ℕ) → z ≡ n.layout.size → (found : Option NotHeld) →
        ((layout : Layout) → layout.size ≡ z → Judges (HoldCells order (vector layout (placed_at ns lanes)) (cells_at w at z)) (IsWrong order w (vector layout (placed_at ns lanes)) at) found) → IsJudged found
    vector_judged lanes e z same found h =
        let p : Placed = vector n.layout (placed_at ns lanes) in
        node_judged p (vector_node ns well i n lt is room lanes e).1 found
        (subst (λ m. Judges (HoldCells order p (cells_at w at m)) (IsWrong order w p at) found) same (h n.layout (sym same)))

    pub fields_judged : (mark : Mark) (children : Vec ℕ Global) → n.shape ≡ Fields mark children → (found : Option NotHeld) →
        Judges (HoldCellsOfParts order (listed children.items) own_cells) (IsWrongIn order w None (listed children.items) at) found → IsJudged found
    fields_judged mark children e found h =
        let p : Placed = fields n.layout mark (listed children.items) in
        node_judged p (fields_node ns well i n lt is room mark children e).1 found
        (judged_like (HoldCellsOfParts order (listed children.items) own_cells) (HoldCells order p own_cells) (IsWrongIn order w None (listed children.items) at) (IsWrong order w p at) found
        (λ x. (long, x)) (λ x. x.1) (λ way wrong y. subst (λ v. IsWrong order w p at v wrong) (sym y.2) y.3) h)

    pub single_judged : (mark : Mark) (children : Vec ℕ Global) → n.shape ≡ Single mark children → (v : ℕ) → v ≡ variant_left n.layout.variants → (found : Option NotHeld) →
        Judges (HoldCellsOfParts order (listed children.items) own_cells) (IsWrongIn order w (Some v) (listed children.items) at) found → IsJudged found
    single_judged mark children e v left found h =
        let p : Placed = single n.layout mark (variant_left n.layout.variants) (listed children.items) in
        node_judged p (single_node ns well i n lt is room mark children e).1 found
        (judged_like (HoldCellsOfParts order (listed children.items) own_cells) (HoldCells order p own_cells) (IsWrongIn order w (Some v) (listed children.items) at) (IsWrong order w p at) found
        (λ x. (long, x)) (λ x. x.1) (λ way wrong y. subst (λ u. IsWrong order w p at u wrong) (sym y.2) (left, y.3)) h)

    pub tagged_judged : (mark : Mark) (tag : ℕ) (variants : Vec (ℕ × ℕ) Global) → n.shape ≡ Tagged mark tag variants → (found : Option NotHeld) →
        JudgesBeside (encoding_of n.layout.variants) (tagged_variants_in (types_in ns) variants.items) (tag_offset n.layout) (size_of (placed_at ns tag)) n.layout.size found → IsJudged found
    tagged_judged mark tag variants e found h =
        let encoding : TagEncoding ℕ = encoding_of n.layout.variants in
        let vs : TaggedVariants = tagged_variants_in (types_in ns) variants.items in
        let p : Placed = tagged n.layout mark (tag_offset n.layout) (placed_at ns tag) encoding vs in
        node_judged p (tagged_node ns well i n lt is room mark tag variants e).2 found
        (judged_like (HoldBeside order encoding vs (tag_offset n.layout) (size_of (placed_at ns tag)) own_cells) (HoldCells order p own_cells)
        (IsWrongBeside order w encoding vs at (tag_offset n.layout) (size_of (placed_at ns tag))) (IsWrong order w p at) found
        (λ x. (long, x.0, x.1, x.2)) (λ x. (x.1, x.2, x.3))
        (λ way wrong y.
        ⊎_elim
        (λ t. subst (λ u. IsWrong order w p at u wrong) (sym t.0) (refl, t.1, t.2))
        (λ t. subst (λ u. IsWrong order w p at u wrong) (sym t.3) (t.4, t.5)) y) h)

    pub states_judged : (prefix : Vec ℕ Global) (tag : ℕ) (all : Vec (ℕ × ℕ) Global) → n.shape ≡ States prefix tag all → (found : Option NotHeld) →
        Judges
        (HoldCellsOfParts order (listed prefix.items) own_cells
        × HoldBeside order Direct (tagged_variants_in (types_in ns) all.items) (state_tag_offset n.layout (length prefix.items)) (size_of (placed_at ns tag)) own_cells)
        (λ way wrong. IsWrongIn order w None (listed prefix.items) at way wrong
        ⊎ (HoldCellsOfParts order (listed prefix.items) own_cells × IsWrongBeside order w Direct (tagged_variants_in (types_in ns) all.items) at (state_tag_offset n.layout (length prefix.items)) (size_of (placed_at ns tag)) way wrong)) found → IsJudged found
    states_judged prefix tag all e found h =
        let vs : TaggedVariants = tagged_variants_in (types_in ns) all.items in
        let o : ℕ = state_tag_offset n.layout (length prefix.items) in
        let z : ℕ = size_of (placed_at ns tag) in
        let p : Placed = states_in (types_in ns) n.layout prefix.items tag all.items in
        node_judged p (states_node ns well i n lt is room prefix tag all e).3 found
        (judged_like (HoldCellsOfParts order (listed prefix.items) own_cells × HoldBeside order Direct vs o z own_cells) (HoldCells order p own_cells)
        (λ way wrong. IsWrongIn order w None (listed prefix.items) at way wrong ⊎ (HoldCellsOfParts order (listed prefix.items) own_cells × IsWrongBeside order w Direct vs at o z way wrong)) (IsWrong order w p at) found
        (λ x. (long, x.0, x.1.0, x.1.1, x.1.2)) (λ x. (x.1, (x.2, x.3, x.4)))
        (λ way wrong y.
        ⊎_elim
        (λ t. subst (λ u. IsWrong order w p at u wrong) (sym t.2) t.3)
        (λ b.
        ⊎_elim
        (λ t. subst (λ u. IsWrong order w p at u wrong) (sym t.0) (b.0, refl, t.1, t.2))
        (λ t. subst (λ u. IsWrong order w p at u wrong) (sym t.3) (b.0, t.4, t.5)) b.1) y) h)
