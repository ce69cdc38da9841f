-- The parts of a type, as they are put behind one another.
use Rattle.std.proofs.Common.{◌≡◌, ℕ, zero, suc, ◌+◌, ◌-◌, ◌<◌, ◌≤◌, List, [], ◌∷◌, ◌++◌, Bool, true, false, Option, None, Some, get_or, length, map, take, min, append_assoc, append-nil, arith, ap, refl, sym, ◌∙◌, subst, All}
use Rattle.std.specs.Prelude.{◌&&◌, ◌^◌, Vec, if◌then◌else◌, nat_le, nat_lt}
use Rattle.std.specs.declared.alloc.Global.{Global}
use Rattle.std.proofs.Math.Bool.{and-false}
use Rattle.std.proofs.Math.Path.{fun_ext}
use Rattle.std.proofs.lemmas.Bool.{false_from_ne_true, lt-ltb}
use Rattle.std.proofs.lemmas.List.{get_or-map, get_or-take, length-map, length-take, length-take-le, map-append, take_all, take_more}
use Rattle.std.proofs.lemmas.List.Elements.{All-head, All-nil}
use Rattle.abi_index.specs.RangeSet.{is_in_ranges}
use Rattle.abi_index.specs.Runs.{moved_to}
use Rattle.abi_scalar.specs.Layout.{Layout}
use Rattle.abi_scalar.specs.Shape.{listed_offsets}
use Rattle.abi_tree.specs.declared.mark.Mark.{Mark}
use Rattle.abi_tree.specs.declared.node.Node.{Node}
use Rattle.abi_tree.specs.declared.node.NodeRef.{NodeRef}
use Rattle.abi_tree.specs.declared.node.Shape.{Shape}
use Rattle.abi_tree.specs.declared.node.Shape.TheVariants.{Scalar, Pair, Fields, Union, Single, Tagged, States}
use Rattle.abi_tree.specs.declared.parts.PartBytes.{PartBytes}
use Rattle.abi_tree.specs.declared.parts.PartName.{PartName}
use Rattle.abi_tree.specs.Needed.{ArePartsMade, HaveSets, IsKept, IsMade, IsMadeOf, IsPartMade, is_among, named_by, numbered_nodes}
use Rattle.abi_tree.specs.Nodes.{tagged_variants_in, lent_node, meaning, own_fields, parts_at, placed_at, placed_in, state_tag_offset, tag_offset, types_in}
use Rattle.abi_tree.specs.Parts.{Part, all_parts, common_parts, field_name, field_parts, kept_part, parts_of_tagged_variants, placed_part, variant_parts}
use Rattle.abi_tree.specs.Placed.{Placed, no_parts, nothing, part, size_of}
use Rattle.abi_tree.specs.Places.{is_data_place}
use Rattle.abi_tree.specs.Room.{has_room, have_room}
use Rattle.abi_tree.proofs.Deciding.ChosenLemmas.{all_kept, among_states, among_tagged, kept_below}
use Rattle.abi_tree.proofs.Meaning.NodesLemmas.{layout_of-meaning}
use Rattle.abi_tree.proofs.Places.DataPlacesLemmas.{own_fields_none, runs_inside}
use Rattle.abi_tree.proofs.Places.MadeLemmas.{beside_tagged, states_parts}
use Rattle.abi_tree.proofs.Places.NeededLemmas.{among_own}
use Rattle.abi_tree.proofs.Places.RoomLemmas.{room_at, within_room}
use Rattle.abi_tree.proofs.Places.UnusedLemmas.{node_is_made}

-- a part of what has no bytes has none
pub bare_part : (types : List Placed) (done : List (List (ℕ × ℕ))) (size offset child : ℕ) → IsPartMade types done size offset child → size ≡ 0 → (k : ℕ) →
    false ≡ moved_to offset (is_data_place (placed_in types child)) k
bare_part types done size offset child made bare k =
    let p : Placed = placed_in types child in
    let none : is_data_place p (k - offset) ≡ false = false_from_ne_true (is_data_place p (k - offset)) (λ place. absurd (omega (arith, within_room p (k - offset) made.2 place, made.1, bare))) in
    sym (ap (λ b. nat_le offset k && b) none ∙ and-false (nat_le offset k))

-- its runs end where 64 bits can tell it
pub part_fits : (types : List Placed) (done : List (List (ℕ × ℕ))) (size offset child : ℕ) → IsPartMade types done size offset child → 0 < size → size < 2 ^ 64 →
    All (λ run. offset + (run.0 + run.1) < 2 ^ 64) (get_or done child [])
part_fits types done size offset child made some fits = λ k d lt.
    let set = made.0 some in
    let ends = runs_inside (placed_in types child) (get_or done child []) made.2 set.0.1 set.1 in
    omega (arith, ends k d lt, made.1, fits)

-- ---- one part more

pub part_put : (now new : List PartBytes) (name : PartName) (bytes : List (ℕ × ℕ)) (offset : ℕ) (placed : Placed) → new ≡ now ++ record { name = name; bytes = bytes } ∷ [] →
    ((k : ℕ) → is_in_ranges bytes k ≡ moved_to offset (is_data_place placed) k) → map kept_part new ≡ map kept_part now ++ placed_part name offset placed ∷ []
part_put now new name bytes offset placed is same =
    let p : PartBytes = record { name = name; bytes = bytes } in
    ap (map kept_part) is ∙ map-append kept_part now (p ∷ []) ∙ ap (λ (h : ℕ → Bool). map kept_part now ++ record { name = name; has = h } ∷ []) (fun_ext same)

-- behind those that were put before
part_more : (base now new : List Part) (first more : List Part) (q : Part) → now ≡ base ++ first → new ≡ now ++ q ∷ [] → more ≡ first ++ q ∷ [] → new ≡ base ++ more
part_more base now new first more q before next is = next ∙ ap (λ xs. xs ++ q ∷ []) before ∙ append_assoc base first (q ∷ []) ∙ ap (λ xs. base ++ xs) (sym is)

-- ---- fields

field_parts-push : (v : Option ℕ) (j : ℕ) (os : List ℕ) (ps : List Placed) (o : ℕ) (p : Placed) → length os ≡ length ps →
    field_parts v j (parts_at (os ++ o ∷ []) (ps ++ p ∷ [])) ≡ field_parts v j (parts_at os ps) ++ placed_part (field_name v (j + length os)) o p ∷ []
field_parts-push v j [] [] o p same = ap (λ n. placed_part (field_name v n) o p ∷ []) (omega arith)
field_parts-push v j [] (q ∷ ps) o p same = absurd (omega arith)
field_parts-push v j (r ∷ os) [] o p same = absurd (omega arith)
field_parts-push v j (r ∷ os) (q ∷ ps) o p same =
    let at : suc j + length os ≡ j + length (r ∷ os) = omega arith in
    ap (λ xs. placed_part (field_name v j) r q ∷ xs)
    (field_parts-push v (suc j) os ps o p (omega (arith, same)) ∙ ap (λ n. field_parts v (suc j) (parts_at os ps) ++ placed_part (field_name v n) o p ∷ []) at)

field_next : (v : Option ℕ) (os : List ℕ) (ps : List Placed) (i : ℕ) → i < length os → i < length ps →
    field_parts v 0 (parts_at (take (i + 1) os) (take (i + 1) ps)) ≡ field_parts v 0 (parts_at (take i os) (take i ps)) ++ placed_part (field_name v i) (get_or os i 0) (get_or ps i nothing) ∷ []
field_next v os ps i lt below =
    let many : length (take i os) ≡ i = length-take-le i os (omega (arith, lt)) in
    let index : 0 + length (take i os) ≡ i = omega (arith, many) in
    ap (λ xs. field_parts v 0 (parts_at xs (take (i + 1) ps))) (take_more os i 0 lt)
    ∙ ap (λ ys. field_parts v 0 (parts_at (take i os ++ get_or os i 0 ∷ []) ys)) (take_more ps i nothing below)
    ∙ field_parts-push v 0 (take i os) (take i ps) (get_or os i 0) (get_or ps i nothing) (many ∙ sym (length-take-le i ps (omega (arith, below))))
    ∙ ap (λ n. field_parts v 0 (parts_at (take i os) (take i ps)) ++ placed_part (field_name v n) (get_or os i 0) (get_or ps i nothing) ∷ []) index

parts_at-take : (os : List ℕ) (ps : List Placed) (n : ℕ) → n ≡ min (length os) (length ps) → parts_at (take n os) (take n ps) ≡ parts_at os ps
parts_at-take [] ps n e = let none : n ≡ 0 = omega arith in ap (λ m. parts_at (take m []) (take m ps)) none
parts_at-take (o ∷ os) [] n e = let none : n ≡ 0 = omega arith in ap (λ m. parts_at (take m (o ∷ os)) (take m [])) none
parts_at-take (o ∷ os) (p ∷ ps) zero e = absurd (omega arith)
parts_at-take (o ∷ os) (p ∷ ps) (suc n) e =
    let rest = parts_at-take os ps n (omega arith) in
    ap (part o p) rest

-- the first fields were put
abbrev pub FieldsArePut : (types : List Placed) (v : Option ℕ) (os cs : List ℕ) (old now : List PartBytes) (i : ℕ) → Type 0
FieldsArePut types v os cs old now i = map kept_part now ≡ map kept_part old ++ field_parts v 0 (parts_at (take i os) (take i (map (placed_in types) cs)))

pub no_field_put : (types : List Placed) (v : Option ℕ) (os cs : List ℕ) (old : List PartBytes) → FieldsArePut types v os cs old old 0
no_field_put types v os cs old = sym (append-nil (map kept_part old))

pub field_put : (types : List Placed) (v : Option ℕ) (os cs : List ℕ) (old now new : List PartBytes) (i : ℕ) (name : PartName) (bytes : List (ℕ × ℕ)) → i < length os → i < length cs →
    FieldsArePut types v os cs old now i → name ≡ field_name v i → new ≡ now ++ record { name = name; bytes = bytes } ∷ [] →
    ((k : ℕ) → is_in_ranges bytes k ≡ moved_to (get_or os i 0) (is_data_place (placed_in types (get_or cs i 0))) k) → FieldsArePut types v os cs old new (i + 1)
field_put types v os cs old now new i name bytes lt below before called is same =
    let ps : List Placed = map (placed_in types) cs in
    let child : placed_in types (get_or cs i 0) ≡ get_or ps i nothing = sym (get_or-map (placed_in types) cs i 0 nothing below) in
    part_more (map kept_part old) (map kept_part now) (map kept_part new) (field_parts v 0 (parts_at (take i os) (take i ps))) (field_parts v 0 (parts_at (take (i + 1) os) (take (i + 1) ps)))
    (placed_part (field_name v i) (get_or os i 0) (get_or ps i nothing)) before
    (part_put now new name bytes (get_or os i 0) (placed_in types (get_or cs i 0)) is same
    ∙ ap (λ n. map kept_part now ++ placed_part n (get_or os i 0) (placed_in types (get_or cs i 0)) ∷ []) called
    ∙ ap (λ p. map kept_part now ++ placed_part (field_name v i) (get_or os i 0) p ∷ []) child)
    (field_next v os ps i lt (omega (arith, below, length-map cs (placed_in types))))

pub fields_put : (types : List Placed) (v : Option ℕ) (os cs : List ℕ) (old now : List PartBytes) (i : ℕ) → i ≡ min (length os) (length cs) → FieldsArePut types v os cs old now i →
    map kept_part now ≡ map kept_part old ++ field_parts v 0 (parts_at os (map (placed_in types) cs))
fields_put types v os cs old now i last before =
    let ps : List Placed = map (placed_in types) cs in
    before ∙ ap (λ parts. map kept_part old ++ field_parts v 0 parts) (parts_at-take os ps i (omega (arith, last, length-map cs (placed_in types))))

-- fields that all begin where the whole does
abbrev pub starts : List Placed → List ℕ
starts ps = map (λ p. 0) ps

pub at_start : (ps : List Placed) (i : ℕ) → i < length ps → get_or (starts ps) i 0 ≡ 0
at_start [] i lt = absurd (omega arith)
at_start (p ∷ ps) zero lt = refl
at_start (p ∷ ps) (suc i) lt = at_start ps i (omega arith)

pub starts_many : (types : List Placed) (cs : List ℕ) → length (starts (map (placed_in types) cs)) ≡ length cs
starts_many types cs = length-map (map (placed_in types) cs) (λ p. 0) ∙ length-map cs (placed_in types)

-- ---- the parts of a node that is kept

abbrev Made : List Placed → List (List (ℕ × ℕ)) → ℕ → Type 0
Made types done j = IsMade (placed_in types j) done j

-- children that have room, and whose sets are made where there are bytes
listed_made : (types : List Placed) (done : List (List (ℕ × ℕ))) (size : ℕ) (os cs : List ℕ) → have_room size (parts_at os (map (placed_in types) cs)) ≡ true → (0 < size → All (Made types done) (take (length os) cs)) →
    ArePartsMade types done size os cs
listed_made types done size os cs room made i lt below =
    let child : get_or (map (placed_in types) cs) i nothing ≡ placed_in types (get_or cs i 0) = get_or-map (placed_in types) cs i 0 nothing below in
    let short = length-take (length os) cs in
    let same : get_or (take (length os) cs) i 0 ≡ get_or cs i 0 = get_or-take (length os) cs i 0 lt in
    let at = room_at size os (map (placed_in types) cs) i room lt (omega (arith, below, length-map cs (placed_in types))) in (
      λ some. subst (Made types done) same (made some i 0 (omega (arith, short, lt, below))),
      omega (arith, at.0, ap size_of child),
      ap has_room (sym child) ∙ at.1,
    )

module _ (ns : List Node) (kept : List (Option NodeRef)) (done : List (List (ℕ × ℕ))) (have : HaveSets ns kept done) (i : ℕ) (n : NodeRef) (here : get_or kept i None ≡ Some n) where
  abbrev types : List Placed
  types = types_in ns

  abbrev layout : Layout
  layout = n.layout.now

  abbrev shape : Shape
  shape = n.shape.now

  is_made : IsMadeOf types (lent_node n) done
  is_made = (node_is_made ns kept done have i n here).0

  -- the node, as its shape means it
  pub is_meant : (s : Shape) → shape ≡ s → placed_at ns i ≡ meaning types layout s
  is_meant s e = (node_is_made ns kept done have i n here).1 ∙ ap (meaning types layout) e

  room_as : (s : Shape) → shape ≡ s → has_room (meaning types layout s) ≡ true
  room_as s e = ap (λ m. has_room (meaning types layout m)) (sym e) ∙ is_made.room

  named_as : (s : Shape) → shape ≡ s → 0 < layout.size → All (Made types done) (named_by layout s)
  named_as s e some = subst (λ m. All (Made types done) (named_by layout m)) e (λ j d lt. is_made.named some (get_or (named_by layout shape) j d) (among_own (named_by layout shape) j d lt))

  size_is : size_of (placed_at ns i) ≡ layout.size
  size_is = ap size_of (is_meant shape refl) ∙ ap (λ l. l.size) (layout_of-meaning types layout shape)

  pub whole_made : IsPartMade types done layout.size 0 i
  whole_made =
      let own = have.made.made i (kept_below kept i (n, here)) (n, here) in
      (λ some. own, omega (arith, size_is), (have.needed.own i n here).1)

  -- all parts, where there are bytes
  pub all_are : 0 < layout.size → common_parts (placed_at ns i) ++ variant_parts (placed_at ns i) ≡ all_parts (placed_at ns i)
  all_are some =
      let p : Placed = placed_at ns i in
      sym (ap (λ b. if b then common_parts p ++ variant_parts p else []) (lt-ltb 0 (size_of p) (omega (arith, some, size_is))))

  -- and none else
  pub none_are : layout.size ≡ 0 → [] ≡ all_parts (placed_at ns i)
  none_are none =
      let p : Placed = placed_at ns i in
      sym (ap (λ m. if nat_lt 0 m then common_parts p ++ variant_parts p else []) (size_is ∙ none))

  pub pair_made : (first second : ℕ) → shape ≡ Pair first second → ArePartsMade types done layout.size (listed_offsets layout.fields) (first ∷ second ∷ [])
  pair_made first second e = listed_made types done layout.size (listed_offsets layout.fields) (first ∷ second ∷ []) (room_as (Pair first second) e) (named_as (Pair first second) e)

  pub fields_made : (mark : Mark) (children : Vec ℕ Global) → shape ≡ Fields mark children → ArePartsMade types done layout.size (listed_offsets layout.fields) children.items
  fields_made mark children e = listed_made types done layout.size (listed_offsets layout.fields) children.items (room_as (Fields mark children) e) (named_as (Fields mark children) e)

  pub single_made : (mark : Mark) (children : Vec ℕ Global) → shape ≡ Single mark children → ArePartsMade types done layout.size (listed_offsets layout.fields) children.items
  single_made mark children e = listed_made types done layout.size (listed_offsets layout.fields) children.items (room_as (Single mark children) e) (named_as (Single mark children) e)

  pub union_made : (mark : Mark) (children : Vec ℕ Global) → shape ≡ Union mark children → (j : ℕ) → j < length children.items → IsPartMade types done layout.size 0 (get_or children.items j 0)
  union_made mark children e j lt =
      let ps : List Placed = map (placed_in types) children.items in
      let many : length ps ≡ length children.items = length-map children.items (placed_in types) in
      let child : get_or ps j nothing ≡ placed_in types (get_or children.items j 0) = get_or-map (placed_in types) children.items j 0 nothing lt in
      let at = room_at layout.size (starts ps) ps j (room_as (Union mark children) e) (omega (arith, lt, starts_many types children.items)) (omega (arith, lt, many)) in (
        λ some. named_as (Union mark children) e some j 0 lt,
        omega (arith, at.0, at_start ps j (omega (arith, lt, many)), ap size_of child),
        ap has_room (sym child) ∙ at.1,
      )

  pub tagged_made : (mark : Mark) (tag : ℕ) (variants : Vec (ℕ × ℕ) Global) → 0 < layout.size → shape ≡ Tagged mark tag variants → IsPartMade types done layout.size (tag_offset layout) tag
  tagged_made mark tag variants some e =
      let beside = beside_tagged types (lent_node n) done is_made some mark tag variants e in
      (λ _. All-head (Made types done) tag (map (λ v. v.1) variants.items) beside.2, beside.0, beside.1)

  pub states_made : (prefix : Vec ℕ Global) (tag : ℕ) (all : Vec (ℕ × ℕ) Global) → 0 < layout.size → shape ≡ States prefix tag all →
      ArePartsMade types done layout.size (listed_offsets layout.fields) prefix.items × IsPartMade types done layout.size (state_tag_offset layout (length prefix.items)) tag
  states_made prefix tag all some e =
      let parts = states_parts types (lent_node n) done is_made some prefix tag all e in (
        listed_made types done layout.size (listed_offsets layout.fields) prefix.items parts.0.0 (λ _. parts.0.1),
        (λ _. All-head (Made types done) tag (map (λ v. v.1) all.items) parts.1.2, parts.1.0, parts.1.1),
      )

  -- what is put of a node of this shape is what its parts are
  pub put_as : (s : Shape) (old new more : List Part) → shape ≡ s → new ≡ old ++ more → more ≡ common_parts (meaning types layout s) → new ≡ old ++ common_parts (placed_at ns i)
  put_as s old new more e put same = put ∙ ap (λ xs. old ++ xs) (same ∙ sym (ap common_parts (is_meant s e)))

  pub put_whole : (s : Shape) (name : PartName) (old new : List Part) → shape ≡ s → new ≡ old ++ placed_part name 0 (placed_in types i) ∷ [] →
      ((p : Placed) → p ≡ meaning types layout s → placed_part name 0 p ∷ [] ≡ common_parts (meaning types layout s)) → new ≡ old ++ common_parts (placed_at ns i)
  put_whole s name old new e put same = put_as s old new (placed_part name 0 (placed_in types i) ∷ []) e put (same (placed_at ns i) (is_meant s e))

  -- variants are kept, and those of a node are those that it means
  pub variants_kept : 0 < layout.size → All (λ v. IsKept kept v.1) (numbered_nodes shape)
  variants_kept some = kept_each shape refl
    where
      each_numbered : (vs : List (ℕ × ℕ)) → ((j : ℕ) → is_among (map (λ v. v.1) vs) j ≡ true → IsKept kept j) → All (λ v. IsKept kept v.1) vs
      each_numbered vs h = all_kept kept vs h

      kept_each : (s : Shape) → shape ≡ s → All (λ v. IsKept kept v.1) (numbered_nodes s)
      kept_each (Tagged mark tag variants) e =
          each_numbered variants.items (λ j among. have.needed.named i n here some j (subst (λ m. is_among (named_by layout m) j ≡ true) (sym e) (among_tagged tag variants.items j among)))
      kept_each (States prefix tag all) e =
          each_numbered all.items (λ j among. have.needed.named i n here some j (subst (λ m. is_among (named_by layout m) j ≡ true) (sym e) (among_states layout prefix.items tag all.items j among)))
      kept_each _ e = All-nil (λ v. IsKept kept v.1)

  pub variants_meant : variant_parts (placed_at ns i) ≡ parts_of_tagged_variants 0 (tagged_variants_in types (numbered_nodes shape))
  variants_meant = ap variant_parts (is_meant shape refl) ∙ by shape
    where
      by : (s : Shape) → variant_parts (meaning types layout s) ≡ parts_of_tagged_variants 0 (tagged_variants_in types (numbered_nodes s))
      by (Scalar s) = refl
      by _ = refl

  -- a variant's node
  pub fields_own : (mark : Mark) (children : Vec ℕ Global) → shape ≡ Fields mark children → parts_at (listed_offsets layout.fields) (map (placed_in types) children.items) ≡ own_fields (placed_at ns i)
  fields_own mark children e = sym (ap own_fields (is_meant (Fields mark children) e))

  pub others_own : ((mark : Mark) (children : Vec ℕ Global) → shape ≡ Fields mark children → ⊥) → no_parts ≡ own_fields (placed_at ns i)
  others_own other = sym (ap own_fields (is_meant shape refl) ∙ own_fields_none types layout shape other)

-- ---- variants

tagged_variants-push : (types : List Placed) (j : ℕ) (vs : List (ℕ × ℕ)) (v : ℕ × ℕ) →
    parts_of_tagged_variants j (tagged_variants_in types (vs ++ v ∷ [])) ≡ parts_of_tagged_variants j (tagged_variants_in types vs) ++ field_parts (Some (j + length vs)) 0 (own_fields (placed_in types v.1))
tagged_variants-push types j [] v =
    append-nil (field_parts (Some j) 0 (own_fields (placed_in types v.1))) ∙ ap (λ m. field_parts (Some m) 0 (own_fields (placed_in types v.1))) (omega arith)
tagged_variants-push types j (w ∷ vs) v =
    let at : suc j + length vs ≡ j + length (w ∷ vs) = omega arith in
    ap (λ xs. field_parts (Some j) 0 (own_fields (placed_in types w.1)) ++ xs)
    (tagged_variants-push types (suc j) vs v ∙ ap (λ m. parts_of_tagged_variants (suc j) (tagged_variants_in types vs) ++ field_parts (Some m) 0 (own_fields (placed_in types v.1))) at)
    ∙ sym (append_assoc (field_parts (Some j) 0 (own_fields (placed_in types w.1))) (parts_of_tagged_variants (suc j) (tagged_variants_in types vs)) (field_parts (Some (j + length (w ∷ vs))) 0 (own_fields (placed_in types v.1))))

-- the first variants were put
abbrev pub VariantsArePut : (types : List Placed) (vs : List (ℕ × ℕ)) (old now : List PartBytes) (i : ℕ) → Type 0
VariantsArePut types vs old now i = map kept_part now ≡ map kept_part old ++ parts_of_tagged_variants 0 (tagged_variants_in types (take i vs))

pub no_variant_put : (types : List Placed) (vs : List (ℕ × ℕ)) (old : List PartBytes) → VariantsArePut types vs old old 0
no_variant_put types vs old = sym (append-nil (map kept_part old))

pub variant_put : (types : List Placed) (vs : List (ℕ × ℕ)) (old now new : List PartBytes) (i : ℕ) (d : ℕ × ℕ) → i < length vs → VariantsArePut types vs old now i →
    map kept_part new ≡ map kept_part now ++ field_parts (Some i) 0 (own_fields (placed_in types (get_or vs i d).1)) → VariantsArePut types vs old new (i + 1)
variant_put types vs old now new i d lt before next =
    let v : ℕ × ℕ = get_or vs i d in
    let first : List Part = parts_of_tagged_variants 0 (tagged_variants_in types (take i vs)) in
    let more : List Part = field_parts (Some i) 0 (own_fields (placed_in types v.1)) in
    let many : 0 + length (take i vs) ≡ i = omega (arith, length-take-le i vs (omega (arith, lt))) in
    next ∙ ap (λ xs. xs ++ more) before ∙ append_assoc (map kept_part old) first more
    ∙ ap (λ xs. map kept_part old ++ xs)
    (sym (ap (λ ws. parts_of_tagged_variants 0 (tagged_variants_in types ws)) (take_more vs i d lt) ∙ tagged_variants-push types 0 (take i vs) v
    ∙ ap (λ m. first ++ field_parts (Some m) 0 (own_fields (placed_in types v.1))) many))

pub variants_put : (types : List Placed) (vs : List (ℕ × ℕ)) (old now : List PartBytes) (i : ℕ) → length vs ≤ i → VariantsArePut types vs old now i →
    map kept_part now ≡ map kept_part old ++ parts_of_tagged_variants 0 (tagged_variants_in types vs)
variants_put types vs old now i last before = before ∙ ap (λ ws. map kept_part old ++ parts_of_tagged_variants 0 (tagged_variants_in types ws)) (take_all i vs last)
