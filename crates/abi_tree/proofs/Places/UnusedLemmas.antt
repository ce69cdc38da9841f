-- What variants leave unused, made from the sets of their nodes.
use Rattle.std.proofs.Common.{◌≡◌, ℕ, zero, suc, ◌+◌, ◌-◌, ◌<◌, ⊎_elim, List, [], ◌∷◌, ◌++◌, Bool, true, false, None, Option, Some, length, map, get_or, length-append, arith, refl, sym, ap, ◌∙◌, subst, All}
use Rattle.std.specs.Prelude.{◌&&◌, ◌||◌, not, nat_le, Vec}
use Rattle.std.specs.declared.alloc.Global.{Global}
use Rattle.std.proofs.lemmas.Bool.{cases_lt}
use Rattle.std.proofs.lemmas.List.{get_or-map, get_or_append_left, get_or_push, length-map}
use Rattle.std.proofs.lemmas.List.Elements.{All-head, All-nil, All-tail}
use Rattle.abi_index.specs.RangeSet.{is_in_ranges}
use Rattle.abi_index.specs.Runs.{Adds, moved_to}
use Rattle.abi_index.proofs.RunsLemmas.{adds_both, adds_same}
use Rattle.abi_scalar.specs.Layout.{Layout}
use Rattle.abi_scalar.specs.Shape.{listed_offsets}
use Rattle.abi_scalar.specs.declared.scalar.Scalar.{Scalar as Number}
use Rattle.abi_scalar.specs.declared.variants.TagEncoding.{TagEncoding}
use Rattle.abi_scalar.specs.declared.variants.VariantLayout.{VariantLayout}
use Rattle.abi_scalar.specs.declared.variants.Variants.{Variants}
use Rattle.abi_scalar.specs.declared.variants.Variants.TheVariants.{Empty, Single as OneVariant, Multiple}
use Rattle.abi_scalar.specs.Variant.{variants_of}
use Rattle.abi_types.specs.Ty.Runs.{IsVariantIndex}
use Rattle.abi_tree.specs.declared.mark.Mark.{Mark}
use Rattle.abi_tree.specs.declared.node.Shape.{Shape}
use Rattle.abi_tree.specs.declared.node.Shape.TheVariants.{Scalar, Pair, Never, Elements, Fields, Union, Vector, Single, Tagged, States}
use Rattle.abi_tree.specs.declared.node.Node.{Node}
use Rattle.abi_tree.specs.declared.node.NodeRef.{NodeRef}
use Rattle.abi_tree.specs.Laws.{has_fields, has_list, has_variants, keep_laws}
use Rattle.abi_tree.specs.Needed.{HaveSets, IsMade, IsMadeOf, LeaveOut, numbered_nodes, named_by, parts_cover, placed_nodes, sets_at}
use Rattle.abi_tree.specs.Nodes.{tagged_variants_in, lent_node, meaning, own_fields, parts_at, placed_at, placed_in, state_tag_offset, tag_offset, types_in}
use Rattle.abi_tree.specs.Placed.{Placed, layout_of, parts_of_tagged_variant, size_of}
use Rattle.abi_tree.specs.Places.{is_data_place, is_place_of_tagged_variant, is_place_of_part}
use Rattle.abi_tree.specs.Room.{has_room}
use Rattle.abi_tree.specs.Runs.{is_place_of_each, is_place_of_variant}
use Rattle.abi_tree.specs.Typed.{variant_nodes}
use Rattle.abi_tree.specs.Unused.{is_left_unused}
use Rattle.abi_tree.specs.Well.{are_nodes}
use Rattle.std.proofs.lemmas.Bool.{and_parts}
use Rattle.abi_tree.proofs.Meaning.NodesLemmas.{layout_of-meaning, placed_at-node}
use Rattle.abi_tree.proofs.Meaning.TypedLemmas.{variant_count-nodes}
use Rattle.abi_tree.proofs.Places.MadeLemmas.{beside_tagged, each_list, listed_own, listed_same, nothing_made, states_parts}
use Rattle.abi_tree.proofs.Places.NeededLemmas.{among_all, laws_here, named_first, or_assoc, variants_listed}
use Rattle.abi_tree.proofs.Places.RoomLemmas.{within_room}
use Rattle.abi_tree.proofs.Deciding.ChosenLemmas.{kept_below}

-- ---- one set after another

pub left_out_none : (bytes : List (ℕ × ℕ)) (done : List (List (ℕ × ℕ))) (variants : List (ℕ × ℕ)) → LeaveOut bytes done variants 0 []
left_out_none bytes done variants = (refl, λ v k lt. absurd (omega arith))

pub left_out_next : (bytes : List (ℕ × ℕ)) (done : List (List (ℕ × ℕ))) (variants : List (ℕ × ℕ)) (n : ℕ) (sets : List (List (ℕ × ℕ))) (set own : List (ℕ × ℕ)) (d : ℕ × ℕ) → n < length variants →
    LeaveOut bytes done variants n sets → own ≡ get_or done d.1 [] → d ≡ get_or variants n d → ((k : ℕ) → is_in_ranges set k ≡ (is_in_ranges bytes k && not (is_in_ranges own k))) →
    LeaveOut bytes done variants (n + 1) (sets ++ set ∷ [])
left_out_next bytes done variants n sets set own d within h is at one = (
  length-append sets (set ∷ []) ∙ ap (λ m. m + 1) h.0,
  λ v k lt. ⊎_elim
      (λ less. ap (λ s. is_in_ranges s k) (get_or_append_left sets (set ∷ []) [] v (omega (arith, less, h.0))) ∙ h.1 v k less)
      (λ above. let here : n ≡ v = omega (arith, lt, above) in
      ap (λ s. is_in_ranges s k) (get_or_push sets set [] v (h.0 ∙ here)) ∙ one k
      ∙ ap (λ s. is_in_ranges bytes k && not (is_in_ranges s k)) (is ∙ ap (λ e. get_or done e.1 []) (at ∙ same_default variants n d (0, 0) within))
      ∙ ap (λ m. is_in_ranges bytes k && not (is_in_ranges (get_or done (get_or variants m (0, 0)).1 []) k)) here)
      (cases_lt v n),
)
  where
    same_default : (xs : List (ℕ × ℕ)) (i : ℕ) (d e : ℕ × ℕ) → i < length xs → get_or xs i d ≡ get_or xs i e
    same_default [] i d e lt = absurd (omega arith)
    same_default (x ∷ xs) zero d e lt = refl
    same_default (x ∷ xs) (suc i) d e lt = same_default xs i d e (omega arith)

-- ---- what all variants have

abbrev Made : List Placed → List (List (ℕ × ℕ)) → ℕ → Type 0
Made types done j = IsMade (placed_in types j) done j

module _ (types : List Placed) (n : Node) (done : List (List (ℕ × ℕ))) (made : IsMadeOf types n done) (some : 0 < n.layout.size) where
  tag_same : (offset tag k : ℕ) → Made types done tag → moved_to offset (is_in_ranges (get_or done tag [])) k ≡ (nat_le offset k && is_data_place (placed_in types tag) (k - offset))
  tag_same offset tag k of_tag = ap (λ b. nat_le offset k && b) (of_tag.1 (k - offset))

  pub common_tagged : (mark : Mark) (tag : ℕ) (variants : Vec (ℕ × ℕ) Global) (offset : ℕ) (old new : List (ℕ × ℕ)) → n.shape ≡ Tagged mark tag variants → offset ≡ tag_offset n.layout →
      Adds old new (moved_to offset (is_in_ranges (get_or done tag []))) → Adds old new (is_place_of_each (meaning types n.layout n.shape))
  common_tagged mark tag variants offset old new e at adds =
      let beside = beside_tagged types n done made some mark tag variants e in
      let of_tag : Made types done tag = All-head (Made types done) tag (map (λ v. v.1) variants.items) beside.2 in
      adds_same old new (moved_to offset (is_in_ranges (get_or done tag []))) (is_place_of_each (meaning types n.layout n.shape)) adds
      (λ k. ap (λ o. moved_to o (is_in_ranges (get_or done tag [])) k) at ∙ tag_same (tag_offset n.layout) tag k of_tag ∙ ap (λ s. is_place_of_each (meaning types n.layout s) k) (sym e))

  pub common_states : (prefix : Vec ℕ Global) (tag : ℕ) (all : Vec (ℕ × ℕ) Global) (os xs : List ℕ) (offset : ℕ) (old middle new : List (ℕ × ℕ)) → n.shape ≡ States prefix tag all →
      os ≡ listed_offsets n.layout.fields → xs ≡ placed_nodes n.layout prefix.items → offset ≡ state_tag_offset n.layout (length prefix.items) → Adds old middle (parts_cover os (sets_at done xs)) →
      Adds middle new (moved_to offset (is_in_ranges (get_or done tag []))) → Adds old new (is_place_of_each (meaning types n.layout n.shape))
  common_states prefix tag all os xs offset old middle new e same are at first second =
      let parts = states_parts types n done made some prefix tag all e in
      let place : ℕ = state_tag_offset n.layout (length prefix.items) in
      let of_tag : Made types done tag = All-head (Made types done) tag (map (λ v. v.1) all.items) parts.1.2 in
      let later : ℕ → Bool = moved_to offset (is_in_ranges (get_or done tag [])) in
      adds_same old new (λ k. parts_cover os (sets_at done xs) k || later k) (is_place_of_each (meaning types n.layout n.shape)) (adds_both old middle new (parts_cover os (sets_at done xs)) later first second)
      (λ k. ap (λ b. b || later k) (listed_same types n done made some prefix.items os xs parts.0 same are k)
      ∙ ap (λ b. is_place_of_part (parts_at (listed_offsets n.layout.fields) (map (placed_in types) prefix.items)) k || b)
      (ap (λ o. moved_to o (is_in_ranges (get_or done tag [])) k) at ∙ tag_same place tag k of_tag)
      ∙ ap (λ s. is_place_of_each (meaning types n.layout s) k) (sym e))

  -- each variant's set is made, and has the places of its fields
  abbrev Own : (ℕ × ℕ) → Type 0
  Own v = (v.1 < length done) × ((k : ℕ) → is_in_ranges (get_or done v.1 []) k ≡ is_place_of_part (own_fields (placed_in types v.1)) k)

  own_each : (vs : List (ℕ × ℕ)) → All (Made types done) (map (λ v. v.1) vs) → All (λ j. (k : ℕ) → is_data_place (placed_in types j) k ≡ is_place_of_part (own_fields (placed_in types j)) k) (map (λ v. v.1) vs) → All Own vs
  own_each vs sets own = λ i d lt.
      let long : i < length (map (λ (v : ℕ × ℕ). v.1) vs) = omega (arith, lt, length-map vs (λ v. v.1)) in
      let at : get_or (map (λ v. v.1) vs) i 0 ≡ (get_or vs i d).1 = get_or-map (λ v. v.1) vs i d 0 lt in
      let set = subst (Made types done) at (sets i 0 long) in
      let fields = subst (λ j. (k : ℕ) → is_data_place (placed_in types j) k ≡ is_place_of_part (own_fields (placed_in types j)) k) at (own i 0 long) in
      (set.0.0, λ k. set.1 k ∙ fields k)

  own_as : (shape : Shape) → n.shape ≡ shape → All Own (numbered_nodes shape)
  own_as (Tagged mark tag variants) e =
      let beside = beside_tagged types n done made some mark tag variants e in
      own_each variants.items (All-tail (Made types done) tag (map (λ v. v.1) variants.items) beside.2) beside.3
  own_as (States prefix tag all) e =
      let beside = (states_parts types n done made some prefix tag all e).1 in
      own_each all.items (All-tail (Made types done) tag (map (λ v. v.1) all.items) beside.2) beside.3
  own_as _ e = All-nil Own

  pub own_sets : All Own (numbered_nodes n.shape)
  own_sets = own_as n.shape refl

  pub own_there : All (λ v. v.1 < length done) (numbered_nodes n.shape)
  own_there = λ i d lt. (own_sets i d lt).0

-- the nodes are as many with their numbers as without
pub numbered_many : (shape : Shape) → length (numbered_nodes shape) ≡ length (variant_nodes shape)
numbered_many (Tagged mark tag variants) = sym (length-map variants.items (λ v. v.1))
numbered_many (States prefix tag all) = sym (length-map all.items (λ v. v.1))
numbered_many _ = refl

-- ---- what one leaves

and_not : (b : Bool) → (b && not b) ≡ false
and_not true = refl
and_not false = refl

or_none : (b : Bool) → (b || false) ≡ b
or_none true = refl
or_none false = refl

left_of_both : (a b c : Bool) → ((a && not b) && not c) ≡ (a && not (b || c))
left_of_both true true c = refl
left_of_both true false c = refl
left_of_both false b c = refl

tagged_variant_own : (types : List Placed) (vs : List (ℕ × ℕ)) (v : ℕ) (d : ℕ × ℕ) → v < length vs → parts_of_tagged_variant (tagged_variants_in types vs) v ≡ own_fields (placed_in types (get_or vs v d).1)
tagged_variant_own types [] v d lt = absurd (omega arith)
tagged_variant_own types (w ∷ vs) zero d lt = refl
tagged_variant_own types (w ∷ vs) (suc v) d lt = tagged_variant_own types vs v d (omega arith)

-- a variant has the places that each has, and its own
own_or_common : (types : List Placed) (layout : Layout) (shape : Shape) (v k : ℕ) → v < length (numbered_nodes shape) →
    (is_place_of_each (meaning types layout shape) k || is_place_of_part (own_fields (placed_in types (get_or (numbered_nodes shape) v (0, 0)).1)) k) ≡ is_place_of_variant (meaning types layout shape) v k
own_or_common types layout (Tagged mark tag variants) v k lt =
    ap (λ p. is_place_of_each (meaning types layout (Tagged mark tag variants)) k || is_place_of_part p k) (sym (tagged_variant_own types variants.items v (0, 0) lt))
own_or_common types layout (States prefix tag all) v k lt =
    let front = is_place_of_part (parts_at (listed_offsets layout.fields) (map (placed_in types) prefix.items)) k in
    let offset : ℕ = state_tag_offset layout (length prefix.items) in
    let of_tag = nat_le offset k && is_data_place (placed_in types tag) (k - offset) in
    or_assoc front of_tag (is_place_of_part (own_fields (placed_in types (get_or all.items v (0, 0)).1)) k)
    ∙ ap (λ p. front || (of_tag || is_place_of_part p k)) (sym (tagged_variant_own types all.items v (0, 0) lt))
own_or_common types layout _ v k lt = absurd (omega arith)

-- of the places of some variant it leaves what neither each has nor it has of its own
pub left_of : (types : List Placed) (n : Node) (done : List (List (ℕ × ℕ))) (made : IsMadeOf types n done) → 0 < n.layout.size → (any bytes : List (ℕ × ℕ)) (sets : List (List (ℕ × ℕ))) (count : ℕ) →
    count ≡ length (variant_nodes n.shape) → ((k : ℕ) → is_in_ranges any k ≡ is_data_place (meaning types n.layout n.shape) k) →
    ((k : ℕ) → is_in_ranges bytes k ≡ (is_in_ranges any k && not (is_place_of_each (meaning types n.layout n.shape) k))) → LeaveOut bytes done (numbered_nodes n.shape) count sets →
    (v k : ℕ) → v < count → is_in_ranges (get_or sets v []) k ≡ is_left_unused (meaning types n.layout n.shape) v k
left_of types n done made some any bytes sets count many all rest left v k lt =
    let p : Placed = meaning types n.layout n.shape in
    let within : v < length (numbered_nodes n.shape) = omega (arith, lt, many, numbered_many n.shape) in
    let own = own_sets types n done made some v (0, 0) within in
    left.1 v k lt
    ∙ ap (λ b. b && not (is_in_ranges (get_or done (get_or (numbered_nodes n.shape) v (0, 0)).1 []) k)) (rest k ∙ ap (λ b. b && not (is_place_of_each p k)) (all k))
    ∙ ap (λ b. (is_data_place p k && not (is_place_of_each p k)) && not b) (own.1 k)
    ∙ left_of_both (is_data_place p k) (is_place_of_each p k) (is_place_of_part (own_fields (placed_in types (get_or (numbered_nodes n.shape) v (0, 0)).1)) k)
    ∙ ap (λ b. is_data_place p k && not b) (own_or_common types n.layout n.shape v k within)

-- a node without bytes leaves none
pub left_bare : (types : List Placed) (n : Node) (done : List (List (ℕ × ℕ))) → IsMadeOf types n done → (0 < n.layout.size → ⊥) → (v k : ℕ) → false ≡ is_left_unused (meaning types n.layout n.shape) v k
left_bare types n done made bare v k = ap (λ b. b && not (is_place_of_variant (meaning types n.layout n.shape) v k)) (nothing_made types n done made bare k)

-- nor does one whose variants no tag distinguishes
alone_at : (types : List Placed) (layout : Layout) (mark : Mark) (tag : ℕ) (vs : List (ℕ × ℕ)) (b : Bool) (v k : ℕ) → length vs ≡ 0 →
    false ≡ ((b || is_place_of_tagged_variant (tagged_variants_in types vs) k) && not (b || is_place_of_part (parts_of_tagged_variant (tagged_variants_in types vs) v) k))
alone_at types layout mark tag [] b v k none = sym (and_not (b || false))
alone_at types layout mark tag (w ∷ vs) b v k none = absurd (omega arith)

alone_states : (types : List Placed) (vs : List (ℕ × ℕ)) (a b : Bool) (v k : ℕ) → length vs ≡ 0 →
    false ≡ ((a || (b || is_place_of_tagged_variant (tagged_variants_in types vs) k)) && not (a || (b || is_place_of_part (parts_of_tagged_variant (tagged_variants_in types vs) v) k)))
alone_states types [] a b v k none = sym (and_not (a || (b || false)))
alone_states types (w ∷ vs) a b v k none = absurd (omega arith)

pub left_alone : (types : List Placed) (layout : Layout) (shape : Shape) (v k : ℕ) → length (variant_nodes shape) ≡ 0 → false ≡ is_left_unused (meaning types layout shape) v k
left_alone types layout (Scalar s) v k none = sym (and_not (is_data_place (meaning types layout (Scalar s)) k))
left_alone types layout (Pair first second) v k none = sym (and_not (is_data_place (meaning types layout (Pair first second)) k))
left_alone types layout (Never mark) v k none = sym (and_not (is_data_place (meaning types layout (Never mark)) k))
left_alone types layout (Elements count element) v k none = sym (and_not (is_data_place (meaning types layout (Elements count element)) k))
left_alone types layout (Fields mark children) v k none = sym (and_not (is_data_place (meaning types layout (Fields mark children)) k))
left_alone types layout (Union mark children) v k none = sym (and_not (is_data_place (meaning types layout (Union mark children)) k))
left_alone types layout (Vector lanes) v k none = sym (and_not (is_data_place (meaning types layout (Vector lanes)) k))
left_alone types layout (Single mark children) v k none = sym (and_not (is_data_place (meaning types layout (Single mark children)) k))
left_alone types layout (Tagged mark tag variants) v k none =
    let offset : ℕ = tag_offset layout in
    alone_at types layout mark tag variants.items (nat_le offset k && is_data_place (placed_in types tag) (k - offset)) v k (sym (length-map variants.items (λ v. v.1)) ∙ none)
left_alone types layout (States prefix tag all) v k none =
    let offset : ℕ = state_tag_offset layout (length prefix.items) in
    alone_states types all.items (is_place_of_part (parts_at (listed_offsets layout.fields) (map (placed_in types) prefix.items)) k) (nat_le offset k && is_data_place (placed_in types tag) (k - offset)) v k
    (sym (length-map all.items (λ v. v.1)) ∙ none)

-- ---- the sets of all kept nodes

-- each kept node is made of the sets of those that it names
pub node_is_made : (ns : List Node) (kept : List (Option NodeRef)) (sets : List (List (ℕ × ℕ))) → HaveSets ns kept sets → (i : ℕ) (n : NodeRef) → get_or kept i None ≡ Some n →
    IsMadeOf (types_in ns) (lent_node n) sets × (placed_at ns i ≡ meaning (types_in ns) n.layout.now n.shape.now)
node_is_made ns kept sets have i n here =
    let in_kept : i < length kept = kept_below kept i (n, here) in
    let in_nodes : i < length ns = omega (arith, in_kept, have.needed.long) in
    let own = have.needed.own i n here in
    let meant = (placed_at-node ns have.needed.well i (lent_node n) n.shape.now in_nodes own.0 refl).1 in (
      record {
        room = ap has_room (sym meant) ∙ own.1;
        named = λ some j among.
            let before : j < i = among_all (λ m. m < i) (named_by n.layout.now n.shape.now) j (named_first ns have.needed.well have.needed.laws i (lent_node n) in_nodes own.0) among in
            have.made.made j (omega (arith, before, in_kept)) (have.needed.named i n here some j among);
        own = λ j among.
            listed_own (placed_at ns j)
            (among_all (λ m. has_list (placed_at ns m) ≡ true) (variant_nodes n.shape.now) j
            (each_list (types_in ns) (variant_nodes n.shape.now) (variants_listed ns have.needed.well have.needed.laws i (lent_node n) in_nodes own.0)) among);
      },
      meant,
    )

-- a node has as many variants as its layout
pub variant_count_at : (ns : List Node) → are_nodes 0 ns ≡ true → keep_laws [] ns ≡ true → (i : ℕ) (n : Node) → i < length ns → n ≡ get_or ns i n → length (variants_of n.layout.variants) ≡ length (variant_nodes n.shape)
variant_count_at ns well laws i n lt at =
    let both = and_parts (has_fields (types_in ns) n.layout n.shape) (has_variants (types_in ns) n.layout n.shape) (laws_here ns well laws i n lt at) in
    variant_count-nodes (types_in ns) n.layout n.shape both.1

-- the last node's variants leave what its sets tell
pub left_at : (ns : List Node) (kept : List (Option NodeRef)) (done : List (List (ℕ × ℕ))) (any : List (ℕ × ℕ)) (sets : List (List (ℕ × ℕ))) → HaveSets ns kept done → (i : ℕ) (n : NodeRef) → get_or kept i None ≡ Some n →
    any ≡ get_or done i [] →
    ((types : List Placed) → IsMadeOf types (lent_node n) done → ((k : ℕ) → is_in_ranges any k ≡ is_data_place (meaning types n.layout.now n.shape.now) k) → (v k : ℕ) → IsVariantIndex n.layout.now.variants v →
    is_in_ranges (get_or sets v []) k ≡ is_left_unused (meaning types n.layout.now n.shape.now) v k) →
    (v k : ℕ) → IsVariantIndex (layout_of (placed_at ns i)).variants v → is_in_ranges (get_or sets v []) k ≡ is_left_unused (placed_at ns i) v k
left_at ns kept done any sets have i n here is each v k index =
    let made = node_is_made ns kept done have i n here in
    let own = have.made.made i (kept_below kept i (n, here)) (n, here) in
    let layout : layout_of (placed_at ns i) ≡ n.layout.now = ap layout_of made.1 ∙ layout_of-meaning (types_in ns) n.layout.now n.shape.now in
    each (types_in ns) made.0 (λ j. ap (λ s. is_in_ranges s j) is ∙ own.1 j ∙ ap (λ p. is_data_place p j) made.1) v k (subst (λ l. IsVariantIndex l.variants v) layout index)
    ∙ ap (λ p. is_left_unused p v k) (sym made.1)

-- where no tag distinguishes variants there are none
pub none_several : (variants : Variants ℕ ℕ) → ((tag : Number) (encoding : TagEncoding ℕ) (field : ℕ) (layouts : List (VariantLayout ℕ)) → variants ≡ Multiple tag encoding field layouts → ⊥) → length (variants_of variants) ≡ 0
none_several (Multiple tag encoding field layouts) other = absurd (other tag encoding field layouts refl)
none_several (OneVariant i) other = refl
none_several Empty other = refl

-- they lie inside the type
pub left_within : (p q : Placed) (sets : List (List (ℕ × ℕ))) → q ≡ p → has_room p ≡ true → ((v k : ℕ) → IsVariantIndex (layout_of q).variants v → is_in_ranges (get_or sets v []) k ≡ is_left_unused q v k) →
    (v k : ℕ) → IsVariantIndex (layout_of p).variants v → is_in_ranges (get_or sets v []) k ≡ true → k < size_of p
left_within p q sets same room each v k index there =
    let left : is_left_unused p v k ≡ true = ap (λ r. is_left_unused r v k) (sym same) ∙ sym (each v k (subst (λ r. IsVariantIndex (layout_of r).variants v) (sym same) index)) ∙ there in
    within_room p k room (and_parts (is_data_place p k) (not (is_place_of_variant p v k)) left).0
