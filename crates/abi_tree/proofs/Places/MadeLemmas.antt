-- The runs of a node's data places, made from those of the nodes that it names.
use Rattle.std.proofs.Common.{◌≡◌, ◌≢◌, ℕ, zero, suc, ◌+◌, ◌-◌, ◌*◌, ◌/◌, ◌%◌, ◌<◌, ◌≤◌, ⊎_elim, List, [], ◌∷◌, ◌++◌, Bool, true, false, None, Option, Some, IfSome, length, map, get_or, take, min, length-append, arith, refl, sym, ap, ◌∙◌, subst, All}
use Rattle.std.specs.Prelude.{◌==◌, ◌&&◌, ◌||◌, ◌^◌, nat_le, nat_lt, not}
use Rattle.std.proofs.Math.Bool.{or-false}
use Rattle.std.proofs.Math.Nat.{mul-div_cancel}
use Rattle.std.proofs.lemmas.Bool.{and_parts, cases_eq, eqb-true, false_from_ne_true, le-leb, leb-true}
use Rattle.std.proofs.lemmas.List.{get_or-map, get_or-take, get_or_append_left, get_or_push, length-map, length-take, length-take-le, map-append, take_more}
use Rattle.std.proofs.lemmas.List.Elements.{All-nil, All-cons, All-head, All-tail}
use Rattle.std.proofs.lemmas.List.Folds.{list_any-append}
use Rattle.abi_index.specs.RangeSet.{AreMaximalRuns, is_in_run, is_in_ranges}
use Rattle.abi_index.specs.Runs.{Adds, moved_to, repeated}
use Rattle.abi_index.proofs.RunsLemmas.{adds_both, adds_same, moved-zero}
use Rattle.abi_scalar.specs.Shape.{listed_offsets}
use Rattle.std.specs.Prelude.{Vec}
use Rattle.std.specs.declared.alloc.Global.{Global}
use Rattle.abi_scalar.specs.declared.scalar.Scalar.{Scalar}
use Rattle.abi_tree.specs.declared.mark.Mark.{Mark}
use Rattle.abi_tree.specs.declared.node.Shape.{Shape}
use Rattle.abi_tree.specs.declared.node.Shape.TheVariants.{Scalar as Number, Pair, Never, Elements, Fields, Union, Vector, Single, Tagged, States}
use Rattle.abi_tree.specs.declared.node.Node.{Node}
use Rattle.abi_tree.specs.declared.node.NodeRef.{NodeRef}
use Rattle.abi_tree.specs.Placed.{Placed, size_of, nothing, scalar, pair, never, elements, vector, fields, union, single, tagged, states}
use Rattle.abi_tree.specs.Places.{is_data_place, is_place_of_part, is_place_of_tagged_variant}
use Rattle.abi_tree.specs.Nodes.{tagged_variants_in, lent_node, meaning, own_fields, parts_at, parts_at_0, placed_at, placed_in, state_tag_offset, tag_offset, types_in}
use Rattle.abi_tree.specs.Laws.{has_list, have_lists}
use Rattle.abi_tree.specs.Room.{tagged_variants_have_room, has_room, have_room}
use Rattle.abi_tree.specs.Runs.{is_padding_of}
use Rattle.abi_tree.specs.Typed.{variant_nodes}
use Rattle.abi_tree.specs.Needed.{AreMade, AreNeeded, IsKept, IsMade, IsMadeOf, IsSet, is_among, named_by, parts_cover, placed_nodes, sets_at, some_covers}
use Rattle.abi_tree.proofs.Meaning.NodesLemmas.{layout_of-meaning, layout_of-placed_at, placed_at-node}
use Rattle.abi_tree.proofs.Places.RoomLemmas.{room_at, within_room}
use Rattle.abi_tree.proofs.Places.DataPlacesLemmas.{runs_inside}
use Rattle.abi_tree.proofs.Places.NeededLemmas.{All-left, All-right, among_all, among_own, named_first, or_assoc, variants_listed}

-- ---- sets put in one after another

parts_cover-push : (os : List ℕ) (ss : List (List (ℕ × ℕ))) (o : ℕ) (s : List (ℕ × ℕ)) (k : ℕ) → length os ≡ length ss →
    parts_cover (os ++ o ∷ []) (ss ++ s ∷ []) k ≡ (parts_cover os ss k || moved_to o (is_in_ranges s) k)
parts_cover-push [] [] o s k same = or-false (moved_to o (is_in_ranges s) k)
parts_cover-push [] (t ∷ ss) o s k same = absurd (omega arith)
parts_cover-push (r ∷ os) [] o s k same = absurd (omega arith)
parts_cover-push (r ∷ os) (t ∷ ss) o s k same =
    ap (λ b. moved_to r (is_in_ranges t) k || b) (parts_cover-push os ss o s k (omega arith)) ∙ sym (or_assoc (moved_to r (is_in_ranges t) k) (parts_cover os ss k) (moved_to o (is_in_ranges s) k))

-- the first of them, and one more
pub parts_next : (all old new : List (ℕ × ℕ)) (os : List ℕ) (done : List (List (ℕ × ℕ))) (cs : List ℕ) (i : ℕ) → i < length os → i < length cs →
    Adds all old (parts_cover (take i os) (take i (sets_at done cs))) → Adds old new (moved_to (get_or os i 0) (is_in_ranges (get_or done (get_or cs i 0) []))) →
    Adds all new (parts_cover (take (i + 1) os) (take (i + 1) (sets_at done cs)))
parts_next all old new os done cs i lt below before next =
    let ss : List (List (ℕ × ℕ)) = sets_at done cs in
    let within : i < length ss = omega (arith, below, length-map cs (λ c. get_or done c [])) in
    let s : List (ℕ × ℕ) = get_or done (get_or cs i 0) [] in
    let at : get_or ss i [] ≡ s = get_or-map (λ c. get_or done c []) cs i 0 [] below in
    adds_same all new (λ k. parts_cover (take i os) (take i ss) k || moved_to (get_or os i 0) (is_in_ranges s) k) (parts_cover (take (i + 1) os) (take (i + 1) ss))
    (adds_both all old new (parts_cover (take i os) (take i ss)) (moved_to (get_or os i 0) (is_in_ranges s)) before next)
    (λ k. sym (ap (λ xs. parts_cover xs (take (i + 1) ss) k) (take_more os i 0 lt)
    ∙ ap (λ xs. parts_cover (take i os ++ get_or os i 0 ∷ []) xs k) (take_more ss i [] within ∙ ap (λ t. take i ss ++ t ∷ []) at)
    ∙ parts_cover-push (take i os) (take i ss) (get_or os i 0) s k (length-take-le i os (omega (arith, lt)) ∙ sym (length-take-le i ss (omega (arith, within))))))

-- all of them
pub parts_all : (os : List ℕ) (ss : List (List (ℕ × ℕ))) (n k : ℕ) → n ≡ min (length os) (length ss) → parts_cover (take n os) (take n ss) k ≡ parts_cover os ss k
parts_all [] ss n k e = let none : n ≡ 0 = omega arith in ap (λ m. parts_cover (take m []) (take m ss) k) none
parts_all (o ∷ os) [] n k e = let none : n ≡ 0 = omega arith in ap (λ m. parts_cover (take m (o ∷ os)) (take m []) k) none
parts_all (o ∷ os) (s ∷ ss) zero k e = absurd (omega arith)
parts_all (o ∷ os) (s ∷ ss) (suc n) k e = ap (λ b. moved_to o (is_in_ranges s) k || b) (parts_all os ss n k (omega arith))

-- one set more at the same place
pub stacked_next : (all old new : List (ℕ × ℕ)) (done : List (List (ℕ × ℕ))) (cs : List ℕ) (i d : ℕ) → i < length cs → Adds all old (some_covers (sets_at done (take i cs))) →
    Adds old new (moved_to 0 (is_in_ranges (get_or done (get_or cs i d) []))) → Adds all new (some_covers (sets_at done (take (i + 1) cs)))
stacked_next all old new done cs i d lt before next =
    let s : List (ℕ × ℕ) = get_or done (get_or cs i d) [] in
    adds_same all new (λ k. some_covers (sets_at done (take i cs)) k || moved_to 0 (is_in_ranges s) k) (some_covers (sets_at done (take (i + 1) cs)))
    (adds_both all old new (some_covers (sets_at done (take i cs))) (moved_to 0 (is_in_ranges s)) before next)
    (λ k. sym (ap (λ xs. some_covers (sets_at done xs) k) (take_more cs i d lt) ∙ ap (λ ss. some_covers ss k) (map-append (λ c. get_or done c []) (take i cs) (get_or cs i d ∷ []))
    ∙ list_any-append (λ t. is_in_ranges t k) (sets_at done (take i cs)) (s ∷ []) ∙ ap (λ b. some_covers (sets_at done (take i cs)) k || b) (or-false (is_in_ranges s k) ∙ sym (moved-zero (is_in_ranges s) k))))

pub variant_next : (all old new : List (ℕ × ℕ)) (done : List (List (ℕ × ℕ))) (vs : List (ℕ × ℕ)) (i : ℕ) (d : ℕ × ℕ) → i < length vs → Adds all old (some_covers (sets_at done (map (λ v. v.1) (take i vs)))) →
    Adds old new (moved_to 0 (is_in_ranges (get_or done (get_or vs i d).1 []))) → Adds all new (some_covers (sets_at done (map (λ v. v.1) (take (i + 1) vs))))
variant_next all old new done vs i d lt before next =
    let s : List (ℕ × ℕ) = get_or done (get_or vs i d).1 [] in
    let cs : List ℕ = map (λ v. v.1) (take i vs) in
    adds_same all new (λ k. some_covers (sets_at done cs) k || moved_to 0 (is_in_ranges s) k) (some_covers (sets_at done (map (λ v. v.1) (take (i + 1) vs))))
    (adds_both all old new (some_covers (sets_at done cs)) (moved_to 0 (is_in_ranges s)) before next)
    (λ k. sym (ap (λ xs. some_covers (sets_at done xs) k) (ap (map (λ v. v.1)) (take_more vs i d lt) ∙ map-append (λ v. v.1) (take i vs) (get_or vs i d ∷ []))
    ∙ ap (λ ss. some_covers ss k) (map-append (λ c. get_or done c []) cs ((get_or vs i d).1 ∷ []))
    ∙ list_any-append (λ t. is_in_ranges t k) (sets_at done cs) (s ∷ []) ∙ ap (λ b. some_covers (sets_at done cs) k || b) (or-false (is_in_ranges s k) ∙ sym (moved-zero (is_in_ranges s) k))))

-- each run ends where 64 bits can tell it
pub maximal_fits : (low : ℕ) (runs : List (ℕ × ℕ)) → AreMaximalRuns low runs → All (λ run. 0 + (run.0 + run.1) < 2 ^ 64) runs
maximal_fits low [] maximal = All-nil (λ run. 0 + (run.0 + run.1) < 2 ^ 64)
maximal_fits low (run ∷ runs) maximal = All-cons (λ run. 0 + (run.0 + run.1) < 2 ^ 64) run runs (omega (arith, maximal.2)) (maximal_fits (run.0 + run.1 + 1) runs maximal.3)

-- ---- they have what the node has

-- what is shown of each place among them holds of all
all_among : (P : ℕ → Type 0) (xs : List ℕ) → ((j : ℕ) → is_among xs j ≡ true → P j) → All P xs
all_among P xs each = λ i d lt. each (get_or xs i d) (among_own xs i d lt)

module _ (types : List Placed) (done : List (List (ℕ × ℕ))) where
  -- the set at a place has the type's data places
  abbrev Made : ℕ → Type 0
  Made j = IsMade (placed_in types j) done j

  abbrev Own : ℕ → Type 0
  Own j = (k : ℕ) → is_data_place (placed_in types j) k ≡ is_place_of_part (own_fields (placed_in types j)) k

  parts_same : (os cs : List ℕ) (k : ℕ) → All Made (take (length os) cs) → parts_cover os (sets_at done (take (length os) cs)) k ≡ is_place_of_part (parts_at os (map (placed_in types) cs)) k
  parts_same [] cs k made = refl
  parts_same (o ∷ os) [] k made = refl
  parts_same (o ∷ os) (c ∷ cs) k made =
      ap (λ b. (nat_le o k && b) || parts_cover os (sets_at done (take (length os) cs)) k) ((All-head Made c (take (length os) cs) made).1 (k - o))
      ∙ ap (λ b. (nat_le o k && is_data_place (placed_in types c) (k - o)) || b) (parts_same os cs k (All-tail Made c (take (length os) cs) made))

  stacked_same : (cs : List ℕ) (k : ℕ) → All Made cs → some_covers (sets_at done cs) k ≡ is_place_of_part (parts_at_0 (map (placed_in types) cs)) k
  stacked_same [] k made = refl
  stacked_same (c ∷ cs) k made =
      ap (λ b. b || some_covers (sets_at done cs) k) ((All-head Made c cs made).1 k ∙ sym (moved-zero (is_data_place (placed_in types c)) k))
      ∙ ap (λ b. moved_to 0 (is_data_place (placed_in types c)) k || b) (stacked_same cs k (All-tail Made c cs made))

  tagged_variants_same : (vs : List (ℕ × ℕ)) (k : ℕ) → All Made (map (λ v. v.1) vs) → All Own (map (λ v. v.1) vs) → some_covers (sets_at done (map (λ v. v.1) vs)) k ≡ is_place_of_tagged_variant (tagged_variants_in types vs) k
  tagged_variants_same [] k made own = refl
  tagged_variants_same (v ∷ vs) k made own =
      let rest : List ℕ = map (λ v. v.1) vs in
      ap (λ b. b || some_covers (sets_at done rest) k) ((All-head Made v.1 rest made).1 k ∙ All-head Own v.1 rest own k)
      ∙ ap (λ b. is_place_of_part (own_fields (placed_in types v.1)) k || b) (tagged_variants_same vs k (All-tail Made v.1 rest made) (All-tail Own v.1 rest own))

  -- the runs of a set end inside its type
  set_ends : (j : ℕ) → has_room (placed_in types j) ≡ true → Made j → All (λ run. run.0 + run.1 ≤ size_of (placed_in types j)) (get_or done j [])
  set_ends j room made = runs_inside (placed_in types j) (get_or done j []) room made.0.1 made.1

  parts_fit : (size : ℕ) (os cs : List ℕ) → size < 2 ^ 64 → have_room size (parts_at os (map (placed_in types) cs)) ≡ true → All Made (take (length os) cs) → (i : ℕ) → i < length os →
      i < length (take (length os) cs) → All (λ run. get_or os i 0 + (run.0 + run.1) < 2 ^ 64) (get_or done (get_or (take (length os) cs) i 0) [])
  parts_fit size os cs fits room made i lt below = λ k d within.
      let short = length-take (length os) cs in
      let in_all : i < length cs = omega (arith, short, below) in
      let in_types : i < length (map (placed_in types) cs) = omega (arith, in_all, length-map cs (placed_in types)) in
      let same : get_or (take (length os) cs) i 0 ≡ get_or cs i 0 = get_or-take (length os) cs i 0 lt in
      let child : get_or (map (placed_in types) cs) i nothing ≡ placed_in types (get_or (take (length os) cs) i 0) = get_or-map (placed_in types) cs i 0 nothing in_all ∙ ap (placed_in types) (sym same) in
      let at = room_at size os (map (placed_in types) cs) i room lt in_types in
      let ends = set_ends (get_or (take (length os) cs) i 0) (ap has_room (sym child) ∙ at.1) (made i 0 below) in
      omega (arith, ends k d within, at.0, ap size_of child, fits)

module _ (types : List Placed) (n : Node) (done : List (List (ℕ × ℕ))) (made : IsMadeOf types n done) (some : 0 < n.layout.size) where
  room_as : (shape : Shape) → n.shape ≡ shape → has_room (meaning types n.layout shape) ≡ true
  room_as shape e = ap (λ s. has_room (meaning types n.layout s)) (sym e) ∙ made.room

  made_as : (shape : Shape) → n.shape ≡ shape → All (Made types done) (named_by n.layout shape)
  made_as shape e = subst (λ s. All (Made types done) (named_by n.layout s)) e (all_among (Made types done) (named_by n.layout n.shape) (made.named some))

  own_as : (shape : Shape) → n.shape ≡ shape → All (Own types done) (variant_nodes shape)
  own_as shape e = subst (λ s. All (Own types done) (variant_nodes s)) e (all_among (Own types done) (variant_nodes n.shape) made.own)

  -- what is put in is what a node of this shape has
  put_as : (shape : Shape) (old new : List (ℕ × ℕ)) (p : ℕ → Bool) → n.shape ≡ shape → Adds old new p → ((k : ℕ) → p k ≡ is_data_place (meaning types n.layout shape) k) →
      Adds old new (is_data_place (meaning types n.layout n.shape))
  put_as shape old new p e adds same =
      adds_same old new p (is_data_place (meaning types n.layout n.shape)) adds (λ k. same k ∙ ap (λ s. is_data_place (meaning types n.layout s) k) (sym e))

  sets_of : (cs : List ℕ) → All (Made types done) cs → All (IsSet done) cs
  sets_of cs all = λ i d lt. (all i d lt).0

  -- fields that are listed one by one
  pub listed_sets : (cs : List ℕ) → All (Made types done) (placed_nodes n.layout cs) → All (IsSet done) (placed_nodes n.layout cs)
  listed_sets cs all = sets_of (placed_nodes n.layout cs) all

  -- all bytes
  pub put_number : (s : Scalar) (old new : List (ℕ × ℕ)) → n.shape ≡ Number s → Adds old new (moved_to 0 (λ k. nat_lt k n.layout.size)) → Adds old new (is_data_place (meaning types n.layout n.shape))
  put_number s old new e adds = put_as (Number s) old new (moved_to 0 (λ k. nat_lt k n.layout.size)) e adds (λ k. moved-zero (λ k. nat_lt k n.layout.size) k)

  pub put_never : (mark : Mark) (old new : List (ℕ × ℕ)) → n.shape ≡ Never mark → Adds old new (moved_to 0 (λ k. nat_lt k n.layout.size)) → Adds old new (is_data_place (meaning types n.layout n.shape))
  put_never mark old new e adds = put_as (Never mark) old new (moved_to 0 (λ k. nat_lt k n.layout.size)) e adds (λ k. moved-zero (λ k. nat_lt k n.layout.size) k)

  -- fields, each at its offset
  abbrev offsets_of : List ℕ
  offsets_of = listed_offsets n.layout.fields

  abbrev Listed : List ℕ → Type 0
  Listed cs = (have_room n.layout.size (parts_at offsets_of (map (placed_in types) cs)) ≡ true) × All (Made types done) (placed_nodes n.layout cs)

  pub listed_pair : (first second : ℕ) → n.shape ≡ Pair first second → Listed (first ∷ second ∷ [])
  listed_pair first second e = (room_as (Pair first second) e, made_as (Pair first second) e)

  pub listed_fields : (mark : Mark) (children : Vec ℕ Global) → n.shape ≡ Fields mark children → Listed children.items
  listed_fields mark children e = (room_as (Fields mark children) e, made_as (Fields mark children) e)

  pub listed_single : (mark : Mark) (children : Vec ℕ Global) → n.shape ≡ Single mark children → Listed children.items
  listed_single mark children e = (room_as (Single mark children) e, made_as (Single mark children) e)

  pub listed_fit : (cs os xs : List ℕ) → Listed cs → os ≡ offsets_of → xs ≡ placed_nodes n.layout cs → n.layout.size < 2 ^ 64 →
      All (IsSet done) xs × ((i : ℕ) → i < length os → i < length xs → All (λ run. get_or os i 0 + (run.0 + run.1) < 2 ^ 64) (get_or done (get_or xs i 0) []))
  listed_fit cs os xs listed same are fits =
      subst (λ o. All (IsSet done) xs × ((i : ℕ) → i < length o → i < length xs → All (λ run. get_or o i 0 + (run.0 + run.1) < 2 ^ 64) (get_or done (get_or xs i 0) []))) (sym same)
      (subst (λ x. All (IsSet done) x × ((i : ℕ) → i < length offsets_of → i < length x → All (λ run. get_or offsets_of i 0 + (run.0 + run.1) < 2 ^ 64) (get_or done (get_or x i 0) []))) (sym are)
      (listed_sets cs listed.1, parts_fit types done n.layout.size offsets_of cs fits listed.0 listed.1))

  pub listed_same : (cs os xs : List ℕ) → Listed cs → os ≡ offsets_of → xs ≡ placed_nodes n.layout cs → (k : ℕ) →
      parts_cover os (sets_at done xs) k ≡ is_place_of_part (parts_at offsets_of (map (placed_in types) cs)) k
  listed_same cs os xs listed same are k =
      ap (λ o. parts_cover o (sets_at done xs) k) same ∙ ap (λ x. parts_cover offsets_of (sets_at done x) k) are ∙ parts_same types done offsets_of cs k listed.1

  pub put_pair : (first second : ℕ) (os xs : List ℕ) (old new : List (ℕ × ℕ)) → n.shape ≡ Pair first second → os ≡ offsets_of → xs ≡ placed_nodes n.layout (first ∷ second ∷ []) →
      Adds old new (parts_cover os (sets_at done xs)) → Adds old new (is_data_place (meaning types n.layout n.shape))
  put_pair first second os xs old new e same are adds =
      put_as (Pair first second) old new (parts_cover os (sets_at done xs)) e adds (listed_same (first ∷ second ∷ []) os xs (listed_pair first second e) same are)

  pub put_fields : (mark : Mark) (children : Vec ℕ Global) (os xs : List ℕ) (old new : List (ℕ × ℕ)) → n.shape ≡ Fields mark children → os ≡ offsets_of → xs ≡ placed_nodes n.layout children.items →
      Adds old new (parts_cover os (sets_at done xs)) → Adds old new (is_data_place (meaning types n.layout n.shape))
  put_fields mark children os xs old new e same are adds =
      put_as (Fields mark children) old new (parts_cover os (sets_at done xs)) e adds (listed_same children.items os xs (listed_fields mark children e) same are)

  pub put_single : (mark : Mark) (children : Vec ℕ Global) (os xs : List ℕ) (old new : List (ℕ × ℕ)) → n.shape ≡ Single mark children → os ≡ offsets_of → xs ≡ placed_nodes n.layout children.items →
      Adds old new (parts_cover os (sets_at done xs)) → Adds old new (is_data_place (meaning types n.layout n.shape))
  put_single mark children os xs old new e same are adds =
      put_as (Single mark children) old new (parts_cover os (sets_at done xs)) e adds (listed_same children.items os xs (listed_single mark children e) same are)

  -- elements
  pub elements_of : (count element : ℕ) → n.shape ≡ Elements count element →
      (n.layout.size ≡ size_of (placed_in types element) * count) × IsSet done element × All (λ run. run.0 + run.1 ≤ size_of (placed_in types element)) (get_or done element [])
  elements_of count element e =
      let room = room_as (Elements count element) e in
      let both = and_parts (n.layout.size == size_of (placed_in types element) * count) (has_room (placed_in types element)) room in
      let made_one : Made types done element = All-head (Made types done) element [] (made_as (Elements count element) e) in
      (eqb-true n.layout.size (size_of (placed_in types element) * count) both.0, made_one.0, set_ends types done element both.1 made_one)

  pub put_elements : (count element : ℕ) (old new : List (ℕ × ℕ)) → n.shape ≡ Elements count element →
      Adds old new (repeated (size_of (placed_in types element)) count (is_in_ranges (get_or done element []))) → Adds old new (is_data_place (meaning types n.layout n.shape))
  put_elements count element old new e adds =
      let made_one : Made types done element = All-head (Made types done) element [] (made_as (Elements count element) e) in
      let size : ℕ = size_of (placed_in types element) in
      put_as (Elements count element) old new (repeated size count (is_in_ranges (get_or done element []))) e adds (λ k. ap (λ b. nat_lt (k / size) count && b) (made_one.1 (k % size)))

  -- a union's fields
  pub union_sets : (mark : Mark) (children : Vec ℕ Global) → n.shape ≡ Union mark children → All (IsSet done) children.items
  union_sets mark children e = sets_of children.items (made_as (Union mark children) e)

  pub put_union : (mark : Mark) (children : Vec ℕ Global) (xs : List ℕ) (old new : List (ℕ × ℕ)) → n.shape ≡ Union mark children → xs ≡ children.items →
      Adds old new (some_covers (sets_at done xs)) → Adds old new (is_data_place (meaning types n.layout n.shape))
  put_union mark children xs old new e are adds =
      put_as (Union mark children) old new (some_covers (sets_at done xs)) e adds
      (λ k. ap (λ x. some_covers (sets_at done x) k) are ∙ stacked_same types done children.items k (made_as (Union mark children) e))

  -- lanes
  pub vector_set : (lanes : ℕ) → n.shape ≡ Vector lanes → IsSet done lanes
  vector_set lanes e = (All-head (Made types done) lanes [] (made_as (Vector lanes) e)).0

  pub put_vector : (lanes : ℕ) (old new : List (ℕ × ℕ)) → n.shape ≡ Vector lanes → Adds old new (moved_to 0 (is_in_ranges (get_or done lanes []))) → Adds old new (is_data_place (meaning types n.layout n.shape))
  put_vector lanes old new e adds =
      put_as (Vector lanes) old new (moved_to 0 (is_in_ranges (get_or done lanes []))) e adds
      (λ k. moved-zero (is_in_ranges (get_or done lanes [])) k ∙ (All-head (Made types done) lanes [] (made_as (Vector lanes) e)).1 k)

  -- a tag and variants beside it
  abbrev TaggedNodes : (offset tag : ℕ) → (vs : List (ℕ × ℕ)) → Type 0
  TaggedNodes offset tag vs = (offset + size_of (placed_in types tag) ≤ n.layout.size) × (has_room (placed_in types tag) ≡ true) × All (Made types done) (tag ∷ map (λ v. v.1) vs) × All (Own types done) (map (λ v. v.1) vs)

  pub beside_tagged : (mark : Mark) (tag : ℕ) (variants : Vec (ℕ × ℕ) Global) → n.shape ≡ Tagged mark tag variants → TaggedNodes (tag_offset n.layout) tag variants.items
  beside_tagged mark tag variants e =
      let fits = nat_le (tag_offset n.layout + size_of (placed_in types tag)) n.layout.size in
      let both = and_parts (fits && has_room (placed_in types tag)) (tagged_variants_have_room n.layout.size (tagged_variants_in types variants.items)) (room_as (Tagged mark tag variants) e) in
      let of_tag = and_parts fits (has_room (placed_in types tag)) both.0 in
      (leb-true (tag_offset n.layout + size_of (placed_in types tag)) n.layout.size of_tag.0, of_tag.1, made_as (Tagged mark tag variants) e, own_as (Tagged mark tag variants) e)

  pub states_parts : (prefix : Vec ℕ Global) (tag : ℕ) (all : Vec (ℕ × ℕ) Global) → n.shape ≡ States prefix tag all →
      Listed prefix.items × TaggedNodes (state_tag_offset n.layout (length prefix.items)) tag all.items
  states_parts prefix tag all e =
      let offset : ℕ = state_tag_offset n.layout (length prefix.items) in
      let fits = nat_le (offset + size_of (placed_in types tag)) n.layout.size in
      let tagged_variants = tagged_variants_have_room n.layout.size (tagged_variants_in types all.items) in
      let first = and_parts (have_room n.layout.size (parts_at offsets_of (map (placed_in types) prefix.items))) ((fits && has_room (placed_in types tag)) && tagged_variants) (room_as (States prefix tag all) e) in
      let both = and_parts (fits && has_room (placed_in types tag)) tagged_variants first.1 in
      let of_tag = and_parts fits (has_room (placed_in types tag)) both.0 in
      let each = made_as (States prefix tag all) e in
      let xs : List ℕ = placed_nodes n.layout prefix.items in
      let ys : List ℕ = tag ∷ map (λ v. v.1) all.items in (
        (first.0, All-left (Made types done) xs ys each),
        (leb-true (offset + size_of (placed_in types tag)) n.layout.size of_tag.0, of_tag.1, All-right (Made types done) xs ys each, own_as (States prefix tag all) e),
      )

  pub beside_fits : (offset tag : ℕ) (vs : List (ℕ × ℕ)) → TaggedNodes offset tag vs → n.layout.size < 2 ^ 64 →
      IsSet done tag × All (λ run. offset + (run.0 + run.1) < 2 ^ 64) (get_or done tag []) × All (IsSet done) (map (λ v. v.1) vs)
  beside_fits offset tag vs beside fits =
      let rest : List ℕ = map (λ v. v.1) vs in
      let of_tag : Made types done tag = All-head (Made types done) tag rest beside.2 in
      let ends = set_ends types done tag beside.1 of_tag in
      (of_tag.0, λ k d lt. omega (arith, ends k d lt, beside.0, fits), sets_of rest (All-tail (Made types done) tag rest beside.2))

  beside_same : (offset tag : ℕ) (vs : List (ℕ × ℕ)) (k : ℕ) → TaggedNodes offset tag vs →
      (moved_to offset (is_in_ranges (get_or done tag [])) k || some_covers (sets_at done (map (λ v. v.1) vs)) k)
      ≡ ((nat_le offset k && is_data_place (placed_in types tag) (k - offset)) || is_place_of_tagged_variant (tagged_variants_in types vs) k)
  beside_same offset tag vs k beside =
      let rest : List ℕ = map (λ v. v.1) vs in
      let of_tag : Made types done tag = All-head (Made types done) tag rest beside.2 in
      ap (λ b. (nat_le offset k && b) || some_covers (sets_at done rest) k) (of_tag.1 (k - offset))
      ∙ ap (λ b. (nat_le offset k && is_data_place (placed_in types tag) (k - offset)) || b) (tagged_variants_same types done vs k (All-tail (Made types done) tag rest beside.2) beside.3)

  pub put_tagged : (mark : Mark) (tag : ℕ) (variants : Vec (ℕ × ℕ) Global) (offset : ℕ) (vs : List (ℕ × ℕ)) (old new : List (ℕ × ℕ)) → n.shape ≡ Tagged mark tag variants → offset ≡ tag_offset n.layout → vs ≡ variants.items →
      Adds old new (λ k. moved_to offset (is_in_ranges (get_or done tag [])) k || some_covers (sets_at done (map (λ v. v.1) vs)) k) → Adds old new (is_data_place (meaning types n.layout n.shape))
  put_tagged mark tag variants offset vs old new e at are adds =
      put_as (Tagged mark tag variants) old new (λ k. moved_to offset (is_in_ranges (get_or done tag [])) k || some_covers (sets_at done (map (λ v. v.1) vs)) k) e adds
      (λ k. ap (λ o. moved_to o (is_in_ranges (get_or done tag [])) k || some_covers (sets_at done (map (λ v. v.1) vs)) k) at
      ∙ ap (λ w. moved_to (tag_offset n.layout) (is_in_ranges (get_or done tag [])) k || some_covers (sets_at done (map (λ v. v.1) w)) k) are
      ∙ beside_same (tag_offset n.layout) tag variants.items k (beside_tagged mark tag variants e))

  pub put_states : (prefix : Vec ℕ Global) (tag : ℕ) (all : Vec (ℕ × ℕ) Global) (os xs : List ℕ) (offset : ℕ) (vs : List (ℕ × ℕ)) (old middle new : List (ℕ × ℕ)) → n.shape ≡ States prefix tag all → os ≡ offsets_of →
      xs ≡ placed_nodes n.layout prefix.items → offset ≡ state_tag_offset n.layout (length prefix.items) → vs ≡ all.items → Adds old middle (parts_cover os (sets_at done xs)) →
      Adds middle new (λ k. moved_to offset (is_in_ranges (get_or done tag [])) k || some_covers (sets_at done (map (λ v. v.1) vs)) k) → Adds old new (is_data_place (meaning types n.layout n.shape))
  put_states prefix tag all os xs offset vs old middle new e same are at which first second =
      let parts = states_parts prefix tag all e in
      let place : ℕ = state_tag_offset n.layout (length prefix.items) in
      let later : ℕ → Bool = λ k. moved_to offset (is_in_ranges (get_or done tag [])) k || some_covers (sets_at done (map (λ v. v.1) vs)) k in
      put_as (States prefix tag all) old new (λ k. parts_cover os (sets_at done xs) k || later k) e (adds_both old middle new (parts_cover os (sets_at done xs)) later first second)
      (λ k. ap (λ b. b || later k) (listed_same prefix.items os xs parts.0 same are k)
      ∙ ap (λ b. is_place_of_part (parts_at offsets_of (map (placed_in types) prefix.items)) k || b)
      (ap (λ o. moved_to o (is_in_ranges (get_or done tag [])) k || some_covers (sets_at done (map (λ v. v.1) vs)) k) at
      ∙ ap (λ w. moved_to place (is_in_ranges (get_or done tag [])) k || some_covers (sets_at done (map (λ v. v.1) w)) k) which
      ∙ beside_same place tag all.items k parts.1))

-- a node without bytes has no data places
pub nothing_made : (types : List Placed) (n : Node) (done : List (List (ℕ × ℕ))) → IsMadeOf types n done → (0 < n.layout.size → ⊥) → (k : ℕ) → false ≡ is_data_place (meaning types n.layout n.shape) k
nothing_made types n done made bare k =
    let p : Placed = meaning types n.layout n.shape in
    let size : size_of p ≡ n.layout.size = ap (λ l. l.size) (layout_of-meaning types n.layout n.shape) in
    sym (false_from_ne_true (is_data_place p k) (λ place. bare (omega (arith, size, within_room p k made.room place))))

-- ---- from the first node on up

-- a type with fields that are listed one by one has their data places
pub listed_own : (p : Placed) → has_list p ≡ true → (k : ℕ) → is_data_place p k ≡ is_place_of_part (own_fields p) k
listed_own (scalar layout s) listed k = absurd (cc)
listed_own (pair layout parts) listed k = absurd (cc)
listed_own (never layout mark) listed k = absurd (cc)
listed_own (elements layout count element) listed k = absurd (cc)
listed_own (vector layout lanes) listed k = absurd (cc)
listed_own (fields layout mark parts) listed k = refl
listed_own (union layout mark parts) listed k = absurd (cc)
listed_own (single layout mark index parts) listed k = absurd (cc)
listed_own (tagged layout mark offset tag encoding tagged_variants) listed k = absurd (cc)
listed_own (states layout prefix offset tag tagged_variants) listed k = absurd (cc)

pub each_list : (types : List Placed) (cs : List ℕ) → have_lists types cs ≡ true → All (λ j. has_list (placed_in types j) ≡ true) cs
each_list types [] listed = All-nil (λ j. has_list (placed_in types j) ≡ true)
each_list types (c ∷ cs) listed =
    let both = and_parts (has_list (placed_in types c)) (have_lists types cs) listed in
    All-cons (λ j. has_list (placed_in types j) ≡ true) c cs both.0 (each_list types cs both.1)

module _ (ns : List Node) (kept : List (Option NodeRef)) (needed : AreNeeded ns kept) (at : ℕ) (done : List (List (ℕ × ℕ))) (made : AreMade ns kept at done) (lt : at < length kept) where
  made_before : (set : List (ℕ × ℕ)) (j : ℕ) → j < at → IsKept kept j → IsMade (placed_at ns j) (done ++ set ∷ []) j
  made_before set j below keeps =
      let old = made.made j below keeps in
      let read : get_or (done ++ set ∷ []) j [] ≡ get_or done j [] = get_or_append_left done (set ∷ []) [] j (omega (arith, below, made.long)) in
      ((omega (arith, length-append done (set ∷ []), made.long, below), subst (AreMaximalRuns 0) (sym read) old.0.1), λ k. ap (λ rs. is_in_ranges rs k) read ∙ old.1 k)

  module _ (n : NodeRef) (here : get_or kept at None ≡ Some n) where
    in_nodes : at < length ns
    in_nodes = omega (arith, lt, needed.long)

    own : (lent_node n ≡ get_or ns at (lent_node n)) × (has_room (placed_at ns at) ≡ true)
    own = needed.own at n here

    meant : placed_at ns at ≡ meaning (types_in ns) n.layout.now n.shape.now
    meant = (placed_at-node ns needed.well at (lent_node n) n.shape.now in_nodes own.0 refl).1

    pub node_made : IsMadeOf (types_in ns) (lent_node n) done
    node_made = record {
      room = ap has_room (sym meant) ∙ own.1;
      named = λ some j among.
          made.made j (among_all (λ m. m < at) (named_by n.layout.now n.shape.now) j (named_first ns needed.well needed.laws at (lent_node n) in_nodes own.0) among) (needed.named at n here some j among);
      own = λ j among.
          listed_own (placed_at ns j)
          (among_all (λ m. has_list (placed_at ns m) ≡ true) (variant_nodes n.shape.now) j
          (each_list (types_in ns) (variant_nodes n.shape.now) (variants_listed ns needed.well needed.laws at (lent_node n) in_nodes own.0)) among);
    }

    -- with its set
    pub made_more : (set : List (ℕ × ℕ)) (new : List (List (ℕ × ℕ))) → new ≡ done ++ set ∷ [] → AreMaximalRuns 0 set →
        ((k : ℕ) → is_in_ranges set k ≡ is_data_place (meaning (types_in ns) n.layout.now n.shape.now) k) → AreMade ns kept (at + 1) new
    made_more set new is maximal same = subst (AreMade ns kept (at + 1)) (sym is) record {
      long = omega (arith, length-append done (set ∷ []), made.long);
      made = λ j below keeps.
          ⊎_elim
          (λ (last : j ≡ at).
          let read : get_or (done ++ set ∷ []) j [] ≡ set = get_or_push done set [] j (made.long ∙ sym last) in (
            (omega (arith, length-append done (set ∷ []), made.long, last), subst (AreMaximalRuns 0) (sym read) maximal),
            λ k. ap (λ rs. is_in_ranges rs k) read ∙ same k ∙ ap (λ p. is_data_place p k) (sym meant) ∙ ap (λ i. is_data_place (placed_at ns i) k) (sym last),
          ))
          (λ (other : j ≢ at). made_before set j (omega (arith, below, other)) keeps)
          (cases_eq j at);
    }

  -- where none is kept
  pub made_past : (set : List (ℕ × ℕ)) (new : List (List (ℕ × ℕ))) → new ≡ done ++ set ∷ [] → get_or kept at None ≡ None → AreMade ns kept (at + 1) new
  made_past set new is none = subst (AreMade ns kept (at + 1)) (sym is) record {
    long = omega (arith, length-append done (set ∷ []), made.long);
    made = λ j below keeps.
        ⊎_elim
        (λ (last : j ≡ at).
        let clash : None ≡ Some keeps.0 = sym none ∙ ap (λ i. get_or kept i None) (sym last) ∙ keeps.1 in
        absurd (cc))
        (λ (other : j ≢ at). made_before set j (omega (arith, below, other)) keeps)
        (cases_eq j at);
  }

  -- a set is asked for where one is kept
  pub entry_made : (entry : Option NodeRef) → get_or kept at None ≡ entry → IfSome entry (λ n. (types : List Placed) × IsMadeOf types (lent_node n) done)
  entry_made None e = tt
  entry_made (Some n) e = (types_in ns, node_made n e)

  -- and is the next
  pub made_next : (entry : Option NodeRef) → get_or kept at None ≡ entry → (set : List (ℕ × ℕ)) (new : List (List (ℕ × ℕ))) → new ≡ done ++ set ∷ [] → AreMaximalRuns 0 set →
      IfSome entry (λ n. (types : List Placed) → IsMadeOf types (lent_node n) done → (k : ℕ) → is_in_ranges set k ≡ is_data_place (meaning types n.layout.now n.shape.now) k) → AreMade ns kept (at + 1) new
  made_next None e set new is maximal same = made_past set new is e
  made_next (Some n) e set new is maximal same = made_more n e set new is maximal (same (types_in ns) (node_made n e))

-- the last set
pub last_made : (ns : List Node) (kept : List (Option NodeRef)) → AreNeeded ns kept → (at : ℕ) (done : List (List (ℕ × ℕ))) → AreMade ns kept at done → length kept ≤ at → at ≤ length kept →
    (rest : List (List (ℕ × ℕ))) (set : List (ℕ × ℕ)) → done ≡ rest ++ set ∷ [] → (k : ℕ) → is_in_ranges set k ≡ is_data_place (placed_at ns (length kept - 1)) k
last_made ns kept needed at done made le ge rest set is k =
    let last : ℕ = length kept - 1 in
    let place : length rest ≡ last = omega (arith, made.long, ap length is, length-append rest (set ∷ []), le, ge) in
    let read : get_or done last [] ≡ set = ap (λ d. get_or d last []) is ∙ get_or_push rest set [] last place in
    ap (λ rs. is_in_ranges rs k) (sym read) ∙ (made.made last (omega (arith, needed.some, ge, le)) needed.last).1 k

-- ---- elements and padding

pub element_stride : (size stride count : ℕ) → 0 < size → size ≡ stride * count → size / count ≡ stride
element_stride size stride count some e =
    let many : 0 < count = positive count (λ none. omega (arith, some, e ∙ ap (λ n. stride * n) none)) in
    ap (λ n. n / count) e ∙ mul-div_cancel stride many
  where
    positive : (n : ℕ) → (n ≡ 0 → ⊥) → 0 < n
    positive n other = omega (arith, other)

pub stride_some : (size stride count : ℕ) → 0 < size → size ≡ stride * count → 0 < size / count
stride_some size stride count some e =
    let none : (stride ≡ 0 → ⊥) = λ zero_stride. omega (arith, some, e ∙ ap (λ n. n * count) zero_stride) in
    omega (arith, none, element_stride size stride count some e)

-- the first and the last of them end where all do
pub elements_end : (size stride count : ℕ) → 0 < size → size ≡ stride * count → size / count * (count - 1) + stride ≤ size
elements_end size stride count some e =
    let same : size / count ≡ stride = element_stride size stride count some e in
    let many : (count ≡ 0 → ⊥) = λ none. omega (arith, some, e ∙ ap (λ n. stride * n) none) in
    let one : count ≡ count - 1 + 1 = omega (arith, many) in
    let all : size ≡ stride * (count - 1 + 1) = e ∙ ap (λ n. stride * n) one in
    omega (arith, all, ap (λ n. n * (count - 1)) same)

pub put_repeated : (old new set : List (ℕ × ℕ)) (size stride count : ℕ) → 0 < size → size ≡ stride * count → Adds old new (moved_to 0 (repeated (size / count) count (is_in_ranges set))) →
    Adds old new (repeated stride count (is_in_ranges set))
put_repeated old new set size stride count some e adds =
    adds_same old new (moved_to 0 (repeated (size / count) count (is_in_ranges set))) (repeated stride count (is_in_ranges set)) adds
    (λ k. moved-zero (repeated (size / count) count (is_in_ranges set)) k ∙ ap (λ m. repeated m count (is_in_ranges set) k) (element_stride size stride count some e))

-- what data places leave of a whole
pub padding_bytes : (p : Placed) (size : ℕ) (none whole places rest : List (ℕ × ℕ)) → size ≡ size_of p → none ≡ [] → ((k : ℕ) → is_in_ranges whole k ≡ (is_in_run k (0, size) || is_in_ranges none k)) →
    ((k : ℕ) → is_in_ranges places k ≡ is_data_place p k) → ((k : ℕ) → is_in_ranges rest k ≡ (is_in_ranges whole k && not (is_in_ranges places k))) → (k : ℕ) → is_in_ranges rest k ≡ is_padding_of p k
padding_bytes p size none whole places rest e empty all mine left k =
    let from_zero : 0 + size ≡ size = omega arith in
    left k ∙ ap (λ b. is_in_ranges whole k && not b) (mine k)
    ∙ ap (λ b. b && not (is_data_place p k)) (all k ∙ ap (λ rs. is_in_run k (0, size) || is_in_ranges rs k) empty ∙ or-false (is_in_run k (0, size))
    ∙ ap (λ b. b && nat_lt k (0 + size)) (le-leb 0 k (omega arith)) ∙ ap (nat_lt k) (from_zero ∙ e))

-- a kept node's size
pub kept_size_is : (ns : List Node) (kept : List (Option NodeRef)) → AreNeeded ns kept → (i size : ℕ) → i < length ns → i ≡ length kept - 1 → IfSome (get_or kept i None) (λ n. size ≡ n.layout.now.size) → size ≡ size_of (placed_at ns i)
kept_size_is ns kept needed i size lt last is =
    let root = subst (IsKept kept) (sym last) needed.last in
    let here : size ≡ root.0.layout.now.size = subst (λ o. IfSome o (λ n. size ≡ n.layout.now.size)) root.1 is in
    here ∙ ap (λ (n : Node). n.layout.size) (needed.own i root.0 root.1).0 ∙ sym (ap (λ l. l.size) (layout_of-placed_at ns i (lent_node root.0) lt))
