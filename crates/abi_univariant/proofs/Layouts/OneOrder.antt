-- There is one order that is named for a list, and so one layout.
use Rattle.std.proofs.Common.{◌≡◌, ℕ, zero, suc, ◌<◌, ◌≤◌, Bool, true, false, List, [], ◌∷◌, ◌++◌, Option, Some, None, length, map, get_or, refl, sym, ap, ◌∙◌, subst, arith}
use Rattle.std.specs.Prelude.{cond, filter, All, IsPermutation, MatchBool, MatchOption, slice_index}
use Rattle.std.specs.List.Sorted.{ties}
use Rattle.std.specs.Cmp.{IsStrictWeakOrder, IsTotalOrder, nat_cmp_total, on_total, then_total}
use Rattle.std.proofs.lemmas.List.{length-map}
use Rattle.std.proofs.lemmas.List.Elements.{All-nil, All-cons}
use Rattle.std.proofs.lemmas.List.FromFn.{length-range_with_len, get_or-range_with_len}
use Rattle.std.proofs.lemmas.List.Sorted.{All-permutation, IsPermutation-sym, ranks_by, sorted_far}
use Rattle.abi_base.specs.declared.data_layout.TargetDataLayout.{TargetDataLayout}
use Rattle.abi_base.specs.declared.struct_kind.StructKind.{StructKind}
use Rattle.abi_base.specs.DataLayout.{size_bound}
use Rattle.abi_scalar.specs.declared.layout_data.LayoutData.{LayoutData}
use Rattle.abi_scalar.specs.declared.niche.Niche.{Niche}
use Rattle.abi_scalar.specs.declared.repr.ReprOptions.{ReprOptions}
use Rattle.abi_scalar.specs.Repr.{is_abi_fixed}
use Rattle.abi_scalar.specs.declared.fields_shape.FieldsShape.TheVariants.{Arbitrary}
use Rattle.abi_univariant.specs.declared.fields_repr.FieldsRepr.{FieldsRepr}
use Rattle.abi_univariant.specs.declared.order.NicheBias.{NicheBias}
use Rattle.abi_univariant.specs.declared.order.NicheBias.TheVariants.{Start, End}
use Rattle.abi_univariant.specs.declared.order.SortKey.{SortKey}
use Rattle.abi_univariant.specs.declared.part.Part.{Part}
use Rattle.abi_univariant.specs.declared.placing.FieldsFault.{FieldsFault}
use Rattle.abi_univariant.specs.Fault.{fault_in}
use Rattle.abi_univariant.specs.InOrder.{IsLaidInOrder, IsOrderedLayout}
use Rattle.abi_univariant.specs.List.{IsListBy, IsUnivariantLayout, unadjusted_of}
use Rattle.abi_univariant.specs.ListNiche.{begins_after, niche_in}
use Rattle.abi_univariant.specs.ListView.{list_view}
use Rattle.abi_univariant.specs.Order.{IsNamedOrder, IsSortedBefore, IsSortedOrder, compare_keys, key_at, movable_front, rule_of, sort_key, tail}
use Rattle.abi_univariant.specs.Part.{part_of, parts_of}
use Rattle.abi_univariant.specs.Placement.{IsAllowed, IsNonEmptyIfUnsized, fields_repr, source_order}
use Rattle.abi_univariant.specs.Run.{IsNamedLayout, IsPlacedIn, IsRun, space_wanted}
use Rattle.abi_univariant.proofs.Sorted.Least.{allowed_permutes, named_allowed}

-- ---- a stable sort has one answer

module _ {X : Type 0} (lt : X → X → Bool) (o : IsStrictWeakOrder lt) where
  -- none is less than one before it
  abbrev Rises : List X → Type 0
  Rises xs = (i j : ℕ) (d : X) → i ≤ j → j < length xs → lt (get_or xs j d) (get_or xs i d) ≡ false

  rises_tail : (x : X) (xs : List X) → Rises (x ∷ xs) → Rises xs
  rises_tail x xs up i j d le l = up (suc i) (suc j) d (omega arith) (omega arith)

  neither_way : (b : Bool) → (b ≡ true → b ≡ false) → b ≡ false
  neither_way true h = h refl
  neither_way false h = refl

  tied : (x y : X) → lt x y ≡ false → lt y x ≡ false → ties lt x y ≡ true
  tied x y a b = rw (a, b) refl

  itself : (x : X) → ties lt x x ≡ true
  itself x = let no : lt x x ≡ false = neither_way (lt x x) (o.one_way x x) in tied x x no no

  -- what a test picks stands in the list
  found_if : (p : X → Bool) (y : X) (ys : List X) (b : Bool) (a : X) (rest : List X)
      → (filter p ys ≡ a ∷ rest → (j : ℕ) × (j < length ys) × ((d : X) → get_or ys j d ≡ a))
      → cond b (y ∷ filter p ys) (filter p ys) ≡ a ∷ rest → (j : ℕ) × (j < length (y ∷ ys)) × ((d : X) → get_or (y ∷ ys) j d ≡ a)
  found_if p y ys true a rest later e = (zero, omega arith, λ d. cc)
  found_if p y ys false a rest later e = let r = later e in (suc r.0, omega (arith, r.1), r.2)

  found : (p : X → Bool) (ys : List X) (a : X) (rest : List X) → filter p ys ≡ a ∷ rest → (j : ℕ) × (j < length ys) × ((d : X) → get_or ys j d ≡ a)
  found p [] a rest e = absurd (cc)
  found p (y ∷ ys) a rest e = found_if p y ys (p y) a rest (found p ys a rest) e

  picked : (x a : X) (xs : List X) → ties lt x a ≡ true → filter (ties lt x) (a ∷ xs) ≡ a ∷ filter (ties lt x) xs
  picked x a xs e = ap (λ t. cond t (a ∷ filter (ties lt x) xs) (filter (ties lt x) xs)) e

  unpicked : (t : Bool) (a : X) (us vs : List X) → cond t (a ∷ us) us ≡ cond t (a ∷ vs) vs → us ≡ vs
  unpicked true a us vs e = cc
  unpicked false a us vs e = e

  one_stable : (xs ys : List X) → Rises xs → Rises ys → ((x : X) → filter (ties lt x) xs ≡ filter (ties lt x) ys) → xs ≡ ys
  one_stable [] [] up down same = refl
  one_stable [] (b ∷ ys) up down same = let h : [] ≡ b ∷ filter (ties lt b) ys = same b ∙ picked b b ys (itself b) in absurd (cc)
  one_stable (a ∷ xs) [] up down same = let h : a ∷ filter (ties lt a) xs ≡ [] = sym (picked a a xs (itself a)) ∙ same a in absurd (cc)
  one_stable (a ∷ xs) (b ∷ ys) up down same =
      let there = found (ties lt a) (b ∷ ys) a (filter (ties lt a) xs) (sym (same a) ∙ picked a a xs (itself a)) in
      let here = found (ties lt b) (a ∷ xs) b (filter (ties lt b) ys) (same b ∙ picked b b ys (itself b)) in
      let ab : lt a b ≡ false = subst (λ y. lt y b ≡ false) (there.2 b) (down 0 there.0 b (omega arith) there.1) in
      let ba : lt b a ≡ false = subst (λ y. lt y a ≡ false) (here.2 a) (up 0 here.0 a (omega arith) here.1) in
      let heads : b ∷ filter (ties lt a) ys ≡ a ∷ filter (ties lt a) xs = sym (picked a b ys (tied a b ab ba)) ∙ sym (same a) ∙ picked a a xs (itself a) in
      let first : b ≡ a = cc in
      let rest : xs ≡ ys = one_stable xs ys (rises_tail a xs up) (rises_tail b ys down)
      (λ x. unpicked (ties lt x a) a (filter (ties lt x) xs) (filter (ties lt x) ys)
      (subst (λ y. filter (ties lt x) (a ∷ xs) ≡ filter (ties lt x) (y ∷ ys)) first (same x))) in
      cc

pub keys_total : IsTotalOrder compare_keys
keys_total =
    then_total (on_total (λ (k : SortKey). k.group) nat_cmp_total) (then_total (on_total (λ (k : SortKey). k.niche) nat_cmp_total) (on_total (λ (k : SortKey). k.distance) nat_cmp_total))

one_sorted : (keys : List SortKey) (xs ys : List ℕ) → IsSortedOrder keys xs → IsSortedOrder keys ys → xs ≡ ys
one_sorted keys xs ys s t =
    let o = ranks_by keys_total (key_at keys) in
    one_stable _ o xs ys (sorted_far _ o xs s.sorted) (sorted_far _ o ys t.sorted) (λ x. s.stable x ∙ sym (t.stable x))

-- ---- one order is named for a bias

named_cases : (b : Bool) (repr : FieldsRepr) (bias : NicheBias) (fields : List Part) (xs ys : List ℕ)
    → MatchBool b (IsSortedBefore repr bias fields xs) (xs ≡ source_order (length fields))
    → MatchBool b (IsSortedBefore repr bias fields ys) (ys ≡ source_order (length fields)) → xs ≡ ys
named_cases true repr bias fields xs ys s t =
    s.2 ∙ ap (λ front. front ++ tail repr.kind fields) (one_sorted (map (sort_key (rule_of repr bias (movable_front repr.kind fields))) (movable_front repr.kind fields)) s.0 t.0 s.1 t.1) ∙ sym t.2
named_cases false repr bias fields xs ys s t = s ∙ sym t

pub one_named : (repr : FieldsRepr) (bias : NicheBias) (fields : List Part) (xs ys : List ℕ) → IsNamedOrder repr bias fields xs → IsNamedOrder repr bias fields ys → xs ≡ ys
one_named repr bias fields xs ys s t = named_cases repr.reorderable repr bias fields xs ys s t

-- ---- fields lie at one place in an order

-- the two lists agree at the index
abbrev Agree : (xs ys : List ℕ) → ℕ → Type 0
Agree xs ys i = slice_index xs i ≡ slice_index ys i

agree_along : (xs ys order : List ℕ) → map (slice_index xs) order ≡ map (slice_index ys) order → All (Agree xs ys) order
agree_along xs ys [] e = All-nil (Agree xs ys)
agree_along xs ys (i ∷ is) e = All-cons (Agree xs ys) i is (cc) (agree_along xs ys is (cc))

pub alike : (xs ys : List ℕ) → length xs ≡ length ys → ((k : ℕ) → k < length xs → Agree xs ys k) → xs ≡ ys
alike [] [] e h = refl
alike [] (y ∷ ys) e h = absurd (omega arith)
alike (x ∷ xs) [] e h = absurd (omega arith)
alike (x ∷ xs) (y ∷ ys) e h =
    let first : x ≡ y = h 0 (omega arith) in
    let rest : xs ≡ ys = alike xs ys (omega arith) (λ k l. h (suc k) (omega arith)) in
    cc

one_place : (n : ℕ) (xs ys order : List ℕ) → length xs ≡ n → length ys ≡ n → IsPermutation (source_order n) order
    → map (slice_index xs) order ≡ map (slice_index ys) order → xs ≡ ys
one_place n xs ys order l m p e =
    let all : All (Agree xs ys) (source_order n) = All-permutation (Agree xs ys) order (source_order n) (IsPermutation-sym (source_order n) order p) (agree_along xs ys order e) in
    alike xs ys (l ∙ sym m) (λ k s.
    subst (Agree xs ys) (get_or-range_with_len 0 n k 0 (omega arith) ∙ omega arith) (all k 0 (omega (arith, length-range_with_len 0 n))))

-- Two layouts of a list's fields are one.
pub record IsSame (order order2 offsets offsets2 : List ℕ) (size size2 align align2 : ℕ) (niche niche2 : Option Niche) : Type 0 where
  orders : order ≡ order2
  places : offsets ≡ offsets2
  sizes : size ≡ size2
  aligns : align ≡ align2
  niches : niche ≡ niche2

module _ (dl : TargetDataLayout) (repr : FieldsRepr) (parts : List Part) (some : IsNonEmptyIfUnsized repr.kind (length parts)) where
  pub one_placed : (bias : NicheBias) (one order order2 offsets offsets2 : List ℕ) (size size2 align align2 : ℕ) (niche niche2 : Option Niche) → IsAllowed repr (length parts) one
      → order ≡ one → order2 ≡ one → IsPlacedIn dl repr bias parts order offsets size align niche → IsPlacedIn dl repr bias parts order2 offsets2 size2 align2 niche2
      → IsSame order order2 offsets offsets2 size size2 align align2 niche niche2
  one_placed bias one order order2 offsets offsets2 size size2 align align2 niche niche2 allowed s t a b =
      let p = allowed_permutes repr (length parts) one allowed in
      let c : IsPlacedIn dl repr bias parts one offsets size align niche = subst (λ o. IsPlacedIn dl repr bias parts o offsets size align niche) s a in
      let d : IsPlacedIn dl repr bias parts one offsets2 size2 align2 niche2 = subst (λ o. IsPlacedIn dl repr bias parts o offsets2 size2 align2 niche2) t b in
      record {
        orders = s ∙ sym t;
        places = one_place (length parts) offsets offsets2 one c.count d.count p (c.places ∙ sym d.places);
        sizes = c.extent ∙ sym d.extent;
        aligns = c.alignment ∙ sym d.alignment;
        niches = c.largest ∙ sym d.largest;
      }

  module _ (first : List ℕ) (named : IsNamedOrder repr Start parts first) where
    one_choice : (b : Bool) (second order order2 offsets offsets2 : List ℕ) (size size2 align align2 : ℕ) (niche niche2 : Option Niche) → IsNamedOrder repr End parts second
        → MatchBool b ((order ≡ second) × IsPlacedIn dl repr End parts order offsets size align niche) ((order ≡ first) × IsPlacedIn dl repr Start parts order offsets size align niche)
        → MatchBool b ((order2 ≡ second) × IsPlacedIn dl repr End parts order2 offsets2 size2 align2 niche2) ((order2 ≡ first) × IsPlacedIn dl repr Start parts order2 offsets2 size2 align2 niche2)
        → IsSame order order2 offsets offsets2 size size2 align align2 niche niche2
    one_choice true second order order2 offsets offsets2 size size2 align align2 niche niche2 ends a b =
        one_placed End second order order2 offsets offsets2 size size2 align align2 niche niche2 (named_allowed repr End parts second some ends) a.0 b.0 a.1 b.1
    one_choice false second order order2 offsets offsets2 size size2 align align2 niche niche2 ends a b =
        one_placed Start first order order2 offsets offsets2 size size2 align align2 niche niche2 (named_allowed repr Start parts first some named) a.0 b.0 a.1 b.1

    -- the second run's layout, or the first's
    abbrev IsLater : (space : ℕ) (order offsets : List ℕ) (size align : ℕ) → Option Niche → Type 0
    IsLater space order offsets size align niche =
        (second : List ℕ) × IsNamedOrder repr End parts second
        × MatchBool (begins_after space (niche_in dl repr End parts second))
        ((order ≡ second) × IsPlacedIn dl repr End parts order offsets size align niche)
        ((order ≡ first) × IsPlacedIn dl repr Start parts order offsets size align niche)

    one_run : (wanted : Option ℕ) (order order2 offsets offsets2 : List ℕ) (size size2 align align2 : ℕ) (niche niche2 : Option Niche)
        → MatchOption wanted ((order ≡ first) × IsPlacedIn dl repr Start parts order offsets size align niche) (λ space. IsLater space order offsets size align niche)
        → MatchOption wanted ((order2 ≡ first) × IsPlacedIn dl repr Start parts order2 offsets2 size2 align2 niche2) (λ space. IsLater space order2 offsets2 size2 align2 niche2)
        → IsSame order order2 offsets offsets2 size size2 align align2 niche niche2
    one_run None order order2 offsets offsets2 size size2 align align2 niche niche2 a b =
        one_placed Start first order order2 offsets offsets2 size size2 align align2 niche niche2 (named_allowed repr Start parts first some named) a.0 b.0 a.1 b.1
    one_run (Some space) order order2 offsets offsets2 size size2 align align2 niche niche2 a b =
        let same : b.0 ≡ a.0 = one_named repr End parts b.0 a.0 b.1 a.1 in
        one_choice (begins_after space (niche_in dl repr End parts a.0)) a.0 order order2 offsets offsets2 size size2 align align2 niche niche2 a.1 a.2
        (subst (λ second. MatchBool (begins_after space (niche_in dl repr End parts second))
        ((order2 ≡ second) × IsPlacedIn dl repr End parts order2 offsets2 size2 align2 niche2)
        ((order2 ≡ first) × IsPlacedIn dl repr Start parts order2 offsets2 size2 align2 niche2)) same b.2)

  one_named_layout : (order order2 offsets offsets2 : List ℕ) (size size2 align align2 : ℕ) (niche niche2 : Option Niche)
      → IsNamedLayout dl repr parts order offsets size align niche → IsNamedLayout dl repr parts order2 offsets2 size2 align2 niche2
      → IsSame order order2 offsets offsets2 size size2 align align2 niche niche2
  one_named_layout order order2 offsets offsets2 size size2 align align2 niche niche2 a b =
      let same : b.0 ≡ a.0 = one_named repr Start parts b.0 a.0 b.1 a.1 in
      one_run a.0 a.1 (space_wanted dl repr parts a.0) order order2 offsets offsets2 size size2 align align2 niche niche2 a.3
      (subst (λ first. IsRun dl repr parts first order2 offsets2 size2 align2 niche2) same b.3)

  -- what has a named layout has no fault
  pub never_refused : (order offsets first : List ℕ) (size align : ℕ) (niche : Option Niche) (fault : FieldsFault) → IsNamedLayout dl repr parts order offsets size align niche
      → IsNamedOrder repr Start parts first → fault_in repr (size_bound dl) parts first ≡ Some fault → ⊥
  never_refused order offsets first size align niche fault a named e =
      let same : first ≡ a.0 = one_named repr Start parts first a.0 named a.1 in
      let none : fault_in repr (size_bound dl) parts first ≡ None = ap (fault_in repr (size_bound dl) parts) same ∙ a.2 in
      absurd (cc)

-- ---- a list of fields has one layout

module _ {F V : Type 0} (at : ℕ → F) (first : V) (dl : TargetDataLayout) (repr : ReprOptions) (kind : StructKind) (fields : List (LayoutData F V)) where
  -- layouts whose fields lie the same are one
  same_layout : (Rule : (order offsets : List ℕ) → (size align : ℕ) → Option Niche → Type 0) (order order2 offsets offsets2 : List ℕ) (a b : LayoutData F V)
      → IsSame order order2 offsets offsets2 a.size b.size a.align.abi b.align.abi a.largest_niche b.largest_niche
      → IsListBy Rule at first dl repr kind fields order offsets a → IsListBy Rule at first dl repr kind fields order2 offsets2 b → a ≡ b
  same_layout Rule order order2 offsets offsets2 a b same s t =
      let shape : a.fields ≡ b.fields = s.shape ∙ (λ i. Arbitrary (same.places i) (map at (same.orders i))) ∙ sym t.shape in
      let view : a.backend_repr ≡ b.backend_repr = s.view ∙ (λ i. list_view dl (is_abi_fixed repr) (same.sizes i) (same.aligns i) (parts_of dl fields) (same.places i)) ∙ sym t.view in
      let variants : a.variants ≡ b.variants = s.variants ∙ sym t.variants in
      let uninhabited : a.uninhabited ≡ b.uninhabited = s.uninhabited ∙ sym t.uninhabited in
      let asked : a.max_repr_align ≡ b.max_repr_align = s.max_repr_align ∙ sym t.max_repr_align in
      let unadjusted : a.unadjusted_abi_align ≡ b.unadjusted_abi_align = s.unadjusted_abi_align ∙ (λ i. unadjusted_of dl repr kind (same.sizes i) (same.aligns i) (parts_of dl fields)) ∙ sym t.unadjusted_abi_align in
      let c : a.repr_c ≡ b.repr_c = s.repr_c ∙ sym t.repr_c in
      let seed : a.randomization_seed ≡ b.randomization_seed = s.seed ∙ sym t.seed in
      λ i. record {
        fields = shape i;
        variants = variants i;
        backend_repr = view i;
        largest_niche = same.niches i;
        uninhabited = uninhabited i;
        align = record { abi = same.aligns i };
        size = same.sizes i;
        max_repr_align = asked i;
        unadjusted_abi_align = unadjusted i;
        repr_c = c i;
        randomization_seed = seed i;
      }

  pub one_layout : (order order2 offsets offsets2 : List ℕ) (a b : LayoutData F V) → IsNonEmptyIfUnsized kind (length (parts_of dl fields))
      → IsUnivariantLayout at first dl repr kind fields order offsets a → IsUnivariantLayout at first dl repr kind fields order2 offsets2 b → a ≡ b
  one_layout order order2 offsets offsets2 a b some s t =
      same_layout (IsNamedLayout dl (fields_repr dl repr kind) (parts_of dl fields)) order order2 offsets offsets2 a b
      (one_named_layout dl (fields_repr dl repr kind) (parts_of dl fields) some order order2 offsets offsets2 a.size b.size a.align.abi b.align.abi a.largest_niche b.largest_niche s.named t.named) s t

  -- and in an order that is handed in
  pub one_in_order : (order offsets offsets2 : List ℕ) (a b : LayoutData F V) → IsNonEmptyIfUnsized kind (length (parts_of dl fields))
      → IsOrderedLayout at first dl repr kind fields order offsets a → IsOrderedLayout at first dl repr kind fields order offsets2 b → a ≡ b
  one_in_order order offsets offsets2 a b some s t =
      let allowed = subst (λ n. IsAllowed (fields_repr dl repr kind) n order) (sym (length-map fields (λ f. part_of dl f))) s.named.0 in
      same_layout (IsLaidInOrder dl repr kind fields) order order offsets offsets2 a b
      (one_placed dl (fields_repr dl repr kind) (parts_of dl fields) some Start order order order offsets offsets2 a.size b.size a.align.abi b.align.abi a.largest_niche b.largest_niche
      allowed refl refl s.named.1 t.named.1) s t
