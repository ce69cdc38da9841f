-- The niche of a list of fields, of which one at most isn't of size 0 and alignment 1.
use Rattle.std.proofs.Common.{◌≡◌, ℕ, ◌+◌, ◌-◌, ◌^◌, ◌<◌, Bool, true, false, cond, List, [], ◌∷◌, ◌++◌, Option, None, Some, length, map, refl, sym, ap, ap₂, ◌∙◌, subst, arith}
use Rattle.std.specs.Prelude.{◌==◌, ◌&&◌, All, IsPermutation, MatchBool, count_by, not, slice_index_or, take}
use Rattle.std.specs.Int.{next_multiple_of}
use Rattle.std.proofs.lemmas.Bool.{eqb-true}
use Rattle.std.proofs.lemmas.List.{append-nil, length-map, length-take-le, map-id}
use Rattle.std.proofs.lemmas.List.Elements.{All-head, All-tail}
use Rattle.std.proofs.lemmas.List.FromFn.{map-range_with_len_more}
use Rattle.std.proofs.lemmas.List.Sorted.{All-permutation, IsPermutation-append_left, IsPermutation-map, IsPermutation-refl, sum_by-IsPermutation}
use Rattle.std.proofs.lemmas.List.Sums.{sum_by-cons}
use Rattle.std.proofs.lemmas.Nat.Gcd.{dvd-zero}
use Rattle.abi_base.specs.declared.data_layout.TargetDataLayout.{TargetDataLayout}
use Rattle.abi_base.specs.declared.struct_kind.StructKind.{StructKind}
use Rattle.abi_base.specs.declared.struct_kind.StructKind.TheVariants.{AlwaysSized, MaybeUnsized, Prefixed}
use Rattle.abi_scalar.specs.declared.niche.Niche.{Niche}
use Rattle.abi_scalar.specs.declared.repr.ReprOptions.{ReprOptions}
use Rattle.abi_univariant.specs.declared.fields_repr.FieldsRepr.{FieldsRepr}
use Rattle.abi_univariant.specs.declared.order.NicheBias.{NicheBias}
use Rattle.abi_univariant.specs.declared.order.NicheBias.TheVariants.{Start, End}
use Rattle.abi_univariant.specs.declared.part.Part.{Part}
use Rattle.abi_univariant.specs.ListNiche.{begins_after, greater_niche, greatest_niche, niche_in, niche_of_part}
use Rattle.abi_univariant.specs.Order.{IsNamedOrder, IsSortedBefore, rule_of, sort_key}
use Rattle.abi_univariant.specs.Placement.{IsNonEmptyIfUnsized, in_order, fields_repr, no_part, offsets_from, place_of, source_order}
use Rattle.abi_univariant.specs.Run.{IsPlacedIn, IsRun, space_wanted}
use Rattle.guarantees.proofs.ReferenceLemmas.Lists.{each_in_order}
use Rattle.guarantees.proofs.ReferenceLemmas.Lone.{greater_alone}
use Rattle.guarantees.proofs.ReferenceLemmas.Over.{either, perhaps}
use Rattle.abi_univariant.proofs.Offsets.Rounding.{round_multiple}

-- ---- the order that is named has each index once

module _ (dl : TargetDataLayout) (repr : ReprOptions) where
  -- the first of n + 1 numbers, and the last
  last_apart : (n : ℕ) → 0 < n → source_order n ≡ source_order (n - 1) ++ (n - 1) ∷ []
  last_apart n some =
      let up : n ≡ n - 1 + 1 = omega (arith, some) in
      ap source_order up ∙ sym (map-id (source_order (n - 1 + 1))) ∙ map-range_with_len_more (λ (i : ℕ). i) 0 (n - 1) (n - 1) (omega arith)
      ∙ ap (λ (is : List ℕ). is ++ (n - 1) ∷ []) (map-id (source_order (n - 1)))

  sorted_permutes : (kind : StructKind) (bias : NicheBias) (parts : List Part) (order : List ℕ) → IsNonEmptyIfUnsized kind (length parts)
      → IsSortedBefore (fields_repr dl repr kind) bias parts order → IsPermutation (source_order (length parts)) order
  sorted_permutes AlwaysSized bias parts order some (front, s, is) =
      subst (IsPermutation (source_order (length parts))) (sym (is ∙ append-nil front))
      (subst (λ n. IsPermutation (source_order n) front) (length-map parts (sort_key (rule_of (fields_repr dl repr AlwaysSized) bias parts))) s.permutes)
  sorted_permutes (Prefixed size align) bias parts order some (front, s, is) =
      subst (IsPermutation (source_order (length parts))) (sym (is ∙ append-nil front))
      (subst (λ n. IsPermutation (source_order n) front) (length-map parts (sort_key (rule_of (fields_repr dl repr (Prefixed size align)) bias parts))) s.permutes)
  sorted_permutes MaybeUnsized bias parts order some (front, s, is) =
      let n : ℕ = length parts in
      let front_parts : List Part = take (n - 1) parts in
      let long : length (map (sort_key (rule_of (fields_repr dl repr MaybeUnsized) bias front_parts)) front_parts) ≡ n - 1 =
      length-map front_parts (sort_key (rule_of (fields_repr dl repr MaybeUnsized) bias front_parts)) ∙ length-take-le (n - 1) parts (omega arith) in
      let moved : IsPermutation (source_order (n - 1)) front = subst (λ m. IsPermutation (source_order m) front) long s.permutes in
      subst (IsPermutation (source_order n)) (sym is)
      (subst (λ xs. IsPermutation xs (front ++ (n - 1) ∷ [])) (sym (last_apart n some))
      (IsPermutation-append_left ((n - 1) ∷ []) (source_order (n - 1)) front moved))

  named_permutes : (kind : StructKind) (bias : NicheBias) (parts : List Part) (order : List ℕ) → IsNonEmptyIfUnsized kind (length parts)
      → IsNamedOrder (fields_repr dl repr kind) bias parts order → IsPermutation (source_order (length parts)) order
  named_permutes kind bias parts order some named =
      either (IsPermutation (source_order (length parts)) order) (IsSortedBefore (fields_repr dl repr kind) bias parts order) (order ≡ source_order (length parts))
      (fields_repr dl repr kind).reorderable (λ h. sorted_permutes kind bias parts order some h)
      (λ e. subst (IsPermutation (source_order (length parts))) (sym e) (IsPermutation-refl (source_order (length parts)))) named

  -- A list's niche: the greatest in an order that has each index once.
  pub record HasNicheIn (kind : StructKind) (parts : List Part) (niche : Option Niche) : Type 0 where
    pub bias : NicheBias
    pub order : List ℕ
    pub permutes : IsPermutation (source_order (length parts)) order
    pub is : niche ≡ niche_in dl (fields_repr dl repr kind) bias parts order

  pub run_niche : (kind : StructKind) (parts : List Part) (first order offsets : List ℕ) (size align : ℕ) (niche : Option Niche) → IsNonEmptyIfUnsized kind (length parts)
      → IsNamedOrder (fields_repr dl repr kind) Start parts first → IsRun dl (fields_repr dl repr kind) parts first order offsets size align niche → HasNicheIn kind parts niche
  run_niche kind parts first order offsets size align niche some named run =
      let r : FieldsRepr = fields_repr dl repr kind in
      let A : Type 0 = (order ≡ first) × IsPlacedIn dl r Start parts order offsets size align niche in
      let C : Type 0 = HasNicheIn kind parts niche in
      let found = λ (bias : NicheBias) (o : List ℕ) (is : order ≡ o) (n : IsNamedOrder r bias parts o) (h : IsPlacedIn dl r bias parts order offsets size align niche).
      (let c : HasNicheIn kind parts niche = record {
        bias = bias;
        order = o;
        permutes = named_permutes kind bias parts o some n;
        is = h.largest ∙ ap (niche_in dl r bias parts) is;
      } in c) in
      let start = λ (h : A). found Start first h.0 named h.1 in
      perhaps C A
      (λ space. (second : List ℕ) × IsNamedOrder r End parts second × MatchBool (begins_after space (niche_in dl r End parts second))
      ((order ≡ second) × IsPlacedIn dl r End parts order offsets size align niche) A)
      (space_wanted dl r parts first) start
      (λ space h. either C ((order ≡ h.0) × IsPlacedIn dl r End parts order offsets size align niche) A
      (begins_after space (niche_in dl r End parts h.0)) (λ g. found End h.0 g.0 h.1 g.1) start h.2) run

-- ---- the greatest of these niches

-- the part has bytes, or is aligned to more than one
abbrev pub counts : Part → Bool
counts q = not ((q.size == 0) && (q.align == 0))

empty_by : (b c : Bool) → not (b && c) ≡ false → (b ≡ true) × (c ≡ true)
empty_by true true e = (refl, refl)
empty_by true false e = absurd (cc)
empty_by false c e = absurd (cc)

pub no_room : (q : Part) → counts q ≡ false → (q.size ≡ 0) × (q.align ≡ 0)
no_room q e =
    let both = empty_by (q.size == 0) (q.align == 0) e in
    (eqb-true q.size 0 both.0, eqb-true q.align 0 both.1)

counted : (q : Part) (qs : List Part) → count_by counts (q ∷ qs) ≡ cond (counts q) 1 0 + count_by counts qs
counted q qs = sum_by-cons (λ x. cond (counts x) 1 0) q qs

-- a part that doesn't count has no niche, and one that does has this one
abbrev pub HasNone : Part → Type 0
HasNone q = counts q ≡ false → q.largest_niche ≡ None

module _ (dl : TargetDataLayout) (bias : NicheBias) where
  greater_none : (bias : NicheBias) (niche : Option Niche) → greater_niche bias dl None niche ≡ niche
  greater_none Start niche = refl
  greater_none End None = refl
  greater_none End (Some n) = refl

  at_start : (niche : Option Niche) (n : ℕ) → n ≡ 0 → niche_of_part n niche ≡ niche
  at_start None n e = refl
  at_start (Some own) n e = (let same : n + own.offset ≡ own.offset = omega (arith, e) in ap (λ o. tag_distinguishes (record own { offset = o })) same)
    where
      tag_distinguishes : Niche → Option Niche
      tag_distinguishes x = Some x

  none_niche : (from : ℕ) (qs : List Part) → count_by counts qs ≡ 0 → All HasNone qs → greatest_niche bias dl (offsets_from None from qs) qs ≡ None
  none_niche from [] none h = refl
  none_niche from (q ∷ qs) none h =
      by (counts q) refl (λ rest. none_niche (place_of None from q + q.size) qs rest (All-tail HasNone q qs h))
    where
      by : (b : Bool) → counts q ≡ b → (count_by counts qs ≡ 0 → greatest_niche bias dl (offsets_from None (place_of None from q + q.size) qs) qs ≡ None)
          → greatest_niche bias dl (offsets_from None from (q ∷ qs)) (q ∷ qs) ≡ None
      by true is later =
          let one : cond {A = ℕ} (counts q) 1 0 ≡ 1 = ap (λ (b : Bool). cond {A = ℕ} b 1 0) is in
          absurd (omega (arith, one, counted q qs, none))
      by false is later =
          let zero_is : cond {A = ℕ} (counts q) 1 0 ≡ 0 = ap (λ (b : Bool). cond {A = ℕ} b 1 0) is in
          ap₂ (λ a b. greater_niche bias dl (niche_of_part (place_of None from q) a) b) (All-head HasNone q qs h is) (later (omega (arith, zero_is, counted q qs, none)))
          ∙ greater_none bias None

  one_niche : (niche : Option Niche) (from : ℕ) (qs : List Part) → from ≡ 0 → count_by counts qs ≡ 1 → All HasNone qs → All (λ q. counts q ≡ true → q.largest_niche ≡ niche) qs
      → greatest_niche bias dl (offsets_from None from qs) qs ≡ niche
  one_niche niche from [] start one h k = absurd (omega (arith, one))
  one_niche niche from (q ∷ qs) start one h k =
      by (counts q) refl
      (λ next rest. one_niche niche (place_of None from q + q.size) qs next rest (All-tail HasNone q qs h) (All-tail (λ x. counts x ≡ true → x.largest_niche ≡ niche) q qs k))
    where
      first : place_of None from q ≡ 0
      first = ap (λ n. next_multiple_of n (2 ^ q.align)) start ∙ round_multiple 0 q.align (dvd-zero (2 ^ q.align))

      by : (b : Bool) → counts q ≡ b
          → (place_of None from q + q.size ≡ 0 → count_by counts qs ≡ 1 → greatest_niche bias dl (offsets_from None (place_of None from q + q.size) qs) qs ≡ niche)
          → greatest_niche bias dl (offsets_from None from (q ∷ qs)) (q ∷ qs) ≡ niche
      by true is later =
          let own : cond {A = ℕ} (counts q) 1 0 ≡ 1 = ap (λ (b : Bool). cond {A = ℕ} b 1 0) is in
          let rest = none_niche (place_of None from q + q.size) qs (omega (arith, own, counted q qs, one)) (All-tail HasNone q qs h) in
          ap₂ (λ a b. greater_niche bias dl (niche_of_part (place_of None from q) a) b) (All-head (λ x. counts x ≡ true → x.largest_niche ≡ niche) q qs k is) rest
          ∙ greater_alone dl bias (niche_of_part (place_of None from q) niche) ∙ at_start niche (place_of None from q) first
      by false is later =
          let own : cond {A = ℕ} (counts q) 1 0 ≡ 0 = ap (λ (b : Bool). cond {A = ℕ} b 1 0) is in
          let empty = no_room q is in
          let next : place_of None from q + q.size ≡ 0 = omega (arith, first, empty.0) in
          ap₂ (λ a b. greater_niche bias dl (niche_of_part (place_of None from q) a) b) (All-head HasNone q qs h is) (later next (omega (arith, own, counted q qs, one)))
          ∙ greater_none bias niche

  -- ---- in an order that has each index once

  module _ (parts : List Part) (order : List ℕ) (permutes : IsPermutation (source_order (length parts)) order) where
    in_memory : IsPermutation parts (in_order parts order)
    in_memory =
        subst (λ xs. IsPermutation xs (in_order parts order)) (each_in_order no_part parts)
        (IsPermutation-map (λ i. slice_index_or parts i no_part) (source_order (length parts)) order permutes)

    count_there : count_by counts (in_order parts order) ≡ count_by counts parts
    count_there = sum_by-IsPermutation (λ x. cond (counts x) 1 0) parts (in_order parts order) in_memory

    pub niche_of_none : count_by counts parts ≡ 0 → All HasNone parts → greatest_niche bias dl (offsets_from None 0 (in_order parts order)) (in_order parts order) ≡ None
    niche_of_none none h =
        none_niche 0 (in_order parts order) (count_there ∙ none) (All-permutation HasNone parts (in_order parts order) in_memory h)

    pub niche_of_one : (niche : Option Niche) → count_by counts parts ≡ 1 → All HasNone parts → All (λ q. counts q ≡ true → q.largest_niche ≡ niche) parts
        → greatest_niche bias dl (offsets_from None 0 (in_order parts order)) (in_order parts order) ≡ niche
    niche_of_one niche one h k =
        one_niche niche 0 (in_order parts order) refl (count_there ∙ one) (All-permutation HasNone parts (in_order parts order) in_memory h)
        (All-permutation (λ q. counts q ≡ true → q.largest_niche ≡ niche) parts (in_order parts order) in_memory k)
