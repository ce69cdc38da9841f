-- A list in source order, from the clauses on lists in allowed orders.
use Rattle.std.proofs.Common.{◌≡◌, ℕ, zero, suc, ◌+◌, ◌^◌, ◌≤◌, List, [], ◌∷◌, Bool, true, false, Option, None, Some, length, map, get_or, refl, sym, ap, ap₂, ◌∙◌, subst, arith, inl, inr}
use Rattle.std.specs.Prelude.{All, Result, Ok, Err, MatchBool, MatchOption, max, fold, slice_index, not, unwrap_or, is_some, if◌then◌else◌}
use Rattle.std.specs.Int.{next_multiple_of}
use Rattle.std.proofs.lemmas.List.{ext_get_or, length-map}
use Rattle.std.proofs.lemmas.Bool.{MatchBool-at_false}
use Rattle.std.proofs.lemmas.List.FromFn.{length-map-range_with_len, get_or-map-range_with_len}
use Rattle.abi_base.specs.declared.data_layout.TargetDataLayout.{TargetDataLayout}
use Rattle.abi_base.specs.declared.struct_kind.StructKind.TheVariants.{AlwaysSized}
use Rattle.abi_scalar.specs.declared.fields_shape.FieldsShape.TheVariants.{Arbitrary}
use Rattle.abi_scalar.specs.declared.niche.Niche.{Niche}
use Rattle.abi_scalar.specs.declared.repr.ReprOptions.{ReprOptions}
use Rattle.abi_scalar.specs.Repr.{has_fixed_order}
use Rattle.abi_scalar.specs.Shape.{listed_offsets}
use Rattle.abi_univariant.specs.declared.fields_repr.FieldsRepr.{FieldsRepr}
use Rattle.abi_univariant.specs.declared.order.NicheBias.TheVariants.{Start, End}
use Rattle.abi_univariant.specs.declared.part.Part.{Part}
use Rattle.abi_univariant.specs.Least.{IsPlacedBy}
use Rattle.abi_univariant.specs.ListNiche.{begins_after, niche_in}
use Rattle.abi_univariant.specs.Order.{IsNamedOrder}
use Rattle.abi_univariant.specs.Part.{part_of, parts_of}
use Rattle.abi_univariant.specs.Placement.{IsAllowed, align_of as list_align, cut, end_from, in_order, fields_repr, no_part, offsets_from, own_align, place_of, source_order}
use Rattle.abi_univariant.specs.Union.{raised_to}
use Rattle.abi_univariant.specs.Run.{IsPlacedIn, IsRun, space_wanted}
use Rattle.abi_tree.specs.Nodes.{parts_at}
use Rattle.abi_tree.specs.Placed.{Parts, Placed, layout_of, size_of}
use Rattle.abi_scalar.specs.Layout.{Layout}
use Rattle.abi_tree.specs.Tree.{Tree, Trees, struct}
use Rattle.rustc_abi.specs.declared.error.LayError.{LayError}
use Rattle.rustc_abi.specs.Error.{Follows}
use Rattle.rustc_abi.specs.Everywhere.{Everywhere}
use Rattle.rustc_abi.specs.Laying.{AreLaying, IsLaying, IsLaidList, fields_fault, kind_of, placed_fields}
use Rattle.rustc_abi.specs.Least.{fields_of}
use Rattle.rustc_abi.specs.Lists.{offsets_of, types_of}
use Rattle.rustc_abi.specs.Orders.{LiesAsAsked}
use Rattle.guarantees.specs.InC.{FollowEachOther, IsGreatestAlign, IsInC, IsLeastMultiple, LieAsInC, field_align, least_align}
use Rattle.guarantees.proofs.Rounded.{rounded_up}

-- ---- lists in source order

-- what the indices name, in source order, is the list
each_in_order : {X : Type 0} (d : X) (xs : List X) → map (λ i. get_or xs i d) (source_order (length xs)) ≡ xs
each_in_order d xs =
    let many = length-map-range_with_len (λ i. get_or xs i d) 0 (length xs) in
    ext_get_or d (map (λ i. get_or xs i d) (source_order (length xs))) xs many
    (λ i lt. get_or-map-range_with_len (λ j. get_or xs j d) 0 (length xs) i i d (omega (arith, many)) (omega arith))

-- fields one after another
follow_from : (dl : TargetDataLayout) (pack : Option ℕ) (from : ℕ) (ps : List Placed) →
    FollowEachOther pack from ps (offsets_from pack from (parts_of dl (map layout_of ps))) (end_from pack from (parts_of dl (map layout_of ps)))
follow_from dl pack from [] = refl
follow_from dl pack from (p ∷ ps) = (rounded_up (field_align pack p) from, follow_from dl pack (place_of pack from (part_of dl (layout_of p)) + size_of p) ps)

-- the greatest alignment isn't below that of each field
module _ (dl : TargetDataLayout) (pack : Option ℕ) where
  abbrev greatest_of : (least : ℕ) → List Part → ℕ
  greatest_of least parts = fold (λ most (part : Part). max most (cut pack part.align)) least parts

  first_below : (least : ℕ) (ps : List Part) → least ≤ greatest_of least ps
  first_below least [] = omega arith
  first_below least (p ∷ ps) = let more = first_below (max least (cut pack p.align)) ps in omega (arith, more)

  each_below : (least : ℕ) (ps : List Placed) → All (λ p. field_align pack p ≤ greatest_of least (parts_of dl (map layout_of ps))) ps
  each_below least [] k d lt = absurd (omega arith)
  each_below least (p ∷ ps) zero d lt = let more = first_below (max least (field_align pack p)) (parts_of dl (map layout_of ps)) in omega (arith, more)
  each_below least (p ∷ ps) (suc k) d lt = each_below (max least (field_align pack p)) ps k d (omega arith)

  -- nor above each number that is none of these
  none_above : (least other : ℕ) (ps : List Placed) → least ≤ other → All (λ p. field_align pack p ≤ other) ps → greatest_of least (parts_of dl (map layout_of ps)) ≤ other
  none_above least other [] low all = low
  none_above least other (p ∷ ps) low all =
      let first : field_align pack p ≤ other = all 0 p (omega arith) in
      none_above (max least (field_align pack p)) other ps (omega (arith, first, low)) (λ k d lt. all (suc k) d (omega arith))

  greatest_align : (least : ℕ) (ps : List Placed) → IsGreatestAlign pack least ps (greatest_of least (parts_of dl (map layout_of ps)))
  greatest_align least ps = record {
    above = first_below least (parts_of dl (map layout_of ps));
    each = each_below least ps;
    no_greater = λ other low all. none_above least other ps low all;
  }

-- what the list's own alignment is
least_is : (raised : Option ℕ) (own : ℕ) → max (max own (unwrap_or raised 0)) 0 ≡ raised_to raised own
least_is None own = omega arith
least_is (Some least) own = omega arith

-- ---- parts at offsets

types_of-parts_at : (os : List ℕ) (ps : List Placed) → length os ≡ length ps → types_of (parts_at os ps) ≡ map layout_of ps
types_of-parts_at [] [] e = refl
types_of-parts_at [] (p ∷ ps) e = absurd (omega arith)
types_of-parts_at (o ∷ os) [] e = absurd (omega arith)
types_of-parts_at (o ∷ os) (p ∷ ps) e = ap (λ ls. layout_of p ∷ ls) (types_of-parts_at os ps (omega arith))

offsets_of-parts_at : (os : List ℕ) (ps : List Placed) → length os ≡ length ps → offsets_of (parts_at os ps) ≡ os
offsets_of-parts_at [] [] e = refl
offsets_of-parts_at [] (p ∷ ps) e = absurd (omega arith)
offsets_of-parts_at (o ∷ os) [] e = absurd (omega arith)
offsets_of-parts_at (o ∷ os) (p ∷ ps) e = ap (λ ns. o ∷ ns) (offsets_of-parts_at os ps (omega arith))

-- ---- from the exact layout: one offset for each field

either_way : (A B : Type 0) (n m : ℕ) (second : Bool) → (A → n ≡ m) → (B → n ≡ m) → MatchBool second A B → n ≡ m
either_way A B n m true one other h = one h
either_way A B n m false one other h = other h

whether_tried : (A : Type 0) (P : ℕ → Type 0) (n m : ℕ) (space : Option ℕ) → (A → n ≡ m) → ((s : ℕ) → P s → n ≡ m) → MatchOption space A P → n ≡ m
whether_tried A P n m None one other h = one h
whether_tried A P n m (Some s) one other h = other s h

module _ (dl : TargetDataLayout) (repr : FieldsRepr) (parts : List Part) (order offsets : List ℕ) (size align : ℕ) (niche : Option Niche) where
  -- a list that was placed has one offset for each part
  offset_for_each : (first : List ℕ) → IsRun dl repr parts first order offsets size align niche → length offsets ≡ length parts
  offset_for_each first run =
      whether_tried ((order ≡ first) × IsPlacedIn dl repr Start parts order offsets size align niche)
      (λ space. (second : List ℕ) × IsNamedOrder repr End parts second × MatchBool (begins_after space (niche_in dl repr End parts second))
      ((order ≡ second) × IsPlacedIn dl repr End parts order offsets size align niche) ((order ≡ first) × IsPlacedIn dl repr Start parts order offsets size align niche))
      (length offsets) (length parts) (space_wanted dl repr parts first) (λ h. h.1.count)
      (λ space h. either_way ((order ≡ h.0) × IsPlacedIn dl repr End parts order offsets size align niche) ((order ≡ first) × IsPlacedIn dl repr Start parts order offsets size align niche)
      (length offsets) (length parts) (begins_after space (niche_in dl repr End parts h.0)) (λ g. g.1.count) (λ g. g.1.count) h.2) run

-- A struct that was laid out: its fields by themselves, and its list.
pub record IsStruct (dl : TargetDataLayout) (repr : ReprOptions) (ts : Trees) (placed : Placed) : Type 0 where
  pub fields : List Placed
  pub layout : Layout
  pub are : AreLaying dl ts (Ok fields)
  pub is : placed ≡ placed_fields repr fields layout
  pub order : List ℕ
  pub shape : layout.fields ≡ Arbitrary (listed_offsets layout.fields) order
  pub count : length (listed_offsets layout.fields) ≡ length fields

-- the layout of a list of fields
listed : (dl : TargetDataLayout) (repr : ReprOptions) (ts : Trees) (placed : Placed) (ps : List Placed) (layout : Layout) → AreLaying dl ts (Ok ps) →
    IsLaidList dl repr (kind_of true ps) (map layout_of ps) (Ok layout) → placed ≡ placed_fields repr ps layout → IsStruct dl repr ts placed
listed dl repr ts placed ps layout are h is =
    let offsets : listed_offsets layout.fields ≡ h.1 = ap listed_offsets h.2.shape in
    let run = h.2.named in
    let many : length h.1 ≡ length (parts_of dl (map layout_of ps)) =
    offset_for_each dl (fields_repr dl repr (kind_of true ps)) (parts_of dl (map layout_of ps)) h.0 h.1 layout.size layout.align.abi layout.largest_niche run.0 run.3 in
    record {
      fields = ps;
      layout = layout;
      are = are;
      is = is;
      order = map (λ i. i) h.0;
      shape = h.2.shape ∙ ap (λ os. Arbitrary os (map (λ i. i) h.0)) (sym offsets);
      count = ap length offsets ∙ many ∙ length-map (map layout_of ps) (λ f. part_of dl f) ∙ length-map ps layout_of;
    }

abbrev pub ok : Placed → Result Placed LayError
ok placed = Ok placed

abbrev pub error : LayError → Result Placed LayError
error e = Err e

pub inj-Ok : (a b : Placed) → ok a ≡ ok b → a ≡ b
inj-Ok a b e = cc

pub no_error : (a : Placed) (e : LayError) → ok a ≡ error e → ⊥
no_error a e is = cc

-- no own fault: the calculator's answer
answered : (dl : TargetDataLayout) (repr : ReprOptions) (ts : Trees) (placed : Placed) (ps : List Placed) (fault : Option LayError) → AreLaying dl ts (Ok ps) →
    MatchOption fault
    (Follows (IsLaidList dl repr (kind_of true ps) (map layout_of ps)) (λ layout r. r ≡ Ok (placed_fields repr ps layout)) (Ok placed))
    (λ e. Ok placed ≡ Err e) → IsStruct dl repr ts placed
answered dl repr ts placed ps None are (inl h) = absurd (no_error placed h.0 h.2)
answered dl repr ts placed ps None are (inr h) = listed dl repr ts placed ps h.0 are h.1 (inj-Ok placed (placed_fields repr ps h.0) h.2)
answered dl repr ts placed ps (Some e) are h = absurd (no_error placed e h)

-- the answer to a struct
pub struct_laid : (dl : TargetDataLayout) (repr : ReprOptions) (ts : Trees) (placed : Placed) → IsLaying dl (struct repr true None ts) (Ok placed) → IsStruct dl repr ts placed
struct_laid dl repr ts placed (inl h) = absurd (no_error placed h.0 h.2)
struct_laid dl repr ts placed (inr h) = answered dl repr ts placed h.0 (fields_fault repr h.0) h.1 h.2

-- ---- from the clause on orders

kind_sized : (ps : List Placed) → kind_of true ps ≡ AlwaysSized
kind_sized [] = refl
kind_sized (p ∷ ps) = refl

-- a fixed order is source order
fixed : (repr : FieldsRepr) (count : ℕ) (order : List ℕ) → repr.reorderable ≡ false → IsAllowed repr count order → order ≡ source_order count
fixed repr count order is allowed = MatchBool-at_false _ _ is allowed

-- fields of an always sized list that may not be moved lie as in C
pub placed_in_c : (dl : TargetDataLayout) (repr : ReprOptions) (pack raised : Option ℕ) (ps : List Placed) (order os : List ℕ) (size align : ℕ) → repr.pack ≡ pack → repr.align ≡ raised →
    has_fixed_order repr ≡ true → length os ≡ length ps → IsPlacedBy dl repr AlwaysSized (map layout_of ps) order os size align → LieAsInC pack (least_align dl pack raised) ps os size align
placed_in_c dl repr pack raised ps order os size align packed asked stays many placed =
    let parts = parts_of dl (map layout_of ps) in
    let count : length parts ≡ length ps = length-map (map layout_of ps) (λ f. part_of dl f) ∙ length-map ps layout_of in
    let source : order ≡ source_order (length (map layout_of ps)) =
    fixed (fields_repr dl repr AlwaysSized) (length (map layout_of ps)) order (ap not stays) placed.allowed in
    let to_parts : order ≡ source_order (length parts) = source ∙ ap source_order (length-map ps layout_of ∙ sym count) in
    let to_offsets : order ≡ source_order (length os) = source ∙ ap source_order (length-map ps layout_of ∙ sym many) in
    let in_memory : in_order parts order ≡ parts = ap (in_order parts) to_parts ∙ each_in_order no_part parts in
    let tag_distinguishes : map (slice_index os) order ≡ os = ap (map (slice_index os)) to_offsets ∙ each_in_order 0 os in
    let at : os ≡ offsets_from pack 0 parts = sym tag_distinguishes ∙ placed.places ∙ ap₂ (λ p fs. offsets_from p 0 fs) packed in_memory in
    let large : size ≡ next_multiple_of (end_from pack 0 parts) (2 ^ align) =
    placed.extent ∙ ap₂ (λ p fs. next_multiple_of (end_from p 0 fs) (2 ^ list_align (fields_repr dl repr AlwaysSized) parts)) packed in_memory
    ∙ ap (λ a. next_multiple_of (end_from pack 0 parts) (2 ^ a)) (sym placed.alignment) in
    let least : max (max (own_align dl repr) (unwrap_or repr.align 0)) 0 ≡ least_align dl pack raised =
    ap₂ (λ (p r : Option ℕ). max (max (if is_some p then dl.i8_align else dl.aggregate_align) (unwrap_or r 0)) 0) packed asked
    ∙ least_is raised (if is_some pack then dl.i8_align else dl.aggregate_align) in
    let greatest : align ≡ greatest_of dl pack (least_align dl pack raised) parts =
    placed.alignment ∙ ap₂ (λ p first. fold (λ most (part : Part). max most (cut p part.align)) first parts) packed least in
    record {
      end = end_from pack 0 parts;
      follow = subst (λ xs. FollowEachOther pack 0 ps xs (end_from pack 0 parts)) (sym at) (follow_from dl pack 0 ps);
      rounded = subst (IsLeastMultiple align (end_from pack 0 parts)) (sym large) (rounded_up align (end_from pack 0 parts));
      aligned = subst (IsGreatestAlign pack (least_align dl pack raised) ps) (sym greatest) (greatest_align dl pack (least_align dl pack raised) ps);
    }

-- A struct under such a repr lies as in C, at the offsets that its layout has.
module _ (dl : TargetDataLayout) (pack raised : Option ℕ) (tree : Tree) (ts : Trees) (placed : Placed) (in_c : IsInC pack raised tree ts) (laid : IsLaying dl tree (Ok placed)) where
  laid_in_c : IsStruct dl in_c.0 ts placed
  laid_in_c = struct_laid dl in_c.0 ts placed (subst (λ t. IsLaying dl t (Ok placed)) in_c.1 laid)

  -- its offsets are listed
  pub offsets_listed : (layout : Layout) → layout ≡ layout_of placed →
      ((offsets order : List ℕ) → layout.fields ≡ Arbitrary offsets order → ⊥) → ⊥
  offsets_listed layout is other =
      let s = laid_in_c in
      other (listed_offsets s.layout.fields) s.order (ap (λ (l : Layout). l.fields) (is ∙ ap layout_of s.is) ∙ s.shape)

  pub struct_in_c : (layout : Layout) (os in_memory : List ℕ) → Everywhere dl (LiesAsAsked dl) tree placed → layout ≡ layout_of placed →
      layout.fields ≡ Arbitrary os in_memory → (ps : List Placed) × AreLaying dl ts (Ok ps) × LieAsInC pack (least_align dl pack raised) ps os layout.size layout.align.abi
  struct_in_c layout os in_memory every is shape =
      let repr = in_c.0 in
      let s = laid_in_c in
      let tag_distinguishes = subst (LiesAsAsked dl (struct repr true None ts)) s.is (subst (λ t. Everywhere dl (LiesAsAsked dl) t placed) in_c.1 every).0 in
      let own : List ℕ = listed_offsets s.layout.fields in
      let parts : Parts = parts_at own s.fields in
      let by_kind = subst (λ kind. IsPlacedBy dl repr kind (types_of parts) tag_distinguishes.0 (offsets_of parts) s.layout.size s.layout.align.abi) (kind_sized (fields_of parts)) tag_distinguishes.1 in
      let by_types = subst (λ fs. IsPlacedBy dl repr AlwaysSized fs tag_distinguishes.0 (offsets_of parts) s.layout.size s.layout.align.abi) (types_of-parts_at own s.fields s.count) by_kind in
      let by_offsets = subst (λ ns. IsPlacedBy dl repr AlwaysSized (map layout_of s.fields) tag_distinguishes.0 ns s.layout.size s.layout.align.abi) (offsets_of-parts_at own s.fields s.count) by_types in
      let same : layout ≡ s.layout = is ∙ ap layout_of s.is in
      let at : own ≡ os = sym (ap (λ (l : Layout). listed_offsets l.fields) same) ∙ ap listed_offsets shape in
      let lie = placed_in_c dl repr pack raised s.fields tag_distinguishes.0 own s.layout.size s.layout.align.abi in_c.3 in_c.4 in_c.2 s.count by_offsets in (
        s.fields,
        s.are,
        subst (λ ns. LieAsInC pack (least_align dl pack raised) s.fields ns layout.size layout.align.abi) at
            (subst (λ (l : Layout). LieAsInC pack (least_align dl pack raised) s.fields own l.size l.align.abi) (sym same) lie),
      )
