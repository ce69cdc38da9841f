-- Structs and unions that were laid out: their fields, and the alignment that these give them.
use Rattle.std.proofs.Common.{◌≡◌, ℕ, ◌^◌, ◌≤◌, Bool, true, false, List, [], ◌∷◌, Option, None, Some, length, map, refl, sym, ap, ap₂, ◌∙◌, arith, inl, inr, ⊎_elim, Ok}
use Rattle.std.specs.Prelude.{MatchBool, MatchOption, max, is_some, unwrap_or, if◌then◌else◌}
use Rattle.std.proofs.Math.Nat.{le_of_dvd}
use Rattle.std.proofs.Math.Pow.{pow_mono}
use Rattle.std.proofs.lemmas.Bool.{cases_lt}
use Rattle.std.proofs.lemmas.List.{length-map, map-id}
use Rattle.abi_base.specs.declared.data_layout.TargetDataLayout.{TargetDataLayout}
use Rattle.abi_base.specs.declared.integer.Integer.TheVariants.{I8}
use Rattle.abi_base.specs.declared.struct_kind.StructKind.{StructKind}
use Rattle.abi_base.specs.DataLayout.{IsLawfulDataLayout}
use Rattle.abi_scalar.specs.declared.niche.Niche.{Niche}
use Rattle.abi_scalar.specs.declared.repr.ReprOptions.{ReprOptions}
use Rattle.abi_scalar.specs.Shape.{listed_offsets}
use Rattle.abi_univariant.specs.declared.fields_repr.FieldsRepr.{FieldsRepr}
use Rattle.abi_univariant.specs.declared.order.NicheBias.{NicheBias}
use Rattle.abi_univariant.specs.declared.order.NicheBias.TheVariants.{Start, End}
use Rattle.abi_univariant.specs.declared.part.Part.{Part}
use Rattle.abi_univariant.specs.Fields.{greatest, greatest_align}
use Rattle.abi_univariant.specs.ListNiche.{begins_after, niche_in}
use Rattle.abi_univariant.specs.Order.{IsNamedOrder}
use Rattle.abi_univariant.specs.Part.{part_of, parts_of as asked_of}
use Rattle.abi_univariant.specs.Placement.{align_of as list_align, cut, fields_repr, own_align, prefix_align}
use Rattle.abi_univariant.specs.Run.{IsPlacedIn, IsRun, space_wanted}
use Rattle.abi_univariant.specs.Union.{raised_to}
use Rattle.abi_tree.specs.Nodes.{parts_at}
use Rattle.abi_tree.specs.Placed.{Placed, layout_of, parts_in}
use Rattle.abi_scalar.specs.Layout.{Layout}
use Rattle.abi_tree.specs.Tree.{Trees, struct, union}
use Rattle.rustc_abi.specs.Laying.{AreLaying, IsLaying, IsLaidList, IsListedInOrder, IsUnited, fields_fault, kind_of, ordered_fault, placed_fields, placed_together, with_randomize_flag}
use Rattle.guarantees.specs.Reference.Words.{HasPartForEach, align_in_bytes, extent_of, most_aligned}
use Rattle.guarantees.proofs.ReferenceLemmas.Answers.{laid_by}
use Rattle.guarantees.proofs.ReferenceLemmas.Lists.{align_same, cut_to, extents_for, part_for_each, pow_max, pow_min}

-- ---- the run that is taken

pub either : (C A B : Type 0) (b : Bool) → (A → C) → (B → C) → MatchBool b A B → C
either C A B true f g h = f h
either C A B false f g h = g h

pub perhaps : (C A : Type 0) (P : ℕ → Type 0) (o : Option ℕ) → (A → C) → ((s : ℕ) → P s → C) → MatchOption o A P → C
perhaps C A P None f g h = f h
perhaps C A P (Some s) f g h = g s h

-- what the list has in each order that it may have been laid out in
pub run_has : (dl : TargetDataLayout) (repr : FieldsRepr) (parts : List Part) (first order offsets : List ℕ) (size align : ℕ) (niche : Option Niche) (C : Type 0)
    → ((bias : NicheBias) → IsPlacedIn dl repr bias parts order offsets size align niche → C)
    → IsRun dl repr parts first order offsets size align niche → C
run_has dl repr parts first order offsets size align niche C each run =
    let A : Type 0 = (order ≡ first) × IsPlacedIn dl repr Start parts order offsets size align niche in
    perhaps C A
    (λ space. (second : List ℕ) × IsNamedOrder repr End parts second × MatchBool (begins_after space (niche_in dl repr End parts second))
    ((order ≡ second) × IsPlacedIn dl repr End parts order offsets size align niche) A)
    (space_wanted dl repr parts first) (λ h. each Start h.1)
    (λ space h. either C ((order ≡ h.0) × IsPlacedIn dl repr End parts order offsets size align niche) A
    (begins_after space (niche_in dl repr End parts h.0)) (λ g. each End g.1) (λ g. each Start g.1) h.2) run

-- ---- alignments

-- a byte is aligned to one
pub byte_align : (dl : TargetDataLayout) → IsLawfulDataLayout dl → dl.i8_align ≡ 0
byte_align dl law = ⊎_elim (λ none. omega arith)
    (λ (some : 1 ≤ dl.i8_align). let up : 2 ^ 1 ≤ 2 ^ dl.i8_align = pow_mono {i = 1} {j = dl.i8_align} some in
    let one : 2 ^ dl.i8_align ≤ 1 = le_of_dvd (omega arith) (law.integers I8) in absurd (omega arith))
    (cases_lt dl.i8_align 1)

-- the alignment that a list begins with
abbrev pub least_align : TargetDataLayout → ReprOptions → ℕ
least_align dl repr = max (own_align dl repr) (unwrap_or repr.align 0)

pub unprefixed : (pack : Option ℕ) (always_sized : Bool) (ps : List Placed) → prefix_align pack (kind_of always_sized ps) ≡ 0
unprefixed pack always_sized [] = refl
unprefixed pack true (p ∷ ps) = refl
unprefixed pack false (p ∷ ps) = refl

-- A struct: its fields by themselves, and its list.
pub record IsStruct (dl : TargetDataLayout) (repr : ReprOptions) (all : Trees) (whole : Placed) : Type 0 where
  pub fields : List Placed
  pub layout : Layout
  pub are : AreLaying dl all (Ok fields)
  pub count : length (listed_offsets layout.fields) ≡ length fields
  pub is : placed_fields repr fields layout ≡ whole
  pub align : align_in_bytes whole ≡ max (2 ^ least_align dl repr) (most_aligned (extents_for repr.pack fields))

-- A union: the same, with each field at 0.
pub record IsTogether (dl : TargetDataLayout) (repr : ReprOptions) (all : Trees) (whole : Placed) : Type 0 where
  pub fields : List Placed
  pub layout : Layout
  pub are : AreLaying dl all (Ok fields)
  pub is : placed_together repr fields layout ≡ whole
  pub align : align_in_bytes whole ≡ max (2 ^ least_align dl repr) (most_aligned (extents_for repr.pack fields))

-- Fields by themselves and where they lie, one for each tree, and the alignment of the whole by theirs.
pub record IsOver (dl : TargetDataLayout) (repr : ReprOptions) (all : Trees) (whole : Placed) : Type 0 where
  pub fields : List Placed
  pub are : AreLaying dl all (Ok fields)
  pub offsets : List ℕ
  pub count : length offsets ≡ length fields
  pub parts : parts_in whole ≡ parts_at offsets fields
  pub align : align_in_bytes whole ≡ max (2 ^ least_align dl repr) (most_aligned (extents_for repr.pack fields))

module _ (dl : TargetDataLayout) where
  pub asked_count : (ps : List Placed) → length (asked_of dl (map layout_of ps)) ≡ length ps
  asked_count ps = length-map (map layout_of ps) (λ f. part_of dl f) ∙ length-map ps layout_of

  -- the alignment of a list without a prefix, in the words of the chapter
  list_aligned : (repr : ReprOptions) (always_sized : Bool) (ps : List Placed) (align : ℕ)
      → align ≡ list_align (fields_repr dl repr (kind_of always_sized ps)) (asked_of dl (map layout_of ps))
      → 2 ^ align ≡ max (2 ^ least_align dl repr) (most_aligned (extents_for repr.pack ps))
  list_aligned repr always_sized ps align is =
      let begin : ℕ = least_align dl repr in
      let least : max begin (prefix_align repr.pack (kind_of always_sized ps)) ≡ begin = ap (max begin) (unprefixed repr.pack always_sized ps) ∙ omega arith in
      ap (λ a. 2 ^ a) is ∙ align_same dl repr.pack _ ps ∙ ap (λ k. max (2 ^ k) (most_aligned (extents_for repr.pack ps))) least

  -- a list has one offset for each field
  pub list_count : (repr : ReprOptions) (always_sized : Bool) (ps : List Placed) (layout : Layout)
      → IsLaidList dl repr (kind_of always_sized ps) (map layout_of ps) (Ok layout) → length (listed_offsets layout.fields) ≡ length ps
  list_count repr always_sized ps layout listed =
      let kind : StructKind = kind_of always_sized ps in
      let parts : List Part = asked_of dl (map layout_of ps) in
      let run = listed.2.named in
      ap length (ap listed_offsets listed.2.shape)
      ∙ run_has dl (fields_repr dl repr kind) parts run.0 listed.0 listed.1 layout.size layout.align.abi layout.largest_niche
      (length listed.1 ≡ length parts) (λ bias h. h.count) run.3 ∙ asked_count ps

  pub struct_laid : (repr : ReprOptions) (always_sized : Bool) (order : Option (List ℕ)) (all : Trees) (p : Placed)
      → IsLaying dl (struct repr always_sized order all) (Ok p) → IsStruct dl repr all p
  struct_laid repr always_sized order all p (inl f) = absurd (cc f.2)
  struct_laid repr always_sized None all p (inr (ps, there, answer)) =
      let kind : StructKind = kind_of always_sized ps in
      let found = laid_by (fields_fault repr ps) (IsLaidList dl repr kind (map layout_of ps)) (placed_fields repr ps) p answer in
      let layout : Layout = found.0 in
      let listed = found.1 in
      let run = listed.2.named in
      let parts : List Part = asked_of dl (map layout_of ps) in
      let high : layout.align.abi ≡ list_align (fields_repr dl repr kind) parts =
      run_has dl (fields_repr dl repr kind) parts run.0 listed.0 listed.1 layout.size layout.align.abi layout.largest_niche
      (layout.align.abi ≡ list_align (fields_repr dl repr kind) parts) (λ bias h. h.alignment) run.3 in
      record {
        fields = ps;
        layout = layout;
        are = there;
        count = list_count repr always_sized ps layout listed;
        is = found.2;
        align = ap align_in_bytes (sym found.2) ∙ list_aligned repr always_sized ps layout.align.abi high;
      }
  struct_laid repr always_sized (Some order) all p (inr (ps, there, answer)) =
      let kind : StructKind = kind_of always_sized ps in
      let found = laid_by (ordered_fault repr ps) (IsListedInOrder dl (with_randomize_flag repr) kind order (map layout_of ps)) (placed_fields repr ps) p answer in
      let layout : Layout = found.0 in
      let listed = found.1 in
      record {
        fields = ps;
        layout = layout;
        are = there;
        count = ap length (ap listed_offsets listed.1.shape) ∙ listed.1.named.1.count ∙ asked_count ps;
        is = found.2;
        align = ap align_in_bytes (sym found.2) ∙ list_aligned repr always_sized ps layout.align.abi listed.1.named.1.alignment;
      }

  -- ---- unions

  cut_max : (pack : Option ℕ) (a b : ℕ) → cut pack (max a b) ≡ max (cut pack a) (cut pack b)
  cut_max None a b = refl
  cut_max (Some n) a b = omega arith

  cut_align : (pack : Option ℕ) (p : Placed) → 2 ^ cut pack (layout_of p).align.abi ≡ (cut_to pack (extent_of p)).align
  cut_align None p = refl
  cut_align (Some n) p = pow_min (layout_of p).align.abi n

  cut_zero : (pack : Option ℕ) → cut pack 0 ≡ 0
  cut_zero None = refl
  cut_zero (Some n) = omega arith

  -- the greatest of the alignments that were cut
  greatest_cut : (pack : Option ℕ) (ps : List Placed)
      → 2 ^ cut pack (greatest (map (λ (f : Layout). f.align.abi) (map layout_of ps))) ≡ most_aligned (extents_for pack ps)
  greatest_cut pack [] = ap (λ a. 2 ^ a) (cut_zero pack)
  greatest_cut pack (p ∷ ps) =
      let rest : ℕ = greatest (map (λ (f : Layout). f.align.abi) (map layout_of ps)) in
      ap (λ a. 2 ^ a) (cut_max pack (layout_of p).align.abi rest) ∙ pow_max (cut pack (layout_of p).align.abi) (cut pack rest)
      ∙ ap₂ (λ a b. max a b) (cut_align pack p) (greatest_cut pack ps)

  raised_is : (raised : Option ℕ) (a : ℕ) → raised_to raised a ≡ max a (unwrap_or raised 0)
  raised_is None a = omega arith
  raised_is (Some n) a = refl

  own_cut : (law : IsLawfulDataLayout dl) (pack : Option ℕ)
      → cut pack (if is_some pack then dl.i8_align else dl.aggregate_align) ≡ (if is_some pack then dl.i8_align else dl.aggregate_align)
  own_cut law None = refl
  own_cut law (Some n) = let byte : dl.i8_align ≡ 0 = byte_align dl law in omega arith

  union_aligned : IsLawfulDataLayout dl → (repr : ReprOptions) (ps : List Placed)
      → 2 ^ raised_to repr.align (cut repr.pack (greatest_align (own_align dl repr) (map layout_of ps)))
      ≡ max (2 ^ least_align dl repr) (most_aligned (extents_for repr.pack ps))
  union_aligned law repr ps =
      let own : ℕ = own_align dl repr in
      let most : ℕ = greatest (map (λ (f : Layout). f.align.abi) (map layout_of ps)) in
      let split : cut repr.pack (max own most) ≡ max own (cut repr.pack most) =
      cut_max repr.pack own most ∙ ap (λ a. max a (cut repr.pack most)) (own_cut law repr.pack) in
      let exponent : raised_to repr.align (cut repr.pack (max own most)) ≡ max (least_align dl repr) (cut repr.pack most) =
      raised_is repr.align (cut repr.pack (max own most)) ∙ ap (λ a. max a (unwrap_or repr.align 0)) split ∙ omega arith in
      ap (λ a. 2 ^ a) exponent ∙ pow_max (least_align dl repr) (cut repr.pack most) ∙ ap (max (2 ^ least_align dl repr)) (greatest_cut repr.pack ps)

  pub union_laid : IsLawfulDataLayout dl → (repr : ReprOptions) (all : Trees) (p : Placed) → IsLaying dl (union repr all) (Ok p) → IsTogether dl repr all p
  union_laid law repr all p (inl f) = absurd (cc f.2)
  union_laid law repr all p (inr (ps, there, answer)) =
      let found = laid_by (fields_fault repr ps) (IsUnited dl repr (map layout_of ps)) (placed_together repr ps) p answer in
      let layout : Layout = found.0 in
      let made = found.1.2 in
      record {
        fields = ps;
        layout = layout;
        are = there;
        is = found.2;
        align = ap align_in_bytes (sym found.2) ∙ ap (λ (l : Layout). 2 ^ l.align.abi) made
            ∙ ap (λ ls. 2 ^ raised_to repr.align (cut repr.pack (greatest_align (own_align dl repr) ls))) (map-id (map layout_of ps))
            ∙ union_aligned law repr ps;
      }

  -- ---- both

  pub over_struct : (repr : ReprOptions) (all : Trees) (p : Placed) → IsStruct dl repr all p → IsOver dl repr all p
  over_struct repr all p h = record {
    fields = h.fields;
    are = h.are;
    offsets = listed_offsets h.layout.fields;
    count = h.count;
    parts = ap parts_in (sym h.is);
    align = h.align;
  }

  pub over_union : (repr : ReprOptions) (all : Trees) (p : Placed) → IsTogether dl repr all p → IsOver dl repr all p
  over_union repr all p h = record {
    fields = h.fields;
    are = h.are;
    offsets = map {B = ℕ} (λ q. 0) h.fields;
    count = length-map {B = ℕ} h.fields (λ q. 0);
    parts = ap parts_in (sym h.is);
    align = h.align;
  }

  -- there is a part for each field
  pub struct_parts : (repr : ReprOptions) (all : Trees) (p : Placed) → (h : IsStruct dl repr all p)
      → HasPartForEach all (parts_at (listed_offsets h.layout.fields) h.fields)
  struct_parts repr all p h = part_for_each dl all (listed_offsets h.layout.fields) h.fields h.count h.are
