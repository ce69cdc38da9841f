-- Each `repr(C)` enum that was laid out is one as the Reference has it.
use Rattle.std.proofs.Common.{◌≡◌, ℕ, ◌+◌, ◌^◌, ◌<◌, ◌≤◌, Bool, true, false, List, [], ◌∷◌, Option, None, length, map, refl, sym, ap, ap₂, ◌∙◌, subst, arith, Ok, ⊎_elim}
use Rattle.std.specs.Prelude.{max, not, is_some, unwrap_or, ◌||◌, if◌then◌else◌}
use Rattle.std.specs.Int.{◌∣◌, next_multiple_of}
use Rattle.std.proofs.Math.Nat.{dvd_trans}
use Rattle.std.proofs.lemmas.Nat.{pow_pos}
use Rattle.std.proofs.lemmas.Bool.{cases_lt}
use Rattle.abi_tree.specs.Nodes.{parts_at}
use Rattle.abi_base.specs.declared.data_layout.TargetDataLayout.{TargetDataLayout}
use Rattle.abi_base.specs.DataLayout.{IsLawfulDataLayout}
use Rattle.abi_base.specs.declared.primitive.Primitive.TheVariants.{Int}
use Rattle.abi_base.specs.Integer.{integer_align, integer_size}
use Rattle.abi_scalar.specs.declared.repr.ReprOptions.{ReprOptions}
use Rattle.abi_scalar.specs.declared.scalar.Scalar.TheVariants.{Initialized}
use Rattle.abi_scalar.specs.declared.variants.VariantLayout.{VariantLayout}
use Rattle.abi_scalar.specs.Repr.{is_c}
use Rattle.abi_univariant.specs.Fields.{greatest, greatest_size}
use Rattle.abi_univariant.specs.Placement.{cut, own_align, prefix_align, start_of}
use Rattle.abi_univariant.proofs.Offsets.Rounding.{pow_dvd, round_add, round_mono, round_multiple, round_round, rounded_to}
use Rattle.abi_calc.specs.Enums.Lists.{align_with_all, behind_tag, tag_align}
use Rattle.abi_calc.specs.Enums.EnumStrategy.{is_free}
use Rattle.abi_calc.specs.Enums.Tagged.{layout_with_view, lists_align, lists_size}
use Rattle.abi_tree.specs.Mark.{mark_of}
use Rattle.abi_tree.specs.declared.mark.Mark.{Mark}
use Rattle.abi_tree.specs.Placed.{Placed, layout_of, tagged}
use Rattle.abi_scalar.specs.Layout.{Layout}
use Rattle.abi_tree.specs.Tree.{Tree, Variants, enum}
use Rattle.rustc_abi.specs.Enums.{tagged_variants_at, discriminants_of, layouts_of}
use Rattle.rustc_abi.specs.Laying.{IsLaying, VariantsLaying, enum_fault, placed_enum}
use Rattle.guarantees.proofs.ReferenceLemmas.Answers.{numbers_for}
use Rattle.guarantees.specs.Reference.Words.{Extent, align_in_bytes, extents_of, extent_of, largest, most_aligned, padding_needed_for, rounded_up}
use Rattle.rustc_abi.specs.Lists.{offsets_of}
use Rattle.guarantees.specs.Reference.CStruct.{IsPlainC, c_end, c_offsets, c_struct}
use Rattle.guarantees.specs.Reference.Tags.{integer_extent}
use Rattle.guarantees.specs.Reference.FieldEnums.{EachVariant, IsCEnum, LieInPayload, c_enum, payload, variant_fields, with_fields}
use Rattle.guarantees.proofs.ReferenceLemmas.Lists.{aligned_some, c_is_fixed, extents_for, extents_of-parts_at, offsets_of-parts_at, pow_max, rounded}
use Rattle.guarantees.proofs.ReferenceLemmas.PrimitiveEnums.{end_behind, named_tag, offsets_behind}
use Rattle.guarantees.proofs.ReferenceLemmas.EnumLists.{AreListsFrom, IsTaggedBehind, LieFrom, ListsFrom, tagged_variant_fields, tagged_variant_for_each, lie_from, lists_are, of_tagged, seen_from}

-- ---- rounding

abbrev up : ℕ → ℕ → ℕ
up n align = next_multiple_of n (2 ^ align)

round_max : (a b w : ℕ) → max (up a w) (up b w) ≡ up (max a b) w
round_max a b w = ⊎_elim
    (λ (lt : a < b). let le : up a w ≤ up b w = round_mono a b w (omega arith) in
    let is : max (up a w) (up b w) ≡ up b w = omega arith in is ∙ ap (λ k. up k w) (omega arith))
    (λ (ge : b ≤ a). let le : up b w ≤ up a w = round_mono b a w ge in
    let is : max (up a w) (up b w) ≡ up a w = omega arith in is ∙ ap (λ k. up k w) (omega arith))
    (cases_lt a b)

-- a tag of so many bytes, whole ones of its alignment, is rounded alike by the fields' alignment and by the greater of both
tag_rounded : (size a u : ℕ) → 2 ^ a ∣ size → up size (max a u) ≡ up size u
tag_rounded size a u fits = ⊎_elim
    (λ (lt : a < u). ap (up size) (omega arith))
    (λ (ge : u ≤ a). ap (up size) (let is : max a u ≡ a = omega arith in is)
    ∙ round_multiple size a fits ∙ sym (round_multiple size u (dvd_trans (2 ^ u) (pow_dvd u a ge) fits)))
    (cases_lt a u)

-- ---- alignments, as exponents

abbrev top : List Placed → ℕ
top ps = greatest (map (λ (f : Layout). f.align.abi) (map layout_of ps))

abbrev tops : List (List Placed) → ℕ
tops [] = 0
tops (ps ∷ variants) = max (top ps) (tops variants)

tops_are : (own : ℕ) (variants : List (List Placed)) → align_with_all own (layouts_of variants) ≡ max own (tops variants)
tops_are own [] = omega arith
tops_are own (ps ∷ variants) = tops_are (max own (top ps)) variants ∙ omega arith

top_is : (ps : List Placed) → 2 ^ top ps ≡ most_aligned (map extent_of ps)
top_is [] = refl
top_is (p ∷ ps) = pow_max (layout_of p).align.abi (top ps) ∙ ap (λ k. max (align_in_bytes p) k) (top_is ps)

abbrev extents : List (List Placed) → List (List Extent)
extents variants = map (map extent_of) variants

-- ---- the payload

unfiltered_align : (ess : List (List Extent)) → most_aligned (map c_struct (with_fields ess)) ≡ most_aligned (map c_struct ess)
unfiltered_align [] = refl
unfiltered_align ([] ∷ ess) = let some : 1 ≤ most_aligned (map c_struct ess) = aligned_some (map c_struct ess) in
    unfiltered_align ess ∙ omega arith
unfiltered_align ((e ∷ es) ∷ ess) = ap (λ k. max (most_aligned (e ∷ es)) k) (unfiltered_align ess)

unfiltered_size : (ess : List (List Extent)) → largest (map c_struct (with_fields ess)) ≡ largest (map c_struct ess)
unfiltered_size [] = refl
unfiltered_size ([] ∷ ess) = unfiltered_size ess ∙ omega arith
unfiltered_size ((e ∷ es) ∷ ess) = ap (λ k. max (c_struct (e ∷ es)).size k) (unfiltered_size ess)

payload_align : (variants : List (List Placed)) → most_aligned (map c_struct (extents variants)) ≡ 2 ^ tops variants
payload_align [] = refl
payload_align (ps ∷ variants) =
    ap₂ (λ a b. max a b) (sym (top_is ps)) (payload_align variants) ∙ sym (pow_max (top ps) (tops variants))

-- the greatest end of a variant's fields
abbrev ends : List (List Placed) → ℕ
ends [] = 0
ends (ps ∷ variants) = max (c_end 0 (map extent_of ps)) (ends variants)

struct_size : (ps : List Placed) → (c_struct (map extent_of ps)).size ≡ up (c_end 0 (map extent_of ps)) (top ps)
struct_size ps = ap (rounded_up (c_end 0 (map extent_of ps))) (sym (top_is ps)) ∙ rounded (c_end 0 (map extent_of ps)) (top ps)

payload_size : (u : ℕ) (variants : List (List Placed)) → tops variants ≤ u → up (largest (map c_struct (extents variants))) u ≡ up (ends variants) u
payload_size u [] le = refl
payload_size u (ps ∷ variants) le =
    let end : ℕ = c_end 0 (map extent_of ps) in
    sym (round_max (c_struct (map extent_of ps)).size (largest (map c_struct (extents variants))) u)
    ∙ ap₂ (λ a b. max a b)
    (ap (λ k. up k u) (struct_size ps) ∙ round_round end (top ps) u (omega arith))
    (payload_size u variants (omega arith))
    ∙ round_max end (ends variants) u

payload_is : (variants : List (List Placed)) → payload (extents variants) ≡ (let e : Extent = record { size = up (ends variants) (tops variants); align = 2 ^ tops variants } in e)
payload_is variants =
    let high : most_aligned (map c_struct (with_fields (extents variants))) ≡ 2 ^ tops variants =
    unfiltered_align (extents variants) ∙ payload_align variants in
    ap₂ (λ (n a : ℕ). let e : Extent = record { size = n; align = a } in e)
    (ap₂ rounded_up (unfiltered_size (extents variants)) high ∙ rounded (largest (map c_struct (extents variants))) (tops variants)
    ∙ payload_size (tops variants) variants (omega arith))
    high

-- ---- fields behind a multiple of their alignments

shifted_one : (k from align : ℕ) → 2 ^ align ∣ k → k + from + padding_needed_for (k + from) (2 ^ align) ≡ k + (from + padding_needed_for from (2 ^ align))
shifted_one k from align fits =
    let one : up from align + k ≡ up (from + k) align = round_add from align k fits in
    let swapped : k + from ≡ from + k = omega arith in
    rounded (k + from) align ∙ ap (λ n. up n align) swapped ∙ sym one ∙ ap (λ n. n + k) (sym (rounded from align)) ∙ omega arith

shifted : (k u from : ℕ) (ps : List Placed) → 2 ^ u ∣ k → top ps ≤ u
    → c_offsets (k + from) (map extent_of ps) ≡ map (λ o. k + o) (c_offsets from (map extent_of ps))
shifted k u from [] fits le = refl
shifted k u from (p ∷ ps) fits le =
    let own = shifted_one k from (layout_of p).align.abi (dvd_trans (2 ^ (layout_of p).align.abi) (pow_dvd (layout_of p).align.abi u (omega arith)) fits) in
    let next : ℕ = from + padding_needed_for from (align_in_bytes p) + (extent_of p).size in
    ap₂ (λ (o : ℕ) (os : List ℕ). o ∷ os) own
    (ap (λ n. c_offsets n (map extent_of ps)) (ap (λ n. n + (extent_of p).size) own ∙ omega arith)
    ∙ shifted k u next ps fits (omega arith))

shifted_end : (k u from : ℕ) (ps : List Placed) → 2 ^ u ∣ k → top ps ≤ u
    → c_end (k + from) (map extent_of ps) ≡ k + c_end from (map extent_of ps)
shifted_end k u from [] fits le = refl
shifted_end k u from (p ∷ ps) fits le =
    let own = shifted_one k from (layout_of p).align.abi (dvd_trans (2 ^ (layout_of p).align.abi) (pow_dvd (layout_of p).align.abi u (omega arith)) fits) in
    let next : ℕ = from + padding_needed_for from (align_in_bytes p) + (extent_of p).size in
    ap (λ n. c_end n (map extent_of ps)) (ap (λ n. n + (extent_of p).size) own ∙ omega arith)
    ∙ shifted_end k u next ps fits (omega arith)

behind_all : (k u : ℕ) (ps : List Placed) → 2 ^ u ∣ k → top ps ≤ u
    → c_offsets k (map extent_of ps) ≡ map (λ o. k + o) (c_offsets 0 (map extent_of ps))
behind_all k u ps fits le = ap (λ n. c_offsets n (map extent_of ps)) (omega arith) ∙ shifted k u 0 ps fits le

end_behind_all : (k u : ℕ) (ps : List Placed) → 2 ^ u ∣ k → top ps ≤ u → c_end k (map extent_of ps) ≡ k + c_end 0 (map extent_of ps)
end_behind_all k u ps fits le = ap (λ n. c_end n (map extent_of ps)) (omega arith) ∙ shifted_end k u 0 ps fits le

-- ---- each list, and the greatest of them

module _ (dl : TargetDataLayout) (repr : ReprOptions) (loose : repr.pack ≡ None) (begin : max (own_align dl repr) (unwrap_or repr.align 0) ≡ 0)
    (k u w : ℕ) (fits : 2 ^ u ∣ k) (within : u ≤ w) where
  list_align_is : (ps : List Placed) (l : Layout) → top ps ≤ u → ListsFrom dl repr k w ps l → 2 ^ l.align.abi ≡ 2 ^ w
  list_align_is ps l le h =
      let first : max (max (own_align dl repr) (unwrap_or repr.align 0)) w ≡ w = ap (λ n. max n w) begin ∙ omega arith in
      let own : most_aligned (extents_for repr.pack ps) ≡ 2 ^ top ps = ap (λ pack. most_aligned (extents_for pack ps)) loose ∙ sym (top_is ps) in
      h.align ∙ ap₂ (λ m n. max (2 ^ m) n) first own ∙ sym (pow_max w (top ps)) ∙ ap (λ n. 2 ^ n) (omega arith)

  list_size_is : (ps : List Placed) (l : Layout) → top ps ≤ u → ListsFrom dl repr k w ps l → l.size ≡ up (k + c_end 0 (map extent_of ps)) w
  list_size_is ps l le h =
      h.size ∙ ap₂ rounded_up (ap (λ pack. c_end k (extents_for pack ps)) loose ∙ end_behind_all k u ps fits le) (list_align_is ps l le h)
      ∙ rounded (k + c_end 0 (map extent_of ps)) w

  greatest_is : (v : List Placed) (vs : List (List Placed)) (lists : List Layout) → tops (v ∷ vs) ≤ u → AreListsFrom dl repr k w (v ∷ vs) lists
      → (greatest_size lists ≡ up (k + ends (v ∷ vs)) w) × (2 ^ greatest (map (λ (f : Layout). f.align.abi) lists) ≡ 2 ^ w)
  greatest_is v vs [] le h = absurd h
  greatest_is v [] (l ∷ []) le h =
      let alone : greatest_size (l ∷ []) ≡ l.size = omega arith in
      let end : k + c_end 0 (map extent_of v) ≡ k + ends (v ∷ []) = omega arith in
      let one : max l.align.abi 0 ≡ l.align.abi = omega arith in (
        alone ∙ list_size_is v l (omega arith) h.0 ∙ ap (λ n. up n w) end,
        ap (λ n. 2 ^ n) one ∙ list_align_is v l (omega arith) h.0,
      )
  greatest_is v [] (l ∷ m ∷ lists) le h = absurd h.1
  greatest_is v (x ∷ xs) (l ∷ lists) le h =
      let rest = greatest_is x xs lists (omega arith) h.1 in
      let end : max (k + c_end 0 (map extent_of v)) (k + ends (x ∷ xs)) ≡ k + ends (v ∷ x ∷ xs) = omega arith in (
        ap₂ (λ m n. max m n) (list_size_is v l (omega arith) h.0) rest.0
            ∙ round_max (k + c_end 0 (map extent_of v)) (k + ends (x ∷ xs)) w ∙ ap (λ n. up n w) end,
        pow_max l.align.abi (greatest (map (λ (f : Layout). f.align.abi) lists))
            ∙ ap₂ (λ m n. max m n) (list_align_is v l (omega arith) h.0) rest.1 ∙ omega arith,
      )

-- ---- the struct of the tag and the payload

module _ (size a : ℕ) (fits : 2 ^ a ∣ size) where
  abbrev number : Extent
  number = record { size = size; align = 2 ^ a }

  -- where the payload begins
  abbrev place : List (List Placed) → ℕ
  place variants = up size (tops variants)

  place_fits : (variants : List (List Placed)) → 2 ^ tops variants ∣ place variants
  place_fits variants = (rounded_to size (tops variants)).multiple

  after_tag : (variants : List (List Placed)) → size + padding_needed_for size (payload (extents variants)).align ≡ place variants
  after_tag variants =
      ap (λ (e : Extent). rounded_up size e.align) (payload_is variants) ∙ rounded size (tops variants)

  pub two_places : (variants : List (List Placed)) → c_offsets 0 (number ∷ payload (extents variants) ∷ []) ≡ 0 ∷ place variants ∷ []
  two_places variants =
      offsets_behind number (payload (extents variants) ∷ []) ∙ ap (λ (o : ℕ). 0 ∷ o ∷ []) (after_tag variants)

  pub enum_is : (variants : List (List Placed)) → c_enum number (extents variants)
      ≡ (let e : Extent = record { size = up (place variants + ends variants) (max a (tops variants)); align = 2 ^ max a (tops variants) } in e)
  enum_is variants =
      let u : ℕ = tops variants in
      let w : ℕ = max a u in
      let inner : Extent = payload (extents variants) in
      let some : 1 ≤ 2 ^ u = (let positive : 0 < 2 ^ u = pow_pos u in omega arith) in
      let high : most_aligned (number ∷ inner ∷ []) ≡ 2 ^ w =
      ap (λ (e : Extent). max (2 ^ a) (max e.align 1)) (payload_is variants)
      ∙ (let one : max (2 ^ u) 1 ≡ 2 ^ u = omega arith in ap (max (2 ^ a)) one) ∙ sym (pow_max a u) in
      let end : c_end 0 (number ∷ inner ∷ []) ≡ place variants + up (ends variants) u =
      end_behind number (inner ∷ []) ∙ ap₂ (λ m n. m + n) (after_tag variants) (ap (λ (e : Extent). e.size) (payload_is variants)) in
      let joined : place variants + up (ends variants) u ≡ up (place variants + ends variants) u =
      (let swap : place variants + up (ends variants) u ≡ up (ends variants) u + place variants = omega arith in swap)
      ∙ round_add (ends variants) u (place variants) (place_fits variants)
      ∙ ap (λ n. up n u) (omega arith) in
      ap₂ (λ (n b : ℕ). let e : Extent = record { size = n; align = b } in e)
      (ap₂ rounded_up (end ∙ joined) high ∙ rounded (up (place variants + ends variants) u) w
      ∙ round_round (place variants + ends variants) u w (omega arith))
      high

  -- ---- the arms

  module _ (whole : Layout) (mark : Mark) (every : List (List Placed)) where
    pub each_in_payload : (i : ℕ) (numbers : List ℕ) (variants : List (List Placed)) (layouts : List (VariantLayout ℕ))
        → tops variants ≤ tops every → length numbers ≡ length variants → LieFrom (place every) layouts variants
        → EachVariant (LieInPayload number (extents every)) (tagged_variants_at whole mark i layouts numbers variants)
    each_in_payload i numbers [] [] le e lie = tt
    each_in_payload i numbers [] (l ∷ layouts) le e lie = absurd lie
    each_in_payload i numbers (ps ∷ variants) [] le e lie = absurd lie
    each_in_payload i [] (ps ∷ variants) (l ∷ layouts) le e lie = absurd (omega (arith, e))
    each_in_payload i (n ∷ numbers) (ps ∷ variants) (l ∷ layouts) le e lie =
        let es : extents_of (parts_at l.field_offsets ps) ≡ map extent_of ps = extents_of-parts_at l.field_offsets ps lie.0 in
        let at : offsets_of (parts_at l.field_offsets ps) ≡ map (λ o. place every + o) (c_offsets 0 (map extent_of ps)) =
        offsets_of-parts_at l.field_offsets ps lie.0 ∙ lie.1 ∙ behind_all (place every) (tops every) ps (place_fits every) (omega arith) in (
          (place every, two_places every, at ∙ ap (λ fs. map (λ o. place every + o) (c_offsets 0 fs)) (sym es)),
          each_in_payload (i + 1) numbers variants layouts (omega arith) (omega (arith, e)) lie.2,
        )

-- ---- the rule

true_or : (b c : Bool) → b ≡ true → (b || c) ≡ true
true_or true c e = refl
true_or false c e = absurd (cc)

pub c_is_asked : (repr : ReprOptions) → is_c repr ≡ true → is_free repr ≡ false
c_is_asked repr c = ap not (true_or (is_c repr) (is_some repr.int) c)

not_plain : (dl : TargetDataLayout) (repr : ReprOptions) (all : Variants) → (IsPlainC repr → ⊥) → (p : Placed) → IsCEnum dl (enum repr all) p
not_plain dl repr all isnt (tagged layout mark offset tag encoding tagged_variants) = λ plain. absurd (isnt plain)
not_plain dl repr all isnt _ = λ plain. absurd (isnt plain)

module _ (dl : TargetDataLayout) (law : IsLawfulDataLayout dl) (byte : dl.aggregate_align ≡ 0) (repr : ReprOptions) (all : Variants) where
  abbrev numbers : List ℕ
  numbers = discriminants_of all

  tagged_lies : (v : List Placed) (vs : List (List Placed)) (layout : Layout) → VariantsLaying dl all (Ok (v ∷ vs)) → enum_fault dl repr numbers (v ∷ vs) ≡ None
      → IsTaggedBehind dl repr numbers (v ∷ vs) layout → IsCEnum dl (enum repr all) (placed_enum dl repr numbers (v ∷ vs) layout)
  tagged_lies v vs layout there faultless b =
      let size : ℕ = integer_size b.asked in
      let a : ℕ = integer_align dl b.asked in
      let fits : 2 ^ a ∣ size = law.integers b.asked in
      let u : ℕ = tops (v ∷ vs) in
      let w : ℕ = max a u in
      let at : ℕ = place size a fits (v ∷ vs) in
      subst (λ (l : Layout). IsCEnum dl (enum repr all) (placed_enum dl repr numbers (v ∷ vs) l)) (sym b.is) (λ (plain : IsPlainC repr).
      let own : tag_align dl repr b.asked (layouts_of (v ∷ vs)) ≡ w =
      ap (λ c. if c then align_with_all a (layouts_of (v ∷ vs)) else a) plain.0 ∙ tops_are a (v ∷ vs) in
      let start : start_of repr.pack (behind_tag dl repr b.asked (layouts_of (v ∷ vs))) ≡ at =
      ap₂ (λ (pack : Option ℕ) k. next_multiple_of size (2 ^ cut pack k)) plain.2 own ∙ tag_rounded size a u fits in
      let before : prefix_align repr.pack (behind_tag dl repr b.asked (layouts_of (v ∷ vs))) ≡ w = ap₂ (λ (pack : Option ℕ) k. cut pack k) plain.2 own in
      let begin : max (own_align dl repr) (unwrap_or repr.align 0) ≡ 0 =
      ap₂ (λ (pack raised : Option ℕ). max (if is_some pack then dl.i8_align else dl.aggregate_align) (unwrap_or raised 0)) plain.2 plain.1 ∙ omega (arith, byte) in
      let given = lists_are dl repr (behind_tag dl repr b.asked (layouts_of (v ∷ vs))) (v ∷ vs) b.lists (c_is_fixed repr plain.0) b.are in
      let lists : AreListsFrom dl repr at w (v ∷ vs) b.lists =
      subst (λ k. AreListsFrom dl repr at k (v ∷ vs) b.lists) before
      (subst (λ k. AreListsFrom dl repr k (prefix_align repr.pack (behind_tag dl repr b.asked (layouts_of (v ∷ vs)))) (v ∷ vs) b.lists) start given) in
      let whole : Layout = layout_with_view 0 dl repr size (Initialized (Int b.asked b.signed) b.range) size b.lists b.view in
      let layouts : List (VariantLayout ℕ) = map (seen_from size b.view (lists_size dl b.lists)) b.lists in
      let lie : LieFrom at layouts (v ∷ vs) = lie_from dl repr at w size b.view (lists_size dl b.lists) (v ∷ vs) b.lists plain.2 lists in
      let long : length numbers ≡ length (v ∷ vs) = numbers_for dl all (v ∷ vs) there in
      let ess : variant_fields (tagged_variants_at whole (mark_of true repr) 0 layouts numbers (v ∷ vs)) ≡ extents (v ∷ vs) =
      tagged_variant_fields dl whole (mark_of true repr) at 0 numbers (v ∷ vs) layouts long lie in
      let most = greatest_is dl repr plain.2 begin at u w (place_fits size a fits (v ∷ vs)) (omega arith) v vs b.lists (omega arith) lists in
      let exponent : lists_align dl b.lists ≡ greatest (map (λ (f : Layout). f.align.abi) b.lists) = omega (arith, byte) in
      let high : 2 ^ lists_align dl b.lists ≡ 2 ^ w = ap (λ k. 2 ^ k) exponent ∙ most.1 in
      let large : lists_size dl b.lists ≡ up (at + ends (v ∷ vs)) w =
      ap₂ next_multiple_of most.0 high ∙ round_round (at + ends (v ∷ vs)) w w (omega arith) in (
        record {
          each = tagged_variant_for_each dl whole (mark_of true repr) at 0 all (v ∷ vs) layouts there lie;
          start = refl;
          direct = refl;
          number = (b.asked, b.signed, (refl, refl));
          named = λ some. (b.asked, b.signed, named_tag dl repr.int _ b.asked b.signed _ some b.for.3, (refl, refl));
        },
        ap₂ (λ (n k : ℕ). let e : Extent = record { size = n; align = k } in e) large high ∙ sym (enum_is size a fits (v ∷ vs))
            ∙ ap (c_enum (integer_extent dl b.asked)) (sym ess),
        subst (λ fs. EachVariant (LieInPayload (integer_extent dl b.asked) fs) (tagged_variants_at whole (mark_of true repr) 0 layouts numbers (v ∷ vs))) (sym ess)
            (each_in_payload size a fits whole (mark_of true repr) (v ∷ vs) 0 numbers (v ∷ vs) layouts (omega arith) long lie),
      ))

  pub enum_in_c : (p : Placed) → IsLaying dl (enum repr all) (Ok p) → IsCEnum dl (enum repr all) p
  enum_in_c =
      of_tagged dl repr all (IsCEnum dl (enum repr all))
      (λ free. not_plain dl repr all (λ plain. let no : true ≡ false = sym free ∙ c_is_asked repr plain.0 in absurd (cc)))
      (λ none plain. none) tagged_lies

pub laid_c_enum : (dl : TargetDataLayout) → dl.aggregate_align ≡ 0 → IsLawfulDataLayout dl → (t : Tree) (p : Placed) → IsLaying dl t (Ok p)
    → IsCEnum dl t p
laid_c_enum dl byte law (enum repr all) p h = enum_in_c dl law byte repr all p h
laid_c_enum dl byte law _ p h = tt
