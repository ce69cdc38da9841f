-- Whether bytes hold a value rests on the bytes that the value covers, and on no others.
use Rattle.std.proofs.Common.{◌≡◌, ℕ, zero, suc, ◌+◌, ◌-◌, ◌<◌, ◌≤◌, List, Bool, true, false, Option, None, Some, Result, Ok, Err, drop, length, length-take, length-drop, length-set, get_or, get_or-set_other, set, arith, refl, sym, ap, ◌∙◌, subst, ⊎_elim}
use Rattle.std.specs.Prelude.{◌&&◌, ◌||◌, ◌==◌, IfOk, IfSome, not, nat_le, nat_lt}
use Rattle.std.specs.declared.alloc.AllocError.{AllocError}
use Rattle.std.proofs.lemmas.Bool.{cases_Bool, cases_lt, eqb-true, le-leb, lt-ltb, true≢false}
use Rattle.std.proofs.lemmas.List.{get_or-drop, get_or-take, get_or_default, get_or_past, same_lists}
use Rattle.abi_base.specs.declared.data_layout.TargetDataLayout.{TargetDataLayout}
use Rattle.abi_base.specs.declared.endian.Endian.{Endian}
use Rattle.abi_scalar.specs.declared.variants.TagEncoding.{TagEncoding}
use Rattle.abi_scalar.specs.declared.variants.TagEncoding.TheVariants.{Direct, Niche}
use Rattle.abi_tree.specs.declared.laid.Laid.{Laid}
use Rattle.abi_tree.specs.declared.value.Value.{Value as Kept}
use Rattle.abi_tree.specs.Bytes.{bytes_at, number_of}
use Rattle.abi_tree.specs.Covering.{are_covered, each_covered, is_tagged_variant_covered, is_byte_at, is_covered, is_tagged}
use Rattle.abi_tree.specs.Holding.{HoldTaggedVariant, HoldEach, HoldParts, Holds, IsAt, tag_at}
use Rattle.abi_tree.specs.Laid.{endian_of, placed_of}
use Rattle.abi_tree.specs.OfTree.{IsOfTree}
use Rattle.abi_tree.specs.Placed.{Placed, scalar, pair, elements, vector, fields, union, single, tagged, states, Parts, no_parts, part, TaggedVariants, nothing_tagged, tagged_variant, size_of}
use Rattle.abi_tree.specs.Places.{is_data_place}
use Rattle.abi_tree.specs.Reading.{Finds, KeepsValues}
use Rattle.abi_tree.specs.Tag.{Names}
use Rattle.abi_tree.specs.Tree.{Tree}
use Rattle.abi_tree.specs.Untagged.{NamesItself, UntaggedNamed, UntaggedNamedOf, UntaggedNamedOfTaggedVariants}
use Rattle.abi_tree.specs.Value.{Value, number, two, list, variant, state, bytes, Values, no_values, more_values, value_of}
use Rattle.guarantees.specs.Field.{IsValueFound}
use Rattle.abi_tree.proofs.Bytes.PickedLemmas.{picked-same}

-- the byte lists are equally long, and agree wherever the test takes a byte
abbrev Agree : (ℕ → Bool) → (b w : List ℕ) → Type 0
Agree p b w = (length w ≡ length b) × ((k : ℕ) → p k ≡ true → get_or w k 0 ≡ get_or b k 0)

-- what holds of bytes holds of all that agree with them wherever the test takes a byte
abbrev RestsOn : (ℕ → Bool) → (List ℕ → Type 0) → Type 0
RestsOn p P = (b w : List ℕ) → Agree p b w → P b → P w

-- ---- tests, and parts of bytes

and_true : (x y : Bool) → x ≡ true → y ≡ true → (x && y) ≡ true
and_true true y e f = f
and_true false y e f = e

left_true : (x y : Bool) → x ≡ true → (x || y) ≡ true
left_true true y e = refl
left_true false y e = absurd (true≢false (sym e))

right_true : (x y : Bool) → y ≡ true → (x || y) ≡ true
right_true true y e = refl
right_true false y e = e

left : (p q : ℕ → Bool) (b w : List ℕ) → Agree (λ k. p k || q k) b w → Agree p b w
left p q b w same = (same.0, λ k e. same.1 k (left_true (p k) (q k) e))

right : (p q : ℕ → Bool) (b w : List ℕ) → Agree (λ k. p k || q k) b w → Agree q b w
right p q b w same = (same.0, λ k e. same.1 k (right_true (p k) (q k) e))

-- lists that agree at each of so many bytes
all_same : (b w : List ℕ) (n : ℕ) → length b ≡ n → Agree (λ k. nat_lt k n) b w → b ≡ w
all_same b w n long same =
    same_lists b w (sym same.0)
    (λ k d lt.
    let inside : k < length w = omega (arith, same.0) in
    get_or_default b k d 0 lt ∙ sym (same.1 k (lt-ltb k n (omega arith))) ∙ get_or_default w k 0 d inside)

length-slice : (b : List ℕ) (o n : ℕ) → o + n ≤ length b → length (bytes_at b o n) ≡ n
length-slice b o n le = omega (arith, length-take n (drop o b), length-drop o b)

slice_byte : (b : List ℕ) (o n j : ℕ) → j < n → get_or (bytes_at b o n) j 0 ≡ get_or b (o + j) 0
slice_byte b o n j lt = get_or-take n (drop o b) j 0 lt ∙ get_or-drop o b j 0

slices_agree : (o n : ℕ) (p : ℕ → Bool) (b w : List ℕ) → o + n ≤ length b → Agree (λ k. is_byte_at o n k && p (k - o)) b w → Agree p (bytes_at b o n) (bytes_at w o n)
slices_agree o n p b w le same =
    let longb = length-slice b o n le in
    let longw = length-slice w o n (omega (arith, same.0)) in (
      longw ∙ sym longb,
      λ j e.
          ⊎_elim
          (λ lt.
          let back : o + j - o ≡ j = omega arith in
          let from : nat_le o (o + j) ≡ true = le-leb o (o + j) (omega arith) in
          let till : nat_lt (o + j - o) n ≡ true = lt-ltb (o + j - o) n (omega arith) in
          slice_byte w o n j lt ∙ same.1 (o + j) (and_true (is_byte_at o n (o + j)) (p (o + j - o)) (and_true (nat_le o (o + j)) (nat_lt (o + j - o) n) from till) (ap p back ∙ e))
          ∙ sym (slice_byte b o n j lt))
          (λ past. get_or_past (bytes_at w o n) j 0 (omega (arith, longw)) ∙ sym (get_or_past (bytes_at b o n) j 0 (omega (arith, longb))))
          (cases_lt j n),
    )

rests_at : (o n : ℕ) (p : ℕ → Bool) (P : List ℕ → Type 0) → RestsOn p P → RestsOn (λ k. is_byte_at o n k && p (k - o)) (IsAt o n P)
rests_at o n p P rests b w same h = (omega (arith, same.0, h.0), rests (bytes_at b o n) (bytes_at w o n) (slices_agree o n p b w h.0 same) h.1)

rests_each : (P : List ℕ → Value → Type 0) (covered : Value → ℕ → Bool) (n : ℕ) → ((v : Value) → RestsOn (covered v) (λ b. P b v)) →
    (offset : ℕ) (vs : Values) → RestsOn (each_covered covered n offset vs) (λ b. HoldEach P n offset b vs)
rests_each P covered n rests offset no_values b w same h = tt
rests_each P covered n rests offset (more_values v vs) b w same h =
    let here : ℕ → Bool = λ k. is_byte_at offset n k && covered v (k - offset) in
    let later : ℕ → Bool = each_covered covered n (offset + n) vs in
    (rests_at offset n (covered v) (λ slice. P slice v) (rests v) b w (left here later b w same) h.0, rests_each P covered n rests (offset + n) vs b w (right here later b w same) h.1)

-- ---- tags

module _ (order : Endian) where
  same_tag : (o n : ℕ) (b w : List ℕ) → o + n ≤ length b → Agree (is_byte_at o n) b w → tag_at order b o n ≡ tag_at order w o n
  same_tag o n b w le same =
      let whole : Agree (λ k. is_byte_at o n k && nat_lt (k - o) n) b w = (same.0, λ k e. same.1 k (first_true (is_byte_at o n k) (nat_lt (k - o) n) e)) in
      ap (number_of order) (all_same (bytes_at b o n) (bytes_at w o n) n (length-slice b o n le) (slices_agree o n (λ k. nat_lt k n) b w le whole))
    where
      first_true : (x y : Bool) → (x && y) ≡ true → x ≡ true
      first_true true y e = refl
      first_true false y e = e

  not_told : (i untagged : ℕ) → not (i == untagged) ≡ false → i ≡ untagged
  not_told i untagged e = eqb-true i untagged (back (i == untagged) e)
    where
      back : (t : Bool) → not t ≡ false → t ≡ true
      back true e = refl
      back false e = absurd (true≢false e)

  told_again : (encoding : TagEncoding ℕ) (width : ℕ) (tagged_variants : TaggedVariants) (t s i : ℕ) → t ≡ s → Names encoding width tagged_variants t i → Names encoding width tagged_variants s i
  told_again encoding width tagged_variants t s i e h = subst (λ n. Names encoding width tagged_variants n i) e h

  -- the tag is covered, or the fields of the untagged variant hold a number that names it
  named_again : (o : ℕ) (tag : Placed) (encoding : TagEncoding ℕ) (tagged_variants : TaggedVariants) (i : ℕ) (vs : Values) (b w : List ℕ) → NamesItself order o tag encoding tagged_variants →
      (is_tagged encoding i ≡ true → tag_at order b o (size_of tag) ≡ tag_at order w o (size_of tag)) → HoldTaggedVariant order tagged_variants i w vs →
      Names encoding (size_of tag) tagged_variants (tag_at order b o (size_of tag)) i → Names encoding (size_of tag) tagged_variants (tag_at order w o (size_of tag)) i
  named_again o tag Direct tagged_variants i vs b w itself same held h = told_again Direct (size_of tag) tagged_variants _ _ i (same refl) h
  named_again o tag (Niche untagged span start) tagged_variants i vs b w itself same held h =
      ⊎_elim (λ tag_distinguishes. told_again (Niche untagged span start) (size_of tag) tagged_variants _ _ i (same tag_distinguishes) h)
      (λ untold.
      let e : i ≡ untagged = not_told i untagged untold in
      subst (λ j. Names (Niche untagged span start) (size_of tag) tagged_variants (tag_at order w o (size_of tag)) j) (sym e) (itself w vs (subst (λ j. HoldTaggedVariant order tagged_variants j w vs) e held)))
      (cases_Bool (not (i == untagged)))

  -- ---- the law

  mutual
    pub rests : (placed : Placed) (v : Value) → UntaggedNamed order placed → RestsOn (is_covered placed v) (λ b. Holds order placed b v)
    rests (scalar layout s) (number n) u b w same h = subst (λ x. Holds order (scalar layout s) x (number n)) (all_same b w layout.size h.0 same) h
    rests (pair layout parts) (two n m) u b w same h = (same.0 ∙ h.0, rests_parts parts (more_values (number n) (more_values (number m) no_values)) u b w same h.1)
    rests (elements layout count element) (list vs) u b w same h =
        (same.0 ∙ h.0, h.1, rests_each (Holds order element) (is_covered element) (size_of element) (λ v. rests element v u) 0 vs b w same h.2)
    rests (vector layout lanes) (list vs) u b w same h =
        let lane : Agree (λ k. is_byte_at 0 (size_of lanes) k && is_covered lanes (list vs) (k - 0)) b w =
        (same.0, λ k e. let here : k - 0 ≡ k = omega arith in same.1 k (subst (λ j. (is_byte_at 0 (size_of lanes) k && is_covered lanes (list vs) j) ≡ true) here e)) in
        (same.0 ∙ h.0, rests_at 0 (size_of lanes) (is_covered lanes (list vs)) (λ slice. Holds order lanes slice (list vs)) (rests lanes (list vs) u) b w lane h.1)
    rests (fields layout mark parts) (list vs) u b w same h = (same.0 ∙ h.0, rests_parts parts vs u b w same h.1)
    rests (union layout mark parts) (bytes content) u b w same h = (
      same.0 ∙ h.0,
      h.1 ∙ picked-same (is_data_place (union layout mark parts)) 0 b w (sym same.0)
          (λ j place. let start : 0 + j ≡ j = omega arith in sym (same.1 j (subst (λ i. is_data_place (union layout mark parts) i ≡ true) start place))),
    )
    rests (single layout mark index parts) (variant i vs) u b w same h = (same.0 ∙ h.0, h.1, rests_parts parts vs u b w same h.2)
    rests (tagged layout mark offset tag encoding tagged_variants) (variant i vs) u b w same h =
        let of_tag : ℕ → Bool = λ k. is_tagged encoding i && is_byte_at offset (size_of tag) k in
        let held : HoldTaggedVariant order tagged_variants i w vs = rests_tagged_variant tagged_variants i vs u.1 b w (right of_tag (is_tagged_variant_covered tagged_variants i vs) b w same) h.3 in
        let again : is_tagged encoding i ≡ true → tag_at order b offset (size_of tag) ≡ tag_at order w offset (size_of tag) =
        λ tag_distinguishes. same_tag offset (size_of tag) b w h.1
        (same.0, λ k e. (left of_tag (is_tagged_variant_covered tagged_variants i vs) b w same).1 k (and_true (is_tagged encoding i) (is_byte_at offset (size_of tag) k) tag_distinguishes e)) in
        (same.0 ∙ h.0, omega (arith, same.0, h.1), named_again offset tag encoding tagged_variants i vs b w u.0 again held h.2, held)
    rests (states layout prefix offset tag tagged_variants) (state i ps vs) u b w same h =
        let beside : ℕ → Bool = λ k. is_byte_at offset (size_of tag) k || is_tagged_variant_covered tagged_variants i vs k in
        let more = right (are_covered prefix ps) beside b w same in
        let again = same_tag offset (size_of tag) b w h.2 (left (is_byte_at offset (size_of tag)) (is_tagged_variant_covered tagged_variants i vs) b w more) in (
          same.0 ∙ h.0,
          rests_parts prefix ps u.0 b w (left (are_covered prefix ps) beside b w same) h.1,
          omega (arith, same.0, h.2),
          told_again Direct (size_of tag) tagged_variants _ _ i again h.3,
          rests_tagged_variant tagged_variants i vs u.1 b w (right (is_byte_at offset (size_of tag)) (is_tagged_variant_covered tagged_variants i vs) b w more) h.4,
        )
    rests _ _ u b w same h = absurd h

    rests_parts : (parts : Parts) (vs : Values) → UntaggedNamedOf order parts → RestsOn (are_covered parts vs) (λ b. HoldParts order parts b vs)
    rests_parts no_parts no_values u b w same h = tt
    rests_parts no_parts (more_values v vs) u b w same h = absurd h
    rests_parts (part offset placed parts) no_values u b w same h = absurd h
    rests_parts (part offset placed parts) (more_values v vs) u b w same h =
        let here : ℕ → Bool = λ k. is_byte_at offset (size_of placed) k && is_covered placed v (k - offset) in (
          rests_at offset (size_of placed) (is_covered placed v) (λ slice. Holds order placed slice v) (rests placed v u.0) b w (left here (are_covered parts vs) b w same) h.0,
          rests_parts parts vs u.1 b w (right here (are_covered parts vs) b w same) h.1,
        )

    rests_tagged_variant : (tagged_variants : TaggedVariants) (i : ℕ) (vs : Values) → UntaggedNamedOfTaggedVariants order tagged_variants → RestsOn (is_tagged_variant_covered tagged_variants i vs) (λ b. HoldTaggedVariant order tagged_variants i b vs)
    rests_tagged_variant nothing_tagged i vs u b w same h = absurd h
    rests_tagged_variant (tagged_variant code layout mark parts tagged_variants) zero vs u b w same h = rests_parts parts vs u.0 b w same h
    rests_tagged_variant (tagged_variant code layout mark parts tagged_variants) (suc i) vs u b w same h = rests_tagged_variant tagged_variants i vs u.1 b w same h

-- ---- one byte changed

module _ (laid : Laid) (of_tree : IsOfTree laid) (b : List ℕ) (place byte : ℕ) where
  keeps_here : KeepsValues of_tree.dl of_tree.tree laid
  keeps_here = of_tree.keeps.values of_tree.locals

  -- a value that doesn't cover the byte is held still
  pub varied : (v : Value) → Holds (endian_of laid) (placed_of laid) b v → is_covered (placed_of laid) v place ≡ false → Holds (endian_of laid) (placed_of laid) (set b place byte) v
  varied v h free =
      rests (endian_of laid) (placed_of laid) v (subst (λ o. UntaggedNamed o (placed_of laid)) (sym keeps_here.order) keeps_here.untagged) b (set b place byte)
      (length-set b place byte, λ k covered. get_or-set_other b place k byte 0 (λ (e : k ≡ place). true≢false (sym covered ∙ ap (λ i. is_covered (placed_of laid) v i) e ∙ free))) h

  -- and it is read
  pub varied_read : (read : Result (Option Kept) AllocError) → IfOk read (Finds (Holds (endian_of laid) (placed_of laid) (set b place byte))) →
      IfOk read (λ found. IfSome found (λ k. (dl : TargetDataLayout) (tree : Tree) → KeepsValues dl tree laid →
      (other : Value) → Holds (endian_of laid) (placed_of laid) (set b place byte) other → other ≡ value_of k)) →
      IfOk read (λ found. (v : Value) → Holds (endian_of laid) (placed_of laid) b v → is_covered (placed_of laid) v place ≡ false → IsValueFound found (Some v))
  varied_read (Ok None) finds one = λ v h free. absurd (finds v (varied v h free))
  varied_read (Ok (Some k)) finds one = λ v h free. ap Some (one of_tree.dl of_tree.tree keeps_here v (varied v h free))
  varied_read (Err e) finds one = tt
