-- One setting more.
use Rattle.std.proofs.Common.{◌≡◌, ◌≢◌, ℕ, ◌<◌, ◌≤◌, List, [], ◌∷◌, Bool, true, false, Option, Some, None, Result, Ok, Err, OnOk, refl, sym, subst, ap, ◌∙◌, arith, inl, inr, ◌⊎◌, ◌&&◌}
use Rattle.std.specs.Prelude.{◌==◌, max, nat_le, unwrap_or, if◌then◌else◌}
use Rattle.std.proofs.lemmas.Bool.Decides.{nat_tests}
use Rattle.abi_base.specs.declared.address_space.AddressSpace.{AddressSpace}
use Rattle.abi_base.specs.declared.pointer_spec.PointerSpec.{PointerSpec}
use Rattle.abi_base.specs.declared.setting.Setting.{Setting}
use Rattle.abi_base.specs.declared.setting.Setting.TheVariants.{Order, Instructions, Aligned, Pointer, Integer, Vector, Nothing}
use Rattle.abi_base.specs.declared.data_layout.TargetDataLayout.{TargetDataLayout}
use Rattle.abi_base.specs.DataLayout.{same_space}
use Rattle.abi_base.specs.DataLayoutText.{integer_set, last_said, pointers_set, put_space, put_vector, spaces_after, wide_bits, wider, widest, with_settings}
use Rattle.abi_base.specs.Setting.{IsWidthOfLong, with_integer}

pub wider_least : (o : Option ℕ) (n : ℕ) → n ≤ wider o n
wider_least None n = omega arith
wider_least (Some w) n = omega arith

-- the greatest width is no less than the least one
least_widest : (least : ℕ) (ss : List Setting) → least ≤ widest least ss
least_widest least [] = omega arith
least_widest least (s ∷ ss) = omega (arith, least_widest least ss, wider_least (wide_bits s) (widest least ss))

wide_at : (width n : ℕ) (a b : Bool) → nat_le 64 width ≡ a → nat_le width 128 ≡ b → n ≤ 128 → wider (if a && b then Some width else None) n ≤ 128
wide_at width n true true p q h = let low : width ≤ 128 = grind (arith, nat_tests) in omega (arith, low, h)
wide_at width n true false p q h = h
wide_at width n false b p q h = h

wide_most : (s : Setting) (n : ℕ) → n ≤ 128 → wider (wide_bits s) n ≤ 128
wide_most (Order e) n h = h
wide_most (Instructions a) n h = h
wide_most (Aligned w a) n h = h
wide_most (Pointer a p) n h = h
wide_most (Vector a p) n h = h
wide_most Nothing n h = h
wide_most (Integer width align) n h = wide_at width n (nat_le 64 width) (nat_le width 128) refl refl h

-- nor above 128
widest_most : (least : ℕ) (ss : List Setting) → least ≤ 128 → widest least ss ≤ 128
widest_most least [] h = h
widest_most least (s ∷ ss) h = wide_most s (widest least ss) (widest_most least ss h)

wider_above : (o : Option ℕ) (high m n : ℕ) → max high m ≡ n → max high (wider o m) ≡ wider o n
wider_above None high m n e = e
wider_above (Some w) high m n e = omega (arith, e)

-- a greater least width
widest_above : (low high : ℕ) (ss : List Setting) → low ≤ high → max high (widest low ss) ≡ widest high ss
widest_above low high [] h = omega (arith, h)
widest_above low high (s ∷ ss) h = wider_above (wide_bits s) high (widest low ss) (widest high ss) (widest_above low high ss h)

max_at : (a b : ℕ) (t : Bool) → nat_le b a ≡ t → (max a b ≡ a) ⊎ (max a b ≡ b)
max_at a b true e = let low : b ≤ a = grind (arith, nat_tests) in inl (omega (arith, low))
max_at a b false e = let high : a ≤ b = grind (arith, nat_tests) in inr (omega (arith, high))

pub wider_is : (o : Option ℕ) (n most : ℕ) → wider o n ≡ most → (o ≡ Some most) ⊎ (n ≡ most)
wider_is None n most e = inr e
wider_is (Some w) n most e = elim (max_at w n (nat_le n w) refl) [ inl h ↦ inl (ap Some (sym h ∙ e)) | inr h ↦ inr (sym h ∙ e) ]

here_at : (width most align : ℕ) (a b : ℕ) (t : Bool) → (width == most) ≡ t → width ≡ most → unwrap_or (integer_set most (Integer width align)) a ≡ unwrap_or (integer_set most (Integer width align)) b
here_at width most align a b true e h = rw e refl
here_at width most align a b false e h = absurd (grind (arith, nat_tests))

wide_cases : (width most : ℕ) (a b : Bool) → (if a && b then Some width else None) ≡ Some most → width ≡ most
wide_cases width most true true e = (cc)
wide_cases width most true false e = (cc)
wide_cases width most false b e = (cc)

-- a setting of the width
set_here : (most : ℕ) (s : Setting) → wide_bits s ≡ Some most → (a b : ℕ) → unwrap_or (integer_set most s) a ≡ unwrap_or (integer_set most s) b
set_here most (Order o) e a b = (cc)
set_here most (Instructions x) e a b = (cc)
set_here most (Aligned w x) e a b = (cc)
set_here most (Pointer x p) e a b = (cc)
set_here most (Vector x p) e a b = (cc)
set_here most Nothing e a b = (cc)
set_here most (Integer width align) e a b = here_at width most align a b (width == most) refl (wide_cases width most (nat_le 64 width) (nat_le width 128) e)

-- an alignment of the greatest width is found where that is not the least one
found : (least most : ℕ) (ss : List Setting) → widest least ss ≡ most → most ≢ least → (a b : ℕ) → last_said (integer_set most) ss a ≡ last_said (integer_set most) ss b
found least most [] e ne a b = absurd (ne (sym e))
found least most (s ∷ ss) e ne a b = elim (wider_is (wide_bits s) (widest least ss) most e) [
  | inl here ↦ ap (last_said (integer_set most) ss) (set_here most s here a b)
  | inr later ↦ found least most ss later ne (unwrap_or (integer_set most s) a) (unwrap_or (integer_set most s) b)
]

taken_at : (most bits align a : ℕ) (ss : List Setting) (t : Bool) → (bits == most) ≡ t → widest bits ss ≡ most
    → last_said (integer_set most) ss align ≡ last_said (integer_set most) ss (unwrap_or (integer_set most (Integer bits align)) a)
taken_at most bits align a ss true e w = rw e refl
taken_at most bits align a ss false e w =
    let ne : most ≢ bits = grind (arith, nat_tests) in
    found bits most ss w ne align (unwrap_or (integer_set most (Integer bits align)) a)

wide_is : (bits n : ℕ) → 64 ≤ bits → bits ≤ 128 → wider (if nat_le 64 bits && nat_le bits 128 then Some bits else None) n ≡ max bits n
wide_is bits n low high =
    let p : nat_le 64 bits ≡ true = grind (arith, nat_tests) in
    let q : nat_le bits 128 ≡ true = grind (arith, nat_tests) in
    rw (p, q) refl

low_at : (bits least n : ℕ) (a b : Bool) → nat_le 64 bits ≡ a → nat_le bits 128 ≡ b → (bits < least) ⊎ (128 < bits) → least ≤ n → wider (if a && b then Some bits else None) n ≡ n
low_at bits least n true true p q (inl h) low = omega (arith, h, low)
low_at bits least n true true p q (inr h) low = absurd (grind (arith, nat_tests))
low_at bits least n true false p q h low = refl
low_at bits least n false b p q h low = refl

other_at : (bits most least : ℕ) → (bits < least) ⊎ (128 < bits) → least ≤ most → most ≤ 128 → (bits == most) ≡ false
other_at bits most least (inl h) low high = let ne : bits ≢ most = omega (arith, h, low) in grind (arith, nat_tests)
other_at bits most least (inr h) low high = let ne : bits ≢ most = omega (arith, h, high) in grind (arith, nat_tests)

left_at : (most other bits align a : ℕ) (ss : List Setting) → other ≡ most → (bits == most) ≡ false → last_said (integer_set most) ss a ≡ last_said (integer_set other) ss (unwrap_or (integer_set other (Integer bits align)) a)
left_at most other bits align a ss same e = rw (same, e) refl

module _ (dl : TargetDataLayout) (least bits align : ℕ) (wide : IsWidthOfLong least) (ss : List Setting) where
  -- the alignment of 128 bits is this one's or that of a later one
  pub integer_taken : least ≤ bits → bits ≤ 128 → with_settings (record (with_integer dl bits align) { i128_align = align }) bits ss ≡ with_settings dl least (Integer bits align ∷ ss)
  integer_taken low high =
      let same : widest bits ss ≡ widest least (Integer bits align ∷ ss) = sym (widest_above least bits ss low) ∙ sym (wide_is bits (widest least ss) (omega (arith, wide.0, low)) high) in
      ap (λ (a : ℕ). record (with_settings dl least (Integer bits align ∷ ss)) { i128_align = a })
      (ap (λ m. last_said (integer_set m) ss align) same ∙ taken_at (widest least (Integer bits align ∷ ss)) bits align dl.i128_align ss (bits == widest least (Integer bits align ∷ ss)) refl same)

  -- or stays with the later ones, or with what it was
  pub integer_left : (bits < least) ⊎ (128 < bits) → with_settings (with_integer dl bits align) least ss ≡ with_settings dl least (Integer bits align ∷ ss)
  integer_left outside =
      let same : wider (if nat_le 64 bits && nat_le bits 128 then Some bits else None) (widest least ss) ≡ widest least ss = low_at bits least (widest least ss) (nat_le 64 bits) (nat_le bits 128) refl refl outside (least_widest least ss) in
      ap (λ (a : ℕ). record (with_settings dl least (Integer bits align ∷ ss)) { i128_align = a })
      (left_at (widest least ss) (widest least (Integer bits align ∷ ss)) bits align dl.i128_align ss same (other_at bits (widest least ss) least outside (least_widest least ss) (widest_most least ss wide.1)))

pub then_ok : {A E : Type 0} (r : Result A E) (P Q : Type 0) → (P → Q) → OnOk r P → OnOk r Q
then_ok (Ok x) P Q k h = k h
then_ok (Err e) P Q k h = tt

module _ (dl : TargetDataLayout) (least : ℕ) where
  -- what follows from the setting that it is
  pub named : (made : TargetDataLayout) (width : ℕ) (s t : Setting) → s ≡ t → ((ss : List Setting) → with_settings made width ss ≡ with_settings dl least (t ∷ ss)) → (ss : List Setting) → with_settings made width ss ≡ with_settings dl least (s ∷ ss)
  named made width s t is h = subst (λ (u : Setting). (ss : List Setting) → with_settings made width ss ≡ with_settings dl least (u ∷ ss)) (sym is) h

  pub named_ok : {A E : Type 0} (r : Result A E) (made : TargetDataLayout) (width : ℕ) (s t : Setting) → s ≡ t → OnOk r ((ss : List Setting) → with_settings made width ss ≡ with_settings dl least (t ∷ ss)) → OnOk r ((ss : List Setting) → with_settings made width ss ≡ with_settings dl least (s ∷ ss))
  named_ok r made width s t is h = subst (λ (u : Setting). OnOk r ((ss : List Setting) → with_settings made width ss ≡ with_settings dl least (u ∷ ss))) (sym is) h

  -- a vector's alignment
  pub vector_put : (size align : ℕ) (entries : List (ℕ × ℕ)) → entries ≡ put_vector size align dl.vector_align → (ss : List Setting) → with_settings (record dl { vector_align = entries }) least ss ≡ with_settings dl least (Vector size align ∷ ss)
  vector_put size align entries is ss = ap (λ (es : List (ℕ × ℕ)). with_settings (record dl { vector_align = es }) least ss) is

  pointers_at : (space : AddressSpace) (spec : PointerSpec) (ss : List Setting) → Bool → TargetDataLayout
  pointers_at space spec ss t = record (with_settings dl least (Pointer space spec ∷ ss)) {
    default_address_space_pointer_spec = last_said (pointers_set dl.default_address_space) ss (unwrap_or (if t then Some spec else None) dl.default_address_space_pointer_spec);
    address_space_info = spaces_after dl.default_address_space (if t then dl.address_space_info else put_space space spec dl.address_space_info) ss;
  }

  -- the default space's pointers
  pub default_put : (space : AddressSpace) (spec : PointerSpec) → same_space space dl.default_address_space ≡ true → (ss : List Setting) → with_settings (record dl { default_address_space_pointer_spec = spec }) least ss ≡ with_settings dl least (Pointer space spec ∷ ss)
  unfolding pointers_at
  default_put space spec same ss = ap (pointers_at space spec ss) (sym same)

  -- another space's
  pub space_put : (space : AddressSpace) (spec : PointerSpec) (entries : List (AddressSpace × PointerSpec)) → same_space space dl.default_address_space ≡ false → entries ≡ put_space space spec dl.address_space_info
      → (ss : List Setting) → with_settings (record dl { address_space_info = entries }) least ss ≡ with_settings dl least (Pointer space spec ∷ ss)
  unfolding pointers_at
  space_put space spec entries other is ss = ap (λ (es : List (AddressSpace × PointerSpec)). with_settings (record dl { address_space_info = es }) least ss) is ∙ ap (pointers_at space spec ss) (sym other)
