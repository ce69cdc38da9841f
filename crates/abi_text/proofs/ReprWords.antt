-- The word of a repr has no spaces and no parentheses.
use Rattle.std.proofs.Common.{◌≡◌, ℕ, ◌+◌, ◌-◌, ◌*◌, ◌^◌, ◌<◌, Bool, true, false, List, [], ◌∷◌, ◌++◌, length, take, drop, Option, None, Some, refl, sym, subst, arith, inl, inr}
use Rattle.std.specs.Prelude.{◌==◌, ◌&&◌, ◌⊎◌, codes, is_some, option_map, if◌then◌else◌}
use Rattle.std.specs.Char.{is_ascii_digit}
use Rattle.std.specs.List.{list_all}
use Rattle.std.specs.Str.{bytes_eq}
use Rattle.std.proofs.lemmas.Bool.Decides.{nat_tests}
use Rattle.std.proofs.lemmas.List.{take-append-drop}
use Rattle.std.proofs.lemmas.Slice.Eq.{bytes_eq-Decides}
use Rattle.abi_base.specs.declared.integer.Integer.{Integer as AnInteger}
use Rattle.abi_scalar.specs.declared.repr.ReprOptions.{ReprOptions}
use Rattle.abi_text.specs.declared.reader.repr_text.ReprKind.TheVariants as kind
use Rattle.abi_text.specs.declared.reader.repr_text.ReprPart.TheVariants.{Packed, Align, Integer}
use Rattle.abi_text.specs.declared.reader.repr_text.StructRepr.{StructRepr}
use Rattle.abi_text.specs.Numbers.{digits_from, fitting, number_of_bits, number_to}
use Rattle.abi_text.specs.Repr.{alignment_after, alignment_of, are_repr_words, fixed, integer_type_named, is_single, longer, repr_part, repr_parts, struct_repr, union_repr, valued_part, without_tail}
use Rattle.abi_text.specs.ScalarWords.{first_of, integer_named}
use Rattle.abi_text.specs.Words.{is_plain}

abbrev pub IsPlain : List ℕ → Type 0
IsPlain w = list_all is_plain w ≡ true

pub both : (a b : Bool) → (a && b) ≡ true → (a ≡ true) × (b ≡ true)
both true b h = (refl, h)
both false b h = cc

plain_append : (a b : List ℕ) → IsPlain a → IsPlain b → IsPlain (a ++ b)
plain_append [] b one two = two
plain_append (c ∷ a) b one two =
    let p = both (is_plain c) (list_all is_plain a) one in
    rw p.0 (plain_append a b p.1 two)

pub digit_plain : (c : ℕ) → is_ascii_digit c ≡ true → is_plain c ≡ true
digit_plain c h = grind (arith, nat_tests)

some_first : {A : Type 0} → (a b : Option A) → is_some (first_of a b) ≡ true → (is_some a ≡ true) ⊎ (is_some b ≡ true)
some_first None b h = inr h
some_first (Some x) b h = inl refl

some_map : {A B : Type 0} → (f : A → B) (o : Option A) → is_some (option_map f o) ≡ true → is_some o ≡ true
some_map f None h = h
some_map f (Some x) h = refl

some_fixed : (o : Option (AnInteger × Bool)) → is_some (fixed o) ≡ true → is_some o ≡ true
some_fixed None h = h
some_fixed (Some x) h = refl

some_alignment : (o : Option ℕ) → is_some (alignment_of o) ≡ true → is_some o ≡ true
some_alignment None h = h
some_alignment (Some n) h = refl

some_fitting : (most : ℕ) (o : Option ℕ) → is_some (fitting most o) ≡ true → is_some o ≡ true
some_fitting most None h = h
some_fitting most (Some n) h = refl

digits_plain_at : (n d : ℕ) (ds : List ℕ) (b : Bool) → is_ascii_digit d ≡ b → (is_some (digits_from n ds) ≡ true → IsPlain ds)
    → is_some (if b then digits_from n ds else None) ≡ true → IsPlain (d ∷ ds)
digits_plain_at n d ds true e more h = rw (digit_plain d e) (more h)
digits_plain_at n d ds false e more h = cc

digits_plain : (n : ℕ) (ds : List ℕ) → is_some (digits_from n ds) ≡ true → IsPlain ds
digits_plain n [] h = refl
digits_plain n (d ∷ ds) h = digits_plain_at (n * 10 + (d - 48)) d ds (is_ascii_digit d) refl (digits_plain (n * 10 + (d - 48)) ds) h

number_plain : (most : ℕ) (w : List ℕ) → is_some (number_to most w) ≡ true → IsPlain w
number_plain most [] h = refl
number_plain most (d ∷ ds) h = digits_plain 0 (d ∷ ds) (some_fitting most (digits_from 0 (d ∷ ds)) h)

-- a test for one text, and then others
named_at : {A : Type 0} → (w name : List ℕ) (this other : Option A) (b : Bool) → bytes_eq w name ≡ b → IsPlain name → (is_some other ≡ true → IsPlain w)
    → is_some (if b then this else other) ≡ true → IsPlain w
named_at w name this other true e plain more h = subst IsPlain (sym ((bytes_eq-Decides w name).0 e)) plain
named_at w name this other false e plain more h = more h

named : {A : Type 0} → (w name : List ℕ) (this other : Option A) → IsPlain name → (is_some other ≡ true → IsPlain w) → is_some (if bytes_eq w name then this else other) ≡ true → IsPlain w
named w name this other plain more h = named_at w name this other (bytes_eq w name) refl plain more h

integer_plain : (w : List ℕ) → is_some (integer_named w) ≡ true → IsPlain w
integer_plain w =
    named w (codes "u8") _ _ refl (named w (codes "u16") _ _ refl (named w (codes "u32") _ _ refl (named w (codes "u64") _ _ refl (named w (codes "u128") _ _ refl
    (named w (codes "i8") _ _ refl (named w (codes "i16") _ _ refl (named w (codes "i32") _ _ refl (named w (codes "i64") _ _ refl (named w (codes "i128") _ None refl (λ h. cc))))))))))

integer_type_plain : (w : List ℕ) → is_some (integer_type_named w) ≡ true → IsPlain w
integer_type_plain w = named w (codes "usize") _ _ refl (named w (codes "isize") _ _ refl (λ h. integer_plain w (some_fixed (integer_named w) h)))

alignment_plain_at : (name w : List ℕ) (b : Bool) → bytes_eq (take (length name) w) name ≡ b → IsPlain name
    → is_some (if b then alignment_of (number_of_bits 64 (drop (length name) w)) else None) ≡ true → IsPlain w
alignment_plain_at name w true e plain h =
    let front : IsPlain (take (length name) w) = subst IsPlain (sym ((bytes_eq-Decides (take (length name) w) name).0 e)) plain in
    let back : IsPlain (drop (length name) w) = number_plain (2 ^ 64 - 1) (drop (length name) w) (some_alignment (number_of_bits 64 (drop (length name) w)) h) in
    subst IsPlain (take-append-drop (length name) w) (plain_append (take (length name) w) (drop (length name) w) front back)
alignment_plain_at name w false e plain h = cc

alignment_plain : (name w : List ℕ) → IsPlain name → is_some (alignment_after name w) ≡ true → IsPlain w
alignment_plain name w plain h = alignment_plain_at name w (bytes_eq (take (length name) w) name) refl plain h

valued_plain : (w : List ℕ) → is_some (valued_part w) ≡ true → IsPlain w
valued_plain w h =
    let packed = option_map (λ a. Packed a) (alignment_after (codes "packed=") w) in
    let aligned = option_map (λ a. Align a) (alignment_after (codes "align=") w) in
    elim (some_first (option_map (λ i. Integer i) (integer_type_named w)) (first_of packed aligned) h) [
      | inl one ↦ integer_type_plain w (some_map (λ i. Integer i) (integer_type_named w) one)
      | inr others ↦
          elim (some_first packed aligned others) [
            | inl two ↦ alignment_plain (codes "packed=") w refl (some_map (λ a. Packed a) (alignment_after (codes "packed=") w) two)
            | inr three ↦ alignment_plain (codes "align=") w refl (some_map (λ a. Align a) (alignment_after (codes "align=") w) three)
          ]
    ]

part_plain : (w : List ℕ) → is_some (repr_part w) ≡ true → IsPlain w
part_plain w =
    named w (codes "C") _ _ refl (named w (codes "transparent") _ _ refl (named w (codes "linear") _ _ refl (named w (codes "tail") _ _ refl (valued_plain w))))

parts_plain : (ps : List (List ℕ)) → list_all (λ p. is_some (repr_part p)) ps ≡ true → list_all (list_all is_plain) ps ≡ true
parts_plain [] h = refl
parts_plain (p ∷ ps) h =
    let known = both (is_some (repr_part p)) (list_all (λ p. is_some (repr_part p)) ps) h in
    rw (part_plain p known.0) (parts_plain ps known.1)

longer_plain : (b : ℕ) (ps : List (List ℕ)) → list_all (list_all is_plain) (longer b ps) ≡ true → (is_plain b ≡ true) × (list_all (list_all is_plain) ps ≡ true)
longer_plain b [] h = ((both (is_plain b) true (both (is_plain b && true) true h).0).0, refl)
longer_plain b (p ∷ ps) h =
    let whole = both (is_plain b && list_all is_plain p) (list_all (list_all is_plain) ps) h in
    let front = both (is_plain b) (list_all is_plain p) whole.0 in
    (front.0, rw front.1 whole.1)

joined_plain_at : (b : ℕ) (bs : List ℕ) (comma : Bool) → (b == 44) ≡ comma → (list_all (list_all is_plain) (repr_parts bs) ≡ true → IsPlain bs)
    → list_all (list_all is_plain) (if comma then [] ∷ repr_parts bs else longer b (repr_parts bs)) ≡ true → IsPlain (b ∷ bs)
joined_plain_at b bs true e more h =
    let here : is_plain b ≡ true = grind (arith, nat_tests) in
    rw here (more h)
joined_plain_at b bs false e more h =
    let p = longer_plain b (repr_parts bs) h in
    rw p.0 (more p.1)

joined_plain : (w : List ℕ) → list_all (list_all is_plain) (repr_parts w) ≡ true → IsPlain w
joined_plain [] h = refl
joined_plain (b ∷ bs) h = joined_plain_at b bs (b == 44) refl (joined_plain bs) h

first_test : (a b c d e f g h : Bool) → (a && b && c && d && e && f && g && h) ≡ true → a ≡ true
first_test true b c d e f g h all = refl
first_test false b c d e f g h all = all

-- the first of the tests of a repr
parts_known : (ps : List (List ℕ)) → are_repr_words ps ≡ true → list_all (λ p. is_some (repr_part p)) ps ≡ true
parts_known ps h =
    first_test (list_all (λ p. is_some (repr_part p)) ps) (is_single kind.C ps) (is_single kind.Transparent ps) (is_single kind.Linear ps)
    (is_single kind.Packed ps) (is_single kind.Align ps) (is_single kind.Integer ps) (is_single kind.Tail ps) h

repr_plain_at : (w : List ℕ) (b : Bool) → are_repr_words (repr_parts w) ≡ b → (asked : StructRepr) → is_some (if b then Some asked else None) ≡ true → IsPlain w
repr_plain_at w true e asked h = joined_plain w (parts_plain (repr_parts w) (parts_known (repr_parts w) e))
repr_plain_at w false e asked h = cc

repr_plain : (w : List ℕ) → is_some (struct_repr w) ≡ true → IsPlain w
repr_plain w = named w (codes "-") _ _ refl (repr_plain_at w (are_repr_words (repr_parts w)) refl _)

repr_some_bytes : (w : List ℕ) → is_some (struct_repr w) ≡ true → 0 < length w
repr_some_bytes [] h = cc
repr_some_bytes (b ∷ w) h = omega arith

-- the word of a struct's repr
pub struct_repr_plain : (w : List ℕ) (asked : StructRepr) → struct_repr w ≡ Some asked → (0 < length w) × IsPlain w
struct_repr_plain w asked e =
    let some : is_some (struct_repr w) ≡ true = rw e refl in
    (repr_some_bytes w some, repr_plain w some)

some_without_tail : (o : Option StructRepr) → is_some (without_tail o) ≡ true → is_some o ≡ true
some_without_tail None h = h
some_without_tail (Some asked) h = refl

-- the word of a union's repr
pub union_repr_plain : (w : List ℕ) (repr : ReprOptions) → union_repr w ≡ Some repr → (0 < length w) × IsPlain w
union_repr_plain w repr e =
    let some : is_some (union_repr w) ≡ true = rw e refl in
    let known = some_without_tail (struct_repr w) some in
    (repr_some_bytes w known, repr_plain w known)
