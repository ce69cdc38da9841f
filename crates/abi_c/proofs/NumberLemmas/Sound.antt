-- Numbers that begin with something are those of it, and the rest.
use Rattle.std.proofs.Common.{◌≡◌, ℕ, zero, suc, ◌+◌, ◌-◌, ◌*◌, ◌%◌, ◌^◌, ◌<◌, ◌++◌, Bool, true, false, List, [], ◌∷◌, length, Option, Some, None, refl, sym, ap, ◌∙◌, subst, cond, eqb, ltb, arith}
use Rattle.std.specs.Prelude.{slice_get, unwrap_or, Result, Ok, Err}
use Rattle.std.proofs.lemmas.Nat.{div-mul-add, mod-mul-add}
use Rattle.std.proofs.lemmas.Option.{option_and_then_some}
use Rattle.std.proofs.lemmas.Bool.{eqb-false, eqb-true, false≢true, ltb-true}
use Rattle.std.proofs.lemmas.List.{append_assoc}
use Rattle.abi_base.specs.Align.{align_of_bytes, factor_exponent, max_exponent}
use Rattle.abi_base.specs.declared.align.AlignFromBytesError.{AlignFromBytesError}
use Rattle.abi_base.specs.declared.primitive.Primitive.{Primitive}
use Rattle.abi_base.specs.declared.primitive.Primitive.TheVariants.{Int, Float, Pointer}
use Rattle.abi_base.specs.declared.scalable.ScalableElt.TheVariants.{ElementCount, Container}
use Rattle.abi_scalar.specs.declared.repr.ReprFlags.{ReprFlags}
use Rattle.abi_scalar.specs.declared.scalar.Scalar.{Scalar}
use Rattle.abi_scalar.specs.declared.scalar.Scalar.TheVariants.{Initialized, Union}
use Rattle.abi_tree.specs.Tree.{Tree, scalar, pair, never, unit, array, vector, struct, union, enum, coroutine, trees}
use Rattle.abi_c.specs.declared.numbers.kind.TypeKind.{TypeKind}
use Rattle.abi_c.specs.declared.numbers.kind.TypeKind.TheVariants as kind
use Rattle.abi_c.specs.Numbers.Kinds.{kind_numbered, kinds}
use Rattle.abi_c.specs.Numbers.Pieces.{Front, flat_bool, flat_wide, bool_numbered, bools, front_as, front_list, front_many, front_two, front_wide, front_word, front_words, halves}
use Rattle.abi_c.specs.Numbers.FlatScalar.{flat_primitive, flat_scalar, float_number, float_numbered, floats, front_primitive, front_range, front_scalar, integer_number, integer_numbered, integers_by_number, primitive_numbered}
use Rattle.abi_c.specs.Numbers.FlatRepr.{align_numbered, flags_numbered, flat_align, flat_int, flat_repr, flat_scalable, front_repr, int_numbered, int_types, scalable_numbered, some_align}
use Rattle.abi_c.specs.Numbers.FlatTree.{flat_each, flat_pairs, flat_tree, flat_trees, flat_variants, flat_words, count_of_trees, count_of_variants}
use Rattle.abi_c.specs.Numbers.FrontTree.{front_array, front_coroutine, front_enum, front_node, front_of_kind, front_ordered, front_struct, front_tree, front_union, front_variant, front_vector, variants_of_items}

-- what `Some` holds
pub same_some : {A : Type 0} (a b : A) → Some a ≡ Some b → a ≡ b
same_some {A} a b e = ap (λ (o : Option A). unwrap_or o a) e

-- numbers that begin with something are its own, and those behind it
abbrev pub Sound : {A : Type 0} → Front A → (A → List ℕ) → Type 0
Sound {A} front flat = (ns : List ℕ) (p : A × List ℕ) → front ns ≡ Some p → ns ≡ flat p.0 ++ p.1

-- numbers that mean something are its own
abbrev pub Means : {A : Type 0} → (ℕ → Option A) → (A → ℕ) → Type 0
Means {A} meaning number = (n : ℕ) (a : A) → meaning n ≡ Some a → n ≡ number a

-- the last step: what was read is the pair
pub last : {A : Type 0} (flat : A → List ℕ) (ns : List ℕ) (p q : A × List ℕ) → Some p ≡ Some q → ns ≡ flat p.0 ++ p.1 → ns ≡ flat q.0 ++ q.1
last flat ns p q e h = subst (λ r. ns ≡ flat r.0 ++ r.1) (same_some p q e) h

-- what a found thing is
pub found : {A : Type 0} (P : A → Type 0) (a b : A) → Some a ≡ Some b → P a → P b
found P a b e h = subst P (same_some a b e) h

-- two ways, by a test
pub either : {A : Type 0} (b : Bool) (x y : Option A) (a : A) (P : Type 0) → cond b x y ≡ Some a → (b ≡ true → x ≡ Some a → P) → (b ≡ false → y ≡ Some a → P) → P
either true x y a P e left right = left refl e
either false x y a P e left right = right refl e

pub nothing : {A : Type 0} (a : A) (P : Type 0) → None ≡ Some a → P
nothing a P e = absurd (subst (λ (o : Option _). elim o as (λ _. Type 0) [ None ↦ Unit {0} | Some b ↦ ⊥ ]) e tt)

pub word_sound : Sound front_word (λ n. n ∷ [])
word_sound [] p e = nothing p _ e
word_sound (n ∷ ns) p e = found (λ q. n ∷ ns ≡ q.0 ∷ q.1) (n, ns) p e refl

pub as_sound : {A : Type 0} (meaning : ℕ → Option A) (number : A → ℕ) → Means meaning number → Sound (front_as meaning) (λ a. number a ∷ [])
as_sound meaning number means ns p e =
    option_and_then_some _ (front_word ns) p e
    (λ n is then. option_and_then_some _ (meaning n.0) p then
    (λ a means_a done. last (λ b. number b ∷ []) ns (a, n.1) p done (word_sound ns n is ∙ ap (λ m. m ∷ n.1) (means n.0 a means_a))))

-- each item's number is its place in the list
abbrev AreNumbered : {A : Type 0} → (A → ℕ) → ℕ → List A → Type 0
AreNumbered number k [] = Unit {0}
AreNumbered number k (a ∷ all) = (k ≡ number a) × AreNumbered number (k + 1) all

pub table_means : {A : Type 0} (number : A → ℕ) (all : List A) (k n : ℕ) (a : A) → AreNumbered number k all → slice_get all n ≡ Some a → k + n ≡ number a
table_means number [] k n a h e = nothing a _ e
table_means number (b ∷ all) k zero a h e = omega (arith, found (λ c. k ≡ number c) b a e h.0)
table_means number (b ∷ all) k (suc n) a h e = omega (arith, table_means number all (k + 1) n a h.1 e)

bool_means : Means bool_numbered flat_bool
bool_means n a e = omega (arith, table_means flat_bool bools 0 n a (refl, (refl, tt)) e)

integer_means : Means integer_numbered integer_number
integer_means n a e = omega (arith, table_means integer_number integers_by_number 0 n a (refl, (refl, (refl, (refl, (refl, tt))))) e)

float_means : Means float_numbered float_number
float_means n a e = omega (arith, table_means float_number floats 0 n a (refl, (refl, (refl, (refl, (refl, (refl, tt)))))) e)

int_means : Means int_numbered flat_int
int_means n a e =
    omega (
      arith,
      table_means flat_int int_types 0 n a
          (refl, (refl, (refl, (refl, (refl, (refl, (refl, (refl, (refl, (refl, (refl, (refl, (refl, tt))))))))))))) e,
    )

-- the number of a kind
abbrev kind_number : TypeKind → ℕ
kind_number kind.Scalar = 0
kind_number kind.Pair = 1
kind_number kind.Never = 2
kind_number kind.Unit = 3
kind_number kind.Array = 4
kind_number kind.Vector = 5
kind_number kind.Struct = 6
kind_number kind.Ordered = 7
kind_number kind.Union = 8
kind_number kind.Enum = 9
kind_number kind.Coroutine = 10

kind_means : Means kind_numbered kind_number
kind_means n a e =
    omega (
      arith,
      table_means kind_number kinds 0 n a
          (refl, (refl, (refl, (refl, (refl, (refl, (refl, (refl, (refl, (refl, (refl, tt))))))))))) e,
    )

-- ---- numbers of 128 bits, and scalars

halves_sound : (low high n : ℕ) → halves low high ≡ Some n → low ∷ high ∷ [] ≡ flat_wide n
halves_sound low high n e =
    either (ltb low (2 ^ 64)) (Some (high * 2 ^ 64 + low)) None n (low ∷ high ∷ [] ≡ flat_wide n) e
    (λ less is.
    let lt : low < 2 ^ 64 = ltb-true low (2 ^ 64) less in
    found (λ m. low ∷ high ∷ [] ≡ flat_wide m) (high * 2 ^ 64 + low) n is
    (ap (λ l. l ∷ high ∷ []) (sym (mod-mul-add high (2 ^ 64) low lt)) ∙ ap (λ h. (high * 2 ^ 64 + low) % 2 ^ 64 ∷ h ∷ []) (sym (div-mul-add high (2 ^ 64) low lt))))
    (λ more is. nothing n _ is)

pub wide_sound : Sound front_wide flat_wide
wide_sound ns p e =
    option_and_then_some _ (front_word ns) p e
    (λ low low_is then. option_and_then_some _ (front_word low.1) p then
    (λ high high_is rest. option_and_then_some _ (halves low.0 high.0) p rest
    (λ n n_is done. last flat_wide ns (n, high.1) p done
    (word_sound ns low low_is ∙ ap (λ l. low.0 ∷ l) (word_sound low.1 high high_is) ∙ ap (λ l. l ++ high.1) (halves_sound low.0 high.0 n n_is)))))

-- three numbers that make a primitive are its own
three_sound : (kind which sign : ℕ) (p : Primitive) → primitive_numbered kind which sign ≡ Some p → kind ∷ which ∷ sign ∷ [] ≡ flat_primitive p
three_sound kind which sign p e =
    either (eqb kind 0) _ _ p _ e
    (λ is_zero is. option_and_then_some _ (integer_numbered which) p is
    (λ integer which_is rest. option_and_then_some _ (bool_numbered sign) p rest
    (λ signed sign_is done. found (λ q. kind ∷ which ∷ sign ∷ [] ≡ flat_primitive q) (Int integer signed) p done
    (ap (λ k. k ∷ which ∷ sign ∷ []) (eqb-true kind 0 is_zero) ∙ ap (λ w. 0 ∷ w ∷ sign ∷ []) (integer_means which integer which_is) ∙ ap (λ s. 0 ∷ integer_number integer ∷ s ∷ []) (bool_means sign signed sign_is)))))
    (λ isnt is. either (eqb sign 0) _ _ p _ is
    (λ is_zero is. either (eqb kind 1) _ _ p _ is
    (λ is_one is. option_and_then_some _ (float_numbered which) p is
    (λ float which_is done. found (λ q. kind ∷ which ∷ sign ∷ [] ≡ flat_primitive q) (Float float) p done
    (ap (λ k. k ∷ which ∷ sign ∷ []) (eqb-true kind 1 is_one) ∙ ap (λ s. 1 ∷ which ∷ s ∷ []) (eqb-true sign 0 is_zero) ∙ ap (λ w. 1 ∷ w ∷ 0 ∷ []) (float_means which float which_is))))
    (λ more is. either (eqb kind 2) _ _ p _ is
    (λ two is. either (ltb which (2 ^ 32)) _ _ p _ is
    (λ fits done. found (λ q. kind ∷ which ∷ sign ∷ [] ≡ flat_primitive q) (Pointer (record { 0 = which })) p done
    (ap (λ k. k ∷ which ∷ sign ∷ []) (eqb-true kind 2 two) ∙ ap (λ s. 2 ∷ which ∷ s ∷ []) (eqb-true sign 0 is_zero)))
    (λ large is. nothing p _ is))
    (λ other is. nothing p _ is)))
    (λ signed is. nothing p _ is))

primitive_sound : Sound front_primitive flat_primitive
primitive_sound ns p e =
    option_and_then_some _ (front_word ns) p e
    (λ a a_is then. option_and_then_some _ (front_word a.1) p then
    (λ b b_is rest. option_and_then_some _ (front_word b.1) p rest
    (λ c c_is more. option_and_then_some _ (primitive_numbered a.0 b.0 c.0) p more
    (λ v v_is done. last flat_primitive ns (v, c.1) p done
    (word_sound ns a a_is ∙ ap (λ l. a.0 ∷ l) (word_sound a.1 b b_is ∙ ap (λ l. b.0 ∷ l) (word_sound b.1 c c_is)) ∙ ap (λ l. l ++ c.1) (three_sound a.0 b.0 c.0 v v_is))))))

range_sound : (value : Primitive) (ns before : List ℕ) (p : Scalar × List ℕ) → front_range value ns ≡ Some p → before ≡ flat_primitive value ++ ns → 0 ∷ before ≡ flat_scalar p.0 ++ p.1
range_sound value ns before p e h =
    option_and_then_some _ (front_wide ns) p e
    (λ s s_is then. option_and_then_some _ (front_wide s.1) p then
    (λ t t_is done. last flat_scalar (0 ∷ before) (Initialized value (record { start = s.0; end = t.0 }), t.1) p done
    (ap (λ l. 0 ∷ l)
    (h ∙ ap (λ l. flat_primitive value ++ l) (wide_sound ns s s_is ∙ ap (λ l. flat_wide s.0 ++ l) (wide_sound s.1 t t_is))
    ∙ sym (ap (λ l. l ++ t.1) (append_assoc (flat_primitive value) (flat_wide s.0) (flat_wide t.0)) ∙ append_assoc (flat_primitive value) (flat_wide s.0 ++ flat_wide t.0) t.1)))))

pub scalar_sound : Sound front_scalar flat_scalar
scalar_sound ns p e =
    option_and_then_some _ (front_word ns) p e
    (λ form form_is then. option_and_then_some _ (front_primitive form.1) p then
    (λ v v_is rest. either (eqb form.0 0) _ _ p _ rest
    (λ is_zero is. word_sound ns form form_is ∙ ap (λ f. f ∷ form.1) (eqb-true form.0 0 is_zero) ∙ range_sound v.0 v.1 form.1 p is (primitive_sound form.1 v v_is))
    (λ more is. either (eqb form.0 1) _ _ p _ is
    (λ is_one done. last flat_scalar ns (Union v.0, v.1) p done
    (word_sound ns form form_is ∙ ap (λ f. f ∷ form.1) (eqb-true form.0 1 is_one) ∙ ap (λ l. 1 ∷ l) (primitive_sound form.1 v v_is)))
    (λ other is. nothing p _ is))))

-- ---- what a `repr` attribute asks for

some_align_sound : (n : ℕ) (r : Result ℕ AlignFromBytesError) (a : Option ℕ) → ((k : ℕ) → r ≡ Ok k → n ≡ 2 ^ k) → some_align r ≡ Some a → n ≡ flat_align a
some_align_sound n (Ok k) a h e = found (λ b. n ≡ flat_align b) (Some k) a e (h k refl)
some_align_sound n (Err error) a h e = nothing a _ e

-- two answers, by a test
which : {A : Type 0} (b : Bool) (x y a : A) (P : Type 0) → cond b x y ≡ a → (b ≡ true → x ≡ a → P) → (b ≡ false → y ≡ a → P) → P
which true x y a P e left right = left refl e
which false x y a P e left right = right refl e

ok-injective : (a b : ℕ) → Path (Result ℕ AlignFromBytesError) (Ok a) (Ok b) → a ≡ b
ok-injective a b e = ap (λ (r : Result ℕ AlignFromBytesError). elim r as (λ _. ℕ) [ Ok k ↦ k | Err x ↦ 0 ]) e

no_ok : (x : AlignFromBytesError) (k : ℕ) (P : Type 0) → Path (Result ℕ AlignFromBytesError) (Err x) (Ok k) → P
no_ok x k P e = absurd (subst (λ (r : Result ℕ AlignFromBytesError). elim r as (λ _. Type 0) [ Ok j ↦ ⊥ | Err y ↦ Unit {0} ]) e tt)

align_is_power : (n k : ℕ) → eqb n 0 ≡ false → align_of_bytes n ≡ Ok k → n ≡ 2 ^ k
align_is_power n k some e =
    which (eqb n 0) _ _ (Ok k) _ e
    (λ is_none is. absurd (false≢true (sym some ∙ is_none)))
    (λ _ is. which (eqb (2 ^ factor_exponent n) n) _ _ (Ok k) _ is
    (λ power is. which (ltb max_exponent (factor_exponent n)) _ _ (Ok k) _ is
    (λ large is. no_ok _ k _ is)
    (λ small is. sym (eqb-true (2 ^ factor_exponent n) n power) ∙ ap (λ (j : ℕ). 2 ^ j) (ok-injective (factor_exponent n) k is)))
    (λ other is. no_ok _ k _ is))

align_means : Means align_numbered flat_align
align_means n a e =
    either (eqb n 0) _ _ a _ e
    (λ is_zero is. found (λ b. n ≡ flat_align b) None a is (eqb-true n 0 is_zero))
    (λ some is. some_align_sound n (align_of_bytes n) a (λ k. align_is_power n k some) is)

flags_means : Means flags_numbered (λ f. f.0)
flags_means n a e =
    either (ltb n (2 ^ 8)) _ _ a _ e
    (λ fits is. found (λ (f : ReprFlags). n ≡ f.0) (record { 0 = n }) a is refl)
    (λ large is. nothing a _ is)

two_back : (n : ℕ) → (n ≡ 0 → ⊥) → (n ≡ 1 → ⊥) → n ≡ 2 + (n - 2)
two_back zero some more = absurd (some refl)
two_back (suc zero) some more = absurd (more refl)
two_back (suc (suc n)) some more = omega arith

scalable_means : Means scalable_numbered flat_scalable
scalable_means n a e =
    either (eqb n 0) _ _ a _ e
    (λ is_zero is. found (λ b. n ≡ flat_scalable b) None a is (eqb-true n 0 is_zero))
    (λ some is. either (eqb n 1) _ _ a _ is
    (λ is_one is. found (λ b. n ≡ flat_scalable b) (Some Container) a is (eqb-true n 1 is_one))
    (λ more is. either (ltb (n - 2) (2 ^ 16)) _ _ a _ is
    (λ fits is.
    let back : n ≡ 2 + (n - 2) = two_back n (eqb-false n 0 some) (eqb-false n 1 more) in
    found (λ b. n ≡ flat_scalable b) (Some (ElementCount (n - 2))) a is back)
    (λ large is. nothing a _ is)))

pub repr_sound : Sound front_repr flat_repr
repr_sound ns p e =
    option_and_then_some _ (front_as int_numbered ns) p e
    (λ a a_is e. option_and_then_some _ (front_as align_numbered a.1) p e
    (λ b b_is e. option_and_then_some _ (front_as align_numbered b.1) p e
    (λ c c_is e. option_and_then_some _ (front_as flags_numbered c.1) p e
    (λ d d_is e. option_and_then_some _ (front_as scalable_numbered d.1) p e
    (λ f f_is e. option_and_then_some _ (front_word f.1) p e
    (λ g g_is done. last flat_repr ns (record { int = a.0; align = b.0; pack = c.0; flags = d.0; scalable = f.0; field_shuffle_seed = g.0 }, g.1) p done
    (as_sound int_numbered flat_int int_means ns a a_is
    ∙ ap (λ l. flat_int a.0 ∷ l) (as_sound align_numbered flat_align align_means a.1 b b_is
    ∙ ap (λ l. flat_align b.0 ∷ l) (as_sound align_numbered flat_align align_means b.1 c c_is
    ∙ ap (λ l. flat_align c.0 ∷ l) (as_sound flags_numbered (λ x. x.0) flags_means c.1 d d_is
    ∙ ap (λ l. d.0.0 ∷ l) (as_sound scalable_numbered flat_scalable scalable_means d.1 f f_is
    ∙ ap (λ l. flat_scalable f.0 ∷ l) (word_sound f.1 g g_is))))))))))))

-- ---- lists

-- the numbers of each item, one after another
abbrev pub flat_items : {A : Type 0} → (A → List ℕ) → List A → List ℕ
flat_items flat [] = []
flat_items flat (a ∷ all) = flat a ++ flat_items flat all

-- so many items, and they are what the numbers begin with
pub record AreItems (A : Type 0) (flat : A → List ℕ) (count : ℕ) (ns : List ℕ) (p : List A × List ℕ) : Type 0 where
  pub counted : count ≡ length p.0
  pub items : ns ≡ flat_items flat p.0 ++ p.1

pub many_sound : {A : Type 0} (front : Front A) (flat : A → List ℕ) → Sound front flat → (count : ℕ) (ns : List ℕ) (p : List A × List ℕ) → front_many front count ns ≡ Some p → AreItems A flat count ns p
many_sound {A} front flat sound zero ns p e = found (λ q. AreItems A flat 0 ns q) ([], ns) p e (record { counted = refl; items = refl })
many_sound {A} front flat sound (suc count) ns p e =
    option_and_then_some _ (front ns) p e
    (λ a a_is then. option_and_then_some _ (front_many front count a.1) p then
    (λ more more_is done.
    let those : AreItems A flat count a.1 more = many_sound front flat sound count a.1 more more_is in
    found (λ q. AreItems A flat (suc count) ns q) (a.0 ∷ more.0, more.1) p done
    (record { counted = ap suc those.counted; items = sound ns a a_is ∙ ap (λ l. flat a.0 ++ l) those.items ∙ sym (append_assoc (flat a.0) (flat_items flat more.0) more.1) })))

-- the numbers of a list: how many, and then each
abbrev pub flat_list : {A : Type 0} → (A → List ℕ) → List A → List ℕ
flat_list flat all = length all ∷ flat_items flat all

pub list_sound : {A : Type 0} (front : Front A) (flat : A → List ℕ) → Sound front flat → Sound (front_list front) (flat_list flat)
list_sound front flat sound ns p e =
    option_and_then_some _ (front_word ns) p e
    (λ count count_is then.
    let those = many_sound front flat sound count.0 count.1 p then in
    word_sound ns count count_is ∙ ap (λ l. count.0 ∷ l) those.items ∙ ap (λ k. k ∷ (flat_items flat p.0 ++ p.1)) those.counted)

words_items : (ws : List ℕ) → flat_items (λ n. n ∷ []) ws ≡ ws
words_items [] = refl
words_items (w ∷ ws) = ap (λ l. w ∷ l) (words_items ws)

pub words_sound : Sound front_words flat_words
words_sound ns p e = list_sound front_word (λ n. n ∷ []) word_sound ns p e ∙ ap (λ l. length p.0 ∷ (l ++ p.1)) (words_items p.0)

pub two_sound : {A B : Type 0} (first : Front A) (second : Front B) (f : A → List ℕ) (g : B → List ℕ) → Sound first f → Sound second g → Sound (front_two first second) (λ p. f p.0 ++ g p.1)
two_sound first second f g hf hg ns p e =
    option_and_then_some _ (first ns) p e
    (λ a a_is then. option_and_then_some _ (second a.1) p then
    (λ b b_is done. last (λ q. f q.0 ++ g q.1) ns ((a.0, b.0), b.1) p done
    (hf ns a a_is ∙ ap (λ l. f a.0 ++ l) (hg a.1 b b_is) ∙ sym (append_assoc (f a.0) (g b.0) b.1))))

each_items : (ss : List (List ℕ)) → flat_items flat_words ss ≡ flat_each ss
each_items [] = refl
each_items (s ∷ ss) = ap (λ l. flat_words s ++ l) (each_items ss)

pairs_items : (ps : List (ℕ × ℕ)) → flat_items (λ p. (p.0 ∷ []) ++ (p.1 ∷ [])) ps ≡ flat_pairs ps
pairs_items [] = refl
pairs_items (p ∷ ps) = ap (λ l. p.0 ∷ p.1 ∷ l) (pairs_items ps)

-- ---- types

counted_trees : (ts : List Tree) → length ts ≡ count_of_trees (trees ts)
counted_trees [] = refl
counted_trees (t ∷ ts) = ap suc (counted_trees ts)

trees_items : (ts : List Tree) → flat_items flat_tree ts ≡ flat_trees (trees ts)
trees_items [] = refl
trees_items (t ∷ ts) = ap (λ l. flat_tree t ++ l) (trees_items ts)

-- a list of types, as its numbers are
abbrev flat_types : List Tree → List ℕ
flat_types ts = count_of_trees (trees ts) ∷ flat_trees (trees ts)

types_items : (ts : List Tree) → flat_list flat_tree ts ≡ flat_types ts
types_items ts = ap (λ k. k ∷ flat_items flat_tree ts) (counted_trees ts) ∙ ap (λ l. count_of_trees (trees ts) ∷ l) (trees_items ts)

-- a variant
abbrev flat_variant : ℕ × List Tree → List ℕ
flat_variant v = flat_wide v.0 ++ flat_types v.1

counted_variants : (vs : List (ℕ × List Tree)) → length vs ≡ count_of_variants (variants_of_items vs)
counted_variants [] = refl
counted_variants (v ∷ vs) = ap suc (counted_variants vs)

variants_items : (vs : List (ℕ × List Tree)) → flat_items flat_variant vs ≡ flat_variants (variants_of_items vs)
variants_items [] = refl
variants_items (v ∷ vs) = ap (λ l. flat_variant v ++ l) (variants_items vs)

module _ (inner : Front Tree) (sound : Sound inner flat_tree) where
  types_sound : Sound (front_list inner) flat_types
  types_sound ns p e = list_sound inner flat_tree sound ns p e ∙ ap (λ l. l ++ p.1) (types_items p.0)

  variant_sound : Sound (front_variant inner) flat_variant
  variant_sound = two_sound front_wide (front_list inner) flat_wide flat_types wide_sound types_sound

  array_sound : (ns : List ℕ) (p : Tree × List ℕ) → front_array inner ns ≡ Some p → 4 ∷ ns ≡ flat_tree p.0 ++ p.1
  array_sound ns p e =
      option_and_then_some _ (front_word ns) p e
      (λ a a_is then. option_and_then_some _ (inner a.1) p then
      (λ t t_is done. last flat_tree (4 ∷ ns) (array a.0 t.0, t.1) p done
      (ap (λ l. 4 ∷ l) (word_sound ns a a_is ∙ ap (λ l. a.0 ∷ l) (sound a.1 t t_is)))))

  vector_sound : (ns : List ℕ) (p : Tree × List ℕ) → front_vector inner ns ≡ Some p → 5 ∷ ns ≡ flat_tree p.0 ++ p.1
  vector_sound ns p e =
      option_and_then_some _ (front_word ns) p e
      (λ a a_is then. option_and_then_some _ (front_as bool_numbered a.1) p then
      (λ b b_is rest. option_and_then_some _ (inner b.1) p rest
      (λ t t_is done. last flat_tree (5 ∷ ns) (vector a.0 b.0 t.0, t.1) p done
      (ap (λ l. 5 ∷ l)
      (word_sound ns a a_is ∙ ap (λ l. a.0 ∷ l) (as_sound bool_numbered flat_bool bool_means a.1 b b_is ∙ ap (λ l. flat_bool b.0 ∷ l) (sound b.1 t t_is)))))))

  struct_sound : (ns : List ℕ) (p : Tree × List ℕ) → front_struct inner ns ≡ Some p → 6 ∷ ns ≡ flat_tree p.0 ++ p.1
  struct_sound ns p e =
      option_and_then_some _ (front_repr ns) p e
      (λ r r_is then. option_and_then_some _ (front_as bool_numbered r.1) p then
      (λ b b_is rest. option_and_then_some _ (front_list inner b.1) p rest
      (λ ts ts_is done. last flat_tree (6 ∷ ns) (struct r.0 b.0 None (trees ts.0), ts.1) p done
      (ap (λ l. 6 ∷ l)
      (repr_sound ns r r_is ∙ ap (λ l. flat_repr r.0 ++ l) (as_sound bool_numbered flat_bool bool_means r.1 b b_is ∙ ap (λ l. flat_bool b.0 ∷ l) (types_sound b.1 ts ts_is)))))))

  ordered_sound : (ns : List ℕ) (p : Tree × List ℕ) → front_ordered inner ns ≡ Some p → 7 ∷ ns ≡ flat_tree p.0 ++ p.1
  ordered_sound ns p e =
      option_and_then_some _ (front_repr ns) p e
      (λ r r_is then. option_and_then_some _ (front_as bool_numbered r.1) p then
      (λ b b_is rest. option_and_then_some _ (front_words b.1) p rest
      (λ o o_is more. option_and_then_some _ (front_list inner o.1) p more
      (λ ts ts_is done. last flat_tree (7 ∷ ns) (struct r.0 b.0 (Some o.0) (trees ts.0), ts.1) p done
      (ap (λ l. 7 ∷ l)
      (repr_sound ns r r_is
      ∙ ap (λ l. flat_repr r.0 ++ l) (as_sound bool_numbered flat_bool bool_means r.1 b b_is
      ∙ ap (λ l. flat_bool b.0 ∷ l) (words_sound b.1 o o_is
      ∙ ap (λ l. length o.0 ∷ l) (ap (λ l. o.0 ++ l) (types_sound o.1 ts ts_is) ∙ sym (append_assoc o.0 (flat_types ts.0) ts.1))))))))))

  union_sound : (ns : List ℕ) (p : Tree × List ℕ) → front_union inner ns ≡ Some p → 8 ∷ ns ≡ flat_tree p.0 ++ p.1
  union_sound ns p e =
      option_and_then_some _ (front_repr ns) p e
      (λ r r_is then. option_and_then_some _ (front_list inner r.1) p then
      (λ ts ts_is done. last flat_tree (8 ∷ ns) (union r.0 (trees ts.0), ts.1) p done
      (ap (λ l. 8 ∷ l) (repr_sound ns r r_is ∙ ap (λ l. flat_repr r.0 ++ l) (types_sound r.1 ts ts_is)))))

  enum_sound : (ns : List ℕ) (p : Tree × List ℕ) → front_enum inner ns ≡ Some p → 9 ∷ ns ≡ flat_tree p.0 ++ p.1
  enum_sound ns p e =
      option_and_then_some _ (front_repr ns) p e
      (λ r r_is then. option_and_then_some _ (front_list (front_variant inner) r.1) p then
      (λ vs vs_is done. last flat_tree (9 ∷ ns) (enum r.0 (variants_of_items vs.0), vs.1) p done
      (ap (λ l. 9 ∷ l)
      (repr_sound ns r r_is
      ∙ ap (λ l. flat_repr r.0 ++ l) (list_sound (front_variant inner) flat_variant variant_sound r.1 vs vs_is
      ∙ ap (λ k. k ∷ (flat_items flat_variant vs.0 ++ vs.1)) (counted_variants vs.0)
      ∙ ap (λ l. count_of_variants (variants_of_items vs.0) ∷ (l ++ vs.1)) (variants_items vs.0))))))

  coroutine_sound : (ns : List ℕ) (p : Tree × List ℕ) → front_coroutine inner ns ≡ Some p → 10 ∷ ns ≡ flat_tree p.0 ++ p.1
  coroutine_sound ns p e =
      option_and_then_some _ (front_list inner ns) p e
      (λ a a_is then. option_and_then_some _ (front_list inner a.1) p then
      (λ b b_is rest. option_and_then_some _ (front_list front_words b.1) p rest
      (λ s s_is more. option_and_then_some _ (front_list (front_two front_word front_word) s.1) p more
      (λ c c_is done. last flat_tree (10 ∷ ns) (coroutine (trees a.0) (trees b.0) s.0 c.0, c.1) p done
      (ap (λ l. 10 ∷ l)
      (types_sound ns a a_is
      ∙ ap (λ l. flat_types a.0 ++ l) (types_sound a.1 b b_is
      ∙ ap (λ l. flat_types b.0 ++ l) (list_sound front_words flat_words words_sound b.1 s s_is ∙ ap (λ l. length s.0 ∷ (l ++ s.1)) (each_items s.0)
      ∙ ap (λ l. length s.0 ∷ (flat_each s.0 ++ l)) (list_sound (front_two front_word front_word) (λ q. (q.0 ∷ []) ++ (q.1 ∷ [])) (two_sound front_word front_word (λ n. n ∷ []) (λ n. n ∷ []) word_sound word_sound) s.1 c c_is ∙ ap (λ l. length c.0 ∷ (l ++ c.1)) (pairs_items c.0))))
      ∙ sym
      (
      append_assoc (flat_types a.0 ++ flat_types b.0 ++ length s.0 ∷ flat_each s.0) (length c.0 ∷ flat_pairs c.0) c.1
      ∙ append_assoc (flat_types a.0 ++ flat_types b.0) (length s.0 ∷ flat_each s.0) (length c.0 ∷ (flat_pairs c.0 ++ c.1))
      ∙ append_assoc (flat_types a.0) (flat_types b.0) (length s.0 ∷ (flat_each s.0 ++ length c.0 ∷ (flat_pairs c.0 ++ c.1)))
      )))))))

  kind_sound : (k : TypeKind) (ns : List ℕ) (p : Tree × List ℕ) → front_of_kind inner k ns ≡ Some p → kind_number k ∷ ns ≡ flat_tree p.0 ++ p.1
  kind_sound kind.Scalar ns p e =
      option_and_then_some _ (front_scalar ns) p e
      (λ s s_is done. last flat_tree (0 ∷ ns) (scalar s.0, s.1) p done (ap (λ l. 0 ∷ l) (scalar_sound ns s s_is)))
  kind_sound kind.Pair ns p e =
      option_and_then_some _ (front_two front_scalar front_scalar ns) p e
      (λ s s_is done. last flat_tree (1 ∷ ns) (pair s.0.0 s.0.1, s.1) p done
      (ap (λ l. 1 ∷ l) (two_sound front_scalar front_scalar flat_scalar flat_scalar scalar_sound scalar_sound ns s s_is)))
  kind_sound kind.Never ns p e = last flat_tree (2 ∷ ns) (never, ns) p e refl
  kind_sound kind.Unit ns p e = last flat_tree (3 ∷ ns) (unit, ns) p e refl
  kind_sound kind.Array ns p e = array_sound ns p e
  kind_sound kind.Vector ns p e = vector_sound ns p e
  kind_sound kind.Struct ns p e = struct_sound ns p e
  kind_sound kind.Ordered ns p e = ordered_sound ns p e
  kind_sound kind.Union ns p e = union_sound ns p e
  kind_sound kind.Enum ns p e = enum_sound ns p e
  kind_sound kind.Coroutine ns p e = coroutine_sound ns p e

  node_sound : Sound (front_node inner) flat_tree
  node_sound ns p e =
      option_and_then_some _ (front_as kind_numbered ns) p e
      (λ k k_is then. as_sound kind_numbered kind_number kind_means ns k k_is ∙ kind_sound k.0 k.1 p then)

pub tree_sound : (n : ℕ) → Sound (front_tree n) flat_tree
tree_sound zero ns p e = nothing p _ e
tree_sound (suc n) ns p e = node_sound (front_tree n) (tree_sound n) ns p e
