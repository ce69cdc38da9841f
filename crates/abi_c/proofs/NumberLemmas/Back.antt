-- What was written at the front is what numbers begin with.
use Rattle.std.proofs.Common.{◌≡◌, ℕ, zero, suc, ◌+◌, ◌-◌, ◌*◌, ◌/◌, ◌%◌, ◌^◌, ◌<◌, ◌≤◌, ◌++◌, Bool, true, false, List, [], ◌∷◌, length, Option, Some, None, refl, ap, ◌∙◌, cond, eqb, ltb, arith}
use Rattle.std.specs.Prelude.{Ok, Err}
use Rattle.std.proofs.Math.Pow.{pow-lt}
use Rattle.std.proofs.lemmas.Nat.{pow_pos}
use Rattle.abi_base.proofs.Powers.{exponent_is}
use Rattle.abi_base.specs.declared.align.AlignFromBytesError.TheVariants.{NotPowerOfTwo, TooLarge}
use Rattle.std.proofs.Math.Nat.{mod-lt, div-add-mod}
use Rattle.std.proofs.lemmas.Bool.{cond-false, cond-true, eq-eqb, eqb-true, false_from_ne_true, le-ltb, lt-ltb}
use Rattle.std.proofs.lemmas.List.{append_assoc}
use Rattle.abi_base.specs.Align.{align_of_bytes, factor_exponent, max_exponent}
use Rattle.abi_base.specs.declared.primitive.Primitive.{Primitive}
use Rattle.abi_base.specs.declared.primitive.Primitive.TheVariants.{Int, Float, Pointer}
use Rattle.abi_base.specs.declared.integer.Integer.TheVariants.{I8, I16, I32, I64, I128}
use Rattle.abi_base.specs.declared.integer.IntegerType.{IntegerType}
use Rattle.abi_base.specs.declared.integer.IntegerType.TheVariants as type
use Rattle.abi_base.specs.declared.float.Float.TheVariants.{F16, F32, F64, F128, F16B, PpcF128}
use Rattle.abi_base.specs.declared.scalable.ScalableElt.{ScalableElt}
use Rattle.abi_base.specs.declared.scalable.ScalableElt.TheVariants.{ElementCount, Container}
use Rattle.abi_scalar.specs.declared.repr.ReprFlags.{ReprFlags}
use Rattle.abi_scalar.specs.declared.repr.ReprOptions.{ReprOptions}
use Rattle.abi_scalar.specs.declared.scalar.Scalar.{Scalar}
use Rattle.abi_scalar.specs.declared.scalar.Scalar.TheVariants.{Initialized, Union}
use Rattle.abi_tree.specs.Tree.{Tree, scalar, pair, never, unit, array, vector, struct, union, enum, coroutine, trees, Trees, no_trees, more_trees, Variants, no_variants, more_variants}
use Rattle.abi_c.specs.Numbers.Pieces.{◌>>=◌, Front, flat_bool, flat_wide, bool_numbered, front_as, front_list, front_many, front_two, front_wide, front_word, front_words, halves}
use Rattle.abi_c.specs.Numbers.FlatScalar.{IsPrimitive, IsScalar, flat_primitive, flat_scalar, front_primitive, front_range, front_scalar}
use Rattle.abi_c.specs.Numbers.FlatTree.{AreReadable, AreReadableVariants, IsReadable, flat_each, flat_pairs, flat_tree, flat_trees, flat_variants, count_of_trees, count_of_variants}
use Rattle.abi_c.specs.Numbers.FrontTree.{front_node, front_tree, front_variant, variants_of_items}
use Rattle.abi_c.specs.Numbers.FlatRepr.{IsAlign, IsRepr, IsScalable, align_numbered, flags_numbered, flat_align, flat_int, flat_repr, flat_scalable, front_repr, int_numbered, scalable_numbered, some_align}

pub bool_back : (b : Bool) → bool_numbered (flat_bool b) ≡ Some b
bool_back false = refl
bool_back true = refl

halves_back : (n : ℕ) → halves (n % 2 ^ 64) (n / 2 ^ 64) ≡ Some n
halves_back n =
    let least : 0 < 2 ^ 64 = omega arith in
    let whole : n / 2 ^ 64 * 2 ^ 64 + n % 2 ^ 64 ≡ n = omega (arith, div-add-mod n (2 ^ 64)) in
    cond-true (ltb (n % 2 ^ 64) (2 ^ 64)) (Some (n / 2 ^ 64 * 2 ^ 64 + n % 2 ^ 64)) None (lt-ltb (n % 2 ^ 64) (2 ^ 64) (mod-lt n least)) ∙ ap Some whole

pub wide_back : (n : ℕ) (rest : List ℕ) → front_wide (flat_wide n ++ rest) ≡ Some (n, rest)
wide_back n rest = ap (λ o. o >>= λ m. Some (m, rest)) (halves_back n)

pub primitive_back : (p : Primitive) → IsPrimitive p → (rest : List ℕ) → front_primitive (flat_primitive p ++ rest) ≡ Some (p, rest)
primitive_back (Int I8 false) h rest = refl
primitive_back (Int I8 true) h rest = refl
primitive_back (Int I16 false) h rest = refl
primitive_back (Int I16 true) h rest = refl
primitive_back (Int I32 false) h rest = refl
primitive_back (Int I32 true) h rest = refl
primitive_back (Int I64 false) h rest = refl
primitive_back (Int I64 true) h rest = refl
primitive_back (Int I128 false) h rest = refl
primitive_back (Int I128 true) h rest = refl
primitive_back (Float F16) h rest = refl
primitive_back (Float F32) h rest = refl
primitive_back (Float F64) h rest = refl
primitive_back (Float F128) h rest = refl
primitive_back (Float F16B) h rest = refl
primitive_back (Float PpcF128) h rest = refl
primitive_back (Pointer space) h rest =
    ap (λ o. o >>= λ value. Some (value, rest)) (cond-true (ltb space.0 (2 ^ 32)) (Some (Pointer space)) None (lt-ltb space.0 (2 ^ 32) h))

range_back : (value : Primitive) (start end : ℕ) (rest : List ℕ) → front_range value (flat_wide start ++ (flat_wide end ++ rest)) ≡ Some (Initialized value (record { start = start; end = end }), rest)
range_back value start end rest =
    ap (λ o. o >>= λ s. front_wide s.1 >>= λ e. Some (Initialized value (record { start = s.0; end = e.0 }), e.1)) (wide_back start (flat_wide end ++ rest))
    ∙ ap (λ o. o >>= λ e. Some (Initialized value (record { start = start; end = e.0 }), e.1)) (wide_back end rest)

pub scalar_back : (s : Scalar) → IsScalar s → (rest : List ℕ) → front_scalar (flat_scalar s ++ rest) ≡ Some (s, rest)
scalar_back (Initialized value range) h rest =
    ap (λ l. front_primitive l >>= λ v. front_range v.0 v.1)
    (ap (λ l. l ++ rest) (append_assoc (flat_primitive value) (flat_wide range.start) (flat_wide range.end)) ∙ append_assoc (flat_primitive value) (flat_wide range.start ++ flat_wide range.end) rest)
    ∙ ap (λ o. o >>= λ v. front_range v.0 v.1) (primitive_back value h (flat_wide range.start ++ (flat_wide range.end ++ rest)))
    ∙ range_back value range.start range.end rest
scalar_back (Union value) h rest = ap (λ o. o >>= λ v. Some (Union v.0, v.1)) (primitive_back value h rest)

int_back : (o : Option IntegerType) → int_numbered (flat_int o) ≡ Some o
int_back None = refl
int_back (Some (type.Pointer false)) = refl
int_back (Some (type.Pointer true)) = refl
int_back (Some (type.Fixed I8 false)) = refl
int_back (Some (type.Fixed I8 true)) = refl
int_back (Some (type.Fixed I16 false)) = refl
int_back (Some (type.Fixed I16 true)) = refl
int_back (Some (type.Fixed I32 false)) = refl
int_back (Some (type.Fixed I32 true)) = refl
int_back (Some (type.Fixed I64 false)) = refl
int_back (Some (type.Fixed I64 true)) = refl
int_back (Some (type.Fixed I128 false)) = refl
int_back (Some (type.Fixed I128 true)) = refl

-- numbers that differ are distinguished
not-eqb : (a b : ℕ) → (a ≡ b → ⊥) → eqb a b ≡ false
not-eqb a b differ = false_from_ne_true (eqb a b) (λ e. differ (eqb-true a b e))

-- the alignment of each power of two up to the greatest
power_back : (k : ℕ) → k ≤ max_exponent → align_numbered (2 ^ k) ≡ Some (Some k)
power_back k h =
    let some : 0 < 2 ^ k = pow_pos k in
    let fits : 2 ^ k < 2 ^ 64 = pow-lt {j = 64} (omega arith) in
    let same : factor_exponent (2 ^ k) ≡ k = exponent_is (2 ^ k) k fits refl in
    let no_zero : eqb (2 ^ k) 0 ≡ false = not-eqb (2 ^ k) 0 (λ e. absurd (omega (arith, some, e))) in
    let few : ltb max_exponent (factor_exponent (2 ^ k)) ≡ false = le-ltb max_exponent (factor_exponent (2 ^ k)) (omega (arith, same, h)) in
    cond-false (eqb (2 ^ k) 0) (Some None) (some_align (align_of_bytes (2 ^ k))) no_zero
    ∙ ap some_align
    (
    cond-false (eqb (2 ^ k) 0) (Ok 0) (cond (eqb (2 ^ factor_exponent (2 ^ k)) (2 ^ k)) (cond (ltb max_exponent (factor_exponent (2 ^ k))) (Err (TooLarge (2 ^ k))) (Ok (factor_exponent (2 ^ k)))) (Err (NotPowerOfTwo (2 ^ k)))) no_zero
    ∙ cond-true (eqb (2 ^ factor_exponent (2 ^ k)) (2 ^ k)) (cond (ltb max_exponent (factor_exponent (2 ^ k))) (Err (TooLarge (2 ^ k))) (Ok (factor_exponent (2 ^ k)))) (Err (NotPowerOfTwo (2 ^ k))) (eq-eqb (2 ^ factor_exponent (2 ^ k)) (2 ^ k) (ap (λ (j : ℕ). 2 ^ j) same))
    ∙ cond-false (ltb max_exponent (factor_exponent (2 ^ k))) (Err (TooLarge (2 ^ k))) (Ok (factor_exponent (2 ^ k))) few
    ∙ ap Ok same
    )

align_back : (o : Option ℕ) → IsAlign o → align_numbered (flat_align o) ≡ Some o
align_back None h = refl
align_back (Some k) h = power_back k h

count_back : (count : ℕ) → count < 2 ^ 16 → scalable_numbered (2 + count) ≡ Some (Some (ElementCount count))
count_back count h =
    let less : 2 + count - 2 ≡ count = omega arith in
    cond-false (eqb (2 + count) 0) (Some None) _ (not-eqb (2 + count) 0 (λ e. absurd (omega (arith, e))))
    ∙ cond-false (eqb (2 + count) 1) (Some (Some Container)) _ (not-eqb (2 + count) 1 (λ e. absurd (omega (arith, e))))
    ∙ ap (λ n. cond (ltb n (2 ^ 16)) (Some (Some (ElementCount n))) None) less
    ∙ cond-true (ltb count (2 ^ 16)) (Some (Some (ElementCount count))) None (lt-ltb count (2 ^ 16) h)

scalable_back : (o : Option ScalableElt) → IsScalable o → scalable_numbered (flat_scalable o) ≡ Some o
scalable_back None h = refl
scalable_back (Some Container) h = refl
scalable_back (Some (ElementCount count)) h = count_back count h

-- a number that means something
pub as_back : {A : Type 0} (meaning : ℕ → Option A) (n : ℕ) (a : A) (ns : List ℕ) → meaning n ≡ Some a → front_as meaning (n ∷ ns) ≡ Some (a, ns)
as_back {A} meaning n a ns e = ap (λ o. ◌>>=◌ {A = A} {B = A × List ℕ} o (λ b. Some (b, ns))) e

-- two, one behind the other
pub two_back : {A B : Type 0} (first : Front A) (second : Front B) (ns mid rest : List ℕ) (a : A) (b : B) → first ns ≡ Some (a, mid) → second mid ≡ Some (b, rest)
    → front_two first second ns ≡ Some ((a, b), rest)
two_back {A} {B} first second ns mid rest a b e f =
    ap (λ o. ◌>>=◌ {A = A × List ℕ} {B = (A × B) × List ℕ} o (λ x. ◌>>=◌ {A = B × List ℕ} {B = (A × B) × List ℕ} (second x.1) (λ y. Some ((x.0, y.0), y.1)))) e
    ∙ ap (λ o. ◌>>=◌ {A = B × List ℕ} {B = (A × B) × List ℕ} o (λ y. Some ((a, y.0), y.1))) f

-- what six numbers make
abbrev made : Option IntegerType → Option ℕ → Option ℕ → ReprFlags → Option ScalableElt → ℕ × List ℕ → Option (ReprOptions × List ℕ)
made a b c d e seed = Some (record { int = a; align = b; pack = c; flags = d; scalable = e; field_shuffle_seed = seed.0 }, seed.1)

pub repr_back : (r : ReprOptions) → IsRepr r → (rest : List ℕ) → front_repr (flat_repr r ++ rest) ≡ Some (r, rest)
repr_back r h rest =
    let l5 : List ℕ = r.field_shuffle_seed ∷ rest in
    let l4 : List ℕ = flat_scalable r.scalable ∷ l5 in
    let l3 : List ℕ = r.flags.0 ∷ l4 in
    let l2 : List ℕ = flat_align r.pack ∷ l3 in
    let l1 : List ℕ = flat_align r.align ∷ l2 in
    ap (λ o. o >>= λ a. front_as align_numbered a.1 >>= λ b. front_as align_numbered b.1 >>= λ c. front_as flags_numbered c.1 >>= λ d. front_as scalable_numbered d.1 >>= λ e. front_word e.1 >>= made a.0 b.0 c.0 d.0 e.0)
    (as_back int_numbered (flat_int r.int) r.int l1 (int_back r.int))
    ∙ ap (λ o. o >>= λ b. front_as align_numbered b.1 >>= λ c. front_as flags_numbered c.1 >>= λ d. front_as scalable_numbered d.1 >>= λ e. front_word e.1 >>= made r.int b.0 c.0 d.0 e.0)
    (as_back align_numbered (flat_align r.align) r.align l2 (align_back r.align h.align))
    ∙ ap (λ o. o >>= λ c. front_as flags_numbered c.1 >>= λ d. front_as scalable_numbered d.1 >>= λ e. front_word e.1 >>= made r.int r.align c.0 d.0 e.0)
    (as_back align_numbered (flat_align r.pack) r.pack l3 (align_back r.pack h.pack))
    ∙ ap (λ o. o >>= λ d. front_as scalable_numbered d.1 >>= λ e. front_word e.1 >>= made r.int r.align r.pack d.0 e.0)
    (as_back flags_numbered r.flags.0 r.flags l4 (cond-true (ltb r.flags.0 (2 ^ 8)) (Some r.flags) None (lt-ltb r.flags.0 (2 ^ 8) h.flags)))
    ∙ ap (λ o. o >>= λ e. front_word e.1 >>= made r.int r.align r.pack r.flags e.0)
    (as_back scalable_numbered (flat_scalable r.scalable) r.scalable l5 (scalable_back r.scalable h.scalable))

-- one item, and more
pub more_back : {A : Type 0} (front : Front A) (k : ℕ) (ns mid rest : List ℕ) (a : A) (more : List A) → front ns ≡ Some (a, mid) → front_many front k mid ≡ Some (more, rest)
    → front_many front (suc k) ns ≡ Some (a ∷ more, rest)
more_back front k ns mid rest a more e f =
    ap (λ o. o >>= λ b. front_many front k b.1 >>= λ m. Some (b.0 ∷ m.0, m.1)) e ∙ ap (λ o. o >>= λ m. Some (a ∷ m.0, m.1)) f

pub words_back : (ws rest : List ℕ) → front_many front_word (length ws) (ws ++ rest) ≡ Some (ws, rest)
words_back [] rest = refl
words_back (w ∷ ws) rest = more_back front_word (length ws) (w ∷ ws ++ rest) (ws ++ rest) rest w ws refl (words_back ws rest)

pub each_back : (ss : List (List ℕ)) (rest : List ℕ) → front_many front_words (length ss) (flat_each ss ++ rest) ≡ Some (ss, rest)
each_back [] rest = refl
each_back (s ∷ ss) rest =
    more_back front_words (length ss) (flat_each (s ∷ ss) ++ rest) (flat_each ss ++ rest) rest s ss
    (ap (λ l. front_many front_word (length s) l) (append_assoc s (flat_each ss) rest) ∙ words_back s (flat_each ss ++ rest)) (each_back ss rest)

pub pairs_back : (ps : List (ℕ × ℕ)) (rest : List ℕ) → front_many (front_two front_word front_word) (length ps) (flat_pairs ps ++ rest) ≡ Some (ps, rest)
pairs_back [] rest = refl
pairs_back (p ∷ ps) rest =
    more_back (front_two front_word front_word) (length ps) (flat_pairs (p ∷ ps) ++ rest) (flat_pairs ps ++ rest) rest p ps refl (pairs_back ps rest)

-- ---- types

-- types as a list
abbrev pub listed : Trees → List Tree
listed no_trees = []
listed (more_trees t ts) = t ∷ listed ts

pub trees_listed : (ts : Trees) → trees (listed ts) ≡ ts
trees_listed no_trees = refl
trees_listed (more_trees t ts) = ap (more_trees t) (trees_listed ts)

-- variants as a list
abbrev pub listed_variants : Variants → List (ℕ × List Tree)
listed_variants no_variants = []
listed_variants (more_variants d ts vs) = (d, listed ts) ∷ listed_variants vs

pub variants_listed : (vs : Variants) → variants_of_items (listed_variants vs) ≡ vs
variants_listed no_variants = refl
variants_listed (more_variants d ts vs) = ap (λ l. more_variants d l (variants_of_items (listed_variants vs))) (trees_listed ts) ∙ ap (more_variants d ts) (variants_listed vs)

module _ (inner : Front Tree) where
  -- such types stand before the rest
  abbrev pub AreBefore : Trees → (rest : List ℕ) → Type 0
  AreBefore ts rest = front_many inner (count_of_trees ts) (flat_trees ts ++ rest) ≡ Some (listed ts, rest)

  -- such variants do
  abbrev pub AreVariantsBefore : Variants → (rest : List ℕ) → Type 0
  AreVariantsBefore vs rest = front_many (front_variant inner) (count_of_variants vs) (flat_variants vs ++ rest) ≡ Some (listed_variants vs, rest)

  pair_back : (a b : Scalar) → IsScalar a → IsScalar b → (rest : List ℕ) → front_node inner (flat_tree (pair a b) ++ rest) ≡ Some (pair a b, rest)
  pair_back a b ha hb rest =
      ap (λ l. front_two front_scalar front_scalar l >>= λ p. Some (pair p.0.0 p.0.1, p.1)) (append_assoc (flat_scalar a) (flat_scalar b) rest)
      ∙ ap (λ o. o >>= λ p. Some (pair p.0.0 p.0.1, p.1)) (two_back front_scalar front_scalar (flat_scalar a ++ (flat_scalar b ++ rest)) (flat_scalar b ++ rest) rest a b (scalar_back a ha (flat_scalar b ++ rest)) (scalar_back b hb rest))

  array_back : (count : ℕ) (t : Tree) (rest : List ℕ) → inner (flat_tree t ++ rest) ≡ Some (t, rest) → front_node inner (flat_tree (array count t) ++ rest) ≡ Some (array count t, rest)
  array_back count t rest e = ap (λ o. o >>= λ u. Some (array count u.0, u.1)) e

  vector_back : (lanes : ℕ) (packed : Bool) (t : Tree) (rest : List ℕ) → inner (flat_tree t ++ rest) ≡ Some (t, rest) → front_node inner (flat_tree (vector lanes packed t) ++ rest) ≡ Some (vector lanes packed t, rest)
  vector_back lanes packed t rest e =
      ap (λ o. o >>= λ p. inner p.1 >>= λ u. Some (vector lanes p.0 u.0, u.1)) (as_back bool_numbered (flat_bool packed) packed (flat_tree t ++ rest) (bool_back packed))
      ∙ ap (λ o. o >>= λ u. Some (vector lanes packed u.0, u.1)) e

  struct_back : (repr : ReprOptions) (sized : Bool) (ts : Trees) (rest : List ℕ) → IsRepr repr → AreBefore ts rest
      → front_node inner (flat_tree (struct repr sized None ts) ++ rest) ≡ Some (struct repr sized None ts, rest)
  struct_back repr sized ts rest h e =
      ap (λ o. o >>= λ r. front_as bool_numbered r.1 >>= λ s. front_list inner s.1 >>= λ us. Some (struct r.0 s.0 None (trees us.0), us.1))
      (repr_back repr h (flat_bool sized ∷ count_of_trees ts ∷ (flat_trees ts ++ rest)))
      ∙ ap (λ o. o >>= λ s. front_list inner s.1 >>= λ us. Some (struct repr s.0 None (trees us.0), us.1)) (as_back bool_numbered (flat_bool sized) sized (count_of_trees ts ∷ (flat_trees ts ++ rest)) (bool_back sized))
      ∙ ap (λ o. o >>= λ us. Some (struct repr sized None (trees us.0), us.1)) e
      ∙ ap (λ us. Some (struct repr sized None us, rest)) (trees_listed ts)

  ordered_back : (repr : ReprOptions) (sized : Bool) (order : List ℕ) (ts : Trees) (rest : List ℕ) → IsRepr repr → AreBefore ts rest
      → front_node inner (flat_tree (struct repr sized (Some order) ts) ++ rest) ≡ Some (struct repr sized (Some order) ts, rest)
  ordered_back repr sized order ts rest h e =
      ap (λ o. o >>= λ r. front_as bool_numbered r.1 >>= λ s. front_words s.1 >>= λ os. front_list inner os.1 >>= λ us. Some (struct r.0 s.0 (Some os.0) (trees us.0), us.1))
      (repr_back repr h (flat_bool sized ∷ length order ∷ (order ++ count_of_trees ts ∷ flat_trees ts ++ rest)))
      ∙ ap (λ o. o >>= λ s. front_words s.1 >>= λ os. front_list inner os.1 >>= λ us. Some (struct repr s.0 (Some os.0) (trees us.0), us.1)) (as_back bool_numbered (flat_bool sized) sized (length order ∷ (order ++ count_of_trees ts ∷ flat_trees ts ++ rest)) (bool_back sized))
      ∙ ap (λ l. front_many front_word (length order) l >>= λ os. front_list inner os.1 >>= λ us. Some (struct repr sized (Some os.0) (trees us.0), us.1)) (append_assoc order (count_of_trees ts ∷ flat_trees ts) rest)
      ∙ ap (λ o. o >>= λ os. front_list inner os.1 >>= λ us. Some (struct repr sized (Some os.0) (trees us.0), us.1)) (words_back order (count_of_trees ts ∷ (flat_trees ts ++ rest)))
      ∙ ap (λ o. o >>= λ us. Some (struct repr sized (Some order) (trees us.0), us.1)) e
      ∙ ap (λ us. Some (struct repr sized (Some order) us, rest)) (trees_listed ts)

  union_back : (repr : ReprOptions) (ts : Trees) (rest : List ℕ) → IsRepr repr → AreBefore ts rest
      → front_node inner (flat_tree (union repr ts) ++ rest) ≡ Some (union repr ts, rest)
  union_back repr ts rest h e =
      ap (λ o. o >>= λ r. front_list inner r.1 >>= λ us. Some (union r.0 (trees us.0), us.1)) (repr_back repr h (count_of_trees ts ∷ (flat_trees ts ++ rest)))
      ∙ ap (λ o. o >>= λ us. Some (union repr (trees us.0), us.1)) e
      ∙ ap (λ us. Some (union repr us, rest)) (trees_listed ts)

  enum_back : (repr : ReprOptions) (vs : Variants) (rest : List ℕ) → IsRepr repr → AreVariantsBefore vs rest
      → front_node inner (flat_tree (enum repr vs) ++ rest) ≡ Some (enum repr vs, rest)
  enum_back repr vs rest h e =
      ap (λ o. o >>= λ r. front_list (front_variant inner) r.1 >>= λ us. Some (enum r.0 (variants_of_items us.0), us.1)) (repr_back repr h (count_of_variants vs ∷ (flat_variants vs ++ rest)))
      ∙ ap (λ o. o >>= λ us. Some (enum repr (variants_of_items us.0), us.1)) e
      ∙ ap (λ us. Some (enum repr us, rest)) (variants_listed vs)

  coroutine_back : (prefix locals : Trees) (states : List (List ℕ)) (conflicts : List (ℕ × ℕ)) (rest : List ℕ)
      → ((after : List ℕ) → AreBefore prefix after) → ((after : List ℕ) → AreBefore locals after)
      → front_node inner (flat_tree (coroutine prefix locals states conflicts) ++ rest) ≡ Some (coroutine prefix locals states conflicts, rest)
  coroutine_back prefix locals states conflicts rest hp hl =
      let c : List ℕ = length conflicts ∷ (flat_pairs conflicts ++ rest) in
      let s : List ℕ = length states ∷ (flat_each states ++ c) in
      let l : List ℕ = count_of_trees locals ∷ (flat_trees locals ++ s) in
      ap (λ ns. front_many inner (count_of_trees prefix) ns >>= λ ps. front_list inner ps.1 >>= λ ls. front_list front_words ls.1 >>= λ ss. front_list (front_two front_word front_word) ss.1 >>= λ cs. Some (coroutine (trees ps.0) (trees ls.0) ss.0 cs.0, cs.1))
      (
      append_assoc (flat_trees prefix ++ count_of_trees locals ∷ flat_trees locals ++ length states ∷ flat_each states) (length conflicts ∷ flat_pairs conflicts) rest
      ∙ append_assoc (flat_trees prefix ++ count_of_trees locals ∷ flat_trees locals) (length states ∷ flat_each states) c
      ∙ append_assoc (flat_trees prefix) (count_of_trees locals ∷ flat_trees locals) s
      )
      ∙ ap (λ o. o >>= λ ps. front_list inner ps.1 >>= λ ls. front_list front_words ls.1 >>= λ ss. front_list (front_two front_word front_word) ss.1 >>= λ cs. Some (coroutine (trees ps.0) (trees ls.0) ss.0 cs.0, cs.1)) (hp l)
      ∙ ap (λ o. o >>= λ ls. front_list front_words ls.1 >>= λ ss. front_list (front_two front_word front_word) ss.1 >>= λ cs. Some (coroutine (trees (listed prefix)) (trees ls.0) ss.0 cs.0, cs.1)) (hl s)
      ∙ ap (λ o. o >>= λ ss. front_list (front_two front_word front_word) ss.1 >>= λ cs. Some (coroutine (trees (listed prefix)) (trees (listed locals)) ss.0 cs.0, cs.1)) (each_back states c)
      ∙ ap (λ o. o >>= λ cs. Some (coroutine (trees (listed prefix)) (trees (listed locals)) states cs.0, cs.1)) (pairs_back conflicts rest)
      ∙ ap (λ ps. Some (coroutine ps (trees (listed locals)) states conflicts, rest)) (trees_listed prefix)
      ∙ ap (λ ls. Some (coroutine prefix ls states conflicts, rest)) (trees_listed locals)

  fields_back : (t : Tree) (ts : Trees) (rest : List ℕ) → ((after : List ℕ) → inner (flat_tree t ++ after) ≡ Some (t, after)) → AreBefore ts rest → AreBefore (more_trees t ts) rest
  fields_back t ts rest e f =
      more_back inner (count_of_trees ts) (flat_trees (more_trees t ts) ++ rest) (flat_trees ts ++ rest) rest t (listed ts)
      (ap inner (append_assoc (flat_tree t) (flat_trees ts) rest) ∙ e (flat_trees ts ++ rest)) f

  variant_back : (d : ℕ) (ts : Trees) (vs : Variants) (rest : List ℕ) → ((after : List ℕ) → AreBefore ts after) → AreVariantsBefore vs rest → AreVariantsBefore (more_variants d ts vs) rest
  variant_back d ts vs rest e f =
      more_back (front_variant inner) (count_of_variants vs) (flat_variants (more_variants d ts vs) ++ rest) (flat_variants vs ++ rest) rest (d, listed ts) (listed_variants vs)
      (
      ap (λ o. o >>= λ n. front_list inner n.1 >>= λ us. Some ((n.0, us.0), us.1)) (wide_back d (count_of_trees ts ∷ (flat_trees ts ++ flat_variants vs ++ rest)))
      ∙ ap (λ l. front_many inner (count_of_trees ts) l >>= λ us. Some ((d, us.0), us.1)) (append_assoc (flat_trees ts) (flat_variants vs) rest)
      ∙ ap (λ o. o >>= λ us. Some ((d, us.0), us.1)) (e (flat_variants vs ++ rest))
      )
      f

mutual
  -- a readable type is what its numbers begin with
  pub tree_back : (n : ℕ) (t : Tree) → IsReadable n t → (rest : List ℕ) → front_tree n (flat_tree t ++ rest) ≡ Some (t, rest)
  tree_back zero t h rest = absurd h
  tree_back (suc n) (scalar s) h rest = ap (λ o. o >>= λ found. Some (scalar found.0, found.1)) (scalar_back s h rest)
  tree_back (suc n) (pair a b) h rest = pair_back (front_tree n) a b h.0 h.1 rest
  tree_back (suc n) never h rest = refl
  tree_back (suc n) unit h rest = refl
  tree_back (suc n) (array count t) h rest = array_back (front_tree n) count t rest (tree_back n t h rest)
  tree_back (suc n) (vector lanes packed t) h rest = vector_back (front_tree n) lanes packed t rest (tree_back n t h rest)
  tree_back (suc n) (struct repr sized None ts) h rest = struct_back (front_tree n) repr sized ts rest h.0 (trees_back n ts h.1 rest)
  tree_back (suc n) (struct repr sized (Some order) ts) h rest = ordered_back (front_tree n) repr sized order ts rest h.0 (trees_back n ts h.1 rest)
  tree_back (suc n) (union repr ts) h rest = union_back (front_tree n) repr ts rest h.0 (trees_back n ts h.1 rest)
  tree_back (suc n) (enum repr vs) h rest = enum_back (front_tree n) repr vs rest h.0 (variants_back n vs h.1 rest)
  tree_back (suc n) (coroutine prefix locals states conflicts) h rest =
      coroutine_back (front_tree n) prefix locals states conflicts rest (trees_back n prefix h.0) (trees_back n locals h.1)

  trees_back : (n : ℕ) (ts : Trees) → AreReadable n ts → (rest : List ℕ) → AreBefore (front_tree n) ts rest
  trees_back n no_trees h rest = refl
  trees_back n (more_trees t ts) h rest = fields_back (front_tree n) t ts rest (tree_back n t h.0) (trees_back n ts h.1 rest)

  variants_back : (n : ℕ) (vs : Variants) → AreReadableVariants n vs → (rest : List ℕ) → AreVariantsBefore (front_tree n) vs rest
  variants_back n no_variants h rest = refl
  variants_back n (more_variants d ts vs) h rest = variant_back (front_tree n) d ts vs rest (trees_back n ts h.0) (variants_back n vs h.1 rest)
