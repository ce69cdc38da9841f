-- When a data layout is lawful.
use Rattle.std.proofs.Common.{◌≡◌, ℕ, ◌^◌, ◌≤◌, ◌↔◌, IsTrue, Bool, true, false, ◌&&◌, Result, Ok, Err, IfOk, sym, subst, refl, List, [], ◌∷◌, ◌++◌, map, Option, Some, IsSome, unwrap_or, inr, rules}
use Rattle.std.specs.List.{All}
use Rattle.std.proofs.lemmas.List.Elements.{All-nil, All-cons, All-head, All-tail, All-append, All-map, All-from_recursion}
use Rattle.std.proofs.lemmas.Nat.Gcd.{dvd_of_mod-eq-zero}
use Rattle.std.specs.Int.{◌∣◌}
use Rattle.abi_base.specs.declared.integer.Integer.{Integer}
use Rattle.abi_base.specs.declared.integer.Integer.TheVariants.{I8, I16, I32, I64, I128}
use Rattle.abi_base.specs.declared.float.Float.{Float}
use Rattle.abi_base.specs.declared.float.Float.TheVariants.{F16, F16B, F32, F64, F128, PpcF128}
use Rattle.abi_base.specs.declared.data_layout.TargetDataLayout.{TargetDataLayout}
use Rattle.abi_base.specs.Align.{max_exponent}
use Rattle.abi_base.specs.Integer.{integer_size, integer_align}
use Rattle.abi_base.specs.Float.{float_size, float_align}
use Rattle.abi_base.specs.DataLayout.{IsLawfulDataLayout, HasLawfulDefault, alignments_of, default_data_layout, IsLawfulSpec}
use Rattle.abi_base.specs.declared.pointer_spec.PointerSpec.{PointerSpec}

integer_of : (dl : TargetDataLayout) → (2 ^ dl.i8_align ∣ 1) × (2 ^ dl.i16_align ∣ 2) × (2 ^ dl.i32_align ∣ 4) × (2 ^ dl.i64_align ∣ 8) × (2 ^ dl.i128_align ∣ 16) → (i : Integer) → 2 ^ integer_align dl i ∣ integer_size i
integer_of dl h I8 = h.0
integer_of dl h I16 = h.1
integer_of dl h I32 = h.2
integer_of dl h I64 = h.3
integer_of dl h I128 = h.4

-- the integers one by one
pub each_integer : (dl : TargetDataLayout) (b : Bool) → (IsTrue b ↔ (2 ^ dl.i8_align ∣ 1) × (2 ^ dl.i16_align ∣ 2) × (2 ^ dl.i32_align ∣ 4) × (2 ^ dl.i64_align ∣ 8) × (2 ^ dl.i128_align ∣ 16)) → (IsTrue b ↔ ((i : Integer) → 2 ^ integer_align dl i ∣ integer_size i))
each_integer dl b h = (λ t. integer_of dl (h.0 t), λ all. h.1 (all I8, all I16, all I32, all I64, all I128))

float_of : (dl : TargetDataLayout) → (2 ^ dl.f16_align ∣ 2) × (2 ^ dl.f32_align ∣ 4) × (2 ^ dl.f64_align ∣ 8) × (2 ^ dl.f128_align ∣ 16) → (f : Float) → 2 ^ float_align dl f ∣ float_size f
float_of dl h F16 = h.0
float_of dl h F16B = h.0
float_of dl h F32 = h.1
float_of dl h F64 = h.2
float_of dl h F128 = h.3
float_of dl h PpcF128 = h.3

-- the floats one by one
pub each_float : (dl : TargetDataLayout) (b : Bool) → (IsTrue b ↔ (2 ^ dl.f16_align ∣ 2) × (2 ^ dl.f32_align ∣ 4) × (2 ^ dl.f64_align ∣ 8) × (2 ^ dl.f128_align ∣ 16)) → (IsTrue b ↔ ((f : Float) → 2 ^ float_align dl f ∣ float_size f))
each_float dl b h = (λ t. float_of dl (h.0 t), λ all. h.1 (all F16, all F32, all F64, all F128))

-- the laws part by part
pub in_parts : (dl : TargetDataLayout) (b : Bool) → (IsTrue b ↔ ((i : Integer) → 2 ^ integer_align dl i ∣ integer_size i) × ((f : Float) → 2 ^ float_align dl f ∣ float_size f) × HasLawfulDefault dl × All (λ a. a ≤ max_exponent) (alignments_of dl)) → (IsTrue b ↔ IsLawfulDataLayout dl)
in_parts dl b h = (
  λ t. record { integers = (h.0 t).0; floats = (h.0 t).1; pointer = (h.0 t).2.0; index = (h.0 t).2.1; pointer_fits = (h.0 t).2.2; limit = (h.0 t).3 },
  λ l. h.1 (l.integers, l.floats, (l.pointer, l.index, l.pointer_fits), l.limit),
)

-- the default data layout is lawful
pub lawful_default : IsLawfulDataLayout default_data_layout
lawful_default = record {
  integers = integer_of default_data_layout (dvd_of_mod-eq-zero 1 refl, dvd_of_mod-eq-zero 2 refl, dvd_of_mod-eq-zero 4 refl, dvd_of_mod-eq-zero 4 refl, dvd_of_mod-eq-zero 4 refl);
  floats = float_of default_data_layout (dvd_of_mod-eq-zero 2 refl, dvd_of_mod-eq-zero 4 refl, dvd_of_mod-eq-zero 8 refl, dvd_of_mod-eq-zero 16 refl);
  pointer = inr (inr refl);
  index = inr (inr refl);
  pointer_fits = dvd_of_mod-eq-zero 8 refl;
  limit = All-from_recursion (λ a. a ≤ max_exponent) (alignments_of default_data_layout) (search rules);
}

pub when_default : {E : Type 0} (r : Result TargetDataLayout E) → IfOk r (λ dl. dl ≡ default_data_layout) → IfOk r IsLawfulDataLayout
when_default (Ok dl) e = subst IsLawfulDataLayout (sym e) lawful_default
when_default (Err e) h = tt

-- a conjunction of two tests
pub both : {P Q : Type 0} (a b : Bool) → (IsTrue a ↔ P) → (IsTrue b ↔ Q) → (IsTrue (a && b) ↔ P × Q)
both true true h k = (λ t. (h.0 (search rules), k.0 (search rules)), λ p. search rules)
both true false h k = (λ t. (search rules, search rules), λ p. k.1 p.1)
both false true h k = (λ t. (search rules, search rules), λ p. h.1 p.0)
both false false h k = (λ t. (search rules, search rules), λ p. h.1 p.0)

-- and of three
pub all_three : {P Q R : Type 0} (a b d : Bool) → (IsTrue a ↔ P) → (IsTrue b ↔ Q) → (IsTrue d ↔ R) → (IsTrue (a && b && d) ↔ P × Q × R)
all_three a b d h k m = let n = both (a && b) d (both a b h k) m in (λ t. ((n.0 t).0.0, (n.0 t).0.1, (n.0 t).1), λ p. n.1 ((p.0, p.1), p.2))

-- and of four
pub all_four : {P Q R S : Type 0} (a b d e : Bool) → (IsTrue a ↔ P) → (IsTrue b ↔ Q) → (IsTrue d ↔ R) → (IsTrue e ↔ S) → (IsTrue (a && b && d && e) ↔ P × Q × R × S)
all_four a b d e h k m o = let n = both (a && b && d) e (all_three a b d h k m) o in (λ t. ((n.0 t).0.0, (n.0 t).0.1, (n.0 t).0.2, (n.0 t).1), λ p. n.1 ((p.0, p.1, p.2), p.3))

pub all_front : {X : Type 0} (P : X → Type 0) (xs ys : List X) → All P (xs ++ ys) → All P xs
all_front P [] ys h = All-nil P
all_front P (x ∷ xs) ys h = All-cons P x xs (All-head P x (xs ++ ys) h) (all_front P xs ys (All-tail P x (xs ++ ys) h))

pub all_back : {X : Type 0} (P : X → Type 0) (xs ys : List X) → All P (xs ++ ys) → All P ys
all_back P [] ys h = h
all_back P (x ∷ xs) ys h = all_back P xs ys (All-tail P x (xs ++ ys) h)

all_unmapped : {X Y : Type 0} (P : X → Type 0) (f : Y → X) (ys : List Y) → All P (map f ys) → All (λ y. P (f y)) ys
all_unmapped P f [] h = All-nil (λ y. P (f y))
all_unmapped P f (y ∷ ys) h = All-cons (λ z. P (f z)) y ys (All-head P (f y) (map f ys) h) (all_unmapped P f ys (All-tail P (f y) (map f ys) h))

-- the limit list by list
pub each_list : (P : ℕ → Type 0) {A B : Type 0} (f : A → ℕ) (g : B → ℕ) (xs : List ℕ) (vs : List A) (bs : List B) (b : Bool) → (IsTrue b ↔ All P xs × All (λ e. P (f e)) vs × All (λ e. P (g e)) bs) → (IsTrue b ↔ All P (xs ++ map f vs ++ map g bs))
each_list P f g xs vs bs b h = (
  λ t. All-append P (xs ++ map f vs) (map g bs) (All-append P xs (map f vs) (h.0 t).0 (All-map P f vs (h.0 t).1)) (All-map P g bs (h.0 t).2),
  λ a. let front : All P (xs ++ map f vs) = all_front P (xs ++ map f vs) (map g bs) a in
      h.1 (all_front P xs (map f vs) front, all_unmapped P f vs (all_back P xs (map f vs) front), all_unmapped P g bs (all_back P (xs ++ map f vs) (map g bs) a)),
)

-- a pointer that is known to be lawful
pub known_lawful : (o : Option PointerSpec) (s d : PointerSpec) (b : Bool) → Some s ≡ o → (IsTrue b ↔ IsLawfulSpec s) → (IsTrue b ↔ IsSome o × IsLawfulSpec (unwrap_or o d))
known_lawful o s d b e h = subst (λ (q : Option PointerSpec). IsTrue b ↔ IsSome q × IsLawfulSpec (unwrap_or q d)) e (λ t. (search rules, h.0 t), λ p. h.1 p.1)

-- and of five
pub all_five : {P Q R S T : Type 0} (a b d e f : Bool) → (IsTrue a ↔ P) → (IsTrue b ↔ Q) → (IsTrue d ↔ R) → (IsTrue e ↔ S) → (IsTrue f ↔ T) → (IsTrue (a && b && d && e && f) ↔ P × Q × R × S × T)
all_five a b d e f h k m o q = let n = both (a && b && d && e) f (all_four a b d e h k m o) q in (λ t. ((n.0 t).0.0, (n.0 t).0.1, (n.0 t).0.2, (n.0 t).0.3, (n.0 t).1), λ p. n.1 ((p.0, p.1, p.2, p.3), p.4))
