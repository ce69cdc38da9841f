-- Formulas of nodes.
use Rattle.std.proofs.Common.{◌≡◌, ◌↔◌, ℕ, ◌*◌, ◌<◌, ◌≤◌, List, [], ◌∷◌, length, arith, refl, sym, subst}
use Rattle.std.specs.Prelude.{Bool, MatchBool, Vec, false, true}
use Rattle.std.specs.declared.alloc.Global.{Global}
use Rattle.automata.specs.Cell.{Cell}
use Rattle.automata.specs.Formula.{Formula, any, never, each}
use Rattle.automata.specs.Formulas.{IsMade}
use Rattle.automata.specs.Nodes.{formula_in}
use Rattle.abi_base.specs.declared.endian.Endian.{Endian}
use Rattle.abi_base.specs.declared.primitive.Primitive.{Primitive}
use Rattle.abi_scalar.specs.declared.scalar.Scalar.{Scalar}
use Rattle.abi_scalar.specs.declared.scalar.Scalar.TheVariants.{Initialized, Union}
use Rattle.abi_scalar.specs.declared.wrapping_range.WrappingRange.{WrappingRange}
use Rattle.abi_scalar.specs.Range.{AreWithin, IsBetween, IsIn}
use Rattle.abi_scalar.proofs.RangeLemmas.{between_from_in, in_from_between}
use Rattle.abi_scalar.specs.Layout.{Layout}
use Rattle.abi_tree.specs.Nodes.{meaning, parts_at}
use Rattle.abi_tree.specs.Placed.{Placed, size_of}
use Rattle.abi_tree.specs.Widths.{is_narrow}
use Rattle.abi_tree.specs.declared.mark.Mark.{Mark}
use Rattle.abi_tree.specs.declared.node.Shape.{Shape}
use Rattle.abi_tree.specs.declared.node.Shape.TheVariants.{Scalar as Number, Pair, Never, Elements, Fields, Union as UnionOf, Vector, Single, Tagged, States}
use Rattle.abi_tree.proofs.Meaning.WidthLemmas.{scalar_narrow}
use Rattle.abi_bytes.specs.Holding.{AreEach, AreTwoNumbers, HoldCells, HoldScalar, IsList, IsNumber, MakeNumber}
use Rattle.abi_bytes.specs.Formulas.{IsFormula, ReadsFirst}
use Rattle.abi_bytes.proofs.FirstLemmas.{each_too_long, made_any, made_each, made_like, made_never, number_like}

-- ---- a scalar

pub in_range : (s0 s1 : List Formula) (order : Endian) (n k : ℕ) (range : WrappingRange) → AreWithin n range →
    IsFormula s0 s1 n (MakeNumber order (IsBetween range.start range.end)) k → IsFormula s0 s1 n (MakeNumber order (IsIn n range)) k
in_range s0 s1 order n k range within is =
    made_like s0 s1 n k (MakeNumber order (IsBetween range.start range.end)) (MakeNumber order (IsIn n range))
    (λ u all len. number_like order n (IsBetween range.start range.end) (IsIn n range)
    (λ m lt. (λ h. in_from_between n range m within lt h, λ h. between_from_in n range m within h)) u all len) is

pub narrow_within : (n : ℕ) (s : Scalar) (value : Primitive) (range : WrappingRange) → s ≡ Initialized value range → is_narrow n s ≡ true → (n ≤ 16) × AreWithin n range
narrow_within n s value range is narrow = scalar_narrow n (Initialized value range) (subst (λ x. is_narrow n x ≡ true) is narrow)

pub initialized_made : (s0 s1 : List Formula) (order : Endian) (n k : ℕ) (s : Scalar) (value : Primitive) (range : WrappingRange) → s ≡ Initialized value range → is_narrow n s ≡ true →
    IsFormula s0 s1 n (MakeNumber order (IsBetween range.start range.end)) k → IsFormula s0 s1 n (HoldScalar order n s) k
initialized_made s0 s1 order n k s value range is narrow made =
    subst (λ x. IsFormula s0 s1 n (HoldScalar order n x) k) (sym is) (in_range s0 s1 order n k range (narrow_within n s value range is narrow).1 made)

pub union_made : (s0 s1 : List Formula) (order : Endian) (n k : ℕ) (s : Scalar) (value : Primitive) → s ≡ Union value → IsMade s0 s1 any k → IsFormula s0 s1 n (HoldScalar order n s) k
union_made s0 s1 order n k s value is made =
    subst (λ x. IsFormula s0 s1 n (HoldScalar order n x) k) (sym is) (made_any s0 s1 n k (HoldScalar order n (Union value)) (λ u all len. tt) made)

-- ---- two numbers

pub two_numbers : (os : List ℕ) (p q : Placed) → 2 ≤ length os → IsNumber p → IsNumber q → AreTwoNumbers (parts_at os (p ∷ q ∷ []))
two_numbers [] p q long first second = absurd (omega arith)
two_numbers (o ∷ []) p q long first second = absurd (omega arith)
two_numbers (o ∷ u ∷ []) p q long first second = (first, second)
two_numbers (o ∷ u ∷ v ∷ os) p q long first second = (first, second)

pub of_two_numbers : (os : List ℕ) (p q : Placed) → AreTwoNumbers (parts_at os (p ∷ q ∷ [])) → (2 ≤ length os) × IsNumber p × IsNumber q
of_two_numbers [] p q h = absurd h
of_two_numbers (o ∷ []) p q h = absurd h
of_two_numbers (o ∷ u ∷ []) p q h = (omega arith, h.0, h.1)
of_two_numbers (o ∷ u ∷ v ∷ os) p q h = (omega arith, h.0, h.1)

-- a fact that is sure beside what is held
pub made_sure : (s0 s1 : List Formula) (n k : ℕ) (A : Type 0) (P : List Cell → Type 0) → A → IsFormula s0 s1 n P k → IsFormula s0 s1 n (λ u. A × P u) k
made_sure s0 s1 n k A P a is = made_like s0 s1 n k P (λ u. A × P u) (λ u all len. (λ h. (a, h), λ h. h.1)) is

-- one that isn't
pub made_wrong : (s0 s1 : List Formula) (n k : ℕ) (A : Type 0) (P : List Cell → Type 0) → (A → ⊥) → IsMade s0 s1 never k → IsFormula s0 s1 n (λ u. A × P u) k
made_wrong s0 s1 n k A P not_a made = made_never s0 s1 n k (λ u. A × P u) (λ u all len h. not_a h.0) made

-- ---- elements

pub elements_made : (s0 s1 : List Formula) (f s z k n count : ℕ) (Q : List Cell → Type 0) → z ≡ s → ReadsFirst (formula_in s0 f) s Q → count * z ≤ n →
    IsMade s0 s1 (each count z (formula_in s0 f)) k → IsFormula s0 s1 n (AreEach Q count s 0) k
elements_made s0 s1 f s z k n count Q same reads room made =
    made_each s0 s1 f s k n count Q reads (subst (λ m. count * m ≤ n) same room) (subst (λ m. IsMade s0 s1 (each count m (formula_in s0 f)) k) same made)

pub elements_none : (s0 s1 : List Formula) (s z k n count : ℕ) (Q : List Cell → Type 0) → z ≡ s → n < count * z → IsMade s0 s1 never k → IsFormula s0 s1 n (AreEach Q count s 0) k
elements_none s0 s1 s z k n count Q same long made =
    made_never s0 s1 n k (AreEach Q count s 0) (λ u all len h. each_too_long Q count s n (subst (λ m. n < count * m) same long) u len h) made

-- ---- a node

-- a node is what its kind makes of it
pub node_made : (order : Endian) (s0 s1 : List Formula) (x p : Placed) (k n : ℕ) (P : List Cell → Type 0) → x ≡ p → n ≡ size_of p →
    ((u : List Cell) → length u ≡ size_of p → (P u ↔ HoldCells order p u)) → IsFormula s0 s1 n P k → IsFormula s0 s1 (size_of x) (HoldCells order x) k
node_made order s0 s1 x p k n P is long like made =
    subst (λ y. IsFormula s0 s1 (size_of y) (HoldCells order y) k) (sym is)
    (made_like s0 s1 (size_of p) k P (HoldCells order p) (λ u all len. like u len) (subst (λ m. IsFormula s0 s1 m P k) long made))

-- what only some kinds of nodes are
pub number_other : (done : List Placed) (layout : Layout) (shape : Shape) → ((s : Scalar) → shape ≡ Number s → ⊥) → IsNumber (meaning done layout shape) → ⊥
number_other done layout (Number s) other h = other s refl
number_other done layout (Pair first second) other h = h
number_other done layout (Never mark) other h = h
number_other done layout (Elements count element) other h = h
number_other done layout (Fields mark children) other h = h
number_other done layout (UnionOf mark children) other h = h
number_other done layout (Vector lanes) other h = h
number_other done layout (Single mark children) other h = h
number_other done layout (Tagged mark tag variants) other h = h
number_other done layout (States prefix tag states) other h = h

pub list_other : (done : List Placed) (layout : Layout) (shape : Shape) → ((count element : ℕ) → shape ≡ Elements count element → ⊥) →
    ((mark : Mark) (children : Vec ℕ Global) → shape ≡ Fields mark children → ⊥) → ((lanes : ℕ) → shape ≡ Vector lanes → ⊥) → IsList (meaning done layout shape) → ⊥
list_other done layout (Number s) a b c h = h
list_other done layout (Pair first second) a b c h = h
list_other done layout (Never mark) a b c h = h
list_other done layout (Elements count element) a b c h = a count element refl
list_other done layout (Fields mark children) a b c h = b mark children refl
list_other done layout (UnionOf mark children) a b c h = h
list_other done layout (Vector lanes) a b c h = c lanes refl
list_other done layout (Single mark children) a b c h = h
list_other done layout (Tagged mark tag variants) a b c h = h
list_other done layout (States prefix tag states) a b c h = h

pub match_like : (b : Bool) (P Q R S : Type 0) → (P → R) → (Q → S) → MatchBool b P Q → MatchBool b R S
match_like true P Q R S f g h = f h
match_like false P Q R S f g h = g h
