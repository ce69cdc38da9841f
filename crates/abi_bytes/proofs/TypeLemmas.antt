-- The formula of a type: those of its nodes, one after another.
use Rattle.std.proofs.Common.{◌≡◌, ℕ, ◌+◌, ◌-◌, ◌<◌, List, [], ◌∷◌, ◌++◌, length, get_or, arith, sym, ap, ◌∙◌, subst, length-append, ⊎_elim}
use Rattle.std.proofs.lemmas.Bool.{cases_lt}
use Rattle.std.proofs.lemmas.List.{get_or_append_left, get_or_push}
use Rattle.automata.specs.Formula.{Formula}
use Rattle.automata.specs.Formulas.{Keeps}
use Rattle.abi_base.specs.declared.endian.Endian.{Endian}
use Rattle.abi_scalar.specs.declared.variants.TagEncoding.{TagEncoding}
use Rattle.abi_tree.specs.Nodes.{placed_at, root_of, tagged_variants_in}
use Rattle.abi_tree.specs.Placed.{Placed, size_of}
use Rattle.abi_tree.specs.declared.node.Node.{Node}
use Rattle.abi_bytes.specs.Holding.{HoldCells}
use Rattle.abi_bytes.specs.Formulas.{AreMade, HoldSomeVariant, IsFormula, IsFormulaOf}
use Rattle.abi_bytes.proofs.PartLemmas.{AreMade-kept}

-- variants beside a tag, whose places stand under other names
pub named_like : (s0 s1 : List Formula) (order : Endian) (encoding : TagEncoding ℕ) (k n m o p z y : ℕ) (done : List Placed) (vs us : List (ℕ × ℕ)) → n ≡ m → o ≡ p → z ≡ y → vs ≡ us →
    IsFormula s0 s1 n (HoldSomeVariant order encoding o z (tagged_variants_in done vs) 0 (length vs)) k →
    IsFormula s0 s1 m (HoldSomeVariant order encoding p y (tagged_variants_in done us) 0 (length us)) k
named_like s0 s1 order encoding k n m o p z y done vs us e f g h is =
    subst (λ x. IsFormula s0 s1 x (HoldSomeVariant order encoding p y (tagged_variants_in done us) 0 (length us)) k) e
    (subst (λ x. IsFormula s0 s1 n (HoldSomeVariant order encoding x y (tagged_variants_in done us) 0 (length us)) k) f
    (subst (λ x. IsFormula s0 s1 n (HoldSomeVariant order encoding o x (tagged_variants_in done us) 0 (length us)) k) g
    (subst (λ x. IsFormula s0 s1 n (HoldSomeVariant order encoding o z (tagged_variants_in done x) 0 (length x)) k) h is)))

-- one more node is done
pub AreMade-push : (fs gs : List Formula) (order : Endian) (ns : List Node) (made new : List ℕ) (node place : ℕ) → AreMade fs order ns made →
    IsFormula fs gs (size_of (placed_at ns node)) (HoldCells order (placed_at ns node)) place → node ≡ length made → new ≡ made ++ place ∷ [] → AreMade gs order ns new
AreMade-push fs gs order ns made new node place all is next e k d lt =
    let long : length new ≡ length made + 1 = ap length e ∙ length-append made (place ∷ []) in
    ⊎_elim
    (λ before.
    subst (IsFormulaOf gs order (placed_at ns k)) (sym (ap (λ xs. get_or xs k d) e ∙ get_or_append_left made (place ∷ []) d k before))
    (AreMade-kept fs gs order ns made is.kept all k d before))
    (λ from.
    let here : length made ≡ k = omega (arith, long, lt, from) in
    let it : IsFormulaOf gs order (placed_at ns k) place =
    subst (λ j. IsFormulaOf gs order (placed_at ns j) place) (next ∙ here) (record { there = is.there; reads = is.reads }) in
    subst (IsFormulaOf gs order (placed_at ns k)) (sym (ap (λ xs. get_or xs k d) e ∙ get_or_push made place d k here)) it)
    (cases_lt k (length made))

-- the last one is the type's
pub type_made : (s0 s1 : List Formula) (order last : Endian) (ns ms : List Node) (made : List ℕ) (x k : ℕ) → Keeps s0 s1 → AreMade s1 order ns made → length made ≡ length ns → 0 < length ns →
    k ≡ length ns - 1 → x ≡ get_or made k x → ns ≡ ms → order ≡ last → IsFormula s0 s1 (size_of (root_of ms)) (HoldCells last (root_of ms)) x
type_made s0 s1 order last ns ms made x k kept all many some at is same order_is =
    let of : IsFormulaOf s1 order (placed_at ns k) x = subst (IsFormulaOf s1 order (placed_at ns k)) (sym is) (all k x (omega (arith, at, many, some))) in
    let root : IsFormulaOf s1 order (root_of ns) x = subst (λ j. IsFormulaOf s1 order (placed_at ns j) x) at of in
    let there : IsFormulaOf s1 last (root_of ms) x = subst (λ o. IsFormulaOf s1 o (root_of ms) x) order_is (subst (λ xs. IsFormulaOf s1 order (root_of xs) x) same root) in
    record { kept = kept; there = there.there; reads = there.reads }
