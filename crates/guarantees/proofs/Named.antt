-- The variant that bytes hold a value of.
use Rattle.std.proofs.Common.{◌≡◌, ℕ, List, Option, None, Some, refl, sym, ◌∙◌, subst}
use Rattle.std.specs.Prelude.{IfSome, MatchOption}
use Rattle.abi_base.specs.declared.endian.Endian.{Endian}
use Rattle.abi_tree.specs.Holding.{Holds}
use Rattle.abi_tree.specs.Placed.{Placed, single, tagged}
use Rattle.abi_tree.specs.Value.{Value, Values, variant}
use Rattle.guarantees.specs.Loaded.{IsNamed}
use Rattle.guarantees.proofs.Held.{inj-variant}

-- bytes that hold a variant have a tag that names it, or it is the only one
holds_named : (order : Endian) (placed : Placed) (b : List ℕ) (i : ℕ) (vs : Values) → Holds order placed b (variant i vs) → IsNamed order placed b i
holds_named order (single layout mark index parts) b i vs h = h.1
holds_named order (tagged layout mark offset tag encoding tagged_variants) b i vs h = h.2
holds_named order _ b i vs h = absurd h

-- the index of the variant that the value is of
abbrev pub IsIndexOf : Value → Option ℕ → Type 0
IsIndexOf v found = MatchOption found ((i : ℕ) (vs : Values) → v ≡ variant i vs → ⊥) (λ i. (vs : Values) × (v ≡ variant i vs))

pub named_here : (order : Endian) (placed : Placed) (b : List ℕ) (v : Value) (found : Option ℕ) → IsIndexOf v found → Holds order placed b v → IfSome found (IsNamed order placed b)
named_here order placed b v None is h = tt
named_here order placed b v (Some i) is h = holds_named order placed b i is.0 (subst (Holds order placed b) is.1 h)

pub same_index : (v : Value) (found : Option ℕ) → IsIndexOf v found → (i : ℕ) (vs : Values) → v ≡ variant i vs → found ≡ Some i
same_index v None is i vs e = absurd (is i vs e)
same_index v (Some j) is i vs e = let same : j ≡ i = (inj-variant j i is.0 vs (sym is.1 ∙ e)).0 in cc

pub no_index : (v : Value) (found : Option ℕ) → IsIndexOf v found → ((i : ℕ) (vs : Values) → v ≡ variant i vs → ⊥) → found ≡ None
no_index v None is none = refl
no_index v (Some i) is none = absurd (none i is.0 is.1)
