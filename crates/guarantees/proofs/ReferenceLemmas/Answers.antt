-- What an answer without a refusal tells.
use Rattle.std.proofs.Common.{◌≡◌, suc, List, ◌∷◌, [], Option, None, Some, length, refl, ap, ◌∙◌, inl, inr, Ok, Err, Result}
use Rattle.std.specs.Prelude.{MatchOption}
use Rattle.abi_base.specs.declared.data_layout.TargetDataLayout.{TargetDataLayout}
use Rattle.abi_tree.specs.Placed.{Placed}
use Rattle.abi_scalar.specs.Layout.{Layout}
use Rattle.abi_tree.specs.Tree.{Variants, no_variants, more_variants}
use Rattle.rustc_abi.specs.declared.error.LayError.{LayError}
use Rattle.rustc_abi.specs.Enums.{discriminants_of}
use Rattle.rustc_abi.specs.Error.{Follows}
use Rattle.rustc_abi.specs.Laying.{VariantsLaying, unless}

abbrev ok : Placed → Result Placed LayError
ok placed = Ok placed

pub inj-Ok : (p q : Placed) → ok p ≡ ok q → p ≡ q
inj-Ok p q e = cc

pub no_error : (p : Placed) (e : LayError) → ok p ≡ Err e → ⊥
no_error p e is = cc

-- what is answered where there is no fault
pub faultless : (s p : Placed) (fault : Option LayError) → Ok p ≡ unless fault (Ok s) → p ≡ s
faultless s p None e = inj-Ok p s e
faultless s p (Some f) e = absurd (no_error p f e)

-- a type with the calculator's layout, where it has no fault of its own
pub laid_by : (fault : Option LayError) (P : Result Layout LayError → Type 0) (make : Layout → Placed) (p : Placed)
    → MatchOption fault (Follows P (λ layout r. r ≡ Ok (make layout)) (Ok p)) (λ e. Ok p ≡ Err e)
    → (layout : Layout) × P (Ok layout) × (make layout ≡ p) × (fault ≡ None)
laid_by None P make p (inl f) = absurd (cc f.2)
laid_by None P make p (inr (layout, made, e)) = (layout, made, cc, refl)
laid_by (Some f) P make p e = absurd (cc)

-- each variant has its discriminant
pub numbers_for : (dl : TargetDataLayout) (all : Variants) (variants : List (List Placed)) → VariantsLaying dl all (Ok variants)
    → length (discriminants_of all) ≡ length variants
numbers_for dl no_variants variants h = let none : [] ≡ variants = cc in ap length none
numbers_for dl (more_variants d ts others) variants (inl f) = absurd (cc f.2)
numbers_for dl (more_variants d ts others) variants (inr (ps, here, inl f)) = absurd (cc f.2)
numbers_for dl (more_variants d ts others) variants (inr (ps, here, inr (rest, later, e))) =
    let same : ps ∷ rest ≡ variants = cc in ap suc (numbers_for dl others rest later) ∙ ap length same
