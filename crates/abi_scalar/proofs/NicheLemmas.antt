-- When a scalar has a niche.
use Rattle.std.proofs.Common.{subst, ◌≡◌, ℕ, ◌==◌, ◌↔◌, Bool, true, false, Option, Some, None, IsSome, if◌then◌else◌, eq-eqb, sym, ◌∙◌, refl}
use Rattle.std.proofs.lemmas.Bool.{eqb-true, false≢true}
use Rattle.abi_base.specs.declared.data_layout.TargetDataLayout.{TargetDataLayout}
use Rattle.abi_base.specs.Primitive.{primitive_size}
use Rattle.abi_scalar.specs.declared.niche.Niche.{Niche}
use Rattle.abi_scalar.specs.declared.scalar.Scalar.{Scalar}
use Rattle.abi_scalar.specs.declared.scalar.Scalar.TheVariants.{Initialized, Union}
use Rattle.abi_scalar.specs.Range.{free_count}
use Rattle.abi_scalar.specs.Scalar.{IsWellFormed}
use Rattle.abi_scalar.specs.Niche.{niche_at, HasFreeNumber, IsWellFormedNiche}
use Rattle.abi_scalar.proofs.RangeLemmas.{free_after, none_free}

-- a choice by a test is there where the test fails
there_iff : (b : Bool) {A P : Type 0} (x : A) → (b ≡ false → P) → (P → b ≡ true → ⊥) → IsSome (if b then None else Some x) ↔ P
there_iff true x to from = (λ t. absurd (false≢true t), λ p. absurd (from p refl))
there_iff false x to from = (λ t. to refl, λ p. refl)

pub niche_there : (dl : TargetDataLayout) (offset : ℕ) (s : Scalar) → IsWellFormed dl s
    → IsSome (niche_at dl offset s) ↔ HasFreeNumber dl s
niche_there dl offset (Initialized value range) r =
    let width = primitive_size dl value in
    let free = free_count width range in
    let niche : Niche = record { offset = offset; value = value; valid_range = range } in
    there_iff (free == 0) niche
    (λ off. free_after width range r.within (λ none. false≢true (sym off ∙ eq-eqb free 0 none)))
    (λ p on. p.1.1 (none_free width range p.0 r.within (eqb-true free 0 on) p.1.0))
niche_there dl offset (Union value) r = (λ t. absurd (false≢true t), λ p. absurd p)

-- the same of what is known to be that niche
pub niche_there_at : (dl : TargetDataLayout) (offset : ℕ) (s : Scalar) (found : Option Niche) → IsWellFormed dl s
    → found ≡ niche_at dl offset s → IsSome found ↔ HasFreeNumber dl s
niche_there_at dl offset s found r e = rw e (niche_there dl offset s r)

chosen : (b : Bool) {A : Type 0} (x y : A) → (if b then None else Some x) ≡ Some y → x ≡ y
chosen true x y e = cc
chosen false x y e = cc

-- the niche of a scalar that can be asked for its numbers can be asked too
pub niche_readable : (dl : TargetDataLayout) (offset : ℕ) (s : Scalar) (niche : Niche) → IsWellFormed dl s
    → Some niche ≡ niche_at dl offset s → IsWellFormedNiche dl niche
niche_readable dl offset (Initialized value range) niche r e =
    let own : Niche = record { offset = offset; value = value; valid_range = range } in
    let P : Niche → Type 0 = λ n. IsWellFormedNiche dl n in
    subst P (chosen (free_count (primitive_size dl value) range == 0) own niche (sym e))
    (record { known = r.known; some = r.some; most = r.most; within = r.within })
niche_readable dl offset (Union value) niche r e = cc
