-- Lawful data layouts and lawful answers.
use Rattle.std.proofs.Common.{◌≡◌, ℕ, ◌*◌, ◌^◌, ◌<◌, ◌≤◌, Bool, true, false, Option, None, Some, Ok, Err, arith, inl, inr}
use Rattle.std.specs.Prelude.{◌⊎◌, IfOk, IfSome, Result, is_some, nat_lt, unwrap_or, if◌then◌else◌}
use Rattle.std.proofs.lemmas.List.Elements.{All-get_or}
use Rattle.std.proofs.Math.Nat.{dvd_trans, dvd-mul_right, mul-le-mul_left}
use Rattle.abi_base.specs.declared.data_layout.TargetDataLayout.{TargetDataLayout}
use Rattle.abi_base.specs.DataLayout.{IsLawfulDataLayout, IsPointerWidth, bound_of_pointer, size_bound, alignments_of}
use Rattle.abi_scalar.specs.declared.layout_data.LayoutData.{LayoutData}
use Rattle.abi_scalar.specs.declared.niche.Niche.{Niche}
use Rattle.abi_scalar.specs.declared.backend_repr.BackendRepr.TheVariants.{Memory}
use Rattle.abi_scalar.specs.declared.variants.Variants.TheVariants.{Single}
use Rattle.abi_scalar.specs.declared.error.LayoutCalculatorError.{LayoutCalculatorError}
use Rattle.abi_scalar.specs.declared.error.LayoutCalculatorError.TheVariants.{SizeOverflow}
use Rattle.abi_scalar.specs.Lawful.{IsLawfulLayout, IsLawfulNiche, IsNicheOfView}
use Rattle.abi_univariant.specs.Array.{array_answer, elements_layout}

bound_small_at : (bytes : ℕ) → IsPointerWidth bytes → bound_of_pointer bytes ≤ 2 ^ 61
bound_small_at bytes (inl e) = rw e (omega arith)
bound_small_at bytes (inr (inl e)) = rw e (omega arith)
bound_small_at bytes (inr (inr e)) = rw e (omega arith)

bound_some_at : (bytes : ℕ) → IsPointerWidth bytes → 0 < bound_of_pointer bytes
bound_some_at bytes (inl e) = rw e (omega arith)
bound_some_at bytes (inr (inl e)) = rw e (omega arith)
bound_some_at bytes (inr (inr e)) = rw e (omega arith)

pub bound_small : (dl : TargetDataLayout) → IsLawfulDataLayout dl → size_bound dl ≤ 2 ^ 61
bound_small dl h = bound_small_at dl.default_address_space_pointer_spec.pointer_size h.pointer

pub bound_some : (dl : TargetDataLayout) → IsLawfulDataLayout dl → 0 < size_bound dl
bound_some dl h = bound_some_at dl.default_address_space_pointer_spec.pointer_size h.pointer

-- lists have a small alignment of their own
pub aggregate_small : (dl : TargetDataLayout) → IsLawfulDataLayout dl → dl.aggregate_align ≤ 29
aggregate_small dl h = All-get_or (λ a. a ≤ 29) (alignments_of dl) 10 0 (omega arith) h.limit

-- a lawful niche of a type is one of a larger type
pub niche_within : (dl : TargetDataLayout) (small large : ℕ) (niche : Option Niche) → small ≤ large → IfSome niche (IsLawfulNiche dl small) → IfSome niche (IsLawfulNiche dl large)
niche_within dl small large None le h = tt
niche_within dl small large (Some niche) le h = record { inside = omega (arith, h.inside); pointer = h.pointer; within = h.within; free = h.free }

niche_kept : (dl : TargetDataLayout) (one all count : ℕ) (niche kept : Option Niche) → all ≡ one * count → (kept ≡ None) ⊎ ((kept ≡ niche) × (0 < count))
    → IfSome niche (IsLawfulNiche dl one) → IfSome kept (IsLawfulNiche dl all)
niche_kept dl one all count niche kept size (inl e) h = rw e tt
niche_kept dl one all count niche kept size (inr p) h =
    let more : one * 1 ≤ one * count = mul-le-mul_left one p.1 in
    let le : one ≤ all = omega arith in
    rw p.0 (niche_within dl one all niche le h)

any_niche : (sized : Bool) (niche : Option Niche) → IfSome niche (IsNicheOfView (Memory sized))
any_niche sized None = tt
any_niche sized (Some niche) = tt

-- an array's layout, by what it takes over from the element
pub array_lawful : {F V : Type 0} (dl : TargetDataLayout) (element layout : LayoutData F V) (first : V) (sized : Bool) (count : ℕ)
    → IsLawfulLayout dl element → layout.size ≡ element.size * count → layout.size < size_bound dl → layout.align.abi ≡ element.align.abi
    → (layout.largest_niche ≡ None) ⊎ ((layout.largest_niche ≡ element.largest_niche) × (0 < count))
    → layout.backend_repr ≡ Memory sized → layout.variants ≡ Single first → IsLawfulLayout dl layout
array_lawful dl element layout first sized count h size bound align niche view variants = record {
  multiple = rw (size, align) (dvd_trans (2 ^ element.align.abi) h.multiple (dvd-mul_right element.size count));
  bound = bound;
  limit = rw align h.limit;
  niche = niche_kept dl element.size layout.size count element.largest_niche layout.largest_niche size niche h.niche;
  view = rw view tt;
  niche_of_view = rw view (any_niche sized layout.largest_niche);
  tag = rw variants tt;
}

either_ok : {A E : Type 0} (P : A → Type 0) (layout : A) (error : E) (below : Bool) → P layout
    → IfOk (if below then Ok layout else Err error) P
either_ok P layout error true h = h
either_ok P layout error false h = tt

-- what holds of the elements' layout holds of an array's answer
pub array_ok : {F V H : Type 0} (P : LayoutData F V → Type 0) (first : V) (dl : TargetDataLayout)
    (element : LayoutData F V) (count_if_sized : Option ℕ)
    (result : Result (LayoutData F V) (LayoutCalculatorError H)) → result ≡ array_answer first dl element count_if_sized
    → P (elements_layout first (is_some count_if_sized) (unwrap_or count_if_sized 0) element) → IfOk result P
array_ok P first dl element count_if_sized result e h =
    let count : ℕ = unwrap_or count_if_sized 0 in
    rw e (either_ok P (elements_layout first (is_some count_if_sized) count element) SizeOverflow
    (nat_lt (element.size * count) (size_bound dl)) h)
