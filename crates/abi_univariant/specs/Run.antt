-- The layout that is named for a list of parts: biased to the start, or to the end where that brings its niche nearer to an
-- edge.
use Rattle.std.specs.Prelude.{◌≡◌, ◌⊎◌, ℕ, Option, None, Some, List, Bool, false, if◌then◌else◌, MatchBool, MatchOption, length, map, nat_lt, slice_index}
use Rattle.abi_base.specs.declared.data_layout.TargetDataLayout.{TargetDataLayout}
use Rattle.abi_base.specs.declared.struct_kind.StructKind.{StructKind}
use Rattle.abi_base.specs.declared.struct_kind.StructKind.TheVariants.{AlwaysSized, MaybeUnsized, Prefixed}
use Rattle.abi_base.specs.DataLayout.{size_bound}
use Rattle.abi_scalar.specs.declared.niche.Niche.{Niche}
use Rattle.abi_univariant.specs.declared.fields_repr.FieldsRepr.{FieldsRepr}
use Rattle.abi_univariant.specs.declared.part.Part.{Part}
use Rattle.abi_univariant.specs.declared.order.NicheBias.{NicheBias}
use Rattle.abi_univariant.specs.declared.order.NicheBias.TheVariants.{Start, End}
use Rattle.abi_univariant.specs.declared.placing.FieldsFault.{FieldsFault}
use Rattle.abi_univariant.specs.declared.placing.FieldsFault.TheVariants.{OutOfMemory}
use Rattle.abi_univariant.specs.Fault.{fault_in}
use Rattle.abi_univariant.specs.ListNiche.{begins_after, niche_in, space_beside}
use Rattle.abi_univariant.specs.Order.{IsNamedOrder}
use Rattle.abi_univariant.specs.Placement.{IsAllowed, align_of, in_order, offsets_from, size_in, start_of}

-- The list laid out in an order, with the niche that the bias takes: these are the offsets in source order.
pub record IsPlacedIn (dl : TargetDataLayout) (repr : FieldsRepr) (bias : NicheBias) (parts : List Part) (order offsets : List ℕ) (size align : ℕ) (niche : Option Niche) : Type 0 where
  pub count : length offsets ≡ length parts
  pub places : map (slice_index offsets) order ≡ offsets_from repr.pack (start_of repr.pack repr.kind) (in_order parts order)
  pub extent : size ≡ size_in repr parts order
  pub alignment : align ≡ align_of repr parts
  pub largest : niche ≡ niche_in dl repr bias parts order
  pub faultless : fault_in repr (size_bound dl) parts order ≡ None

-- The list laid out in an order that is allowed, with the niche that one of the biases takes.
pub record IsInOrder (dl : TargetDataLayout) (repr : FieldsRepr) (parts : List Part) (order offsets : List ℕ) (size align : ℕ) (niche : Option Niche) : Type 0 where
  pub allowed : IsAllowed repr (length parts) order
  pub bias : NicheBias
  pub placed : IsPlacedIn dl repr bias parts order offsets size align niche

-- a list whose last field may be unsized keeps its first layout, as does one of a single field
abbrev pub may_move : StructKind → (count : ℕ) → Bool
may_move AlwaysSized count = nat_lt 1 count
may_move MaybeUnsized count = false
may_move (Prefixed size align) count = nat_lt 1 count

-- how far the second layout's niche has to begin from the front, if it is tried
abbrev pub space_wanted : TargetDataLayout → FieldsRepr → List Part → (first : List ℕ) → Option ℕ
space_wanted dl repr parts first =
    if may_move repr.kind (length parts) then space_beside dl (size_in repr parts first) (niche_in dl repr Start parts first) else None

-- The layout that is named: the fields lie in the first order, that of a bias to the start, unless a second one, of a bias to
-- the end, has its niche begin after the space before and after the first one's.
abbrev pub IsRun : TargetDataLayout → FieldsRepr → List Part → (first order offsets : List ℕ) → (size align : ℕ) → Option Niche → Type 0
IsRun dl repr parts first order offsets size align niche =
    MatchOption (space_wanted dl repr parts first) ((order ≡ first) × IsPlacedIn dl repr Start parts order offsets size align niche) (λ space.
    (second : List ℕ) × IsNamedOrder repr End parts second
    × MatchBool (begins_after space (niche_in dl repr End parts second))
    ((order ≡ second) × IsPlacedIn dl repr End parts order offsets size align niche)
    ((order ≡ first) × IsPlacedIn dl repr Start parts order offsets size align niche))

-- the first order has no fault, and the layout is the one that is named
abbrev pub IsNamedLayout : TargetDataLayout → FieldsRepr → List Part → (order offsets : List ℕ) → (size align : ℕ) → Option Niche → Type 0
IsNamedLayout dl repr parts order offsets size align niche =
    (first : List ℕ) × IsNamedOrder repr Start parts first × (fault_in repr (size_bound dl) parts first ≡ None)
    × IsRun dl repr parts first order offsets size align niche

-- the fault is the first one in the order that is named for the bias, or that memory ran out
abbrev pub IsFaultOf : TargetDataLayout → FieldsRepr → NicheBias → List Part → FieldsFault → Type 0
IsFaultOf dl repr bias parts fault =
    ((order : List ℕ) × IsNamedOrder repr bias parts order × (fault_in repr (size_bound dl) parts order ≡ Some fault)) ⊎ (fault ≡ OutOfMemory)
