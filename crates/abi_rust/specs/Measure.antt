-- How large a type is, and which fields a transparent type may have.
use Rattle.std.specs.Prelude.{◌≡◌, ℕ, ◌^◌, ◌&&◌, ◌||◌, not, nat_eq, nat_lt, count_by, Bool, true, List, [], ◌∷◌, length, None, Result, Ok, Err, if◌then◌else◌}
use Rattle.abi_base.specs.DataLayout.{IsLawfulDataLayout}
use Rattle.abi_base.specs.declared.data_layout.TargetDataLayout.{TargetDataLayout}
use Rattle.abi_tree.specs.Placed.{Placed, layout_of}
use Rattle.abi_tree.specs.Tree.{Tree}
use Rattle.rust_source.specs.declared.item.Item.{Item}
use Rattle.rustc_abi.specs.Laying.{IsLaying}
use Rattle.rustc_abi.specs.declared.error.LayError.{LayError}
use Rattle.rustc_abi.specs.declared.error.LayError.TheVariants.{UnlawfulDataLayout}
use Rattle.abi_rust.specs.Aligned.{place_of_repr}
use Rattle.abi_rust.specs.Meaning.{Meaning, then_meant, fault_at}
use Rattle.abi_rust.specs.declared.fault.FaultKind.TheVariants.{Layout, TransparentFields}
use Rattle.abi_rust.specs.declared.fault.Stop.TheVariants.{Fault}

-- what each of a list means, or the first fault
abbrev pub each_meant : {A B : Type 0} → (A → Meaning B) → List A → Meaning (List B)
each_meant f [] = Ok []
each_meant f (a ∷ rest) = then_meant (λ b. then_meant (λ bs. Ok (b ∷ bs)) (each_meant f rest)) (f a)

-- the size and the alignment of a type, in bytes
abbrev pub Measure : Type 0
Measure = Tree → Meaning (ℕ × ℕ)

-- those of what was laid out, or why nothing was
abbrev pub measured : Result Placed LayError → Meaning (ℕ × ℕ)
measured (Ok p) = Ok ((layout_of p).size, 2 ^ (layout_of p).align.abi)
measured (Err e) = Err (Fault None (Layout e))

-- each type is as large as it is laid out under the data layout; under one that isn't lawful none is laid out
pub record IsMeasure (dl : TargetDataLayout) (m : Measure) : Type 0 where
  pub lawful : IsLawfulDataLayout dl → (t : Tree) (r : Result Placed LayError) → IsLaying dl t r → m t ≡ measured r
  pub unlawful : (IsLawfulDataLayout dl → ⊥) → (t : Tree) → m t ≡ Err (Fault None (Layout UnlawfulDataLayout))

-- it has bytes, or is aligned to more than one
abbrev pub takes_room : ℕ × ℕ → Bool
takes_room s = not (nat_eq s.0 0) || not (nat_eq s.1 1)

module _ (m : Measure) where
  -- how many of these types take room
  abbrev pub room_takers : List Tree → Meaning ℕ
  room_takers ts = then_meant (λ sizes. Ok (count_by takes_room sizes)) (each_meant m ts)

  -- at most one field of a transparent type takes room
  unfoldable pub transparent_checked : Item → List Tree → Meaning Bool
  transparent_checked it ts =
      if it.repr.transparent && nat_lt 1 (length ts)
      then then_meant (λ n. if nat_lt 1 n then fault_at (place_of_repr it) TransparentFields else Ok true) (room_takers ts)
      else Ok true
