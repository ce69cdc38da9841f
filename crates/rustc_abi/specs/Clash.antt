-- What the locals of a coroutine may share: those that clash share no byte, and each has one place.
use Rattle.std.specs.Prelude.{◌≡◌, ◌≢◌, ℕ, zero, suc, ◌+◌, ◌≤◌, ◌⊎◌, Contains, List, slice_get, Some, ⊤}
use Rattle.abi_tree.specs.Tree.{Tree, coroutine}
use Rattle.abi_tree.specs.Placed.{Placed, states as placed_states, Parts, no_parts, part, TaggedVariants, parts_of_tagged_variant, size_of}

-- two locals clash where some state holds both, or a pair of the conflicts names them, in either order
abbrev pub DoLocalsClash : (states : List (List ℕ)) → (conflicts : List (ℕ × ℕ)) → (a b : ℕ) → Type 0
DoLocalsClash states conflicts a b =
    ((state : List ℕ) × Contains states state × Contains state a × Contains state b) ⊎ Contains conflicts (a, b) ⊎ Contains conflicts (b, a)

-- the part at this place is this type at this offset
abbrev pub IsPart : Parts → (place offset : ℕ) → Placed → Type 0
IsPart no_parts k o p = ⊥
IsPart (part offset placed parts) zero o p = (offset ≡ o) × (placed ≡ p)
IsPart (part offset placed parts) (suc k) o p = IsPart parts k o p

-- some state holds the local, and has it as this type at this offset
abbrev pub HasLocal : (states : List (List ℕ)) → TaggedVariants → (local offset : ℕ) → Placed → Type 0
HasLocal states tagged_variants local offset placed =
    (i : ℕ) × (state : List ℕ) × (place : ℕ) × (slice_get states i ≡ Some state) × (slice_get state place ≡ Some local) × IsPart (parts_of_tagged_variant tagged_variants i) place offset placed

-- two different locals of a coroutine that clash share no byte, wherever states have them; of other types nothing is said
abbrev pub AreClashingLocalsApart : Tree → Placed → Type 0
AreClashingLocalsApart (coroutine prefix locals all conflicts) (placed_states layout pre offset tag tagged_variants) =
    (a b o p : ℕ) (x y : Placed) → a ≢ b → DoLocalsClash all conflicts a b → HasLocal all tagged_variants a o x → HasLocal all tagged_variants b p y → (o + size_of x ≤ p) ⊎ (p + size_of y ≤ o)
AreClashingLocalsApart _ placed = ⊤

-- a local of a coroutine lies at one offset, whatever states hold it; of other types nothing is said
abbrev pub HaveLocalsOneOffset : Tree → Placed → Type 0
HaveLocalsOneOffset (coroutine prefix locals all conflicts) (placed_states layout pre offset tag tagged_variants) =
    (local o p : ℕ) (x y : Placed) → HasLocal all tagged_variants local o x → HasLocal all tagged_variants local p y → o ≡ p
HaveLocalsOneOffset _ placed = ⊤
