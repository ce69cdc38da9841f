-- Lists that keep up to two items in themselves.
use Rattle.std.specs.Prelude.{◌≡◌, ℕ, ◌*◌, ◌^◌, ◌<◌, ◌≤◌, List, [], ◌∷◌, ◌++◌, length, Result, IsOk, OnOk, OnErr}
use Rattle.std.specs.Borrow.{RattleType, Array}
use Rattle.std.specs.Mem.{FitsInMemory}
use Rattle.abi_index.specs.declared.inline_vec.Front.{Front}
use Rattle.abi_index.specs.declared.inline_vec.Front.TheVariants.{Empty, One, Two}

-- two items of the type, side by side, take fewer than 2 ^ 63 bytes, as is so of each type that has a value
abbrev pub TwoFit : RattleType → Type 0
TwoFit R = FitsInMemory (Array R 2)

-- what is kept of a list: its items, and for how many the allocation has room
pub record Kept (T : Type 0) : Type 0 where
  pub items : List T
  pub room : ℕ

module _ {T : Type 0} where
  -- the items of a list: those that it has in itself, or else those that lie in an allocation
  abbrev pub inline_items : Front T → List T → List T
  inline_items Empty rest = rest
  inline_items (One item) rest = item ∷ []
  inline_items (Two pair) rest = pair.first ∷ pair.second ∷ []

  -- a list that has items in itself has none in an allocation, and two of them, of so many bytes each, fit in memory
  abbrev pub IsAlone : ℕ → Front T → List T → Type 0
  IsAlone bytes Empty rest = Unit {0}
  IsAlone bytes (One item) rest = (2 * bytes < 2 ^ 63) × (length rest ≡ 0)
  IsAlone bytes (Two pair) rest = (2 * bytes < 2 ^ 63) × (length rest ≡ 0)

-- What putting an item last does to a list of such items.
pub record IsPush {T A E : Type 0} (R : RattleType) (item : T) (old new : Kept T) (result : Result A E) : Type 0 where
  pub ok : OnOk result (new.items ≡ old.items ++ item ∷ [])
  -- where growth is refused, the list is as it was
  pub err : OnErr result (new ≡ old)
  -- a list that then has at most two items asks for no memory
  pub inline : TwoFit R → length old.items < 2 → IsOk result × (new.room ≡ old.room)
  -- nor does one that has room for the item
  pub reserved : length old.items < old.room → IsOk result
  pub kept : old.room ≤ new.room
