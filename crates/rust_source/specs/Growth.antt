-- What reading adds: what was there stays in front, in its order.
use Rattle.std.specs.Prelude.{◌≡◌, List, take, length}
use Rattle.rust_source.specs.declared.item.Items.{Items}

-- the list begins with the one in front
abbrev pub BeginsWith : {A : Type 0} → (whole front : List A) → Type 0
BeginsWith whole front = take (length front) whole ≡ front

-- what sources had before is in front of what they have after
pub record KeepsItems (before after : Items) : Type 0 where
  pub modules : BeginsWith after.modules.items before.modules.items
  pub items : BeginsWith after.items.items before.items.items
  pub uses : BeginsWith after.uses.items before.uses.items
