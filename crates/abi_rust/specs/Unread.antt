-- Modules whose items are read, and others.
use Rattle.std.specs.Prelude.{ℕ, Bool, false, slice_get, unwrap_or}
use Rattle.rust_source.specs.declared.item.Items.{Items}

-- the items of this module were read: those of a `mod name;` stand in another file, which may not be
abbrev pub is_read : Items → (inside : ℕ) → Bool
is_read items m = unwrap_or (slice_get items.are_read.items m) false
