-- Enums whose variants globs bring in.
use Rattle.std.specs.Prelude.{ℕ, ◌+◌, nat_eq, List, [], ◌∷◌, Option, None, Some, if◌then◌else◌}
use Rattle.rust_source.specs.declared.item.Items.{Items}
use Rattle.rust_source.specs.declared.item.Use.{Use}
use Rattle.abi_rust.specs.declared.paths.Resolution.{Resolution}
use Rattle.abi_rust.specs.declared.paths.Resolution.TheVariants.{Item}
use Rattle.abi_rust.specs.declared.paths.Space.TheVariants.{Types}
use Rattle.abi_rust.specs.declared.use_targets.UseTarget.{UseTarget}
use Rattle.abi_rust.specs.Names.{target_in}
use Rattle.abi_rust.specs.Scope.{numbered, several}

-- the item that is found
abbrev pub item_found : Option Resolution → Option ℕ
item_found (Some (Item n)) = Some n
item_found _ = None

-- both of two, where there are: several where they differ
abbrev pub both : Option ℕ → Option ℕ → Option ℕ
both None other = other
both (Some n) None = Some n
both (Some n) (Some m) = Some (if nat_eq n m then n else several)

module _ (targets : List UseTarget) where
  -- the item whose variants a use brings in that is a glob of one
  abbrev pub enum_of_use : (use_number : ℕ) → Use → Option ℕ
  enum_of_use n u = if u.is_glob then item_found (target_in targets n Types) else None

  -- the item whose variants the globs of these uses bring into a module, several where there are; the first of the uses has
  -- this number
  abbrev pub enum_among : (use_number : ℕ) → List Use → (inside : ℕ) → Option ℕ
  enum_among n [] m = None
  enum_among n (u ∷ us) m =
      both (if nat_eq u.«module» m then enum_of_use (numbered n) u else None) (enum_among (n + 1) us m)

-- the item whose variants a module's globs bring in, several where there are
abbrev pub enum_brought : Items → List UseTarget → (inside : ℕ) → Option ℕ
enum_brought items targets m = enum_among targets 0 items.uses.items m
