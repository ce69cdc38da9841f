-- The names that crates have for others.
use Rattle.std.specs.Prelude.{◌≡◌, ℕ, Bool, List, [], ◌∷◌, Option, None, Some, if◌then◌else◌}
use Rattle.std.specs.Option.{option_or}
use Rattle.indexmap.specs.IndexMap.{get}
use Rattle.abi_rust.specs.declared.extern_crates.ExternCrate.{ExternCrate}
use Rattle.abi_rust.specs.declared.scope.Scope.{Scope}
use Rattle.abi_rust.specs.Scope.{same_key}

-- the name, in the crate whose root module stands first, is this one's
abbrev pub is_crate_at : (root_and_name : ℕ × ℕ) → ExternCrate → Bool
is_crate_at k named = same_key (named.inside, named.name.0) k

-- the root module of the crate that has a name in a crate: of several the last
abbrev pub crate_at : List ExternCrate → (root_and_name : ℕ × ℕ) → Option ℕ
crate_at [] k = None
crate_at (named ∷ crates) k = option_or (crate_at crates k) (if is_crate_at k named then Some named.root else None)

-- each name of a crate is kept
abbrev pub KeepsCrates : List ExternCrate → Scope → Type 0
KeepsCrates crates scope = (k : ℕ × ℕ) → get same_key scope.crates k ≡ crate_at crates k
