-- In which modules a name may be used.
use Rattle.std.specs.Prelude.{ℕ, zero, suc, nat_eq, Bool, true, false, slice_get, Option, Some, None, if◌then◌else◌}
use Rattle.std.specs.Option.{option_and_then}
use Rattle.rust_source.specs.declared.item.Items.{Items}

-- how many modules a module may be in
unfoldable pub most_modules : ℕ
most_modules = 256

-- the module that a module is in
abbrev pub parent : Items → (inside : ℕ) → Option ℕ
parent items m = option_and_then (λ found. found.parent) (slice_get items.modules.items m)

-- it is so of the module above, if there is one
abbrev pub so_above : (go_on : ℕ → Bool) → Option ℕ → Bool
so_above go_on None = false
so_above go_on (Some above) = go_on above

-- the module is this one, or it is in one that is, so many modules up
abbrev pub inside_within : (most : ℕ) → Items → (outer inside : ℕ) → Bool
inside_within zero items outer m = false
inside_within (suc most) items outer m = if nat_eq m outer then true else so_above (inside_within most items outer) (parent items m)

-- a module is another one, or stands inside it
unfoldable pub is_inside : Items → (outer inside : ℕ) → Bool
is_inside items outer m = inside_within most_modules items outer m

-- a name that may be used in a module, with all that stand inside it, or everywhere, may be used in this one
abbrev pub is_visible : Items → (visible_in : Option ℕ) → (inside : ℕ) → Bool
is_visible items None m = true
is_visible items (Some outer) m = is_inside items outer m
