-- Ways of globs, by which a module gets the names of others.
use Rattle.std.specs.Prelude.{ℕ, zero, suc, nat_eq, ◌&&◌, not, Bool, true, List, length, slice_get, Option, Some, None}
use Rattle.std.specs.Option.{option_and_then}
use Rattle.rust_source.specs.declared.item.Items.{Items}
use Rattle.abi_rust.specs.declared.ways.Glob.{Glob}
use Rattle.abi_rust.specs.declared.ways.Way.{Way}
use Rattle.abi_rust.specs.Visible.{is_visible}

-- the way at a place, if there is one
abbrev pub way_at : List Way → Option ℕ → Option Way
way_at ways at = option_and_then (slice_get ways) at

-- the last glob of the way is so, and all of the way before
abbrev pub all_step : (is : Way → Bool) → (go_on : Option Way → Bool) → List Way → Option Way → Bool
all_step is go_on ways None = true
all_step is go_on ways (Some way) = is way && go_on (way_at ways way.before)

-- each glob of the way is so, of which so many are looked at
abbrev pub all_on : (is : Way → Bool) → (most : ℕ) → List Way → Option Way → Bool
all_on is zero ways last = true
all_on is (suc most) ways last = all_step is (all_on is most ways) ways last

-- each glob of the way is so; a way has no more of them than there are ways
abbrev pub all_along : (is : Way → Bool) → List Way → Option Way → Bool
all_along is ways last = all_on is (length ways) ways last

-- what each glob of the way brings in may be used in the module
abbrev pub is_way_visible : Items → List Way → (from : ℕ) → Way → Bool
is_way_visible items ways from way = all_along (λ w. is_visible items w.glob.visible_in from) ways (Some way)

-- the way goes on by this glob: it doesn't lead back, and each module on the way sees what it brings in
abbrev pub leads_on : Items → List Way → (before : Option ℕ) → Glob → Bool
leads_on items ways before g =
    all_along (λ w. not (nat_eq w.glob.inside g.target) && is_visible items g.visible_in w.glob.inside) ways (way_at ways before)
