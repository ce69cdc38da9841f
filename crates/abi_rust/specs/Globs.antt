-- What globs lead to.
use Rattle.std.specs.Prelude.{◌≡◌, ◌⊎◌, ℕ, zero, suc, ◌+◌, ◌&&◌, nat_eq, nat_lt, Bool, true, false, List, [], ◌∷◌, ◌++◌, length, map, slice_get, slice_index_or, slice_set, Option, Some, None, Vec, if◌then◌else◌}
use Rattle.std.specs.List.{list_any}
use Rattle.std.specs.Option.{option_map}
use Rattle.rust_source.specs.declared.item.Items.{Items}
use Rattle.rust_source.specs.declared.item.Use.{Use}
use Rattle.abi_rust.specs.declared.paths.Resolution.{Resolution}
use Rattle.abi_rust.specs.declared.paths.Resolution.TheVariants.{Module, Item}
use Rattle.abi_rust.specs.declared.paths.Space.TheVariants.{Types}
use Rattle.abi_rust.specs.declared.scope.Scope.{Scope}
use Rattle.abi_rust.specs.declared.ways.Glob.{Glob}
use Rattle.abi_rust.specs.declared.ways.Way.{Way}
use Rattle.abi_rust.specs.Names.{module_found, most_uses, target_in, use_targets}
use Rattle.abi_rust.specs.Scope.{nowhere, numbered, reached_from}
use Rattle.abi_rust.specs.ScopeNames.{HasSameNames}
use Rattle.abi_rust.specs.Unread.{is_read}
use Rattle.abi_rust.specs.Ways.{leads_on}

-- how many ways of globs are kept of a module
unfoldable pub most_ways : ℕ
most_ways = 4096

-- the lists that are kept, one a module
abbrev pub lists_of : {A S : Type 0} → List (Vec A S) → List (List A)
lists_of all = map (λ xs. xs.items) all

-- a use as a glob that leads there
abbrev pub glob_to : Use → (target : ℕ) → Glob
glob_to u target = record { inside = u.«module»; target = target; visible_in = u.visible_in }

-- the module that is found, and none where it is this one
abbrev pub other_than : (inside : ℕ) → Option ℕ → Option ℕ
other_than m None = None
other_than m (Some found) = if nat_eq found m then None else Some found

-- the use of this number as a glob, if it is one: it leads to the module that its path names, but not to the one that it
-- stands in
abbrev pub glob_target : Scope → (use_number : ℕ) → Use → Option Glob
glob_target scope n u =
    if u.is_glob then option_map (glob_to u) (other_than u.«module» (module_found (target_in scope.use_targets.items n Types))) else None

-- nowhere, but for a module that is read, and for an item: the glob of an enum brings in its variants, which are no types
abbrev pub nowhere_by : Items → Option Resolution → Option ℕ
nowhere_by items (Some (Module m)) = if is_read items m then None else Some nowhere
nowhere_by items (Some (Item n)) = None
nowhere_by items _ = Some nowhere

-- the use of this number as a glob, if it is one that leads to nothing that is read
abbrev pub lost_target : Items → Scope → (use_number : ℕ) → Use → Option Glob
lost_target items scope n u =
    if u.is_glob then option_map (glob_to u) (nowhere_by items (target_in scope.use_targets.items n Types)) else None

-- they are the same module, or no module both
abbrev pub same_visibility : Option ℕ → Option ℕ → Bool
same_visibility None None = true
same_visibility (Some m) (Some n) = nat_eq m n
same_visibility _ _ = false

-- two globs of a module lead to one, and what they bring in may be used in one
abbrev pub is_same_glob : Glob → Glob → Bool
is_same_glob a b = nat_eq a.target b.target && same_visibility a.visible_in b.visible_in

-- the glob is in the list
abbrev pub is_in : List Glob → Glob → Bool
is_in gs g = list_any (λ other. is_same_glob other g) gs

-- the globs of a list, and this one behind them, unless it is there
abbrev pub with_glob : List Glob → Glob → List Glob
with_glob gs g = if is_in gs g then gs else gs ++ g ∷ []

-- the list of a module, which is empty where there is none
abbrev pub list_at : {A : Type 0} → (lists : List (List A)) → (inside : ℕ) → List A
list_at lists m = slice_index_or lists m []

-- the lists, with one more in the list of the module that it stands in; nothing is added where there is no such list
abbrev pub with_target : (lists : List (List Glob)) → Option Glob → List (List Glob)
with_target lists None = lists
with_target lists (Some g) = slice_set lists g.inside (with_glob (list_at lists g.inside) g)

-- the lists with the globs that these uses are, each behind the others of the module that the use stands in; the first of
-- the uses has this number
abbrev pub with_globs : (target_of : (use_number : ℕ) → Use → Option Glob) → (use_number : ℕ) → List Use → (lists : List (List Glob)) → List (List Glob)
with_globs target_of n [] lists = lists
with_globs target_of n (u ∷ us) lists = with_globs target_of (n + 1) us (with_target lists (target_of (numbered n) u))

-- each module's own globs, beside those that were known, where names stand as this scope says
abbrev pub globs_added : Items → Scope → (direct : List (List Glob)) → List (List Glob)
globs_added items scope direct = with_globs (glob_target scope) 0 items.uses.items direct

-- each module's own globs, and behind those the ones that lead nowhere
abbrev pub lost_added : Items → Scope → (direct : List (List Glob)) → List (List Glob)
lost_added items scope direct = with_globs (lost_target items scope) 0 items.uses.items direct

-- a way that leads to nothing that is read
abbrev pub lost_way : Way
lost_way = record { glob = record { inside = nowhere; target = nowhere; visible_in = None }; before = None }

-- the ways, and one to nothing that is read where some may have been left out
abbrev pub if_all : List Way → List Way
if_all ways = if nat_lt (length ways) most_ways then ways else ways ++ lost_way ∷ []

module _ (items : Items) where
  -- the ways, and the one before with this glob, if it goes on by it and there is room
  abbrev pub with_way : List Way → (before : Option ℕ) → Glob → List Way
  with_way ways before g =
      if nat_lt (length ways) most_ways && leads_on items ways before g
      then ways ++ (record { glob = g; before = before }) ∷ []
      else ways

  -- the ways, and the one before with each of these globs
  abbrev pub with_ways : List Way → (before : Option ℕ) → (more : List Glob) → List Way
  with_ways ways before [] = ways
  with_ways ways before (g ∷ more) = with_ways (with_way ways before g) before more

  -- the ways on from the one at this index, if there is one, by the own globs of the module at its end
  abbrev pub with_next : (direct : List (List Glob)) → (index : ℕ) → List Way → Option Way → List Way
  with_next direct i ways None = ways
  with_next direct i ways (Some way) = with_ways ways (Some (numbered i)) (list_at direct way.glob.target)

  -- the ways, and those on from the one at this index and from those behind it, so many of them, one after another, those
  -- too that are added
  abbrev pub led_from : (direct : List (List Glob)) → (count : ℕ) → (index : ℕ) → List Way → List Way
  led_from direct zero i ways = ways
  led_from direct (suc count) i ways = led_from direct count (i + 1) (with_next direct i ways (slice_get ways i))

  -- the ways that begin with these globs
  abbrev pub led_to : (direct : List (List Glob)) → List Glob → List Way
  led_to direct own = if_all (led_from direct most_ways 0 (with_ways [] None own))

-- each module's own globs before the first round: none
abbrev pub none_direct : Items → List (List Glob)
none_direct items = map (λ m. []) items.modules.items

-- each module has the ways that begin with its own globs, and each use brings in what it names by these
pub record Leads (items : Items) (direct : List (List Glob)) (scope : Scope) : Type 0 where
  pub ways : (m : ℕ) → reached_from scope m ≡ led_to items direct (list_at direct m)
  pub targets : scope.use_targets.items ≡ use_targets items scope most_uses

-- the scope after so many rounds, and each module's own globs then: in each round names stand as the scope
-- says that the round before left
pub data AreRounds (items : Items) : (rounds : ℕ) → (direct : List (List Glob)) → Scope → Type 0 where
  no_round : (scope : Scope) → Leads items (none_direct items) scope → AreRounds items 0 (none_direct items) scope
  round : (rounds : ℕ) (direct : List (List Glob)) (before after : Scope) → AreRounds items rounds direct before
      → HasSameNames before after → Leads items (globs_added items before direct) after
      → AreRounds items (rounds + 1) (globs_added items before direct) after

-- rounds were made until no glob led further, or as many as there are uses and one more
pub record AreFollowed (items : Items) (direct : List (List Glob)) (scope : Scope) : Type 0 where
  pub rounds : ℕ
  pub made : AreRounds items rounds direct scope
  pub over : (globs_added items scope direct ≡ direct) ⊎ (rounds ≡ length items.uses.items + 1)

-- each module reaches where its globs lead, when all of them were followed, and nowhere, if one of those leads there
pub record KeepsGlobs (items : Items) (scope : Scope) : Type 0 where
  pub direct : List (List Glob)
  pub before : Scope
  pub followed : AreFollowed items direct before
  pub same : HasSameNames before scope
  pub leads : Leads items (lost_added items before direct) scope
