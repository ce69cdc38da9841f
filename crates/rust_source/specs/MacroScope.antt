-- Which macro of a crate a call means, by where both stand: one is in scope behind its definition, in its module and in those within it, and where
-- `macro_use` stands at its module, in the one around, too (Rust Reference, "Macros by example", scopes by text).
use Rattle.std.specs.Prelude.{ℕ, ◌==◌, ◌&&◌, ◌||◌, Bool, false, not, is_some, nat_le, nat_lt, slice_get, List, [], ◌∷◌, Option, None, Some, if◌then◌else◌}
use Rattle.rust_source.specs.declared.item.Macro.{Macro}
use Rattle.rust_source.specs.declared.item.Module.{Module}
use Rattle.rust_source.specs.declared.item.Wrapping.{Wrapping}
use Rattle.rust_source.specs.declared.place.Place.{Place}
use Rattle.rust_source.specs.declared.place.Symbol.{Symbol}
use Rattle.rust_source.specs.declared.reader.cursor.Cursor.{Cursor}
use Rattle.rust_source.specs.Cursor.{place}
use Rattle.rust_source.specs.Items.{ItemsRead}
use Rattle.rust_source.specs.Visibility.{child_towards, root_around}

-- where the root's source names the module of another file that a module is, or stands in
abbrev pub entry_by : Option Module → Option Place
entry_by None = None
entry_by (Some m) = m.entry

abbrev pub entry_of : List Module → (number : ℕ) → Option Place
entry_of modules number = entry_by (slice_get modules number)

-- the macros of a module are the root's, too
abbrev pub shares_by : Option Module → Bool
shares_by None = false
shares_by (Some m) = m.shares_macros

abbrev pub shares_macros : List Module → (number : ℕ) → Bool
shares_macros modules number = shares_by (slice_get modules number)

-- the macro has this name, and the root is around it
abbrev pub is_macro_of : List Module → (root : ℕ) → Symbol → Macro → Bool
is_macro_of modules root s m = (m.name.0 == s.0) && (root_around modules m.«module» == root)

-- the last of these that does, or the one before them
abbrev pub last_from : List Module → (root : ℕ) → Symbol → (found : Option Macro) → List Macro → Option Macro
last_from modules root s found [] = found
last_from modules root s found (m ∷ ms) = last_from modules root s (if is_macro_of modules root s m then Some m else found) ms

-- the last macro of this name in the crate with this root
unfoldable pub last_macro : ItemsRead → (root : ℕ) → Symbol → Option Macro
last_macro items root s = last_from items.modules root s None items.macros

-- the module is the one with this number, or around it
abbrev pub is_around : List Module → (outer number : ℕ) → Bool
is_around modules outer number = (outer == number) || is_some (child_towards modules outer number)

-- the macro stands in this source, in the module with this number or around it
abbrev pub is_in_scope : List Module → (start number : ℕ) → Macro → Bool
is_in_scope modules start number m = nat_le start m.at.0 && is_around modules m.«module» number

-- how it wraps the items of a call, where it is in scope
abbrev pub wrapping_there : List Module → (start number : ℕ) → Option Macro → Option Wrapping
wrapping_there modules start number None = None
wrapping_there modules start number (Some m) = if is_in_scope modules start number m then m.wrapping else None

-- how the macro of this name wraps the items of a call, where it stands in the source before it
abbrev pub wrapping_by_name : ItemsRead → (start number : ℕ) → Symbol → Option Wrapping
wrapping_by_name items start number s =
    wrapping_there items.modules start number (last_macro items (root_around items.modules number) s)

-- the known macro of this name, of the crate with this root
abbrev pub known_in : (root : ℕ) → Symbol → List Macro → Option Macro
known_in root s [] = None
known_in root s (m ∷ ms) = if (m.«module» == root) && (m.name.0 == s.0) then Some m else known_in root s ms

-- the place, or else another one
abbrev pub place_or : (other : Place) → Option Place → Place
place_or other None = other
place_or other (Some at) = at

-- a call in the module with this number stands behind a place of the root's source: itself, or the module's file
abbrev pub is_behind : List Module → (number : ℕ) → Cursor → Place → Bool
is_behind modules number c at = nat_lt at.0 (place_or (place c) (entry_of modules number)).0

-- how items are wrapped that one macro hands on to another, which takes a predicate
abbrev pub handed_on : (first : Wrapping) → (second : Option Wrapping) → Option Wrapping
handed_on first None = None
handed_on first (Some second) =
    if second.takes_predicate then Some (record { stands = first.stands && second.stands; takes_predicate = false; through = None }) else None

module _ (has_macro_use : Bool) (items : ItemsRead) (number : ℕ) (c : Cursor) where
  -- how a macro of this name before the call in its source wraps its items: where `macro_use` stands there it may be another module's
  abbrev pub own_wrapping : Symbol → Option Wrapping
  own_wrapping s = if has_macro_use then None else wrapping_by_name items c.start number s

  -- how a macro wraps the items of the call that is next: a known one that is meant there, or one before it in the source
  abbrev pub known_or_own : Symbol → Option Macro → Option Wrapping
  known_or_own s None = own_wrapping s
  known_or_own s (Some m) = if is_behind items.modules number c m.at then m.wrapping else own_wrapping s

  -- the same of the macro of this name
  unfoldable pub wrapping_named : Symbol → Option Wrapping
  wrapping_named s = known_or_own s (known_in (root_around items.modules number) s items.known_macros)

  -- with the macro that it is handed on to, if it is
  abbrev pub through_by : (first : Wrapping) → (through : Option Symbol) → Option Wrapping
  through_by first None = Some first
  through_by first (Some s) = handed_on first (wrapping_named s)

  abbrev pub meant_by : Option Wrapping → Option Wrapping
  meant_by None = None
  meant_by (Some w) = through_by w w.through

  -- how the macro of this name wraps the items of the call that is next, or the one that it hands them on to
  unfoldable pub wrapping_meant : Symbol → Option Wrapping
  wrapping_meant s = meant_by (wrapping_named s)

  -- the same where the name has a number
  abbrev pub meant_if : Option Symbol → Option Wrapping
  meant_if None = None
  meant_if (Some s) = wrapping_meant s

-- the macro stands elsewhere
abbrev pub is_another : Macro → Option Macro → Bool
is_another m None = false
is_another m (Some l) = not (l.at.0 == m.at.0)

-- another macro of the crate has the name of this one, which is the first
abbrev pub is_repeated : ItemsRead → (root : ℕ) → Macro → Bool
is_repeated items root m = is_another m (last_macro items root m.name)

-- a macro that wraps items, as it is known from outside of its own source, in the crate with this root: where another one has its name, nothing
-- more is known wherever it is called; and where it isn't the root's, too, it isn't known there
abbrev pub known_macro : ItemsRead → (root : ℕ) → Macro → Option Macro
known_macro items root m =
    if not (is_some m.wrapping) || not (root_around items.modules m.«module» == root) then None
    else (if is_repeated items root m then Some (record { name = m.name; at = record { 0 = 0 }; «module» = root; wrapping = None })
    else (if shares_macros items.modules m.«module»
    then Some (record { name = m.name; at = place_or m.at (entry_of items.modules m.«module»); «module» = root; wrapping = m.wrapping })
    else None))

-- with one more in front, if there is one
abbrev pub with_first : Option Macro → List Macro → List Macro
with_first None ms = ms
with_first (Some m) ms = m ∷ ms

-- those of these macros that are known from outside of their own sources
abbrev pub known_from : ItemsRead → (root : ℕ) → List Macro → List Macro
known_from items root [] = []
known_from items root (m ∷ ms) = with_first (known_macro items root m) (known_from items root ms)

-- the macros of the crate with this root that wrap items and are known from outside of their own sources, each with the place in the root's source
-- behind which it is meant
unfoldable pub macros_of_crate : ItemsRead → (root : ℕ) → List Macro
macros_of_crate items root = known_from items root items.macros
