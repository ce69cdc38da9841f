-- Calls of `cfg!`, which are decided before a source is read.
use Rattle.std.specs.Prelude.{ℕ, zero, suc, ◌-◌, ◌++◌, ◌==◌, ◌&&◌, nat_eq, Bool, codes, List, [], ◌∷◌, length, Option, None, Some, Result, Ok, Err, if◌then◌else◌}
use Rattle.rust_source.specs.declared.fault.SourceFault.{SourceFault}
use Rattle.rust_source.specs.declared.place.Place.{Place}
use Rattle.rust_source.specs.declared.reader.cursor.CfgCall.{CfgCall}
use Rattle.rust_source.specs.declared.reader.cursor.Cursor.{Cursor}
use Rattle.rust_source.specs.declared.syntax.Unevaluated.TheVariants.{Macro}
use Rattle.rust_source.specs.declared.target.CfgTarget.{CfgTarget}
use Rattle.rust_source.specs.declared.tokens.token.Bracket.TheVariants as bracket
use Rattle.rust_source.specs.Cfg.{Noted, predicate_read}
use Rattle.rust_source.specs.Cursor.{inside, is_done, is_next, is_nth, passed, place, tree_passed}
use Rattle.rust_source.specs.Names.{first_names}
use Rattle.rust_source.specs.Reading.{is_named}
use Rattle.rust_source.specs.Simple.{most_nested}
use Rattle.rust_source.specs.Syntax.{ExprRead, bool, other_expr}

-- a call of `cfg!` is next
unfoldable pub is_cfg_call : Cursor → Bool
is_cfg_call c = is_nth c 1 33 && is_named c (codes "cfg")

-- another macro of this name is defined here
unfoldable pub defines_cfg : Cursor → Bool
defines_cfg c = is_nth c 1 33 && (is_named c (codes "macro_rules") && is_named (passed c 2) (codes "cfg"))

-- whether it holds, where it is all that is given, and each name is known
abbrev pub if_known : (is_all is_known holds : Bool) → Option Bool
if_known is_all is_known holds = if is_all && is_known then Some holds else None

-- a `,` is passed over, where it is next
abbrev pub behind_comma : Cursor → Cursor
behind_comma c = if is_next c 44 then passed c 1 else c

-- a predicate that is all that a call is given, and of which each name is known, holds or doesn't
abbrev pub told_by : Result (Bool × Cursor) SourceFault → Noted → Option Bool
told_by (Ok h) known = if_known (is_done (behind_comma h.1)) (length known.1 == 0) h.0
told_by (Err e) known = None

-- the same of what was read
abbrev pub told : Result (Bool × Cursor) SourceFault × Noted → Option Bool
told read = told_by read.0 read.1

-- whether what stands in these parentheses holds of the target
abbrev pub holds_in : CfgTarget → Option Cursor → Option Bool
holds_in t None = None
holds_in t (Some i) = told (predicate_read t most_nested i (first_names, []))

-- whether the call that is next holds of the target, where that is known
unfoldable pub call_holds : CfgTarget → Cursor → Option Bool
call_holds t c = holds_in t (inside (passed c 2) bracket.Round)

-- the calls with the one that is next, where it is decided
abbrev pub put_call : List CfgCall → (index : ℕ) → Option Bool → List CfgCall
put_call all index None = all
put_call all index (Some holds) = all ++ record { at = index; holds = holds } ∷ []

abbrev pub with_call : CfgTarget → List CfgCall → Cursor → List CfgCall
with_call t all c = if is_cfg_call c then put_call all c.at (call_holds t c) else all

-- the calls that are decided among so many tokens, behind these; none where another macro has the name
abbrev pub calls_from : (limit : ℕ) → CfgTarget → List CfgCall → Cursor → List CfgCall
calls_from zero t all c = all
calls_from (suc limit) t all c = if defines_cfg c then [] else calls_from limit t (with_call t all c) (passed c 1)

unfoldable pub calls_of : CfgTarget → Cursor → List CfgCall
calls_of t c = calls_from (c.end - c.at) t [] c

-- whether the call holds whose first token has this index, where it is decided
abbrev pub holds_at : List CfgCall → (index : ℕ) → Option Bool
holds_at [] index = None
holds_at (call ∷ calls) index = if nat_eq call.at index then Some call.holds else holds_at calls index

-- what a call is worth
abbrev pub call_value : Place → Option Bool → ExprRead
call_value at (Some holds) = bool holds at
call_value at None = other_expr Macro at

-- the call that is next, and what follows it
unfoldable pub cfg_call : Cursor → ExprRead × Cursor
cfg_call c = (call_value (place c) (holds_at c.calls.now c.at), tree_passed (passed c 2))
