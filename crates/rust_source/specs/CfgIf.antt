-- Calls of `cfg_if!`, of the crate `cfg-if`: the items of the first branch whose `cfg` holds stand in the call's place.
use Rattle.std.specs.Prelude.{ℕ, zero, suc, ◌-◌, ◌==◌, ◌&&◌, Bool, true, false, not, codes, List, [], ◌∷◌, Option, None, Some, Result, if◌then◌else◌}
use Rattle.std.specs.Str.{bytes_eq}
use Rattle.rust_source.specs.declared.fault.SourceFault.{SourceFault}
use Rattle.rust_source.specs.declared.fault.SourceFaultKind.TheVariants.{BadCfg}
use Rattle.rust_source.specs.declared.item.UsedName.{UsedName}
use Rattle.rust_source.specs.declared.place.Symbol.{Symbol}
use Rattle.rust_source.specs.declared.reader.attributes.Rules.{Rules}
use Rattle.rust_source.specs.declared.reader.cfg_if.Branch.{Branch}
use Rattle.rust_source.specs.declared.reader.cursor.Cursor.{Cursor}
use Rattle.rust_source.specs.declared.target.CfgTarget.{CfgTarget}
use Rattle.rust_source.specs.declared.tokens.keyword.Keyword.TheVariants as keyword
use Rattle.rust_source.specs.declared.tokens.token.Bracket.TheVariants as bracket
use Rattle.rust_source.specs.Cfg.{Noted, predicate_read}
use Rattle.rust_source.specs.Cursor.{behind_group, inside, is_done, is_keyword_next, is_next, is_pair, passed}
use Rattle.rust_source.specs.Having.{Having, noted, noted_within}
use Rattle.rust_source.specs.Items.{UseRead}
use Rattle.rust_source.specs.Names.{symbol_found}
use Rattle.rust_source.specs.Reading.{is_named, read_on, word_text}
use Rattle.rust_source.specs.Simple.{most_nested}
use Rattle.rust_source.specs.Terms.{Known, done, fault_next}

-- the name of the crate in paths, and of its macro
abbrev pub is_cfg_if : Cursor → Bool
is_cfg_if c = bytes_eq (word_text c) (codes "cfg_if")

-- `cfg_if::cfg_if`
unfoldable pub is_whole_path : Cursor → Bool
is_whole_path c = is_cfg_if c && is_pair (passed c 1) 58 58 && is_cfg_if (passed c 3)

-- the name stands there, and no `!` behind it
abbrev pub is_no_call : Cursor → Bool
is_no_call c = is_cfg_if c && not (is_next (passed c 1) 33)

-- among at most so many tokens the name stands otherwise than in `cfg_if::cfg_if` and in calls
abbrev pub own_from : (limit : ℕ) → Cursor → Bool
own_from zero c = false
own_from (suc limit) c =
    if is_whole_path c then own_from limit (passed c 4) else (if is_no_call c then true else own_from limit (passed c 1))

-- the name stands there otherwise than in `cfg_if::cfg_if` and in calls: it may be another thing's
unfoldable pub has_own : Cursor → Bool
has_own c = own_from (c.end - c.at) c

-- the path is this name and again this name
abbrev pub is_twice : Symbol → List UsedName → Bool
is_twice s (a ∷ b ∷ []) = (a.name.0 == s.0) && (b.name.0 == s.0)
is_twice s _ = false

-- the name, where there is one
abbrev pub is_name : Symbol → Option Symbol → Bool
is_name s None = false
is_name s (Some n) = n.0 == s.0

-- the use brings in what this name has in what this name is, in the module with this number
abbrev pub brings_in : (number : ℕ) → Symbol → UseRead → Bool
brings_in number s u = (u.inside == number) && is_name s u.name && is_twice s u.path

-- one of the uses does
abbrev pub is_brought_by : (number : ℕ) → Symbol → List UseRead → Bool
is_brought_by number s [] = false
is_brought_by number s (u ∷ us) = if brings_in number s u then true else is_brought_by number s us

-- the same where the name has a number
abbrev pub is_brought_in_by : (number : ℕ) → List UseRead → Option Symbol → Bool
is_brought_in_by number uses None = false
is_brought_in_by number uses (Some s) = is_brought_by number s uses

-- `use cfg_if::cfg_if;` stands in the module with this number
unfoldable pub is_brought_in : (number : ℕ) → Known → List UseRead → Bool
is_brought_in number names uses = is_brought_in_by number uses (symbol_found names (codes "cfg_if"))

-- what follows `::`, where it is next
abbrev pub global_passed : Cursor → Cursor
global_passed c = if is_pair c 58 58 then passed c 2 else c

-- what follows the path of the macro that is next: `cfg_if::cfg_if`, or `cfg_if` where a use of the module brings it in
unfoldable pub behind_path : (number : ℕ) → Known → List UseRead → Cursor → Option Cursor
behind_path number names uses c =
    if is_whole_path (global_passed c) then Some (passed (global_passed c) 4)
    else (if is_cfg_if c && is_brought_in number names uses then Some (passed c 1) else None)

-- what stands in the braces behind a `!`
abbrev pub braces_behind : Option Cursor → Option Cursor
braces_behind None = None
braces_behind (Some c) = if is_next c 33 then inside (passed c 1) bracket.Curly else None

-- what stands in the braces of the call that is next, in the module with this number
unfoldable pub call_next : Rules → (number : ℕ) → Known → List UseRead → Cursor → Option Cursor
call_next rules number names uses c = if rules.has_own_cfg_if then None else braces_behind (behind_path number names uses c)

-- the predicate of the `cfg(..)` that is all in these square brackets
abbrev pub predicate_in : Option Cursor → Option Cursor
predicate_in None = None
predicate_in (Some i) = if is_named i (codes "cfg") && is_done (behind_group (passed i 1)) then inside (passed i 1) bracket.Round else None

-- a branch with this predicate and these items, whose braces are next
abbrev pub branch_with : Cursor → (predicate body : Option Cursor) → Option Branch
branch_with c (Some p) (Some b) = Some (record { predicate = p; body = b; rest = behind_group c })
branch_with c _ _ = None

-- the branch that is next: `if #[cfg(..)] { .. }`
unfoldable pub branch_next : Cursor → Option Branch
branch_next c =
    let d = passed c 2 in
    if is_keyword_next c keyword.If && is_next (passed c 1) 35
    then branch_with (behind_group d) (predicate_in (inside d bracket.Square)) (inside (behind_group d) bracket.Curly) else None

-- another branch is next, behind `else`
abbrev pub is_else_if : Cursor → Bool
is_else_if c = is_keyword_next c keyword.Else && is_keyword_next (passed c 1) keyword.If

-- what stands in these braces, behind which nothing is left
abbrev pub last_in : Cursor → Option Cursor → Option Cursor
last_in c None = None
last_in c (Some i) = if is_done (behind_group c) then Some i else None

-- the items behind the last `else`, or none where nothing is left
unfoldable pub last_items : Cursor → Option Cursor
last_items c =
    if is_done c then Some c
    else (if is_keyword_next c keyword.Else then last_in (passed c 1) (inside (passed c 1) bracket.Curly) else None)

module _ (t : CfgTarget) where
  -- whether the predicate holds that is all that is left
  unfoldable pub predicate_alone : Cursor → Noted → Result Bool SourceFault × Noted
  predicate_alone c known =
      read_on (λ (b : Bool × Cursor) ns. if is_done b.1 then done b.0 ns else fault_next BadCfg b.1 ns) (predicate_read t most_nested c known)

  -- what comes of a branch: its items are those that stand, or the next branch is looked at, if there is one
  abbrev pub branch_by : (go_on : Cursor → Noted → Result (Option Cursor) SourceFault × Noted) → Option Branch → Noted → Result (Option Cursor) SourceFault × Noted
  branch_by go_on None known = done None known
  branch_by go_on (Some b) known =
      read_on (λ holds ns.
      if holds then done (Some b.body) ns else (if is_else_if b.rest then go_on (passed b.rest 1) ns else done (last_items b.rest) ns))
      (predicate_alone b.predicate known)

  -- the items that stand, of at most so many branches
  abbrev pub standing_from : (limit : ℕ) → Cursor → Noted → Result (Option Cursor) SourceFault × Noted
  standing_from zero c known = done None known
  standing_from (suc limit) c known = branch_by (standing_from limit) (branch_next c) known

  -- the items that stand in place of a call with these branches; none where they aren't of that form
  unfoldable pub standing_items : Cursor → Noted → Result (Option Cursor) SourceFault × Noted
  standing_items c known = standing_from (c.end - c.at) c known

  -- the same where a call's braces have these branches
  abbrev pub chosen_by : Option Cursor → Having → Result (Option Cursor) SourceFault × Having
  chosen_by None known = done None known
  chosen_by (Some i) known = noted_within known.1 (standing_items i (noted known))

-- the items that stand in place of the call of `cfg_if!` that is next, in the module with this number; none where they aren't known
unfoldable pub chosen_items : Rules → (number : ℕ) → Cursor → Having → Result (Option Cursor) SourceFault × Having
chosen_items rules number c known = chosen_by rules.target (call_next rules number known.0 known.1.uses c) known
