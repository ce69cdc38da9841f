-- Macros of a source that put attributes in front of the items of a call, as `macro_rules! name { ($($item:item)*) => { $(#[cfg(..)] $item)* } }`,
-- and the items that stand in place of such a call.
use Rattle.std.specs.Prelude.{ℕ, zero, suc, ◌-◌, ◌==◌, ◌&&◌, ◌||◌, Bool, true, false, not, codes, is_some, length, List, Option, None, Some, Result, Ok, Err, if◌then◌else◌}
use Rattle.std.specs.Option.{option_or}
use Rattle.std.specs.Str.{bytes_eq}
use Rattle.rust_source.specs.declared.fault.SourceFault.{SourceFault}
use Rattle.rust_source.specs.declared.item.Macro.{Macro}
use Rattle.rust_source.specs.declared.item.Wrapping.{Wrapping}
use Rattle.rust_source.specs.declared.place.Place.{Place}
use Rattle.rust_source.specs.declared.place.Symbol.{Symbol}
use Rattle.rust_source.specs.declared.reader.attributes.Attributes.{Attributes}
use Rattle.rust_source.specs.declared.reader.attributes.Rules.{Rules}
use Rattle.rust_source.specs.declared.reader.cursor.Cursor.{Cursor}
use Rattle.rust_source.specs.declared.reader.wrappers.HandingRule.{HandingRule}
use Rattle.rust_source.specs.declared.reader.wrappers.Headed.{Headed}
use Rattle.rust_source.specs.declared.reader.wrappers.MacroRule.{MacroRule}
use Rattle.rust_source.specs.declared.reader.wrappers.MacroRule.TheVariants.{Handing as Hands, Wrapping as Wraps}
use Rattle.rust_source.specs.declared.reader.wrappers.WrappedCall.{WrappedCall}
use Rattle.rust_source.specs.declared.reader.wrappers.WrappingRule.{WrappingRule}
use Rattle.rust_source.specs.declared.target.CfgTarget.{CfgTarget}
use Rattle.rust_source.specs.declared.tokens.keyword.Keyword.TheVariants as keyword
use Rattle.rust_source.specs.declared.tokens.token.Bracket.TheVariants as bracket
use Rattle.rust_source.specs.Attributes.{attributes_read}
use Rattle.rust_source.specs.Cfg.{Noted}
use Rattle.rust_source.specs.CfgIf.{predicate_alone, predicate_in}
use Rattle.rust_source.specs.Cursor.{behind_group, inside, is_done, is_keyword_next, is_named_next, is_next, is_pair, passed}
use Rattle.rust_source.specs.Fields.{by_names}
use Rattle.rust_source.specs.Having.{Having, noted, noted_within, with_macro}
use Rattle.rust_source.specs.Items.{ItemsRead}
use Rattle.rust_source.specs.MacroScope.{last_macro, meant_if}
use Rattle.rust_source.specs.Names.{symbol_found}
use Rattle.rust_source.specs.Reading.{is_named, name, read_on, word_text}
use Rattle.rust_source.specs.Repr.{asks}
use Rattle.rust_source.specs.Terms.{done}
use Rattle.rust_source.specs.Visibility.{root_around}

-- `macro_use` is next that isn't right at an `extern`: the macros of a module may stand in those around it
unfoldable pub is_use_of_modules : Cursor → Bool
is_use_of_modules c = bytes_eq (word_text c) (codes "macro_use") && not (is_keyword_next (passed c 2) keyword.Extern)

-- one is among at most so many tokens
abbrev pub use_from : (limit : ℕ) → Cursor → Bool
use_from zero c = false
use_from (suc limit) c = if is_use_of_modules c then true else use_from limit (passed c 1)

-- the macros of a module may stand in those around it, of these tokens
unfoldable pub has_macro_use : Cursor → Bool
has_macro_use c = use_from (c.end - c.at) c

-- the tokens within the brackets of a group that is next, of any kind
unfoldable pub any_inside : Cursor → Option Cursor
any_inside c = option_or (inside c bracket.Curly) (option_or (inside c bracket.Round) (inside c bracket.Square))

-- what stands in these parentheses, where a `*` alone is left behind them
abbrev pub repeated_in : Cursor → Option Cursor → Option Cursor
repeated_in c None = None
repeated_in c (Some i) = if is_next (behind_group c) 42 && is_done (passed (behind_group c) 1) then Some i else None

-- what stands in `$( .. )*`, which is all that is left
unfoldable pub repeated : Cursor → Option Cursor
repeated c = if is_next c 36 then repeated_in (passed c 1) (inside (passed c 1) bracket.Round) else None

-- the same within brackets
abbrev pub repeated_within : Option Cursor → Option Cursor
repeated_within None = None
repeated_within (Some i) = repeated i

-- `$name:kind` is all that is left, of this kind
unfoldable pub is_variable_of : Cursor → (kind : List ℕ) → Bool
is_variable_of c kind =
    is_next c 36 && not (length (word_text (passed c 1)) == 0) && is_next (passed c 2) 58 && is_named (passed c 3) kind && is_done (passed c 4)

-- `$` and this name is all that is left
abbrev pub is_variable : Cursor → (name : List ℕ) → Bool
is_variable c name = is_next c 36 && bytes_eq (word_text (passed c 1)) name && is_done (passed c 2)

-- nothing is left of a rule, or a `;`
abbrev pub ends_rule : Cursor → Bool
ends_rule c = is_done c || (is_next c 59 && is_done (passed c 1))

-- what begins with the attribute of what stands around whose brackets have this
abbrev pub head_by : Cursor → Option Cursor → Option Headed
head_by c None = None
head_by c (Some i) = Some (record { attribute = i; behind = behind_group c })

-- what begins with `#![..]`
unfoldable pub head_of : Cursor → Option Headed
head_of c = if is_next c 35 && is_next (passed c 1) 33 then head_by (passed c 2) (inside (passed c 2) bracket.Square) else None

-- the predicate is the variable of this name
abbrev pub is_predicate_of : (name : List ℕ) → Option Cursor → Bool
is_predicate_of name None = false
is_predicate_of name (Some p) = is_variable p name

-- these brackets have `cfg($name)` alone
abbrev pub is_cfg_of : (name : List ℕ) → Option Cursor → Bool
is_cfg_of name i = is_predicate_of name (predicate_in i)

-- what follows the `#[cfg($name)]` that is next
unfoldable pub behind_cfg : (name : List ℕ) → Cursor → Option Cursor
behind_cfg name c =
    if is_next c 35 && is_cfg_of name (inside (passed c 1) bracket.Square) then Some (behind_group (passed c 1)) else None

-- a rule that matches items, and repeats what stands there
abbrev pub item_rule : (takes_predicate : Bool) → (variable written : Option Cursor) → Option WrappingRule
item_rule takes_predicate (Some v) (Some w) =
    if is_variable_of v (codes "item") then Some (record { variable = v; written = w; takes_predicate = takes_predicate }) else None
item_rule takes_predicate _ _ = None

-- a rule that matches `#![$name:meta]` and items, and repeats what stands there behind `#[cfg($name)]`
unfoldable pub rule_headed : Headed → (written : Cursor) → Option WrappingRule
rule_headed h w =
    if is_variable_of h.attribute (codes "meta")
    then item_rule true (repeated h.behind) (behind_cfg (word_text (passed h.attribute 1)) w) else None

-- a rule that matches items, with a predicate before them or not
abbrev pub wrapping_by_head : (matched written : Cursor) → Option Headed → Option WrappingRule
wrapping_by_head m w None = item_rule false (repeated m) (Some w)
wrapping_by_head m w (Some h) = rule_headed h w

unfoldable pub wrapping_rule : (matched written : Cursor) → Option WrappingRule
wrapping_rule m w = wrapping_by_head m w (head_of m)

-- what stands in the braces of the call of a macro that is all that is left
unfoldable pub call_alone : Cursor → Option Cursor
call_alone c = if is_next (passed c 1) 33 && is_done (behind_group (passed c 2)) then inside (passed c 2) bracket.Curly else None

-- the same where something is there
abbrev pub is_variable_in : (name : List ℕ) → Option Cursor → Bool
is_variable_in name None = false
is_variable_in name (Some c) = is_variable c name

-- all items of this variable follow, and nothing else
abbrev pub repeats : (rest variable : Cursor) → Bool
repeats c v = is_variable_in (word_text (passed v 1)) (repeated c)

-- what begins with a predicate, and goes on with all items of a variable, which are handed on by what is written
abbrev pub handing_by_head : (written variable : Cursor) → Option Headed → Option HandingRule
handing_by_head w v None = None
handing_by_head w v (Some h) =
    if is_variable_of v (codes "item") && repeats h.behind v then Some (record { through = w; predicate = h.attribute }) else None

-- the same of what stands in braces
abbrev pub handing_by : (written : Cursor) → (variable inside : Option Cursor) → Option HandingRule
handing_by w (Some v) (Some i) = handing_by_head w v (head_of i)
handing_by w _ _ = None

-- a rule that matches items, and hands them on to another macro: `name! { #![..] $($item)* }`
unfoldable pub handing_rule : (matched written : Cursor) → Option HandingRule
handing_rule m w = handing_by w (repeated m) (call_alone w)

-- a rule of one kind or the other
abbrev pub as_wrapping : Option WrappingRule → Option MacroRule
as_wrapping None = None
as_wrapping (Some r) = Some (Wraps r)

abbrev pub as_handing : Option HandingRule → Option MacroRule
as_handing None = None
as_handing (Some r) = Some (Hands r)

-- a rule that repeats this for each item, or hands them on
abbrev pub rule_by : (matched written : Cursor) → (each : Option Cursor) → Option MacroRule
rule_by m w None = as_handing (handing_rule m w)
rule_by m w (Some each) = as_wrapping (wrapping_rule m each)

unfoldable pub rule_of : (matched written : Cursor) → Option MacroRule
rule_of m w = rule_by m w (repeated w)

-- the same of what stands in these brackets
abbrev pub rule_within : (matched written : Option Cursor) → Option MacroRule
rule_within (Some m) (Some w) = rule_of m w
rule_within _ _ = None

-- the rule that is all that is left, where it is one of a wrapper
unfoldable pub only_rule : Cursor → Option MacroRule
only_rule c =
    let d = passed (behind_group c) 2 in
    if is_pair (behind_group c) 61 62 && ends_rule (behind_group d) then rule_within (any_inside c) (any_inside d) else None

-- the same within brackets
abbrev pub only_rule_within : Option Cursor → Option MacroRule
only_rule_within None = None
only_rule_within (Some i) = only_rule i

-- attributes say nothing but whether a `cfg` holds
abbrev pub says_no_more : Attributes → Bool
says_no_more said =
    not (asks said.repr || said.derives_copy || said.has_helpers || is_some said.valid_range || is_some said.unknown || is_some said.path
    || said.uses_macros)

-- how a rule wraps items behind these attributes, where they say no more and the item's variable follows
abbrev pub wrapping_by : WrappingRule → Attributes → Cursor → Option Wrapping
wrapping_by r said c =
    if says_no_more said && is_variable c (word_text (passed r.variable 1))
    then Some (record { stands = said.holds; takes_predicate = r.takes_predicate; through = None }) else None

-- the same of what was read; none where it can't be
abbrev pub wrapping_read : WrappingRule → Result (Attributes × Cursor) SourceFault → Option Wrapping
wrapping_read r (Ok s) = wrapping_by r s.0 s.1
wrapping_read r (Err e) = None

-- the same of a rule's attributes
abbrev pub wrapping_of : Rules → WrappingRule → Noted → Result (Option Wrapping) SourceFault × Noted
wrapping_of rules r known =
    let read = attributes_read rules r.written known in done (wrapping_read r read.0) read.1

-- how a rule hands items on: whether its predicate holds, and the macro that it names
unfoldable pub handing_of : Rules → HandingRule → Noted → Result Wrapping SourceFault × Noted
handing_of rules r known =
    read_on (λ (n : (Symbol × Place) × Cursor) ns.
    read_on (λ holds ms. done (record { stands = holds; takes_predicate = false; through = Some n.0.0 }) ms) (predicate_alone rules.target r.predicate ns))
    (by_names known.1 (name r.through known.0))

-- what was read, if it was
abbrev pub if_read : Result Wrapping SourceFault → Option Wrapping
if_read (Ok w) = Some w
if_read (Err e) = None

-- the same; none where it can't be read
abbrev pub handing_tried : Rules → HandingRule → Noted → Result (Option Wrapping) SourceFault × Noted
handing_tried rules r known = let read = handing_of rules r known in done (if_read read.0) read.1

-- how a macro wraps the items of its calls, by the rule that does so; none without such a rule
abbrev pub wrapping_in : Rules → Option MacroRule → Noted → Result (Option Wrapping) SourceFault × Noted
wrapping_in rules None known = done None known
wrapping_in rules (Some (Wraps r)) known = wrapping_of rules r known
wrapping_in rules (Some (Hands r)) known = handing_tried rules r known

-- the definition of a macro is next
unfoldable pub is_macro_rules : Cursor → Bool
is_macro_rules c = bytes_eq (word_text c) (codes "macro_rules") && is_next (passed c 1) 33 && is_named_next (passed c 1)

-- a macro of this name and place; of one that isn't the first of its name nothing more is known
abbrev pub macro_of : ItemsRead → (number : ℕ) → Symbol × Place → Option Wrapping → Macro
macro_of items number n wrapping = record {
  name = n.0;
  at = n.1;
  «module» = number;
  wrapping = if is_some (last_macro items (root_around items.modules number) n.0) then None else wrapping;
}

-- the macro of this name, behind which its rules stand, is kept; of one that may be rewritten nothing more is known
abbrev pub macro_kept : Rules → (number : ℕ) → (is_rewritten : Bool) → Symbol × Place → Cursor → Having → Result (Unit {0}) SourceFault × Having
macro_kept rules number is_rewritten n c known =
    read_on (λ wrapping ns. done tt (ns.0, with_macro (macro_of ns.1 number n (if is_rewritten then None else wrapping)) ns.1))
    (noted_within known.1 (wrapping_in rules (only_rule_within (any_inside c)) (noted known)))

-- the macro is kept whose definition is next, if one is
unfoldable pub macro_read : Rules → (number : ℕ) → (is_rewritten : Bool) → Cursor → Having → Result (Unit {0}) SourceFault × Having
macro_read rules number is_rewritten c known =
    if is_macro_rules c
    then read_on (λ (n : (Symbol × Place) × Cursor) ns. macro_kept rules number is_rewritten n.0 n.1 ns) (by_names known.1 (name (passed c 2) known.0))
    else done tt known

-- a call of what wraps so, whose braces have this
abbrev pub call_with : Cursor → Option Wrapping → Option WrappedCall
call_with i None = None
call_with i (Some w) = Some (record { inside = i; wrapping = w })

module _ (rules : Rules) (number : ℕ) (c : Cursor) (known : Having) where
  -- the same of the macro whose name is next, in the module with this number
  abbrev pub call_within : Option Cursor → Option WrappedCall
  call_within None = None
  call_within (Some i) = call_with i (meant_if rules.has_macro_use known.1 number c (symbol_found known.0 (word_text c)))

  -- the call that is next, of a macro that wraps items; none where it isn't known to be one
  unfoldable pub wrapped_call : Option WrappedCall
  wrapped_call = if is_next (passed c 1) 33 then call_within (inside (passed c 2) bracket.Curly) else None

-- these items, or none of them
abbrev pub standing_of : Cursor → (stands : Bool) → Cursor
standing_of i stands = if stands then i else record i { at = i.end }

module _ (t : CfgTarget) where
  -- the items behind a predicate, which stand where it holds; none where it isn't there
  abbrev pub standing_behind : (stands : Bool) → Option Headed → Noted → Result (Option Cursor) SourceFault × Noted
  standing_behind stands None known = done None known
  standing_behind stands (Some h) known =
      read_on (λ holds ns. done (Some (standing_of h.behind (stands && holds))) ns) (predicate_alone t h.attribute known)

  -- the items that stand in place of a call
  unfoldable pub standing_items : WrappedCall → Noted → Result (Option Cursor) SourceFault × Noted
  standing_items w known =
      if w.wrapping.takes_predicate then standing_behind w.wrapping.stands (head_of w.inside) known
      else done (Some (standing_of w.inside w.wrapping.stands)) known

  -- the same where there is such a call
  abbrev pub standing_by : Option WrappedCall → Having → Result (Option Cursor) SourceFault × Having
  standing_by None known = done None known
  standing_by (Some w) known = noted_within known.1 (standing_items w (noted known))

-- the items that stand in place of the call that is next, by a macro of the source; none where they aren't known
unfoldable pub wrapped_items : Rules → (number : ℕ) → Cursor → Having → Result (Option Cursor) SourceFault × Having
wrapped_items rules number c known = standing_by rules.target (wrapped_call rules number c known) known
