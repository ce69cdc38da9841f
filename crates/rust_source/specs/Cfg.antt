-- Predicates of `cfg`: which of them hold of a target, and the names that aren't known here.
use Rattle.std.specs.Prelude.{ℕ, zero, suc, ◌+◌, ◌-◌, ◌^◌, ◌==◌, ◌&&◌, ◌||◌, Bool, true, false, not, codes, List, [], ◌∷◌, ◌++◌, drop, length, min, nat_le, nat_lt, take, Option, None, Some, Result, Ok, Err, if◌then◌else◌}
use Rattle.std.specs.Borrow.{Bor}
use Rattle.std.specs.List.{list_any}
use Rattle.std.specs.Option.{is_some}
use Rattle.std.specs.Str.{bytes_eq}
use Rattle.rust_source.specs.declared.fault.SourceFault.{SourceFault}
use Rattle.rust_source.specs.declared.fault.SourceFaultKind.TheVariants.{BadCfg, TooDeep}
use Rattle.rust_source.specs.declared.place.Symbol.{Symbol}
use Rattle.rust_source.specs.declared.reader.cfg.CfgValue.{CfgValue}
use Rattle.rust_source.specs.declared.reader.cursor.Cursor.{Cursor}
use Rattle.rust_source.specs.declared.target.CfgOption.{CfgOption}
use Rattle.rust_source.specs.declared.target.CfgTarget.{CfgTarget}
use Rattle.rust_source.specs.declared.target.Family.{Family}
use Rattle.rust_source.specs.declared.target.Family.TheVariants as family
use Rattle.rust_source.specs.declared.tokens.runs.Run.TheVariants as run
use Rattle.rust_source.specs.declared.tokens.token.Bracket.TheVariants as bracket
use Rattle.rust_source.specs.declared.tokens.token.Token.{Token}
use Rattle.rust_source.specs.declared.tokens.token.TokenKind.{TokenKind}
use Rattle.rust_source.specs.declared.tokens.token.TokenKind.TheVariants as kind
use Rattle.rust_source.specs.Blanks.{run_length}
use Rattle.rust_source.specs.Characters.{byte_at, first_char}
use Rattle.rust_source.specs.Cursor.{behind_group, comma_passed, fault, inside, is_done, is_next, nth, passed, token_text}
use Rattle.rust_source.specs.Literals.{bytes_between, escape_by}
use Rattle.rust_source.specs.Names.{added, number_of_name as name_number}
use Rattle.rust_source.specs.Quoted.{escaped_length}
use Rattle.rust_source.specs.Reading.{read_on, read_as, word_text}

-- names that have numbers, and the names of `cfg` that aren't known here, each once
abbrev pub Noted : Type 0
Noted = List (List ℕ) × List Symbol

-- what stands where a reading stands, with what follows it, by what is known so far
abbrev pub Noting : Type 0 → Type 0
Noting A = Cursor → Noted → Result (A × Cursor) SourceFault × Noted

-- a symbol is among these
abbrev pub is_one_of : List Symbol → Symbol → Bool
is_one_of all s = list_any (λ (t : Symbol). t.0 == s.0) all

-- with a symbol more, behind the others, unless it is among them
abbrev pub with_symbol : List Symbol → Symbol → List Symbol
with_symbol all s = if is_one_of all s then all else all ++ s ∷ []

-- the name is kept as one that isn't known here
abbrev pub with_unknown : (name : List ℕ) → Noted → Noted
with_unknown name known = (added known.0 name, with_symbol known.1 (record { 0 = name_number known.0 name }))

-- the name of a family of systems
abbrev pub family_name : Family → List ℕ
family_name family.Unix = codes "unix"
family_name family.Windows = codes "windows"
family_name family.Wasm = codes "wasm"
family_name family.Neither = []

-- what a string stands for: what lies between its quotes, without escapes where the string is raw
pub record ValueRead : Type 0 where
  pub inside : List ℕ
  pub is_raw : Bool

-- what a string stands for, as the program keeps it
abbrev pub value_as_read : CfgValue → ValueRead
value_as_read v = record { inside = v.inside.now; is_raw = v.is_raw }

-- a code, and what follows it, as the program keeps them
abbrev pub taken_of : ℕ × Bor (List ℕ) → ℕ × List ℕ
taken_of p = (p.0, p.1.now)

-- the code of an escape of so many bytes, and what follows them
abbrev pub code_taken : (rest : List ℕ) → (bytes : ℕ) → Option ℕ → Option (ℕ × List ℕ)
code_taken rest bytes None = None
code_taken rest bytes (Some code) = Some (code, drop bytes rest)

-- the code that an escape of so many bytes stands for, with what follows it
abbrev pub escape_taken : (rest : List ℕ) → (bytes : Option ℕ) → Option (ℕ × List ℕ)
escape_taken rest None = None
escape_taken rest (Some n) =
    if nat_le n (length rest) then code_taken rest n (escape_by (take n rest) (first_char (take n rest))) else None

-- how many bytes an escape has behind its backslash: `x` and two digits, `u` and what stands up to a `}`, or a letter
unfoldable pub escape_length : (rest : List ℕ) → Option ℕ
escape_length rest = if byte_at rest 0 == 120 then Some 3 else (if byte_at rest 0 == 117 then escaped_length 125 rest else Some 1)

-- the byte, or the code of the escape, that is next between a string's quotes, with what follows it: of ASCII a code is the byte
abbrev pub next_code : (inside : List ℕ) → Option (ℕ × List ℕ)
next_code [] = None
next_code (b ∷ bs) = if b == 92 then escape_taken bs (escape_length bs) else Some (b, bs)

-- there is a code, and what follows it is so
abbrev pub is_followed : (on : List ℕ → Bool) → Option (ℕ × List ℕ) → Bool
is_followed on None = false
is_followed on (Some p) = on p.1

-- each escape is one that there is, of at most so many bytes
abbrev pub escapes_from : (limit : ℕ) → (inside : List ℕ) → Bool
escapes_from zero inside = length inside == 0
escapes_from (suc limit) inside = (length inside == 0) || is_followed (λ rest. escapes_from limit rest) (next_code inside)

-- each escape between a string's quotes is one that there is
unfoldable pub has_escapes : (inside : List ℕ) → Bool
has_escapes inside = escapes_from (length inside) inside

-- there is this code, and what follows it is so
abbrev pub is_code_followed : (code : ℕ) → (on : List ℕ → Bool) → Option (ℕ × List ℕ) → Bool
is_code_followed code on None = false
is_code_followed code on (Some p) = (p.0 == code) && on p.1

-- what lies between a string's quotes stands for a text, which is ASCII's
abbrev pub stands_for : (inside text : List ℕ) → Bool
stands_for inside [] = length inside == 0
stands_for inside (b ∷ bs) = is_code_followed b (λ rest. stands_for rest bs) (next_code inside)

-- a string stands for a text
abbrev pub is_text : ValueRead → (text : List ℕ) → Bool
is_text v text = if v.is_raw then bytes_eq v.inside text else stands_for v.inside text

-- a string stands for one of these texts
abbrev pub is_one_text : List (Bor (List ℕ)) → ValueRead → Bool
is_one_text [] value = false
is_one_text (t ∷ ts) value = is_text value t.now || is_one_text ts value

-- an option is this name alone
abbrev pub is_name_alone : (name : List ℕ) → CfgOption → Bool
is_name_alone name o = not (is_some o.value) && bytes_eq o.name.now name

-- an option gives this name a value
abbrev pub gives_some_value : (name : List ℕ) → CfgOption → Bool
gives_some_value name o = is_some o.value && bytes_eq o.name.now name

-- a string stands for the text, where there is one
abbrev pub is_that_text : ValueRead → Option (Bor (List ℕ)) → Bool
is_that_text value None = false
is_that_text value (Some text) = is_text value text.now

-- an option gives this name this value
abbrev pub gives_value : (name : List ℕ) → ValueRead → CfgOption → Bool
gives_value name value o = bytes_eq o.name.now name && is_that_text value o.value

-- one of what is set is this name alone
abbrev pub is_set_alone : List CfgOption → (name : List ℕ) → Bool
is_set_alone all name = list_any (is_name_alone name) all

-- one of what is set gives this name a value
abbrev pub is_valued : List CfgOption → (name : List ℕ) → Bool
is_valued all name = list_any (gives_some_value name) all

-- one of what is set gives this name this value
abbrev pub is_value_set : List CfgOption → (name : List ℕ) → ValueRead → Bool
is_value_set all name value = list_any (gives_value name value) all

-- whether this value is set under this name; none where no value is
abbrev pub option_value : CfgTarget → (name : List ℕ) → ValueRead → Option Bool
option_value t name value = if is_valued t.options.now name then Some (is_value_set t.options.now name value) else None

-- whether the target has this value under this name, of which it has several; none where the name isn't known
unfoldable pub listed_value : CfgTarget → (name : List ℕ) → ValueRead → Option Bool
listed_value t name value =
    if bytes_eq name (codes "target_has_atomic") then Some (is_one_text t.atomics.now value)
    else (if bytes_eq name (codes "target_feature") then Some (is_one_text t.features.now value)
    else (if bytes_eq name (codes "feature") && not (length t.crate_features.now == 0) then Some (is_one_text t.crate_features.now value)
    else option_value t name value))

-- whether the target has this value under this name, which is none of those below; none where the name isn't known
unfoldable pub other_value : CfgTarget → (name : List ℕ) → ValueRead → Option Bool
other_value t name value =
    if bytes_eq name (codes "target_abi") then Some (is_text value t.abi.now)
    else (if bytes_eq name (codes "target_vendor") then Some (is_text value t.vendor.now)
    else (if bytes_eq name (codes "target_family") then Some (not (is_text value []) && is_text value (family_name t.family))
    else (if bytes_eq name (codes "panic") then Some (is_text value t.panic.now) else listed_value t name value)))

-- whether the target has this value under this name; none where the name isn't known
unfoldable pub has_value : CfgTarget → (name : List ℕ) → ValueRead → Option Bool
has_value t name value =
    if bytes_eq name (codes "target_pointer_width") then Some (is_text value t.pointer_width.now)
    else (if bytes_eq name (codes "target_endian") then Some (is_text value (if t.is_big_endian then codes "big" else codes "little"))
    else (if bytes_eq name (codes "target_arch") then Some (is_text value t.arch.now)
    else (if bytes_eq name (codes "target_os") then Some (is_text value t.os.now)
    else (if bytes_eq name (codes "target_env") then Some (is_text value t.env.now) else other_value t name value))))

-- the family is that of Unix
abbrev pub is_unix : Family → Bool
is_unix family.Unix = true
is_unix _ = false

-- the family is that of Windows
abbrev pub is_windows : Family → Bool
is_windows family.Windows = true
is_windows _ = false

-- whether a name alone holds of the target; none where it isn't known
unfoldable pub has_flag : CfgTarget → (name : List ℕ) → Option Bool
has_flag t name =
    if bytes_eq name (codes "true") || bytes_eq name (codes "debug_assertions") then Some true
    else (if bytes_eq name (codes "false") then Some false
    else (if bytes_eq name (codes "unix") then Some (is_unix t.family)
    else (if bytes_eq name (codes "windows") then Some (is_windows t.family)
    else (if bytes_eq name (codes "target_has_atomic") then Some (not (length t.atomics.now == 0))
    else (if is_set_alone t.options.now name then Some true else None)))))

-- what lies between a string's quotes, where each escape is one that there is
abbrev pub with_escapes : Option (List ℕ) → Option ValueRead
with_escapes None = None
with_escapes (Some inside) = if has_escapes inside then Some (record { inside = inside; is_raw = false }) else None

-- what a string with escapes stands for
abbrev pub plain_value : (text : List ℕ) → Option ValueRead
plain_value text = with_escapes (bytes_between 34 34 text)

-- what a raw string stands for: what lies between its quotes, before the first of which `r` and so many `#` stand
unfoldable pub raw_value : (hashes : ℕ) → (text : List ℕ) → Option ValueRead
raw_value hashes text =
    let rest = drop (hashes + 2) text in
    if nat_le (hashes + 1) (length rest) then Some (record { inside = take (length rest - (hashes + 1)) rest; is_raw = true }) else None

-- what a string stands for; none for those of bytes and of C
unfoldable pub string_value : (text : List ℕ) → Option ValueRead
string_value text =
    if byte_at text 0 == 34 then plain_value text
    else (if byte_at text 0 == 114 then raw_value (run_length run.Hashes (drop 1 text)) text else None)

-- what a token of this kind stands for, where it is a string
abbrev pub string_of : (text : List ℕ) → TokenKind → Option ValueRead
string_of text kind.Text = string_value text
string_of text _ = None

-- what a token stands for, where there is one and it is a string
abbrev pub string_by : Cursor → Option Token → Option ValueRead
string_by c None = None
string_by c (Some t) = string_of (token_text c t) t.kind

-- what the string that is next stands for
unfoldable pub next_value : Cursor → Option ValueRead
next_value c = string_by c (nth c 0)

-- whether a name holds with this value
abbrev pub cfg_value : CfgTarget → (name : List ℕ) → Cursor → Option ValueRead → Result (Option Bool × Cursor) SourceFault
cfg_value t name c None = Err (fault c BadCfg)
cfg_value t name c (Some value) = Ok (has_value t name value, passed c 1)

-- whether a name, or a name and its value, holds; its name stands before
unfoldable pub option_answer : CfgTarget → (name : List ℕ) → Cursor → Result (Option Bool × Cursor) SourceFault
option_answer t name c =
    if is_next c 61 then cfg_value t name (passed c 1) (next_value (passed c 1)) else Ok (has_flag t name, c)

-- what is known, where it is; else the name is kept and doesn't hold
abbrev pub known_or : (name : List ℕ) → Option Bool → Cursor → Noted → Result (Bool × Cursor) SourceFault × Noted
known_or name (Some holds) c known = (Ok (holds, c), known)
known_or name None c known = (Ok (false, c), with_unknown name known)

-- whether a name, or a name and its value, holds
unfoldable pub option_read : CfgTarget → Noting Bool
option_read t c known =
    if length (word_text c) == 0 then (Err (fault c BadCfg), known)
    else read_on (λ (a : Option Bool × Cursor) ns. known_or (word_text c) a.0 a.1 ns) (option_answer t (word_text c) (passed c 1), known)

-- a predicate of this name holds of a list of so many, of which so many hold
unfoldable pub combined : Cursor → (name : List ℕ) → (holding count : ℕ) → Result Bool SourceFault
combined c name holding count =
    if bytes_eq name (codes "all") then Ok (holding == count)
    else (if bytes_eq name (codes "any") then Ok (nat_lt 0 holding)
    else (if bytes_eq name (codes "not") && (count == 1) then Ok (holding == 0) else Err (fault c BadCfg)))

-- with one more, where it counts; no more than 2 ^ 64 - 1 are counted
abbrev pub counting : (so_many : ℕ) → (counts : Bool) → ℕ
counting so_many counts = if counts then min (so_many + 1) (2 ^ 64 - 1) else so_many

module _ (t : CfgTarget) (P : Noting Bool) where
  -- how many predicates of a list hold, and how many there are, with at most so many more behind those that were counted
  abbrev pub count_from : (limit holding count : ℕ) → Cursor → Noted → Result (ℕ × ℕ) SourceFault × Noted
  count_from zero holding count c known = (Ok (holding, count), known)
  count_from (suc limit) holding count c known =
      if is_done c then (Ok (holding, count), known)
      else read_on (λ (b : Bool × Cursor) ns. read_on (λ d ms. count_from limit (counting holding b.0) (counting count true) d ms) (comma_passed b.1, ns)) (P c known)

  -- how many predicates of a list hold, and how many there are
  unfoldable pub count_read : Cursor → Noted → Result (ℕ × ℕ) SourceFault × Noted
  count_read c known = count_from (c.end - c.at) 0 0 c known

  -- the predicate that is next, whose list stands in these parentheses, or in none
  abbrev pub predicate_by : Cursor → Option Cursor → Noted → Result (Bool × Cursor) SourceFault × Noted
  predicate_by c None known = option_read t c known
  predicate_by c (Some i) known =
      read_on (λ (n : ℕ × ℕ) ns. (read_as (λ holds. (holds, behind_group (passed c 1))) (combined c (word_text c) n.0 n.1), ns)) (count_read i known)

  unfoldable pub predicate_with : Noting Bool
  predicate_with c known = predicate_by c (inside (passed c 1) bracket.Round) known

-- whether the predicate that is next holds, which may stand in so many others
unfoldable pub predicate_read : CfgTarget → (depth_left : ℕ) → Noting Bool
predicate_read t zero = λ c known. (Err (fault c TooDeep), known)
predicate_read t (suc depth_left) = predicate_with t (predicate_read t depth_left)
