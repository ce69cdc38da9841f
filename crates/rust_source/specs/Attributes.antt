-- What the attributes of items, fields and variants say.
use Rattle.std.specs.Prelude.{ℕ, zero, suc, ◌-◌, ◌==◌, ◌&&◌, ◌||◌, Bool, true, false, not, codes, is_some, length, List, Option, None, Some, Result, Ok, Err, if◌then◌else◌}
use Rattle.std.specs.Option.{option_or}
use Rattle.std.specs.Str.{bytes_eq}
use Rattle.rust_source.specs.declared.fault.SourceFault.{SourceFault}
use Rattle.rust_source.specs.declared.fault.SourceFaultKind.TheVariants.{BadAttribute, BadCfg, BadRepr, ExpectedComma, TooDeep}
use Rattle.rust_source.specs.declared.item.Repr.{Repr}
use Rattle.rust_source.specs.declared.place.Place.{Place}
use Rattle.rust_source.specs.declared.reader.attributes.Attributes.{Attributes}
use Rattle.rust_source.specs.declared.reader.attributes.Rules.{Rules}
use Rattle.rust_source.specs.declared.reader.cursor.Cursor.{Cursor}
use Rattle.rust_source.specs.declared.reader.literals.Number.{Number}
use Rattle.rust_source.specs.declared.reader.literals.Number.TheVariants as number
use Rattle.rust_source.specs.declared.tokens.token.Bracket.TheVariants as bracket
use Rattle.rust_source.specs.declared.tokens.token.Token.{Token}
use Rattle.rust_source.specs.declared.tokens.token.TokenKind.{TokenKind}
use Rattle.rust_source.specs.declared.tokens.token.TokenKind.TheVariants as kind
use Rattle.rust_source.specs.Cfg.{Noted, predicate_read}
use Rattle.rust_source.specs.Cursor.{behind_group, comma_passed, expected, fault, inside, is_done, is_next, is_nth, nth, passed, place}
use Rattle.rust_source.specs.KnownAttributes.{is_among, known_names, names_copy, names_other_trait}
use Rattle.rust_source.specs.Reading.{read_on, read_as, then_read, word_text}
use Rattle.rust_source.specs.Repr.{asks, misplaced, next_number, with_repr}
use Rattle.rust_source.specs.Simple.{most_nested}
use Rattle.rust_source.specs.Terms.{done, fault_next}
use Rattle.rust_source.specs.Until.{until, up_to}

-- an integer without a suffix
abbrev pub plain_number : Cursor → Number → Result ℕ SourceFault
plain_number c (number.Integer n None) = Ok n
plain_number c _ = Err (fault c BadAttribute)

-- the number that is next, and what follows it and a `,`
unfoldable pub number_and_comma : Cursor → Result (ℕ × Cursor) SourceFault
number_and_comma c = then_read (λ n. read_as (λ d. (n, d)) (comma_passed (passed c 1))) (plain_number c (next_number c))

-- the two numbers of a valid range, alone in its parentheses
unfoldable pub range_read : Cursor → Result (ℕ × ℕ) SourceFault
range_read c =
    then_read (λ (a : ℕ × Cursor). then_read (λ (b : ℕ × Cursor). if is_done b.1 then Ok (a.0, b.0) else Err (fault b.1 BadAttribute)) (number_and_comma a.1))
    (number_and_comma c)

-- what no attributes say
unfoldable pub none_said : Attributes
none_said = record {
  holds = true;
  repr = record {
    at = None;
    c = false;
    rust = false;
    transparent = false;
    simd = false;
    integer = None;
    packed = None;
    is_packed_apart = false;
    align = None;
  };
  valid_range = None;
  fault = None;
  derives_copy = false;
  has_helpers = false;
  unknown = None;
  path = None;
  uses_macros = false;
}

-- what is said where a `cfg` is all that its parentheses have
abbrev pub cfg_alone : Attributes → Cursor → Result Attributes SourceFault
cfg_alone said c = if is_done c then Ok said else Err (fault c BadCfg)

-- with the `cfg` whose one predicate stands in these parentheses
unfoldable pub cfg_said : Rules → Attributes → Cursor → Noted → Result Attributes SourceFault × Noted
cfg_said rules said i known =
    read_on (λ (b : Bool × Cursor) ns. (then_read (λ d. cfg_alone (record said { holds = b.0 }) d) (comma_passed b.1), ns))
    (predicate_read rules.target most_nested i known)

-- with a fault that is reported where the item is there, of several the first
abbrev pub faulty_by : Attributes → SourceFault → (before : Option SourceFault) → Attributes
faulty_by said e None = record said { fault = Some e }
faulty_by said e (Some before) = said

abbrev pub faulty : Attributes → SourceFault → Attributes
faulty said e = faulty_by said e said.fault

-- with what a `repr` asks for, or its fault
abbrev pub repr_said : Attributes → Result Repr SourceFault → Attributes
repr_said said (Ok r) = record said { repr = r }
repr_said said (Err e) = faulty said e

-- a token of this kind, where it is a string
abbrev pub as_text : Token → TokenKind → Option Token
as_text t kind.Text = Some t
as_text t _ = None

-- the token, where there is one and it is a string
abbrev pub text_in : Option Token → Option Token
text_in None = None
text_in (Some t) = as_text t t.kind

-- the string behind the name of an attribute that is next, and `=`
abbrev pub value_next : Cursor → Option Token
value_next c = if is_nth c 1 61 then text_in (nth c 2) else None

-- with what `path` says that is next, unless it was said before
abbrev pub with_path : Attributes → Cursor → Attributes
with_path said c = record said { path = option_or said.path (value_next c) }

-- with an attribute of this name, which may be `macro_use`
abbrev pub with_macro_use : Attributes → (name : List ℕ) → Attributes
with_macro_use said name = record said { uses_macros = said.uses_macros || bytes_eq name (codes "macro_use") }

-- what an attribute says that has no list in parentheses: `cfg`, `cfg_attr` and `repr` need one
unfoldable pub listless_said : Attributes → Cursor → Result Attributes SourceFault
listless_said said c =
    if bytes_eq (word_text c) (codes "cfg") || bytes_eq (word_text c) (codes "cfg_attr") then Err (fault c BadCfg)
    else (if bytes_eq (word_text c) (codes "repr") then Ok (faulty said (fault c BadRepr))
    else (if bytes_eq (word_text c) (codes "path") then Ok (with_path said c) else Ok (with_macro_use said (word_text c))))

-- what an attribute says that has nothing within it that is read by attributes, of this name
unfoldable pub simple_said : Rules → Attributes → (name : List ℕ) → Cursor → Result Attributes SourceFault
simple_said rules said name i =
    if bytes_eq name (codes "repr") then Ok (repr_said said (with_repr said.repr i))
    else (if bytes_eq name (codes "rustc_layout_scalar_valid_range") && rules.is_trusted
    then read_as (λ r. record said { valid_range = Some r }) (range_read i)
    else (if bytes_eq name (codes "derive")
    then Ok (record said { derives_copy = said.derives_copy || names_copy i; has_helpers = said.has_helpers || names_other_trait i })
    else Ok said))

-- where the first attribute stands that isn't known and that no `derive` before it may have brought in, with the one
-- that is next
abbrev pub unknown_with : Attributes → Cursor → Option Place
unknown_with said c =
    if is_some said.unknown || said.has_helpers || is_among known_names (word_text c) then said.unknown else Some (place c)

-- with the name of the attribute that is next
abbrev pub named_said : Attributes → Cursor → Attributes
named_said said c = record said { unknown = unknown_with said c }

-- a path is next, or a keyword that an attribute begins with
abbrev pub begins_attribute : Cursor → Bool
begins_attribute c = not (length (word_text c) == 0) || is_next c 58

module _ (rules : Rules) (A : Attributes → Cursor → Noted → Result Attributes SourceFault × Noted) where
  -- attributes separated by `,`, at most so many
  abbrev pub expanded_from : (limit : ℕ) → Attributes → Cursor → Noted → Result Attributes SourceFault × Noted
  expanded_from zero said c known = done said known
  expanded_from (suc limit) said c known =
      if is_done c then done said known
      else read_on (λ more ns. read_on (λ d ms. expanded_from limit more d ms) (comma_passed (until 44 c), ns)) (A said (up_to 44 c) known)

  unfoldable pub expanded_all : Attributes → Cursor → Noted → Result Attributes SourceFault × Noted
  expanded_all said c known = expanded_from (c.end - c.at) said c known

  -- the attributes behind the predicate of a `cfg_attr` and its `,`, where it holds
  unfoldable pub expanded : Attributes → Cursor → Noted → Result Attributes SourceFault × Noted
  expanded said c known =
      read_on (λ (b : Bool × Cursor) ns. read_on (λ d ms. if b.0 then expanded_all said d ms else done said ms) (expected b.1 44 ExpectedComma, ns))
      (predicate_read rules.target most_nested c known)

  -- the attribute of this name, whose parentheses hold these tokens
  abbrev pub attribute_in : Attributes → (name : List ℕ) → Cursor → Noted → Result Attributes SourceFault × Noted
  attribute_in said name i known =
      if bytes_eq name (codes "cfg_attr") then expanded said i known
      else (if bytes_eq name (codes "cfg") then cfg_said rules said i known else (simple_said rules said name i, known))

  -- the attribute that is next, whose list stands in these parentheses, if it has one; nothing follows it
  abbrev pub attribute_by : Attributes → Cursor → Option Cursor → Noted → Result Attributes SourceFault × Noted
  attribute_by said c None known = (listless_said said c, known)
  attribute_by said c (Some i) known =
      if is_done (behind_group (passed c 1)) then attribute_in said (word_text c) i known
      else fault_next BadAttribute (behind_group (passed c 1)) known

  -- the attribute that is next; behind a `cfg` that doesn't hold it isn't read
  unfoldable pub attribute_with : Attributes → Cursor → Noted → Result Attributes SourceFault × Noted
  attribute_with said c known =
      if not said.holds then done said known
      else (if begins_attribute c then attribute_by (named_said said c) c (inside (passed c 1) bracket.Round) known else fault_next BadAttribute c known)

-- what the attribute says that is next and may stand in so many others, added to what those before it say
unfoldable pub attribute_read : Rules → (depth_left : ℕ) → Attributes → Cursor → Noted → Result Attributes SourceFault × Noted
attribute_read rules zero said c known = fault_next TooDeep c known
attribute_read rules (suc depth_left) said c known = attribute_with rules (attribute_read rules depth_left) said c known

-- the `!` of an attribute is passed over
abbrev pub bang_passed : Cursor → Cursor
bang_passed c = if is_next c 33 then passed c 1 else c

-- the attribute in these square brackets, whose `#` stands before: one of the module around says nothing here
abbrev pub attribute_between : Rules → Attributes → Cursor → Option Cursor → Noted → Result (Attributes × Cursor) SourceFault × Noted
attribute_between rules said c None known = fault_next BadAttribute (bang_passed c) known
attribute_between rules said c (Some i) known =
    if is_next c 33 then done (said, behind_group (bang_passed c)) known
    else read_on (λ more ns. done (more, behind_group (bang_passed c)) ns) (attribute_read rules most_nested said i known)

unfoldable pub one_attribute : Rules → Attributes → Cursor → Noted → Result (Attributes × Cursor) SourceFault × Noted
one_attribute rules said c known = attribute_between rules said c (inside (bang_passed c) bracket.Square) known

-- what the attributes that are next say, at most so many, added to what those before them say
abbrev pub attributes_from : Rules → (limit : ℕ) → Attributes → Cursor → Noted → Result (Attributes × Cursor) SourceFault × Noted
attributes_from rules zero said c known = done (said, c) known
attributes_from rules (suc limit) said c known =
    if is_next c 35
    then read_on (λ (s : Attributes × Cursor) ns. attributes_from rules limit s.0 s.1 ns) (one_attribute rules said (passed c 1) known)
    else done (said, c) known

-- what the attributes that are next say, whatever it is that they stand at
unfoldable pub attributes_said : Rules → Cursor → Noted → Result (Attributes × Cursor) SourceFault × Noted
attributes_said rules c known = attributes_from rules (c.end - c.at) none_said c known

-- the fault of what is there
abbrev pub judged_by : Attributes → Option SourceFault → Result Attributes SourceFault
judged_by said None = Ok said
judged_by said (Some e) = if said.holds then Err e else Ok said

-- what the attributes that are next say: what a `cfg` takes out has no fault in its `repr`
unfoldable pub attributes_read : Rules → Cursor → Noted → Result (Attributes × Cursor) SourceFault × Noted
attributes_read rules c known =
    read_on (λ (s : Attributes × Cursor) ns. (read_as (λ said. (said, s.1)) (judged_by s.0 s.0.fault), ns)) (attributes_said rules c known)

-- a `repr` of a field, a variant or a constant of a type asks for nothing
abbrev pub part_judged : Attributes → Result (Unit {0}) SourceFault
part_judged said = if said.holds && asks said.repr then misplaced said.repr.at else Ok tt

-- what the attributes of a field, a variant or a constant of a type say
unfoldable pub part_attributes : Rules → Cursor → Noted → Result (Attributes × Cursor) SourceFault × Noted
part_attributes rules c known = read_on (λ (s : Attributes × Cursor) ns. (read_as (λ _. s) (part_judged s.0), ns)) (attributes_read rules c known)
