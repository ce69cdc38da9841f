-- Functions and statics: their names, and what constants need of them.
use Rattle.std.specs.Prelude.{ℕ, zero, suc, ◌-◌, ◌&&◌, ◌++◌, ◌∷◌, Bool, true, false, List, [], Option, None, Some, Result, Ok, Err, if◌then◌else◌}
use Rattle.rust_source.specs.declared.fault.SourceFault.{SourceFault}
use Rattle.rust_source.specs.declared.fault.SourceFaultKind.TheVariants.{ExpectedColon, ExpectedExpression, ExpectedFields}
use Rattle.rust_source.specs.declared.place.Place.{Place}
use Rattle.rust_source.specs.declared.place.Symbol.{Symbol}
use Rattle.rust_source.specs.declared.reader.attributes.Attributes.{Attributes}
use Rattle.rust_source.specs.declared.reader.cursor.Cursor.{Cursor}
use Rattle.rust_source.specs.declared.reader.visibility.Standing.{Standing}
use Rattle.rust_source.specs.declared.tokens.keyword.Keyword.{Keyword}
use Rattle.rust_source.specs.declared.tokens.keyword.Keyword.TheVariants as keyword
use Rattle.rust_source.specs.declared.tokens.token.Bracket.TheVariants as bracket
use Rattle.rust_source.specs.declared.tokens.token.TokenKind.{TokenKind}
use Rattle.rust_source.specs.declared.tokens.token.TokenKind.TheVariants as kind
use Rattle.rust_source.specs.Cursor.{behind_group, comma_passed, expected, inside, is_done, is_keyword_next, next_kind, passed}
use Rattle.rust_source.specs.Fields.{by_names}
use Rattle.rust_source.specs.Generics.{parameter}
use Rattle.rust_source.specs.Having.{Having, item_of_module, with_item}
use Rattle.rust_source.specs.Items.{ItemsRead, ParameterRead, const_of, for_constant}
use Rattle.rust_source.specs.Reading.{Reading, read_on, name}
use Rattle.rust_source.specs.Simple.{most_nested}
use Rattle.rust_source.specs.Syntax.{ExprRead, TypeRead, function, no_types, type_list}
use Rattle.rust_source.specs.Terms.{Known, Reader, done, fault_next, readers, result_read, type_read, whole}
use Rattle.rust_source.specs.Definition.{DefinitionRead, HeadRead, const_read}

-- a keyword that may stand before `fn`
abbrev pub qualifies : Keyword → Bool
qualifies keyword.Const = true
qualifies keyword.Async = true
qualifies keyword.Unsafe = true
qualifies keyword.Extern = true
qualifies _ = false

-- a token that may stand before `fn`: such a keyword, or the name of a calling convention
abbrev pub qualifies_kind : Option TokenKind → Bool
qualifies_kind (Some kind.Text) = true
qualifies_kind (Some (kind.Keyword k)) = qualifies k
qualifies_kind _ = false

abbrev pub is_qualifier : Cursor → Bool
is_qualifier c = qualifies_kind (next_kind c)

-- what follows what may stand before `fn`, of at most so many
abbrev pub qualifiers_from : (limit : ℕ) → Cursor → Cursor
qualifiers_from zero c = c
qualifiers_from (suc limit) c = if is_qualifier c then qualifiers_from limit (passed c 1) else c

unfoldable pub qualifiers_passed : Cursor → Cursor
qualifiers_passed c = qualifiers_from (c.end - c.at) c

-- a head of this name, which stands there
abbrev pub head_named : Symbol × Place → List ParameterRead → HeadRead
head_named n parameters = record { name = n.0; at = n.1; lifetimes = 0; parameters = parameters }

-- a function of this name, which stands there, as a constant that has no value
abbrev pub function_named : Symbol × Place → DefinitionRead
function_named n = record { head = head_named n []; kind = const_of (function no_types) None None true }

-- a parameter whose value a function is given: its name and its type
unfoldable pub value_parameter : Reader ParameterRead
value_parameter c names =
    read_on (λ (n : (Symbol × Place) × Cursor) ns.
    read_on (λ d ms. read_on (λ (t : TypeRead × Cursor) ls. done (parameter n.0 false (for_constant t.0 None), t.1) ls) (type_read most_nested d ms))
    (expected n.1 58 ExpectedColon, ns))
    (name c names)

-- the parameters that stand in parentheses, behind these
abbrev pub value_parameters_from : (limit : ℕ) → List ParameterRead → Cursor → Known → Reading (List ParameterRead)
value_parameters_from zero all c names = done all names
value_parameters_from (suc limit) all c names =
    if is_done c then done all names
    else read_on (λ (p : ParameterRead × Cursor) ns. read_on (λ d ms. value_parameters_from limit (all ++ p.0 ∷ []) d ms) (comma_passed p.1, ns))
    (value_parameter c names)

unfoldable pub value_parameters : Cursor → Known → Reading (List ParameterRead)
value_parameters c names = value_parameters_from (c.end - c.at) [] c names

-- the parameters of a function in these parentheses, and what follows
abbrev pub signature_in : Cursor → Option Cursor → Known → Reading (List ParameterRead × Cursor)
signature_in c None names = fault_next ExpectedFields c names
signature_in c (Some i) names = read_on (λ all ns. done (all, behind_group c) ns) (value_parameters i names)

unfoldable pub signature_read : Reader (List ParameterRead)
signature_read c names = signature_in c (inside c bracket.Round) names

-- the type of a function's result, where it is written, as that of a function of this result alone
abbrev pub result_type : Reader TypeRead
result_type c names =
    read_on (λ (all : List TypeRead × Cursor) ns. done (function (type_list all.0), all.1) ns) (result_read (readers most_nested) [] c names)

-- what the body of a function is worth that stands in these braces, which are read with it
abbrev pub body_in : Cursor → Option Cursor → Known → Reading (ExprRead × Cursor)
body_in c None names = fault_next ExpectedExpression c names
body_in c (Some i) names =
    read_on (λ (e : ExprRead × Cursor) ns. done (e.0, behind_group c) ns) (whole (readers most_nested) (record c { end = (behind_group c).at }) names)

unfoldable pub body_read : Reader ExprRead
body_read c names = body_in c (inside c bracket.Curly) names

-- a function of this name, as a constant of a type that has its result alone, and whose value is its body
unfoldable pub function_valued : Symbol × Place → Cursor → Known → Reading DefinitionRead
function_valued n c names =
    read_on (λ (ps : List ParameterRead × Cursor) ns.
    read_on (λ (t : TypeRead × Cursor) ms.
    read_on (λ (e : ExprRead × Cursor) ls. done (record { head = head_named n ps.0; kind = const_of t.0 (Some e.0) None true }) ls)
    (body_read t.1 ms))
    (result_type ps.1 ns))
    (signature_read c names)

-- what was read, or the name alone
abbrev pub or_name_by : Symbol × Place → Result DefinitionRead SourceFault → Known → Reading DefinitionRead
or_name_by n (Ok d) names = done d names
or_name_by n (Err e) names = done (function_named n) names

abbrev pub or_name : Symbol × Place → Reading DefinitionRead → Reading DefinitionRead
or_name n read = or_name_by n read.0 read.1

-- a function of this name, behind it: what can be read of one that constants may call, and of another one its name
abbrev pub function_behind : (is_valued : Bool) → Symbol × Place → Cursor → Known → Reading DefinitionRead
function_behind true n c names = or_name n (function_valued n c names)
function_behind false n c names = done (function_named n) names

-- a function is next that constants may call: `const fn`, and nothing between
unfoldable pub is_valued : Cursor → Bool
is_valued c = is_keyword_next c keyword.Const && is_keyword_next (passed c 1) keyword.Fn

-- the function goes behind the items
abbrev pub function_put : Standing → Attributes → ItemsRead → Reading DefinitionRead → Result (Unit {0}) SourceFault × Having
function_put standing said items read =
    read_on (λ (d : DefinitionRead) ns. done tt (ns.0, with_item (item_of_module standing said d) ns.1)) (by_names items read)

-- the function whose name is next goes behind the items
abbrev pub function_on : (is_valued : Bool) → Standing → Attributes → Cursor → Having → Result (Unit {0}) SourceFault × Having
function_on is_valued standing said c known =
    read_on (λ (n : (Symbol × Place) × Cursor) ns. function_put standing said ns.1 (function_behind is_valued n.0 n.1 ns.0))
    (by_names known.1 (name c known.0))

-- a static of this name: one that stays as it is a constant, where it can be read, and another one its name
abbrev pub static_named : (is_mutable : Bool) → Symbol × Place → Cursor → Known → Reading DefinitionRead
static_named true n c names = done (function_named n) names
static_named false n c names = or_name n (read_on (λ (d : DefinitionRead × Cursor) ns. done d.0 ns) (const_read None c names))

-- the static whose name is next goes behind the items
abbrev pub static_on : (is_mutable : Bool) → Standing → Attributes → Cursor → Having → Result (Unit {0}) SourceFault × Having
static_on is_mutable standing said c known =
    read_on (λ (n : (Symbol × Place) × Cursor) ns. function_put standing said ns.1 (static_named is_mutable n.0 c ns.0))
    (by_names known.1 (name c known.0))

-- the static that is next, if one is
unfoldable pub static_read : Standing → Attributes → Cursor → Having → Result (Unit {0}) SourceFault × Having
static_read standing said c known =
    let d = passed c 1 in
    if is_keyword_next c keyword.Static
    then static_on (is_keyword_next d keyword.Mut) standing said (if is_keyword_next d keyword.Mut then passed d 1 else d) known
    else done tt known

-- the function or the static that is next, if one is
unfoldable pub function_read : Standing → Attributes → Cursor → Having → Result (Unit {0}) SourceFault × Having
function_read standing said c known =
    let f = qualifiers_passed c in
    if is_keyword_next f keyword.Fn then function_on (is_valued c) standing said (passed f 1) known else static_read standing said c known
