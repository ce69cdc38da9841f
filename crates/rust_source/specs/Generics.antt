-- Parameters of items, and what `where` asks of them.
use Rattle.std.specs.Prelude.{ℕ, zero, suc, ◌-◌, ◌==◌, ◌&&◌, Bool, true, false, not, List, [], ◌∷◌, ◌++◌, map, Option, None, Some, if◌then◌else◌}
use Rattle.rust_source.specs.declared.fault.SourceFaultKind.TheVariants.{ExpectedAngle, ExpectedColon, ExpectedExpression}
use Rattle.rust_source.specs.declared.place.Place.{Place}
use Rattle.rust_source.specs.declared.place.Symbol.{Symbol}
use Rattle.rust_source.specs.declared.reader.cursor.Cursor.{Cursor}
use Rattle.rust_source.specs.declared.tokens.keyword.Keyword.TheVariants as keyword
use Rattle.rust_source.specs.Cursor.{expected, is_lifetime, is_name, is_next, is_nth, is_nth_pair, is_keyword_next, next_kind, passed}
use Rattle.rust_source.specs.Items.{ParameterKindRead, ParameterRead, for_constant, for_type}
use Rattle.rust_source.specs.Lifetimes.{hashes_passed}
use Rattle.rust_source.specs.Passing.{bounds}
use Rattle.rust_source.specs.Reading.{Reading, read_on, name, read_as}
use Rattle.rust_source.specs.Repeated.{none_twice, parameter_names}
use Rattle.rust_source.specs.Simple.{most_nested}
use Rattle.rust_source.specs.Syntax.{ArgumentRead, ExprRead, TypeRead, constant, named, of_const, of_type}
use Rattle.rust_source.specs.Terms.{Known, Reader, argument, arguments_on, done, readers, fault_next, type_read}

-- the expression that an argument is, where it can be a constant
abbrev pub constant_argument : ArgumentRead → Option ExprRead
constant_argument (of_const e) = Some e
constant_argument (of_type (named p)) = Some (constant p)
constant_argument _ = None

-- the default that an argument is, which stands at the cursor
abbrev pub default_by : Cursor → Option ExprRead → (end : Cursor) → Known → Reading (Option ExprRead × Cursor)
default_by c None end names = fault_next ExpectedExpression c names
default_by c (Some e) end names = done (Some e, end) names

-- the default of a constant, behind a `=`
unfoldable pub const_default : Reader (Option ExprRead)
const_default c names =
    if is_next c 61
    then read_on (λ (a : ArgumentRead × Cursor) ns. default_by (passed c 1) (constant_argument a.0) a.1 ns) (argument (readers most_nested) (passed c 1) names)
    else done (None, c) names

-- the type of a constant parameter, and its default
unfoldable pub const_kind : Reader ParameterKindRead
const_kind c names =
    read_on (λ (t : TypeRead × Cursor) ns. read_on (λ (d : Option ExprRead × Cursor) ms. done (for_constant t.0 d.0, d.1) ms) (const_default t.1 ns))
    (type_read most_nested c names)

-- a parameter of this name, which stands there
abbrev pub parameter : Symbol × Place → (may_be_unsized : Bool) → ParameterKindRead → ParameterRead
parameter n may_be_unsized kind = record { name = n.0; at = n.1; may_be_unsized = may_be_unsized; kind = kind }

-- a constant parameter, behind its `const`
unfoldable pub const_parameter : Reader ParameterRead
const_parameter c names =
    read_on (λ (n : (Symbol × Place) × Cursor) ns.
    read_on (λ d ms. read_on (λ (k : ParameterKindRead × Cursor) ls. done (parameter n.0 false k.0, k.1) ls) (const_kind d ms)) (expected n.1 58 ExpectedColon, ns))
    (name c names)

-- whether a `?` is among the bounds behind a `:`, and what follows them
abbrev pub asked : Cursor → Bool × Cursor
asked c = if is_next c 58 then bounds (passed c 1) else (false, c)

-- the default of a type, behind a `=`
unfoldable pub type_default : Reader (Option TypeRead)
type_default c names =
    if is_next c 61 then read_on (λ (t : TypeRead × Cursor) ns. done (Some t.0, t.1) ns) (type_read most_nested (passed c 1) names) else done (None, c) names

-- a type's parameter
unfoldable pub type_parameter : Reader ParameterRead
type_parameter c names =
    read_on (λ (n : (Symbol × Place) × Cursor) ns.
    read_on (λ (d : Option TypeRead × Cursor) ms. done (parameter n.0 (asked n.1).0 (for_type d.0), d.1) ms) (type_default (asked n.1).1 ns))
    (name c names)

-- the parameters with the one that is next, a lifetime left out
unfoldable pub parameter_more : List ParameterRead → Reader (List ParameterRead)
parameter_more all c names =
    let d = hashes_passed c in
    if is_lifetime (next_kind d) then done (all, (bounds d).1) names
    else read_on (λ (p : ParameterRead × Cursor) ns. done (all ++ p.0 ∷ [], p.1) ns)
    (if is_keyword_next d keyword.Const then const_parameter (passed d 1) names else type_parameter d names)

-- parameters up to their `>`, behind these
abbrev pub parameters_from : (limit : ℕ) → List ParameterRead → Reader (List ParameterRead)
parameters_from zero all c names = fault_next ExpectedAngle c names
parameters_from (suc limit) all c names =
    if is_next c 62 then done (all, passed c 1) names
    else read_on (λ (p : List ParameterRead × Cursor) ns. arguments_on (parameters_from limit) p.0 p.1 ns) (parameter_more all c names)

-- the parameters whose `<` stands before, behind these
unfoldable pub parameters_in : List ParameterRead → Reader (List ParameterRead)
parameters_in all c names = parameters_from (c.end - c.at) all c names

-- the parameters of an item, lifetimes left out, no two of one name; none where no `<` is next
unfoldable pub parameters_read : Reader (List ParameterRead)
parameters_read c names =
    if is_next c 60
    then read_on (λ (p : List ParameterRead × Cursor) ns. (read_as (λ _. p) (none_twice (parameter_names p.0)), ns)) (parameters_in [] (passed c 1) names)
    else done ([], c) names

-- a parameter may be unsized, if it has the name
abbrev pub let_unsized : Symbol → ParameterRead → ParameterRead
let_unsized n p = if p.name.0 == n.0 then record p { may_be_unsized = true } else p

-- a name with its bounds is next, as `T: Copy`
unfoldable pub is_bounded_name : Cursor → Bool
is_bounded_name c = is_name (next_kind c) && is_nth c 1 58 && not (is_nth_pair c 1 58 58)

-- the parameters, with what the next of `where` asks of them
unfoldable pub where_one : List ParameterRead → Reader (List ParameterRead)
where_one all c names =
    if is_bounded_name c
    then read_on (λ (n : (Symbol × Place) × Cursor) ns.
    let b = bounds (passed n.1 1) in done ((if b.0 then map (let_unsized n.0.0) all else all), b.1) ns) (name c names)
    else done (all, (bounds c).1) names

-- what comes behind one that `where` asks: a `,` and another, or the end
abbrev pub where_on : (go_on : List ParameterRead → Reader (List ParameterRead)) → List ParameterRead → Reader (List ParameterRead)
where_on go_on all c names = if is_next c 44 then go_on all (passed c 1) names else done (all, c) names

-- parameters, with what `where` asks of them from here on; at most so many asks are read
abbrev pub where_from : (limit : ℕ) → List ParameterRead → Reader (List ParameterRead)
where_from zero all c names = done (all, c) names
where_from (suc limit) all c names =
    read_on (λ (p : List ParameterRead × Cursor) ns. where_on (where_from limit) p.0 p.1 ns) (where_one all c names)

-- the parameters, with all that `where` asks of them, whose word stands before
unfoldable pub where_all : List ParameterRead → Reader (List ParameterRead)
where_all all c names = where_from (c.end - c.at) all c names

-- the parameters, with what `where` asks of them, where it is next
unfoldable pub where_read : List ParameterRead → Reader (List ParameterRead)
where_read all c names = if is_keyword_next c keyword.Where then where_all all (passed c 1) names else done (all, c) names
