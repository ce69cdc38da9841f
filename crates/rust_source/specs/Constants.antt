-- Constants of types, in `impl` blocks that have no parameters and implement no trait.
use Rattle.std.specs.Prelude.{ℕ, zero, suc, ◌-◌, ◌&&◌, Bool, true, false, Option, None, Some, Result, Ok, Err, if◌then◌else◌}
use Rattle.rust_source.specs.declared.fault.SourceFault.{SourceFault}
use Rattle.rust_source.specs.declared.fault.SourceFaultKind.{SourceFaultKind}
use Rattle.rust_source.specs.declared.fault.SourceFaultKind.TheVariants.{OutOfMemory}
use Rattle.rust_source.specs.declared.reader.attributes.Attributes.{Attributes}
use Rattle.rust_source.specs.declared.reader.attributes.Rules.{Rules}
use Rattle.rust_source.specs.declared.reader.cursor.Cursor.{Cursor}
use Rattle.rust_source.specs.declared.reader.visibility.Standing.{Standing}
use Rattle.rust_source.specs.declared.tokens.keyword.Keyword.TheVariants as keyword
use Rattle.rust_source.specs.declared.tokens.token.Bracket.TheVariants as bracket
use Rattle.rust_source.specs.declared.tokens.token.TokenKind.{TokenKind}
use Rattle.rust_source.specs.declared.tokens.token.TokenKind.TheVariants as kind
use Rattle.rust_source.specs.Attributes.{part_attributes}
use Rattle.rust_source.specs.Cursor.{inside, is_constant, is_done, is_next, is_keyword_next, next_kind, passed}
use Rattle.rust_source.specs.Fields.{by_names, visibility_passed}
use Rattle.rust_source.specs.Having.{Having, item_of_module, next_owner, noted, with_item, with_owner, noted_within}
use Rattle.rust_source.specs.Items.{ItemsRead}
use Rattle.rust_source.specs.Passing.{item_passed}
use Rattle.rust_source.specs.Reading.{Reading, read_on}
use Rattle.rust_source.specs.Simple.{begins_path, most_nested}
use Rattle.rust_source.specs.Syntax.{PathRead}
use Rattle.rust_source.specs.Terms.{Known, done, readers, path_read}
use Rattle.rust_source.specs.Visibility.{visibility_read}
use Rattle.rust_source.specs.Definition.{DefinitionRead, const_read}

-- memory was wanting
abbrev pub is_wanting : SourceFaultKind → Bool
is_wanting OutOfMemory = true
is_wanting _ = false

-- a token of this kind may stand among lifetimes in angle brackets
abbrev pub is_of_lifetimes : Option TokenKind → Bool
is_of_lifetimes (Some kind.Lifetime) = true
is_of_lifetimes (Some (kind.Punct b)) = true
is_of_lifetimes _ = false

-- whether all parameters up to a `>` are lifetimes, and what follows them, of at most so many tokens
abbrev pub lifetimes_from : (limit : ℕ) → Cursor → Bool × Cursor
lifetimes_from zero c = (false, c)
lifetimes_from (suc limit) c =
    if is_next c 62 then (true, passed c 1) else (if is_of_lifetimes (next_kind c) then lifetimes_from limit (passed c 1) else (false, c))

unfoldable pub lifetimes_in : Cursor → Bool × Cursor
lifetimes_in c = lifetimes_from (c.end - c.at) c

-- whether all parameters of an `impl` block are lifetimes, and what follows them
abbrev pub lifetimes : Cursor → Bool × Cursor
lifetimes c = if is_next c 60 then lifetimes_in (passed c 1) else (true, c)

-- a type, where its path could be read; what can't be read here isn't reported
abbrev pub constant_owner_by : Result (PathRead × Cursor) SourceFault → Known → Reading (Option (PathRead × Cursor))
constant_owner_by (Ok p) names = done (Some p) names
constant_owner_by (Err e) names = done None names

-- the same of what was read, with what is known behind it
abbrev pub constant_owner : Reading (PathRead × Cursor) → Reading (Option (PathRead × Cursor))
constant_owner read = constant_owner_by read.0 read.1

-- the type whose own the items of an `impl` block are, behind its `impl`, and what follows it; none where it has parameters
unfoldable pub owner_read : Cursor → Known → Reading (Option (PathRead × Cursor))
owner_read c names =
    let l = lifetimes c in
    if l.0 && begins_path l.1 then constant_owner (path_read (readers most_nested) true l.1 names) else done None names

-- a constant of a type goes behind the items, where it could be read; what can't be read here isn't reported
abbrev pub constant_of_type_by : Standing → Attributes → ItemsRead → Result (DefinitionRead × Cursor) SourceFault → Known → Result (Unit {0}) SourceFault × Having
constant_of_type_by standing said items (Ok w) names = done tt (names, with_item (item_of_module standing said w.0) items)
constant_of_type_by standing said items (Err e) names = done tt (names, items)

-- the same of what was read, with what is known behind it
abbrev pub constant_of_type : Standing → Attributes → ItemsRead → Reading (DefinitionRead × Cursor) → Result (Unit {0}) SourceFault × Having
constant_of_type standing said items read = constant_of_type_by standing said items read.0 read.1

-- the constant, behind its `const`, of the type with this number
unfoldable pub own_const : Standing → Attributes → (owner : ℕ) → Cursor → Having → Result (Unit {0}) SourceFault × Having
own_const standing said owner c known = constant_of_type standing said known.1 (const_read (Some owner) c known.0)

-- the item here, behind its `pub`, where it is a constant
abbrev pub own_on : Standing → Attributes → (owner : ℕ) → Cursor → Having → Result Cursor SourceFault × Having
own_on standing said owner c known =
    if is_constant c then read_on (λ _ ns. done (item_passed c) ns) (own_const standing said owner (passed c 1) known)
    else done (item_passed c) known

-- the item here, behind its attributes, which no `cfg` takes out
unfoldable pub own_said : (number : ℕ) → Attributes → (owner : ℕ) → Cursor → Having → Result Cursor SourceFault × Having
own_said number said owner c known =
    read_on (λ (v : Option ℕ × Cursor) ns. own_on (record { «module» = number; visible_in = v.0 }) said owner v.1 ns)
    (by_names known.1 (visibility_read known.1.modules number c known.0))

module _ (rules : Rules) where
  -- the item of an `impl` block that is next
  unfoldable pub own_item : (number owner : ℕ) → Cursor → Having → Result Cursor SourceFault × Having
  own_item number owner c known =
      read_on (λ (a : Attributes × Cursor) ns. if a.0.holds then own_said number a.0 owner a.1 ns else done (item_passed (visibility_passed a.1)) ns)
      (noted_within known.1 (part_attributes rules c (noted known)))

  -- the items of an `impl` block, at most so many
  abbrev pub own_from : (limit number owner : ℕ) → Cursor → Having → Result (Unit {0}) SourceFault × Having
  own_from zero number owner c known = done tt known
  own_from (suc limit) number owner c known =
      if is_done c then done tt known else read_on (λ d ns. own_from limit number owner d ns) (own_item number owner c known)

  unfoldable pub own_items : (number owner : ℕ) → Cursor → Having → Result (Unit {0}) SourceFault × Having
  own_items number owner c known = own_from (c.end - c.at) number owner c known

  -- the items in these braces, of the type that the path names
  abbrev pub impl_in : (number : ℕ) → PathRead → Option Cursor → Having → Result (Unit {0}) SourceFault × Having
  impl_in number p None known = done tt known
  impl_in number p (Some i) known = own_items number (next_owner known.1) i (known.0, with_owner p known.1)

  abbrev pub impl_by : (number : ℕ) → Option (PathRead × Cursor) → Having → Result (Unit {0}) SourceFault × Having
  impl_by number None known = done tt known
  impl_by number (Some p) known = impl_in number p.0 (inside p.1 bracket.Curly) known

  -- the constants of the `impl` block that is next, if one is that has no parameters and implements no trait
  unfoldable pub own_constants : (number : ℕ) → Cursor → Having → Result (Unit {0}) SourceFault × Having
  own_constants number c known =
      if is_keyword_next c keyword.Impl then read_on (λ o ns. impl_by number o ns) (by_names known.1 (owner_read (passed c 1) known.0)) else done tt known
