-- What the patterns of a `match` compare.
use Rattle.std.specs.Prelude.{◌||◌, Bool, false, Option, None, Some}
use Rattle.rust_source.specs.declared.place.Place.{Place}
use Rattle.rust_source.specs.declared.place.TheConstants.Symbol.{SELF, UNDERSCORE}
use Rattle.rust_source.specs.declared.reader.cursor.Cursor.{Cursor}
use Rattle.rust_source.specs.declared.syntax.Binary.{Binary}
use Rattle.rust_source.specs.declared.tokens.keyword.Keyword.TheVariants as keyword
use Rattle.rust_source.specs.Cursor.{is_keyword_next, is_next, is_pair}
use Rattle.rust_source.specs.Syntax.{ExprRead, PathRead, SegmentRead, binary, constant, more_segments, no_arguments, no_segments, path, segment}

-- the value that is matched, by the name that its `let` has
abbrev pub matched : Place → ExprRead
matched at = constant (path false (more_segments (segment UNDERSCORE.0 at 0 no_arguments) no_segments))

-- the value that is matched, compared with another one
abbrev pub compared : Place → Binary → ExprRead → ExprRead
compared at operator bound = binary operator (matched at) bound at

-- where a path stands that is one name
abbrev pub place_alone : PathRead → Option Place
place_alone (path false (more_segments (segment name at lifetimes all) no_segments)) = Some at
place_alone _ = None

-- a path with a name before it
abbrev pub with_first : SegmentRead → PathRead → PathRead
with_first s (path is_global ss) = path is_global (more_segments s ss)

abbrev pub bound_by : PathRead → Option Place → PathRead
bound_by p None = p
bound_by p (Some at) = with_first (segment SELF.0 at 0 no_arguments) p

-- a name alone is a constant's of the module, and nothing's that is local (Rust Reference, "Identifier patterns")
abbrev pub bound_path : PathRead → PathRead
bound_path p = bound_by p (place_alone p)

-- a pattern ends here
unfoldable pub ends_pattern : Cursor → Bool
ends_pattern c = is_pair c 61 62 || (is_next c 124 || is_keyword_next c keyword.If)
