-- Where expressions and paths stand.
use Rattle.std.specs.Prelude.{◌-◌, length, slice_get, Option, Some, None}
use Rattle.rust_source.specs.declared.place.Place.{Place}
use Rattle.rust_source.specs.declared.syntax.Expr.{Expr, Integer, Char, Bool, Text, Path as PathExpr, Call', Unary', Binary', Cast', If', Let', Unevaluated}
use Rattle.rust_source.specs.declared.syntax.Path.{Path, out-Path}
use Rattle.rust_source.specs.declared.syntax.Segment.{Segment, out-Segment}

-- where a segment stands; the first place of all where there is none
abbrev pub place_of_segment : Option Segment → Place
place_of_segment None = record { 0 = 0 }
place_of_segment (Some s) = (out-Segment s).at

-- the last name of a path
abbrev pub last_name : Path → Option Segment
last_name p = slice_get (out-Path p).segments.items (length (out-Path p).segments.items - 1)

-- where a path's last name stands
unfoldable pub place_of_path : Path → Place
place_of_path p = place_of_segment (last_name p)

-- where an expression stands
abbrev pub place_of_expr : Expr → Place
place_of_expr (Integer n kind at) = at
place_of_expr (Char code at) = at
place_of_expr (Bool b at) = at
place_of_expr (Text bytes at) = at
place_of_expr (PathExpr p) = place_of_path p
place_of_expr (Call' p shape all at) = at
place_of_expr (Unary' u p e at) = at
place_of_expr (Binary' b p l q r at) = at
place_of_expr (Cast' p e q t at) = at
place_of_expr (If' p c q l o r at) = at
place_of_expr (Let' name p t q e o rest at) = at
place_of_expr (Unevaluated u at) = at
