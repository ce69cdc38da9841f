-- Whether all name a parameter is whether those that are left do.
use Rattle.std.proofs.Common.{◌≡◌, drop, map}
use Rattle.rust_source.specs.Syntax.{argument_of, arguments, expr_of, exprs, segment_of, segments, type_list, type_of}
use Rattle.abi_rust.specs.ParameterFree.{arguments_use, exprs_use, segments_use, types_use}
use Rattle.abi_rust.specs.Types.{where_of}
use Rattle.abi_rust.proofs.parameter_free.+using_parameters.Given as goal

abbrev pub invariant-exprs_use-loop-expr : goal.invariant-exprs_use-loop-expr
invariant-exprs_use-loop-expr l =
    exprs_use l.cx (where_of l.env) (exprs (map expr_of (drop l.expr-index l.all))) ≡ exprs_use l.cx (where_of l.env) (exprs (map expr_of l.all))

abbrev pub invariant-types_use-loop-ty : goal.invariant-types_use-loop-ty
invariant-types_use-loop-ty l =
    types_use l.cx (where_of l.env) (type_list (map type_of (drop l.ty-index l.all))) ≡ types_use l.cx (where_of l.env) (type_list (map type_of l.all))

abbrev pub invariant-segments_use-loop-segment : goal.invariant-segments_use-loop-segment
invariant-segments_use-loop-segment l =
    segments_use l.cx (where_of l.env) (segments (map segment_of (drop l.segment-index l.all))) ≡ segments_use l.cx (where_of l.env) (segments (map segment_of l.all))

abbrev pub invariant-arguments_use-loop-argument : goal.invariant-arguments_use-loop-argument
invariant-arguments_use-loop-argument l =
    arguments_use l.cx (where_of l.env) (arguments (map argument_of (drop l.argument-index l.all))) ≡ arguments_use l.cx (where_of l.env) (arguments (map argument_of l.all))
