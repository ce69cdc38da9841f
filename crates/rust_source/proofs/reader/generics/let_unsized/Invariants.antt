-- Those before the index are changed.
use Rattle.std.proofs.Common.{◌≡◌, ◌++◌, drop, map, take}
use Rattle.rust_source.specs.Generics.{let_unsized}
use Rattle.rust_source.specs.Items.{parameter_of}
use Rattle.rust_source.proofs.reader.generics.let_unsized.Given as goal

abbrev pub invariant-loop-parameter : goal.invariant-loop-parameter
invariant-loop-parameter l =
    map parameter_of (take l.parameter-index l.parameter-items)
    ++ map (let_unsized l.name) (map parameter_of (drop l.parameter-index l.parameter-items))
    ≡ map (let_unsized l.name) (map parameter_of l.fn.all.items)
