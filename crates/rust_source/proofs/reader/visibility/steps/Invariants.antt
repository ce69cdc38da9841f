-- What the names that are left name behind the module that was come to is what all of them name.
use Rattle.std.proofs.Common.{◌≡◌, drop}
use Rattle.rust_source.specs.Visibility.{steps}
use Rattle.rust_source.proofs.reader.visibility.steps.Given as goal

abbrev pub invariant-loop-used : goal.invariant-loop-used
invariant-loop-used l =
    steps l.modules l.number l.rises (drop l.used-index l.path) l.at ≡ steps l.modules l.number l.fn.may_rise l.path l.fn.from
