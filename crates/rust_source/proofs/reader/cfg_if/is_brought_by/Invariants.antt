-- No use before the index brings in the macro.
use Rattle.std.proofs.Common.{◌≡◌, drop, map}
use Rattle.rust_source.specs.CfgIf.{is_brought_by}
use Rattle.rust_source.specs.Items.{use_of}
use Rattle.rust_source.proofs.reader.cfg_if.is_brought_by.Given as goal

abbrev pub invariant-loop-one : goal.invariant-loop-one
invariant-loop-one l =
    is_brought_by l.«module» l.name (map use_of (drop l.one-index l.uses)) ≡ is_brought_by l.«module» l.name (map use_of l.uses)
