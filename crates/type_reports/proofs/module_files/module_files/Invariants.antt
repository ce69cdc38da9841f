-- What the inline modules that are left lead to, from the folder that is written, is what all lead to.
use denote.Shadow.{shadow}
use denote.Text.{Utf8}
use Rattle.std.proofs.Common.{◌≡◌, drop}
use Rattle.std.specs.Prelude.{string_bytes}
use Rattle.type_reports.specs.ModuleFiles.{module_files}
use Rattle.type_reports.proofs.module_files.module_files.Given as goal

abbrev pub invariant-loop-outer : goal.invariant-loop-outer
invariant-loop-outer l =
    (module_files (string_bytes l.at) l.within (drop l.outer-index l.inline) l.«module»
    ≡ module_files l.folder l.own l.inline l.«module»)
    × shadow (Utf8 l.within)
