-- Where the place is in the files that are left, and else where it was found, is where it is in all.
use Rattle.std.proofs.Common.{◌≡◌, drop}
use Rattle.abi_rust.specs.Sources.{place_in_files}
use Rattle.abi_rust.specs.declared.fault.FaultPlace.TheVariants.{Nowhere}
use Rattle.abi_rust.proofs.sources.place_in_files.Given as goal

abbrev pub invariant-loop-index : goal.invariant-loop-index
invariant-loop-index l =
    place_in_files l.index (drop l.index l.starts) l.at l.found ≡ place_in_files 0 l.starts l.at Nowhere
