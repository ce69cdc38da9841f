-- The crates of a run.
use Rattle.std.specs.Prelude.{List, [], Option, None, Some}
use Rattle.type_reports.specs.declared.package_crates.PackageCrate.{PackageCrate}
use Rattle.type_reports.specs.declared.package_crates.PackageSet.{PackageSet}

-- the crates under one target; none where there is no set of them
abbrev pub crates_of : Option PackageSet → List PackageCrate
crates_of None = []
crates_of (Some set) = set.crates.items
