-- The module around a module is written within less room.
use Rattle.abi_rust.proofs.sources.Sources.+write_modules.Given as goal

abbrev pub decreases-write_modules : goal.decreases-write_modules
decreases-write_modules l = l.depth_left
