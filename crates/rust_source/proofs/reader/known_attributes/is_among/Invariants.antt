use Rattle.std.proofs.Common.{◌≡◌, drop, map}
use Rattle.rust_source.specs.KnownAttributes.{is_among}
use Rattle.rust_source.specs.Names.{word_of}
use Rattle.rust_source.proofs.reader.known_attributes.is_among.Given as goal

-- the name is among those that are left, if it is among all
abbrev pub invariant-loop-other : goal.invariant-loop-other
invariant-loop-other l = is_among (map word_of (drop l.other-index l.names)) l.name ≡ is_among (map word_of l.names) l.name
