-- What is collected of a text's characters is all of them.
use Rattle.std.proofs.Common.{rules}
use Rattle.std.proofs.lemmas.Str.{chars_from_encodes}
use Rattle.type_reports.proofs.place.characters_of.Goals as goal

pub returns : goal.returns
returns c = search (rules, chars_from_encodes)
