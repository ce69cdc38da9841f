-- The table has the keywords.
use Rattle.rust_source.specs.Keywords.{keyword_of, keywords}
use Rattle.rust_source.proofs.tokens.keyword.keyword_of.Goals as goal

pub returns : goal.returns
unfolding keyword_of keywords
returns c = c.keyword_in.ensures
