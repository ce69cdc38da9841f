-- The token at the index has its partner, where it is among the tokens.
use Rattle.std.proofs.Common.{rules}
use Rattle.rust_source.proofs.TokenSteps.{partner_past, partner_set}
use Rattle.rust_source.proofs.tokens.brackets.set_partner.Goals as goal

pub returns-then-index-len-clause-written : goal.returns-then-index-len-clause-written
returns-then-index-len-clause-written c =
    partner_set c.args.found.now.items c.args.index c.args.partner c.index-token.result.now (search rules) (search rules)

pub returns-else-index-len-clause-written : goal.returns-else-index-len-clause-written
returns-else-index-len-clause-written c = partner_past c.args.found.now.items c.args.index c.args.partner (search rules)
