-- The globs were followed, and then those that lead nowhere added.
use Rattle.abi_rust.specs.Globs.{lists_of}
use Rattle.abi_rust.proofs.GlobLemmas.{leads_through, names_on}
use Rattle.abi_rust.proofs.scope.Scope.follow_globs.Goals as goal

pub returns-clause-globs : goal.returns-clause-globs
returns-clause-globs c = record {
  direct = lists_of c.in_ok-direct.direct.items;
  before = c.follow_rounds.new.self;
  followed = c.in_ok-direct.ensures.globs;
  same = c.in_ok-keep_ways.ensures.same;
  leads = leads_through c.args.items.now (lists_of c.add_lost.new.direct.items) _ c.keep_ways.new.self c.in_ok-add_lost.ensures.added c.in_ok-keep_ways.ensures.leads;
}

pub returns-clause-same : goal.returns-clause-same
returns-clause-same c = names_on c.args.self.now c.follow_rounds.new.self c.keep_ways.new.self c.in_ok-direct.ensures.same c.in_ok-keep_ways.ensures.same
