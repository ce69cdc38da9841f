use Rattle.std.proofs.Common.{◌≡◌, true, false, rules}
use Rattle.abi_base.specs.DataLayout.{same_space}
use Rattle.abi_base.proofs.Settings.{default_put, space_put, then_ok}
use Rattle.abi_base.proofs.parse.Reading.set_pointers.Goals as goal

pub returns-then-space-self-clause-one_more : goal.returns-then-space-self-clause-one_more
returns-then-space-self-clause-one_more c =
    let same : same_space c.args.space c.args.self.now.dl.default_address_space ≡ true = (search rules) in
    default_put c.args.self.now.dl c.args.self.now.widest c.args.space c.args.spec same

pub returns-else-space-self-clause-one_more : goal.returns-else-space-self-clause-one_more
returns-else-space-self-clause-one_more c =
    let other : same_space c.args.space c.args.self.now.dl.default_address_space ≡ false = (search rules) in
    then_ok c.insert.result _ _ (space_put c.args.self.now.dl c.args.self.now.widest c.args.space c.args.spec c.insert.new.self other) c.insert.ensures.ok
