-- The item's number is the one that is asked for.
use Rattle.std.proofs.Common.{◌≡◌, ℕ, rules, subst}
use Rattle.abi_rust.specs.Sources.{Reports}
use Rattle.abi_rust.specs.declared.report.Subject.TheVariants.{Item}
use Rattle.abi_rust.proofs.sources.Sources.type_of.Goals as goal

pub returns : goal.returns
returns c = λ m is small.
    let same : c.in-Ok.number ≡ c.args.item = search rules in
    subst (λ (n : ℕ). Reports c.args.self.now c.args.dl.now m (Item n) c.report.result) same (c.report.ensures m is)
