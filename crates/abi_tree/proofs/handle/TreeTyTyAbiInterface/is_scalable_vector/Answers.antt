use Rattle.std.proofs.Common.{sym}
use Rattle.abi_tree.proofs.Meaning.HandleLemmas.{tells_no_more}
use Rattle.abi_tree.proofs.handle.TreeTyTyAbiInterface.is_scalable_vector.Goals as goal

pub returns : goal.returns
returns g c =
    let this = c.args.this.ty in
    sym ((tells_no_more this.laid.now.nodes this.laid.now.earlier this.laid.now.laws this.node c.requires.there).scalable)
