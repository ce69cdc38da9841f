use Rattle.std.proofs.Common.{refl}
use Rattle.abi_rust.specs.declared.paths.Space.TheVariants.{Types}
use Rattle.abi_rust.proofs.Rooms.{found_by_uses}
use Rattle.abi_rust.proofs.paths.find_prefix.Goals as goal

pub returns : goal.returns
returns c =
    found_by_uses c.args.items.now c.args.scope.now c.args.«module» c.args.path.now c.args.count c.args.count Types
    c.as_slice-targets.result.now c.names_named-found.result c.beside_module.result c.as_slice-targets.ensures.value refl c.names_named-found.ensures c.beside_module.ensures
