use Rattle.std.proofs.Common.{◌≡◌, length, arith, rules}
use Rattle.rust_source.specs.declared.syntax.Path.{out-Path}
use Rattle.abi_rust.proofs.Rooms.{found_by_uses}
use Rattle.abi_rust.proofs.paths.find.Goals as goal

pub returns : goal.returns
returns c =
    let counted : c.len-count.result ≡ length (out-Path c.args.path.now).segments.items = first_of (omega (arith, c.len-count.ensures), search (rules, c.len-count.ensures)) in
    found_by_uses c.args.items.now c.args.scope.now c.args.«module» c.args.path.now c.len-count.result (length (out-Path c.args.path.now).segments.items) c.args.space
    c.as_slice-targets.result.now c.names_named-found.result c.beside_module.result c.as_slice-targets.ensures.value counted c.names_named-found.ensures c.beside_module.ensures
