-- A use stands beside an item of its name, by a scope that keeps all names.
use Rattle.std.proofs.Common.{sym}
use Rattle.abi_rust.specs.Reading.{imported}
use Rattle.abi_rust.proofs.sources.Sources.scope_over.Goals as goal

pub returns-in-Some-clause-err : goal.returns-in-Some-clause-err
returns-in-Some-clause-err c =
    imported c.in-Ok.scope
    (record {
      names = c.in-Ok.ensures.names;
      crates = c.in-Ok.ensures.crates;
      globs = c.in-Ok.ensures.globs;
      own = c.in-Ok.ensures.own;
      enums = c.in-Ok.ensures.enums;
      words = c.in-Ok.ensures.roots.0;
      root = c.in-Ok.ensures.roots.1;
    })
    (sym c.in-Some.ensures)
