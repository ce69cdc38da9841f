-- The name stands behind those before it.
use Rattle.std.proofs.Common.{◌∙◌, map}
use Rattle.rust_source.proofs.Pushed.{last_is}
use Rattle.rust_source.specs.Syntax.{segment_of}
use Rattle.rust_source.proofs.reader.paths.with_segment.Goals as goal

pub returns-clause-ok : goal.returns-clause-ok
returns-clause-ok c =
    c.path_of.ensures
    ∙ last_is c.args.path (map segment_of c.push_segment.new.all.items) (segment_of c.args.one) c.in_ok-push_segment.ensures.ok
