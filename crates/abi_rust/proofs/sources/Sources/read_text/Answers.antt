-- What was read before stays in front.
use Rattle.rust_source.specs.Items.{item_of}
use Rattle.abi_rust.proofs.ReadingLemmas.{begins_seen}
use Rattle.abi_rust.proofs.sources.Sources.read_text.Goals as goal

pub returns-in-Ok-clause-front : goal.returns-in-Ok-clause-front
returns-in-Ok-clause-front c = begins_seen item_of c.read_items.new.items.items.items c.args.self.now.items.items.items c.in-Ok.ensures.kept.items

pub returns-in-Err-clause-front : goal.returns-in-Err-clause-front
returns-in-Err-clause-front c = begins_seen item_of c.read_items.new.items.items.items c.args.self.now.items.items.items c.in-Err.ensures.kept.items
