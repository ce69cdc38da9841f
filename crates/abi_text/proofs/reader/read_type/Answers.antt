use Rattle.abi_text.proofs.ReadBack.{reads_back}
use Rattle.abi_text.proofs.reader.read_type.Goals as goal

pub returns-clause-written : goal.returns-clause-written
returns-clause-written c t words written shallow stand = reads_back c.args.dl.now t words c.args.line.now c.read_words.result c.read_words.ensures written shallow stand
