use Rattle.std.proofs.Common.{rules}
use Rattle.abi_text.proofs.Text.{run_words, single_word}
use Rattle.abi_text.proofs.words.first_length.Goals as goal

pub returns-then-is_plain-clause-first : goal.returns-then-is_plain-clause-first
returns-then-is_plain-clause-first c =
    run_words c.args.line.now c.run_length.result c.requires.some (search rules) c.run_length.ensures.within c.run_length.ensures.plain c.run_length.ensures.ends

pub returns-else-is_plain-clause-first : goal.returns-else-is_plain-clause-first
returns-else-is_plain-clause-first c = single_word c.args.line.now c.requires.some (search rules) c.requires.begins
