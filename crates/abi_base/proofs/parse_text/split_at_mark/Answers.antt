use Rattle.abi_base.proofs.Parts.{parts_last, parts_next}
use Rattle.abi_base.proofs.parse_text.split_at_mark.Goals as goal

pub returns-in-Some-clause-parts : goal.returns-in-Some-clause-parts
returns-in-Some-clause-parts c = parts_next c.args.mark c.args.text.now c.in-Some.part.now c.in-Some.rest.now (c.in-Some.ensures.byte c.requires (λ w o h. h))

pub returns-in-None-clause-parts : goal.returns-in-None-clause-parts
returns-in-None-clause-parts c = parts_last c.args.mark c.args.text.now (c.in-None.ensures.byte c.requires (λ w o h. h))
