use Rattle.std.proofs.Common.{rules, ◌≡◌, ◌∙◌}
use Rattle.std.specs.Prelude.{IfSome}
use Rattle.abi_scalar.specs.Lawful.{IsLawfulNiche}
use Rattle.abi_univariant.specs.declared.order.NicheBias.TheVariants.{Start, End}
use Rattle.abi_univariant.specs.Placement.{size_in}
use Rattle.abi_univariant.specs.ListNiche.{niche_in}
use Rattle.abi_univariant.proofs.Sorted.Least.{align_small}
use Rattle.abi_univariant.proofs.Views.NicheLemmas.{lawful_readable}
use Rattle.abi_univariant.proofs.Placed.RunLemmas.{aligned_parts, biased_is, niche_inside}
use Rattle.abi_univariant.proofs.run.placed_in.Given.{Over}
use Rattle.abi_univariant.proofs.run.placed_in.Goals as goal

pub round_up-size-requires-clause-align : goal.round_up-size-requires-clause-align
round_up-size-requires-clause-align g c =
    rw c.list_align-align.ensures (align_small c.args.repr.now c.args.parts.now _ _ (aligned_parts c.args.dl.now c.args.parts.now c.requires.lawful) c.requires.repr)

niche_is : (g : Over) (c : goal.Else-bytes-obj_size_bound g) → c.niche_by_bias-largest_niche.result ≡ niche_in c.args.dl.now c.args.repr.now c.args.bias c.args.parts.now c.args.order
niche_is g c =
    let first : c.in_ok-offsets.field-0.niche.first ≡ niche_in c.args.dl.now c.args.repr.now Start c.args.parts.now c.args.order = search rules in
    let last : c.in_ok-offsets.field-0.niche.last ≡ niche_in c.args.dl.now c.args.repr.now End c.args.parts.now c.args.order = search rules in
    c.niche_by_bias-largest_niche.ensures ∙ biased_is c.args.bias c.in_ok-offsets.field-0.niche.first c.in_ok-offsets.field-0.niche.last (λ b. niche_in c.args.dl.now c.args.repr.now b c.args.parts.now c.args.order) first last

niche_lies : (g : Over) (c : goal.Else-bytes-obj_size_bound g) → IfSome c.niche_by_bias-largest_niche.result (IsLawfulNiche c.args.dl.now c.round_up-size.result)
niche_lies g c =
    let size : c.round_up-size.result ≡ size_in c.args.repr.now c.args.parts.now c.args.order = search rules in
    rw (size, niche_is g c) (niche_inside c.args.bias c.args.dl.now c.args.repr.now c.args.parts.now c.args.order c.requires.lawful c.requires.order)

pub returns-clause-inside : goal.returns-clause-inside
returns-clause-inside g c = niche_lies g c

pub returns-clause-readable : goal.returns-clause-readable
returns-clause-readable g c = lawful_readable c.args.dl.now c.round_up-size.result c.niche_by_bias-largest_niche.result (niche_lies g c)

pub returns-clause-placed : goal.returns-clause-placed
returns-clause-placed g c =
    record { count = search rules; places = search rules; alignment = search rules; extent = search rules; faultless = search rules; largest = niche_is g c }

pub returns-clause-last : goal.returns-clause-last
returns-clause-last g c =
    let last : c.in_ok-offsets.field-0.niche.last ≡ niche_in c.args.dl.now c.args.repr.now End c.args.parts.now c.args.order = search rules in
    c.niche_by_bias-last_niche.ensures ∙ last
