-- The lists are those of the variants, and lists that are good can be moved.
use Rattle.std.proofs.Common.{◌≡◌, Bool, false, inl, inr, refl, sym, true, ◌∙◌}
use Rattle.std.specs.Prelude.{◌⊎◌, IfSome, MatchBool, None, Option, Some}
use Rattle.abi_calc.proofs.EnumLemmas.Growth.{lists_count}
use Rattle.abi_calc.proofs.EnumLemmas.InNiche.{small_lists}
use Rattle.abi_calc.proofs.calculator.LayoutCalculator.layout_of_niche.Goals as goal

-- what holds anyway holds of what is found
holds : {A : Type 0} (P : Type 0) (o : Option A) → P → IfSome o (λ l. P)
holds P None h = tt
holds P (Some l) h = h

-- a refusal that isn't that memory ran out is the other one
other : {A B : Type 0} (b : Bool) → A ⊎ B → MatchBool b B (B → ⊥) → b ≡ false → A
other true h tag_distinguishes is = cc
other false (inl a) tag_distinguishes is = a
other false (inr b) tag_distinguishes is = absurd (tag_distinguishes b)

pub niche_of_lists-requires-clause-lawful : goal.niche_of_lists-requires-clause-lawful
niche_of_lists-requires-clause-lawful g c = rw c.data_layout-dl.ensures c.in-Ok.ensures.lawful

pub niche_of_lists-requires-clause-small : goal.niche_of_lists-requires-clause-small
niche_of_lists-requires-clause-small g c =
    small_lists g.F.LayoutHandle.layout_of g.FieldIdx.Idx.at (g.VariantIdx.Idx.at 0) (g.Cx.HasDataLayout.target c.args.self.now.cx) c.args.repr.now _ c.args.variants.now c.in-Ok.lists c.requires.data_layout c.in-Ok.ensures.good

pub niche_of_lists-requires-clause-each : goal.niche_of_lists-requires-clause-each
niche_of_lists-requires-clause-each g c = lists_count c.args.variants.now c.in-Ok.lists c.in-Ok.ensures.lists

pub niche_of_lists-requires-clause-count : goal.niche_of_lists-requires-clause-count
niche_of_lists-requires-clause-count g c = rw (lists_count c.args.variants.now c.in-Ok.lists c.in-Ok.ensures.lists) c.requires.count

pub returns-in-Ok-niche_of_lists-clause-exact : goal.returns-in-Ok-niche_of_lists-clause-exact
returns-in-Ok-niche_of_lists-clause-exact g c =
    inr (inr (sym c.is_free.ensures ∙ c.if-not-is_free.false, c.in-Ok.lists, c.in-Ok.ensures.exact, rw (← c.data_layout-dl.ensures) c.in-Ok-niche_of_lists.ensures))

pub returns-in-Ok-niche_of_lists-clause-good : goal.returns-in-Ok-niche_of_lists-clause-good
returns-in-Ok-niche_of_lists-clause-good g c =
    inr (inr (sym c.is_free.ensures ∙ c.if-not-is_free.false, c.in-Ok.lists, c.in-Ok.ensures.good, rw (← c.data_layout-dl.ensures) c.in-Ok-niche_of_lists.ensures))

pub returns-in-Ok-niche_of_lists-clause-within : goal.returns-in-Ok-niche_of_lists-clause-within
returns-in-Ok-niche_of_lists-clause-within g c = holds _ c.in-Ok-niche_of_lists.found c.in-Ok.ensures.within

pub returns-else-wants_memory-clause-exact : goal.returns-else-wants_memory-clause-exact
returns-else-wants_memory-clause-exact g c =
    inr (inl (sym c.is_free.ensures ∙ c.if-not-is_free.false, c.in-Err.error, other c.wants_memory.result c.in-Err.ensures.fault c.wants_memory.ensures c.if-wants_memory.false, refl))

pub returns-else-wants_memory-clause-good : goal.returns-else-wants_memory-clause-good
returns-else-wants_memory-clause-good g c =
    inr (inl (sym c.is_free.ensures ∙ c.if-not-is_free.false, c.in-Err.error, other c.wants_memory.result c.in-Err.ensures.fault c.wants_memory.ensures c.if-wants_memory.false, refl))
