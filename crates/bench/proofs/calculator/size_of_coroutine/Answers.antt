use Rattle.std.proofs.Common.{Bor, [], ◌≢◌, map-id, rules, subst, sym}
use Rattle.std.specs.List.{AllPairs}
use Rattle.std.proofs.lemmas.List.Elements.{All-cons, All-nil}
use Rattle.abi_index.specs.declared.idx.FieldIdx.{FieldIdx}
use Rattle.abi_index.specs.declared.idx.VariantIdx.{VariantIdx}
use Rattle.abi_scalar.specs.declared.layout_data.LayoutData.{LayoutData}
use Rattle.abi_scalar.specs.Lawful.{IsLawfulLayout}
use Rattle.bench.proofs.calculator.size_of_coroutine.Goals as goal

pub layout_of_coroutine-requires-clause-locals : goal.layout_of_coroutine-requires-clause-locals
layout_of_coroutine-requires-clause-locals c = rw (c.new.ensures, c.new-2.ensures, c.as_raw.ensures.items, c.as_slice.ensures) c.requires.fields

pub layout_of_coroutine-requires-clause-prefix : goal.layout_of_coroutine-requires-clause-prefix
layout_of_coroutine-requires-clause-prefix c =
    let P = λ (f : Bor (LayoutData FieldIdx VariantIdx)). IsLawfulLayout c.args.it.now.dl.now f.now in
    rw (c.new.ensures, c.in-Ok.ensures) (All-cons P c.args.it.now.prefix [] c.requires.prefix (All-nil P))

pub layout_of_coroutine-requires-clause-states : goal.layout_of_coroutine-requires-clause-states
layout_of_coroutine-requires-clause-states c =
    rw (c.new-states.ensures, c.deref.ensures.value, c.new-2.ensures, c.as_raw.ensures.items, c.as_slice.ensures) (record {
      some = search rules;
      within = λ k d below. (c.requires.held k d below).0;
      once = λ k d below. subst (AllPairs (λ a b. a ≢ b)) (sym (map-id _)) (c.requires.held k d below).1;
      rows = search rules;
      columns = search rules;
    })
