use Rattle.std.proofs.Common.{◌≡◌, ℕ, List, map, sym, subst, ◌∙◌}
use Rattle.std.specs.Prelude.{IsPermutation}
use Rattle.std.proofs.lemmas.List.Sorted.{IsNonDecreasingBy-from_sort}
use Rattle.abi_univariant.proofs.Sorted.NamesEach.{each_of_sorted, sorted_of_each}
use Rattle.abi_univariant.proofs.in_order.names_each.Goals as goal

pub returns : goal.returns
returns g c =
    let same : c.deref.result.now ≡ c.sort_unstable.new.self.items = c.deref.ensures.value in
    let p : IsPermutation (map g.FieldIdx.Idx.number c.args.order.now) c.sort_unstable.new.self.items = subst (λ (xs : List ℕ). IsPermutation xs c.sort_unstable.new.self.items) c.in_ok-sorted.ensures c.sort_unstable.ensures.permutation in
    let up = IsNonDecreasingBy-from_sort (λ n. n) c.sort_unstable.new.self.items c.sort_unstable.ensures.sorted in (
      λ yes. each_of_sorted c.args.count (map g.FieldIdx.Idx.number c.args.order.now) c.sort_unstable.new.self.items p (sym same ∙ c.is_source_order.ensures.0 yes),
      λ q. c.is_source_order.ensures.1 (same ∙ sorted_of_each c.args.count (map g.FieldIdx.Idx.number c.args.order.now) c.sort_unstable.new.self.items p up q),
    )
