-- The closure gives the key of the part that a field's number names, so that the numbers are sorted as the fields are.
use Rattle.std.proofs.Common.{◌≤◌, arith, map, rules, subst, ℕ, List}
use Rattle.std.specs.Prelude.{IsPermutation}
use Rattle.std.specs.List.Sorted.{IsStableByKey}
use Rattle.std.specs.Ordering.{is_lt}
use Rattle.std.proofs.lemmas.Fn.{always_returns_same}
use Rattle.std.proofs.lemmas.List.Sorted.{IsPermutation-map, ranks_by}
use Rattle.std.proofs.lemmas.Map.Views.{All-map-IsPermutation}
use Rattle.std.proofs.lemmas.Result.{on_ok_weaker}
use Rattle.abi_univariant.specs.Order.{compare_keys, key_at, sort_key}
use Rattle.abi_univariant.proofs.Offsets.ByNumber.{numbers_sorted, numbers_stable}
use Rattle.abi_univariant.proofs.Layouts.OneOrder.{keys_total}
use Rattle.abi_univariant.proofs.memory_order.MemoryOrder.sort.Goals as goal

pub invariant_of-self : goal.invariant_of-self
invariant_of-self g c = (
  All-map-IsPermutation g.FieldIdx.Idx.number (λ n. n ≤ g.FieldIdx.Idx.MAX_INDEX) c.self.inside.fields.items c.sort_by_key.new.self.items c.sort_by_key.ensures.permutation c.self.invariant.0,
  omega (arith, c.sort_by_key.ensures.len, c.self.invariant.1),
)

pub returns-clause-permutes : goal.returns-clause-permutes
returns-clause-permutes g c =
    subst (λ (ns : List ℕ). IsPermutation ns (map g.FieldIdx.Idx.number c.sort_by_key.new.self.items)) c.self.view_is
    (IsPermutation-map g.FieldIdx.Idx.number c.self.inside.fields.items c.sort_by_key.new.self.items c.sort_by_key.ensures.permutation)

pub returns-clause-sorted : goal.returns-clause-sorted
returns-clause-sorted g c =
    on_ok_weaker c.sort_by_key.result
    (λ up.
    numbers_sorted g.FieldIdx.Idx.number (λ m n. is_lt (compare_keys (key_at (map (sort_key c.args.rule.now) c.args.parts.now) m) (key_at (map (sort_key c.args.rule.now) c.args.parts.now) n))) c.sort_by_key.new.self.items
    (up (λ x. key_at (map (sort_key c.args.rule.now) c.args.parts.now) (g.FieldIdx.Idx.number x)) (always_returns_same _ _ _ (λ a r f h. search rules))))
    c.sort_by_key.ensures.sorted

pub returns-clause-stable : goal.returns-clause-stable
returns-clause-stable g c =
    subst (λ (ns : List ℕ). IsStableByKey (key_at (map (sort_key c.args.rule.now) c.args.parts.now)) compare_keys ns (map g.FieldIdx.Idx.number c.sort_by_key.new.self.items)) c.self.view_is
    (numbers_stable g.FieldIdx.Idx.number (λ m n. is_lt (compare_keys (key_at (map (sort_key c.args.rule.now) c.args.parts.now) m) (key_at (map (sort_key c.args.rule.now) c.args.parts.now) n))) (ranks_by keys_total (key_at (map (sort_key c.args.rule.now) c.args.parts.now))) c.self.inside.fields.items c.sort_by_key.new.self.items
    c.sort_by_key.ensures.permutation (c.sort_by_key.ensures.stable (λ x. key_at (map (sort_key c.args.rule.now) c.args.parts.now) (g.FieldIdx.Idx.number x)) (always_returns_same _ _ _ (λ a r f h. search rules))))
