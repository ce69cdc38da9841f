-- One item more.
use Rattle.std.proofs.Common.{◌≡◌, ◌∙◌, ◌<◌, None, Some, ap, length, rules, sym, take, subst}
use Rattle.std.specs.Prelude.{if◌then◌else◌}
use Rattle.indexmap.specs.IndexMap.{get}
use Rattle.rust_source.specs.declared.item.Item.{Item}
use Rattle.abi_rust.specs.Scope.{numbered, same_key}
use Rattle.abi_rust.specs.Standing.{constant_at, constructor_at, is_constant_at, is_constructor_at, is_type_at, key_of, repeated_by, type_at}
use Rattle.abi_rust.proofs.StandingLemmas.{last_more, repeated_later, repeated_same}
use Rattle.abi_rust.proofs.standing.add_items.Goals as goal

pub loop-number-preserved : goal.loop-number-preserved
loop-number-preserved c =
    let i = c.loop-number.number in
    let all = c.args.all.now in
    let item = c.index-all-number.result in
    let modules = get same_key c.args.modules.now in
    let within : i < length all = search rules in
    let types = c.loop-number.invariant.types in
    let constructors = c.loop-number.invariant.constructors in
    let constants = c.loop-number.invariant.constants in
    let none : repeated_by (type_at (take i all)) (constructor_at (take i all)) (constant_at (take i all)) modules item ≡ None =
    sym (repeated_same (get same_key c.loop-number.types) (type_at (take i all)) (get same_key c.loop-number.constructors) (constructor_at (take i all)) (get same_key c.loop-number.constants) (constant_at (take i all)) modules item (types (key_of item)) (constructors (key_of item)) (constants (key_of item))) ∙ sym c.repeated.ensures ∙ c.in_default.is in
    record {
      types = λ k. c.in_ok-add_item.ensures.types k
          ∙ rw (c.numbered.ensures, types k)
          (ap (λ (x : Item). if is_type_at k x then Some (numbered i) else type_at (take i all) k) c.index-all-number.is ∙ sym (last_more (is_type_at k) all i item within));
      constructors = λ k. c.in_ok-add_item.ensures.constructors k
          ∙ rw (c.numbered.ensures, constructors k)
          (ap (λ (x : Item). if is_constructor_at k x then Some (numbered i) else constructor_at (take i all) k) c.index-all-number.is ∙ sym (last_more (is_constructor_at k) all i item within));
      constants = λ k. c.in_ok-add_item.ensures.constants k
          ∙ rw (c.numbered.ensures, constants k)
          (ap (λ (x : Item). if is_constant_at k x then Some (numbered i) else constant_at (take i all) k) c.index-all-number.is ∙ sym (last_more (is_constant_at k) all i item within));
      once = sym (repeated_later modules all i item within (subst (λ (x : Item). repeated_by (type_at (take i all)) (constructor_at (take i all)) (constant_at (take i all)) modules x ≡ None) c.index-all-number.is none)) ∙ c.loop-number.invariant.once;
    }
