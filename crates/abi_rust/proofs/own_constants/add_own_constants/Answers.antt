-- One item more.
use Rattle.std.proofs.Common.{◌∙◌, ◌<◌, None, Some, ap, length, rules, sym, take}
use Rattle.std.specs.Prelude.{nat_eq, if◌then◌else◌}
use Rattle.std.specs.Option.{option_or}
use Rattle.rust_source.specs.declared.item.Item.{Item}
use Rattle.abi_rust.specs.OwnConstants.{is_own_at, last_known, own_type}
use Rattle.abi_rust.specs.Standing.{first_so}
use Rattle.abi_rust.specs.Scope.{numbered}
use Rattle.abi_rust.proofs.OwnLemmas.{told_more}
use Rattle.abi_rust.proofs.StandingLemmas.{first_more}
use Rattle.abi_rust.proofs.own_constants.add_own_constants.Goals as goal

pub loop-number-preserved : goal.loop-number-preserved
loop-number-preserved c =
    let items = c.args.items.now in
    let scope = c.args.scope.now in
    let all = items.items.items in
    let i = c.loop-number.number in
    let item = c.item-item.result in
    let is = rw c.deref-item-items.ensures.value at c.item-item.is in
    let within : i < length all = search rules in
    record {
      owners = λ n. c.in_ok-add_own.ensures.owners n
          ∙ rw (c.numbered.ensures, c.own_type-owner.ensures, c.loop-number.invariant.owners n)
          (ap (λ (it : Item). option_or (if nat_eq (numbered i) n then own_type items scope it else None) (last_known (own_type items scope) 0 n (take i all))) is
          ∙ sym (told_more (own_type items scope) all n i item within));
      own = λ k. c.in_ok-add_own.ensures.own k
          ∙ rw (c.numbered.ensures, c.own_type-owner.ensures, c.loop-number.invariant.own k)
          (ap (λ (it : Item). option_or (first_so (is_own_at items scope k) 0 (take i all)) (if is_own_at items scope k it then Some (numbered i) else None)) is
          ∙ sym (first_more (is_own_at items scope k) all i item within));
    }
