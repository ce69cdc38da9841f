-- What is kept is what the items say.
use Rattle.std.proofs.Common.{◌≡◌, ◌∙◌, [], ap, inl, inr, sym}
use Rattle.indexmap.specs.IndexMap.{get}
use Rattle.rust_source.specs.declared.place.Symbol.{Symbol}
use Rattle.abi_rust.specs.ExternCrates.{crate_at}
use Rattle.abi_rust.specs.Scope.{module_in, same_key}
use Rattle.abi_rust.specs.Standing.{ModuleName, constant_at, first_repeated, module_at, type_at, use_at}
use Rattle.abi_rust.proofs.StandingLemmas.{repeated_told}
use Rattle.abi_rust.proofs.scope.Scope.declare.Goals as goal

pub returns-clause-crates : goal.returns-clause-crates
returns-clause-crates c = λ k. c.in_ok-add_extern_crates.ensures.ok k ∙ ap (λ cs. crate_at cs k) c.deref-4.ensures.value

pub returns-clause-names : goal.returns-clause-names
unfolding module_in
returns-clause-names c = record {
  modules = λ k. c.in_ok-add_modules.ensures.ok k ∙ ap (λ ms. module_at ms k) c.deref.ensures.value;
  types = λ k. c.in_default.ensures.types k ∙ ap (λ is. type_at is k) c.deref-2.ensures.value;
  constants = λ k. c.in_default.ensures.constants k ∙ ap (λ is. constant_at is k) c.deref-2.ensures.value;
  uses = λ k. c.in_ok-add_uses.ensures.ok k ∙ ap (λ us. use_at us k) c.deref-3.ensures.value;
  prelude = c.module-self.ensures ∙ ap (λ (n : Symbol). get same_key c.add_modules.new.modules (c.args.self.now.std_root, n.0)) c.symbol.ensures;
}

pub returns-in-Err-clause-err : goal.returns-in-Err-clause-err
returns-in-Err-clause-err c =
    let modules = get same_key c.add_modules.new.modules in
    let same : (k : ModuleName) → modules k ≡ module_at c.args.items.now.modules.items k =
    λ k. c.in_ok-add_modules.ensures.ok k ∙ ap (λ ms. module_at ms k) c.deref.ensures.value in
    elim c.in-Err.ensures.err [
      | inl report ↦ inl (sym (repeated_told modules (module_at c.args.items.now.modules.items) [] c.args.items.now.items.items same)
          ∙ ap (λ is. first_repeated modules [] is) (sym c.deref-2.ensures.value) ∙ report)
      | inr memory ↦ inr memory
    ]
