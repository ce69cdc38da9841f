-- Values of constants that are kept.
use Rattle.std.proofs.Common.{◌≡◌, ◌∙◌, ℕ, Bool, true, false, Option, Some, None, Ok, Err, sym, refl}
use Rattle.std.proofs.lemmas.Bool.{eqb-true}
use Rattle.std.specs.Prelude.{◌&&◌, nat_eq, if◌then◌else◌}
use Rattle.rust_source.specs.declared.item.Item.{Item}
use Rattle.rust_source.specs.declared.item.ItemKind.{ItemKind}
use Rattle.rust_source.specs.declared.item.ItemKind.TheVariants.{Const as ConstItem}
use Rattle.rust_source.specs.declared.place.Place.{Place}
use Rattle.rust_source.specs.declared.syntax.Expr.{Expr}
use Rattle.abi_rust.specs.declared.budget.Context.{Context}
use Rattle.abi_rust.specs.declared.ty.ConstValue.{ConstValue}
use Rattle.abi_rust.specs.declared.ty.Kind.{Kind}
use Rattle.abi_rust.specs.Evaluating.{AreValues, Evaluator, constant_of_item, constant_of_kind, constant_on, constant_value, evaluator}
use Rattle.abi_rust.specs.Kinds.{item_at}
use Rattle.abi_rust.specs.Scope.{same_key}
use Rattle.abi_rust.specs.Values.{ValueRead, value_as_read}

module _ (cx : Context) where
  -- none is kept
  pub none_kept : (kept : ℕ × ℕ → Option ConstValue) → ((k : ℕ × ℕ) → kept k ≡ None) → AreValues cx kept
  none_kept kept none = record { right = λ n d v at is. absurd (let no : None ≡ Some v = sym (none (n, d)) ∙ is in cc) }

  -- one that is kept
  pub value_is : (kept : ℕ × ℕ → Option ConstValue) (n d : ℕ) (v : ConstValue) (at : Place) → AreValues cx kept → kept (n, d) ≡ Some v
      → constant_value cx (evaluator cx d) n at ≡ Ok (value_as_read v)
  value_is kept n d v at are is = are.right n d v at is

  module _ (E : Evaluator) (n : ℕ) (at other : Place) (v : ValueRead) where
    on_elsewhere : (it : Item) (kind : Option Kind) (e : Option Expr) → constant_on cx E n it at kind e ≡ Ok v → constant_on cx E n it other kind e ≡ Ok v
    on_elsewhere it (Some kind) (Some e) is = is
    on_elsewhere it (Some kind) None is = absurd (let no : constant_on cx E n it at (Some kind) None ≡ Ok v = is in cc)
    on_elsewhere it None e is = absurd (let no : constant_on cx E n it at None e ≡ Ok v = is in cc)

    kind_elsewhere : (it : Item) (kind : ItemKind) → constant_of_kind cx E n it at kind ≡ Ok v → constant_of_kind cx E n it other kind ≡ Ok v
    kind_elsewhere it (ConstItem c) is = on_elsewhere it _ c.value is
    kind_elsewhere it _ is = absurd (let no = is in cc)

    item_elsewhere : (it : Option Item) → constant_of_item cx E n at it ≡ Ok v → constant_of_item cx E n other it ≡ Ok v
    item_elsewhere None is = absurd (let no : constant_of_item cx E n at None ≡ Ok v = is in cc)
    item_elsewhere (Some it) is = kind_elsewhere it it.kind is

    -- a constant's value is one wherever it is named
    elsewhere : constant_value cx E n at ≡ Ok v → constant_value cx E n other ≡ Ok v
    unfolding constant_value
    elsewhere is = item_elsewhere (item_at cx.items.now cx.scope.now n) is

  kept_at : (old : ℕ × ℕ → Option ConstValue) (n d m c : ℕ) (v u : ConstValue) (at other : Place) (same_n same_d : Bool) → nat_eq n m ≡ same_n → nat_eq d c ≡ same_d
      → AreValues cx old → constant_value cx (evaluator cx d) n at ≡ Ok (value_as_read v) → (if same_n && same_d then Some v else old (m, c)) ≡ Some u
      → constant_value cx (evaluator cx c) m other ≡ Ok (value_as_read u)
  kept_at old n d m c v u at other true true is_n is_d are is found =
      let number : n ≡ m = eqb-true n m is_n in
      let depth : d ≡ c = eqb-true d c is_d in
      let value : v ≡ u = (let one : Some v ≡ Some u = found in cc) in
      rw (← number, ← depth, ← value) (elsewhere (evaluator cx d) n at other (value_as_read v) is)
  kept_at old n d m c v u at other true false is_n is_d are is found = are.right m c u other found
  kept_at old n d m c v u at other false same_d is_n is_d are is found = are.right m c u other found

  -- one more is kept
  pub one_more : (old new : ℕ × ℕ → Option ConstValue) (n d : ℕ) (v : ConstValue) (at : Place)
      → ((k : ℕ × ℕ) → new k ≡ (if same_key (n, d) k then Some v else old k)) → AreValues cx old
      → constant_value cx (evaluator cx d) n at ≡ Ok (value_as_read v) → AreValues cx new
  one_more old new n d v at more are is = record {
    right = λ m c u other found. kept_at old n d m c v u at other (nat_eq n m) (nat_eq d c) refl refl are is (sym (more (m, c)) ∙ found);
  }
