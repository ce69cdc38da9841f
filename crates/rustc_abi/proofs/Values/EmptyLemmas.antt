-- The layouts of types without bytes: one with no value, and one with one.
use Rattle.std.proofs.Common.{◌≡◌, ℕ, List, [], length, refl, arith}
use Rattle.std.specs.Prelude.{true}
use Rattle.std.proofs.lemmas.Bool.{ltb-true}
use Rattle.abi_base.specs.declared.data_layout.TargetDataLayout.{TargetDataLayout}
use Rattle.abi_scalar.specs.Simple.{never_layout, unit_layout}
use Rattle.abi_scalar.specs.Lawful.{IsLawfulLayout}
use Rattle.abi_tree.specs.Tree.{never, unit}
use Rattle.abi_tree.specs.Bytes.{AreBytes}
use Rattle.abi_tree.specs.Value.{Value, list, no_values, more_values}
use Rattle.abi_tree.specs.declared.mark.Mark.TheVariants.{Never, Unit}
use Rattle.abi_tree.specs.Placed.{Placed, size_of, never as placed_never, fields, no_parts}
use Rattle.abi_tree.specs.Values.{IsValueOf}
use Rattle.abi_tree.specs.Holding.{Holds}
use Rattle.abi_tree.specs.Faithful.{AgreeOn, IsFaithful}
use Rattle.abi_tree.specs.Fits.{Fits}

module _ (dl : TargetDataLayout) where
  abbrev no_value : Placed
  no_value = placed_never (never_layout dl) Never

  never_faithful : IsFaithful dl never no_value
  never_faithful = record {
    exists = λ v h. absurd h;
    only = λ b v are h. absurd h;
    unique = λ b v w h k. absurd h;
    niche = tt;
    inside = tt;
    padding = λ xs ys v ex ey agree h. absurd h;
    view = λ b v h. tt;
    flag = λ v h. absurd h;
  }

  -- a type with no value
  pub Fits-never : IsLawfulLayout {F = ℕ} {V = ℕ} dl (never_layout dl) → Fits dl never no_value
  Fits-never lawful = record { faithful = λ _. never_faithful; lawful = lawful; room = refl; within = λ k place. ltb-true k 0 place; common = λ _. tt; untagged = λ _. tt }

  abbrev one_value : Placed
  one_value = fields (unit_layout 0 dl true) Unit no_parts

  unit_exists : (v : Value) → IsValueOf dl unit one_value v → (b : List ℕ) × AreBytes b × Holds dl.endian one_value b v
  unit_exists (list no_values) h = ([], λ k d lt. absurd (omega arith), (refl, tt))
  unit_exists _ h = absurd h

  unit_only : (b : List ℕ) (v : Value) → AreBytes b → Holds dl.endian one_value b v → IsValueOf dl unit one_value v
  unit_only b (list no_values) are h = tt
  unit_only b (list (more_values v vs)) are h = absurd h.1
  unit_only b _ are h = absurd h

  unit_unique : (b : List ℕ) (v w : Value) → Holds dl.endian one_value b v → Holds dl.endian one_value b w → v ≡ w
  unit_unique b (list no_values) (list no_values) h k = refl
  unit_unique b (list no_values) (list (more_values w ws)) h k = absurd k.1
  unit_unique b (list (more_values v vs)) w h k = absurd h.1
  unit_unique b (list no_values) _ h k = absurd k
  unit_unique b _ w h k = absurd h

  unit_padding : (xs ys : List ℕ) (v : Value) → length xs ≡ size_of one_value → length ys ≡ size_of one_value →
      AgreeOn one_value xs ys → Holds dl.endian one_value xs v → Holds dl.endian one_value ys v
  unit_padding xs ys (list vs) ex ey agree h = (ey, h.1)
  unit_padding xs ys _ ex ey agree h = absurd h

  unit_faithful : IsFaithful dl unit one_value
  unit_faithful = record {
    exists = unit_exists;
    only = unit_only;
    unique = unit_unique;
    niche = tt;
    inside = tt;
    padding = unit_padding;
    view = λ b v h. tt;
    flag = λ _. (list no_values, tt);
  }

  -- a type with one value
  pub Fits-unit : IsLawfulLayout {F = ℕ} {V = ℕ} dl (unit_layout 0 dl true) → Fits dl unit one_value
  Fits-unit lawful = record { faithful = λ _. unit_faithful; lawful = lawful; room = refl; within = λ k place. absurd (cc); common = λ _. tt; untagged = λ _. tt }
