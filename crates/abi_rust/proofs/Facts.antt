-- Worked facts: what a few expressions, types and discriminants mean wherever they stand.
use Rattle.std.proofs.Common.{◌≡◌, ℕ, [], ◌∷◌, Box, Global, Some, None, Ok, false, refl}
use Rattle.std.specs.Prelude.{pos, negsuc}
use Rattle.abi_tree.specs.Tree.{never as never_tree, struct, trees, unit}
use Rattle.rust_source.specs.declared.item.Item.{Item}
use Rattle.rust_source.specs.declared.item.Items.{Items}
use Rattle.rust_source.specs.declared.item.Variant.{Variant}
use Rattle.rust_source.specs.declared.place.Place.{Place}
use Rattle.rust_source.specs.declared.syntax.Binary.TheVariants.{Add, Shl}
use Rattle.rust_source.specs.declared.syntax.Expr.{Integer, Binary'}
use Rattle.rust_source.specs.declared.syntax.IntegerKind.TheVariants.{I32, U8, U32}
use Rattle.abi_rust.specs.declared.fault.FaultKind.TheVariants.{Overflow, WrongType}
use Rattle.abi_rust.specs.declared.ty.Kind.TheVariants.{Integer as KindInteger}
use Rattle.abi_rust.specs.declared.budget.Context.{Context}
use Rattle.abi_rust.specs.Evaluating.{binary_value, evaluator, value_with}
use Rattle.abi_rust.specs.Meaning.{fault_at}
use Rattle.abi_rust.specs.declared.ways.Glob.{Glob}
use Rattle.abi_rust.specs.Globs.{led_to, most_ways}
use Rattle.abi_rust.specs.Operators.{cast_of}
use Rattle.abi_rust.specs.Measure.{Measure}
use Rattle.abi_rust.specs.Reprs.{no_repr}
use Rattle.abi_rust.specs.Trees.{tree_inner, type_tree, variant_number}
use Rattle.abi_rust.specs.Types.{Where, never, no_types, tuple, types}
use Rattle.abi_rust.specs.Values.{number}

module _ (cx : Context) (w : Where) (at : Place) (p q : Box (Unit {0}) Global) where
  -- `2 + 3` where a `u8` is wanted
  sum : evaluator cx 2 w (Binary' Add p (Integer 2 None at) q (Integer 3 None at) at) (Some (KindInteger U8)) ≡ Ok (number U8 (pos 5))
  unfolding evaluator value_with binary_value
  sum = refl

  -- `200u8 + 100` overflows at its left operand's place
  too_large : evaluator cx 2 w (Binary' Add p (Integer 200 (Some U8) at) q (Integer 100 None at) at) None ≡ fault_at at (Overflow U8)
  unfolding evaluator value_with binary_value
  too_large = refl

  -- `1u8 << 3u32`: a shift's right operand has a type of its own
  shift : evaluator cx 2 w (Binary' Shl p (Integer 1 (Some U8) at) q (Integer 3 (Some U32) at) at) None ≡ Ok (number U8 (pos 8))
  unfolding evaluator value_with binary_value
  shift = refl

  -- `1u8 + 3u32` is of two types
  apart : evaluator cx 2 w (Binary' Add p (Integer 1 (Some U8) at) q (Integer 3 (Some U32) at) at) None ≡ fault_at at WrongType
  unfolding evaluator value_with binary_value
  apart = refl

-- `-1i32 as u8`
low_bits : cast_of 64 (KindInteger U8) (number I32 (negsuc 0)) ≡ Ok (number U8 (pos 255))
low_bits = refl

module _ (cx : Context) (m : Measure) where
  -- `((), !)` is a struct of two fields, that may be reordered
  pair : (tree_inner cx m 3).of_type [] (tuple (types (tuple no_types ∷ never ∷ []))) ≡ Ok (struct no_repr false None (trees (unit ∷ never_tree ∷ [])))
  unfolding tree_inner type_tree
  pair = refl

-- behind the discriminant 255 no other stands that is a `u8`
past_the_last : (cx : Context) (it : Item) (v : Variant) → it.repr.integer ≡ Some U8 → v.discriminant ≡ None
    → variant_number cx it (Some (pos 255)) v ≡ fault_at v.at (Overflow U8)
unfolding variant_number
past_the_last cx it v integer bare = rw (bare, integer) refl

-- a glob of all names of another module, which whoever asks may use
abbrev glob : (inside target : ℕ) → Glob
glob inside target = record { inside = inside; target = target; visible_in = None }

-- three modules, of which each brings in all names of the next one, in a ring: ways lead from the first to the others, and none back to it
ring : (items : Items) → led_to items ((glob 0 1 ∷ []) ∷ (glob 1 2 ∷ []) ∷ (glob 2 0 ∷ []) ∷ []) (glob 0 1 ∷ [])
    ≡ record { glob = glob 0 1; before = None } ∷ record { glob = glob 1 2; before = Some 0 } ∷ []
unfolding most_ways
ring items = refl
