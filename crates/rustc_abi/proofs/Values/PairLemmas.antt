-- The layout of two scalars keeps their numbers.
use Rattle.std.proofs.Common.{◌≡◌, ℕ, ◌+◌, ◌≤◌, inl, inr, List, length, Some, None, arith, refl, sym, ap, ◌∙◌, subst}
use Rattle.std.specs.Prelude.{IfSome, true, false, Bool, ◌==◌, Option, nat_lt, if◌then◌else◌}
use Rattle.std.specs.Cmp.Derive.{both_true}
use Rattle.std.proofs.lemmas.Bool.{le-leb}
use Rattle.std.proofs.lemmas.Option.{IfSome_then}
use Rattle.abi_base.specs.declared.data_layout.TargetDataLayout.{TargetDataLayout}
use Rattle.abi_base.specs.Primitive.{primitive_size}
use Rattle.abi_scalar.specs.declared.scalar.Scalar.{Scalar}
use Rattle.abi_scalar.specs.declared.scalar.Scalar.TheVariants.{Initialized, Union}
use Rattle.abi_scalar.specs.declared.niche.Niche.{Niche}
use Rattle.abi_scalar.specs.Range.{IsIn, free_count}
use Rattle.abi_scalar.specs.Scalar.{scalar_size, IsLawfulScalar}
use Rattle.abi_scalar.specs.Niche.{niche_size, niche_at, available_in}
use Rattle.abi_scalar.specs.Simple.{scalar_layout}
use Rattle.abi_scalar.specs.Pair.{pair_layout, second_offset, larger_niche}
use Rattle.abi_scalar.specs.Lawful.{IsLawfulLayout}
use Rattle.abi_tree.specs.Tree.{Tree, scalar, pair, Trees, no_trees, more_trees}
use Rattle.abi_tree.specs.Bytes.{AreBytes, bytes_at, number_of}
use Rattle.abi_tree.specs.Value.{Value, number, two, Values, no_values, more_values}
use Rattle.abi_tree.specs.Placed.{Placed, Parts, no_parts, part, size_of}
use Rattle.abi_scalar.specs.Layout.{Layout}
use Rattle.abi_tree.specs.Values.{IsValueOf}
use Rattle.abi_tree.specs.Holding.{Holds}
use Rattle.abi_tree.specs.Faithful.{AgreeOn, IsFaithful, IsScalarTrue, IsTrueOf}
use Rattle.abi_tree.specs.Fits.{Fits}
use Rattle.rustc_abi.specs.Laying.{one_scalar, two_scalars}
use Rattle.abi_tree.proofs.Bytes.HoldLemmas.{IsNicheAt, bytes_at-bytes_at}
use Rattle.rustc_abi.proofs.Values.ScalarLemmas.{Fits-scalar, held_true, some_number}
use Rattle.rustc_abi.proofs.Values.PartsLemmas.{FitTogether, LieInside, exist, only, unique, padding, within_parts}
use Rattle.rustc_abi.proofs.Values.FieldsLemmas.{IsPartNiche, part_niche, part_niche_inside}

-- a scalar's number in a part of the bytes
true_at : (dl : TargetDataLayout) (s : Scalar) (offset : ℕ) (b : List ℕ) → IsScalarTrue dl 0 s (bytes_at b offset (scalar_size dl s)) → IsScalarTrue dl offset s b
true_at dl (Initialized value range) offset b h =
    let width : ℕ = primitive_size dl value in
    let at : offset + 0 ≡ offset = omega arith in
    let same : bytes_at (bytes_at b offset width) 0 width ≡ bytes_at b offset width =
    bytes_at-bytes_at b offset width 0 width (omega arith) ∙ ap (λ o. bytes_at b o width) at in
    subst (λ x. IsIn width range (number_of dl.endian x)) same h
true_at dl (Union value) offset b h = tt

-- the niche of a scalar at an offset is its own, moved there
niche_some : (b : Bool) (own moved : Niche) (P : Niche → Type 0) → (((if b then None else Some own) ≡ Some own) → P moved) → IfSome (if b then None else Some moved) P
niche_some true own moved P h = tt
niche_some false own moved P h = h refl

moved_niche : (dl : TargetDataLayout) (s : Scalar) (offset : ℕ) → IfSome (niche_at dl offset s) (IsNicheAt offset (one_scalar dl s))
moved_niche dl (Initialized value range) offset =
    let own : Niche = record { offset = 0; value = value; valid_range = range } in
    let moved : Niche = record { offset = offset; value = value; valid_range = range } in
    niche_some (free_count (primitive_size dl value) range == 0) own moved (IsNicheAt offset (one_scalar dl (Initialized value range)))
    (λ there. record { own = own; of_part = there; offset_is = omega arith; value_is = refl; range_is = refl })
moved_niche dl (Union value) offset = tt

choose : (b : Bool) (x y : Niche) (P : Niche → Type 0) → P x → P y → IfSome (if b then Some y else Some x) P
choose true x y P hx hy = hy
choose false x y P hx hy = hx

-- what holds of both niches holds of the larger one
larger_has : (dl : TargetDataLayout) (P : Niche → Type 0) (x y : Option Niche) → IfSome x P → IfSome y P → IfSome (larger_niche dl x y) P
larger_has dl P None y hx hy = hy
larger_has dl P (Some x) None hx hy = hx
larger_has dl P (Some x) (Some y) hx hy = choose (nat_lt (available_in dl x) (available_in dl y)) x y P hx hy

module _ (dl : TargetDataLayout) (a b : Scalar) (ha : IsLawfulScalar dl a) (hb : IsLawfulScalar dl b)
    (la : IsLawfulLayout {F = ℕ} {V = ℕ} dl (scalar_layout 0 dl a)) (lb : IsLawfulLayout {F = ℕ} {V = ℕ} dl (scalar_layout 0 dl b)) (lawful : IsLawfulLayout {F = ℕ} {V = ℕ} dl (pair_layout 0 0 1 dl a b)) where
  abbrev layout : Layout
  layout = pair_layout 0 0 1 dl a b

  abbrev tree : Tree
  tree = pair a b

  abbrev placed : Placed
  placed = two_scalars dl a b

  abbrev offset : ℕ
  offset = second_offset dl a b

  abbrev parts : Parts
  parts = part 0 (one_scalar dl a) (part offset (one_scalar dl b) no_parts)

  abbrev scalars : Trees
  scalars = more_trees (scalar a) (more_trees (scalar b) no_trees)

  after : scalar_size dl a ≤ offset
  after = lawful.view.2

  inside : offset + scalar_size dl b ≤ layout.size
  inside = lawful.view.3

  together : FitTogether dl layout.size scalars parts
  together = (
    omega (arith, after, inside),
    (inl (omega (arith, after)), tt),
    Fits.faithful (Fits-scalar dl a ha la) tt,
    (inside, tt, Fits.faithful (Fits-scalar dl b hb lb) tt, tt),
  )

  abbrev numbers : ℕ → ℕ → Values
  numbers n m = more_values (number n) (more_values (number m) no_values)

  pair_exists : (v : Value) → IsValueOf dl tree placed v → (x : List ℕ) × AreBytes x × Holds dl.endian placed x v
  pair_exists (two n m) h = let found = exist dl layout.size scalars parts together (numbers n m) (h.0, (h.1, tt)) in (found.0, found.2, (found.1, found.3))
  pair_exists _ h = absurd h

  pair_only : (x : List ℕ) (v : Value) → AreBytes x → Holds dl.endian placed x v → IsValueOf dl tree placed v
  pair_only x (two n m) are h = let found = only dl layout.size scalars parts together x (numbers n m) are h.1 in (found.0, found.1.0)
  pair_only x _ are h = absurd h

  same_numbers : (n m k l : ℕ) → numbers n m ≡ numbers k l → two n m ≡ two k l
  same_numbers n m k l e = cc

  pair_unique : (x : List ℕ) (v w : Value) → Holds dl.endian placed x v → Holds dl.endian placed x w → v ≡ w
  pair_unique x (two n m) (two k l) h g = same_numbers n m k l (unique dl layout.size scalars parts together x (numbers n m) (numbers k l) h.1 g.1)
  pair_unique x (two n m) _ h g = absurd g
  pair_unique x _ w h g = absurd h

  niche : IfSome layout.largest_niche (IsPartNiche parts)
  niche = larger_has dl (IsPartNiche parts) (niche_at dl 0 a) (niche_at dl offset b)
      (IfSome_then (niche_at dl 0 a) (moved_niche dl a 0) (λ n h. inl h))
      (IfSome_then (niche_at dl offset b) (moved_niche dl b offset) (λ n h. inr (inl h)))

  pair_niche : (n : Niche) → IsPartNiche parts n → (x : List ℕ) (v : Value) → Holds dl.endian placed x v →
      IsIn (niche_size dl n) n.valid_range (number_of dl.endian (bytes_at x n.offset (niche_size dl n)))
  pair_niche n has x (two k l) h = part_niche dl layout.size scalars parts together n has x (numbers k l) h.1
  pair_niche n has x _ h = absurd h

  pair_padding : (xs ys : List ℕ) (v : Value) → length xs ≡ size_of placed → length ys ≡ size_of placed →
      AgreeOn placed xs ys → Holds dl.endian placed xs v → Holds dl.endian placed ys v
  pair_padding xs ys (two n m) ex ey agree h = (ey, padding dl layout.size scalars parts together xs ys (numbers n m) (ex ∙ sym ey) agree h.1)
  pair_padding xs ys _ ex ey agree h = absurd h

  pair_view : (x : List ℕ) (v : Value) → Holds dl.endian placed x v → IsTrueOf dl layout.backend_repr x
  pair_view x (two n m) h =
      let first = h.1.0.1 in
      let second = h.1.1.0.1 in (
        true_at dl a 0 x (held_true dl a (scalar_size dl a) (bytes_at x 0 (scalar_size dl a)) n refl first.0 first.1 first.2),
        true_at dl b offset x (held_true dl b (scalar_size dl b) (bytes_at x offset (scalar_size dl b)) m refl second.0 second.1 second.2),
      )
  pair_view x _ h = absurd h

  pair_faithful : IsFaithful dl tree placed
  pair_faithful = record {
    exists = pair_exists;
    only = pair_only;
    unique = pair_unique;
    niche = IfSome_then layout.largest_niche niche pair_niche;
    inside = IfSome_then layout.largest_niche niche (part_niche_inside dl layout.size scalars parts together);
    padding = pair_padding;
    view = pair_view;
    flag = λ _. let n = some_number dl a ha in let m = some_number dl b hb in (two n.0 m.0, (n.1, m.1));
  }

  lie_inside : LieInside layout.size parts
  lie_inside = (together.0, Fits.within (Fits-scalar dl a ha la), (inside, Fits.within (Fits-scalar dl b hb lb), tt))

  -- two lawful scalars' layout
  pub Fits-pair : Fits dl tree placed
  Fits-pair = record {
    faithful = λ _. pair_faithful;
    lawful = lawful;
    room = both_true (both_true (le-leb (0 + scalar_size dl a) layout.size together.0) refl) (both_true (both_true (le-leb (offset + scalar_size dl b) layout.size inside) refl) refl);
    within = within_parts layout.size parts lie_inside;
    common = λ _. (tt, (tt, tt));
    untagged = λ _. (tt, (tt, tt));
  }
