-- A scalar's layout keeps its numbers.
use Rattle.std.proofs.Common.{◌≤◌, ◌≡◌, ℕ, ◌+◌, ◌<◌, List, length, Some, None, arith, refl, sym, ap, ◌∙◌, subst, ◌*◌, ◌%◌}
use Rattle.std.specs.Prelude.{IfSome, true, false, Bool, ◌==◌, if◌then◌else◌}
use Rattle.std.proofs.lemmas.List.{take_all}
use Rattle.std.proofs.Math.Nat.{mod-eq_of_lt}
use Rattle.std.proofs.lemmas.Nat.{mod_below, pow_pos}
use Rattle.std.proofs.lemmas.Option.{IfSome_then}
use Rattle.std.proofs.lemmas.Bool.{ltb-true, lt-ltb}
use Rattle.abi_base.specs.Primitive.{primitive_size}
use Rattle.abi_base.specs.declared.data_layout.TargetDataLayout.{TargetDataLayout}
use Rattle.abi_scalar.specs.declared.scalar.Scalar.{Scalar}
use Rattle.abi_scalar.specs.declared.scalar.Scalar.TheVariants.{Initialized, Union}
use Rattle.abi_scalar.specs.declared.niche.Niche.{Niche}
use Rattle.abi_scalar.specs.Range.{numbers_of, IsIn, free_count}
use Rattle.abi_scalar.specs.Scalar.{scalar_size, IsNumberOf, IsLawfulScalar}
use Rattle.abi_scalar.specs.Niche.{niche_size, niche_at}
use Rattle.abi_scalar.specs.Lawful.{IsLawfulLayout}
use Rattle.abi_tree.specs.Tree.{Tree, scalar}
use Rattle.abi_tree.specs.Bytes.{AreBytes, bytes_at, number_of}
use Rattle.abi_tree.specs.Value.{Value, number}
use Rattle.abi_tree.specs.Placed.{Placed, size_of, scalar as placed_scalar}
use Rattle.abi_scalar.specs.Layout.{Layout}
use Rattle.abi_tree.specs.Places.{is_data_place}
use Rattle.abi_tree.specs.Values.{IsValueOf}
use Rattle.abi_tree.specs.Holding.{Holds}
use Rattle.abi_tree.specs.Faithful.{AgreeOn, IsFaithful, IsFlagTrue, IsScalarTrue, IsTrueOf}
use Rattle.abi_tree.specs.Fits.{Fits}
use Rattle.rustc_abi.specs.Laying.{one_scalar}
use Rattle.abi_scalar.specs.declared.backend_repr.BackendRepr.TheVariants.{Scalar as OneScalar}
use Rattle.abi_scalar.specs.Simple.{scalar_layout}
use Rattle.abi_tree.proofs.Bytes.BytesLemmas.{same_bytes, spelled_in, length-spelled_in, number_of-spelled_in, AreBytes-spelled_in}

-- a scalar's number is one of its width
in_width : (width : ℕ) (s : Scalar) (n : ℕ) → IsNumberOf width s n → n < numbers_of width
in_width width (Initialized value range) n h = subst (λ k. k < numbers_of width) (sym h.1) (mod_below (range.start + h.0) (numbers_of width) (pow_pos (8 * width)))
in_width width (Union value) n h = h

-- the niche, if there is one, is the scalar
abbrev IsWhole : Scalar → Niche → Type 0
IsWhole s n = (n.offset ≡ 0) × (s ≡ Initialized n.value n.valid_range)

-- a scalar's bytes hold a number of its range
pub held_true : (dl : TargetDataLayout) (s : Scalar) (width : ℕ) (b : List ℕ) (m : ℕ) → width ≡ scalar_size dl s → length b ≡ width →
    m ≡ number_of dl.endian b → IsNumberOf width s m → IsScalarTrue dl 0 s b
held_true dl (Initialized value range) width b m w long is h =
    let whole : bytes_at b 0 (primitive_size dl value) ≡ b = take_all (primitive_size dl value) b (omega (arith, w, long)) in
    subst (λ x. IsIn x range (number_of dl.endian (bytes_at b 0 (primitive_size dl value)))) w
    (subst (IsIn width range) (is ∙ ap (number_of dl.endian) (sym whole)) h)
held_true dl (Union value) width b m w long is h = tt

-- a scalar has a number
pub some_number : (dl : TargetDataLayout) (s : Scalar) → IsLawfulScalar dl s → (n : ℕ) × IsNumberOf (scalar_size dl s) s n
some_number dl (Initialized value range) h =
    let first : range.start + 0 ≡ range.start = omega arith in
    let same : range.start ≡ (range.start + 0) % numbers_of (primitive_size dl value) = sym (ap (λ n. n % numbers_of (primitive_size dl value)) first ∙ mod-eq_of_lt h.within.0) in
    (range.start, (0, same, λ k lt. absurd (omega (arith, lt))))
some_number dl (Union value) h = (0, pow_pos (8 * primitive_size dl value))

module _ (dl : TargetDataLayout) (s : Scalar) (layout : Layout) (size : layout.size ≡ scalar_size dl s) (niche : IfSome layout.largest_niche (IsWhole s))
    (view : layout.backend_repr ≡ OneScalar s) (flag : layout.uninhabited ≡ false) (here : IsLawfulScalar dl s) where
  abbrev tree : Tree
  tree = scalar s

  abbrev placed : Placed
  placed = placed_scalar layout s

  exists : (v : Value) → IsValueOf dl tree placed v → (b : List ℕ) × AreBytes b × Holds dl.endian placed b v
  exists (number n) h =
      let here : IsNumberOf layout.size s n = subst (λ w. IsNumberOf w s n) (sym size) h in (
        spelled_in dl.endian layout.size n,
        AreBytes-spelled_in dl.endian layout.size n,
        (length-spelled_in dl.endian layout.size n, sym (number_of-spelled_in dl.endian layout.size n (in_width layout.size s n here)), here),
      )
  exists _ h = absurd h

  only : (b : List ℕ) (v : Value) → AreBytes b → Holds dl.endian placed b v → IsValueOf dl tree placed v
  only b (number n) are h = subst (λ w. IsNumberOf w s n) size h.2
  only b _ are h = h

  unique : (b : List ℕ) (v w : Value) → Holds dl.endian placed b v → Holds dl.endian placed b w → v ≡ w
  unique b (number n) (number m) h k = ap number (h.1 ∙ sym k.1)
  unique b (number n) _ h k = absurd k
  unique b _ w h k = absurd h

  padding : (xs ys : List ℕ) (v : Value) → length xs ≡ size_of placed → length ys ≡ size_of placed →
      AgreeOn placed xs ys → Holds dl.endian placed xs v → Holds dl.endian placed ys v
  padding xs ys v ex ey agree h =
      subst (λ b. Holds dl.endian placed b v) (same_bytes xs ys layout.size ex ey (λ k lt. agree k (lt-ltb k layout.size lt))) h

  -- the number at the niche's place is the whole number
  true_niche : (n : Niche) → IsWhole s n → (b : List ℕ) (v : Value) → Holds dl.endian placed b v →
      IsIn (niche_size dl n) n.valid_range (number_of dl.endian (bytes_at b n.offset (niche_size dl n)))
  true_niche n e b (number m) h =
      let width : layout.size ≡ niche_size dl n = size ∙ ap (scalar_size dl) e.1 in
      let whole : bytes_at b n.offset (niche_size dl n) ≡ b =
      ap (λ o. bytes_at b o (niche_size dl n)) e.0 ∙ take_all (niche_size dl n) b (omega (arith, width, h.0)) in
      let here : IsNumberOf layout.size (Initialized n.value n.valid_range) m = subst (λ t. IsNumberOf layout.size t m) e.1 h.2 in
      subst (λ w. IsIn w n.valid_range (number_of dl.endian (bytes_at b n.offset (niche_size dl n)))) width
      (subst (IsIn layout.size n.valid_range) (h.1 ∙ ap (number_of dl.endian) (sym whole)) here)
  true_niche n e b _ h = absurd h

  inside_niche : (n : Niche) → IsWhole s n → n.offset + niche_size dl n ≤ size_of placed
  inside_niche n e =
      let width : layout.size ≡ niche_size dl n = size ∙ ap (scalar_size dl) e.1 in
      omega (arith, width, e.0)

  true_view : (b : List ℕ) (v : Value) → Holds dl.endian placed b v → IsTrueOf dl layout.backend_repr b
  true_view b (number m) h = subst (λ r. IsTrueOf dl r b) (sym view) (held_true dl s layout.size b m size h.0 h.1 h.2)
  true_view b _ h = absurd h

  true_flag : IsFlagTrue dl tree placed
  true_flag = let some = some_number dl s here in rw flag (λ _. (number some.0, some.1))

  faithful : IsFaithful dl tree placed
  faithful = record {
    exists = exists;
    only = only;
    unique = unique;
    niche = IfSome_then layout.largest_niche niche true_niche;
    inside = IfSome_then layout.largest_niche niche inside_niche;
    padding = padding;
    view = true_view;
    flag = true_flag;
  }

  within : (k : ℕ) → is_data_place placed k ≡ true → k < size_of placed
  within k place = ltb-true k layout.size place

niche_by : (b : Bool) (n : Niche) (s : Scalar) → IsWhole s n → IfSome (if b then None else Some n) (IsWhole s)
niche_by true n s h = tt
niche_by false n s h = h

-- a scalar's niche is the scalar
scalar_niche : (dl : TargetDataLayout) (s : Scalar) → IfSome (niche_at dl 0 s) (IsWhole s)
scalar_niche dl (Initialized value range) =
    niche_by (free_count (primitive_size dl value) range == 0) (record { offset = 0; value = value; valid_range = range }) (Initialized value range) (refl, refl)
scalar_niche dl (Union value) = tt

-- a lawful scalar's layout
pub Fits-scalar : (dl : TargetDataLayout) (s : Scalar) → IsLawfulScalar dl s → IsLawfulLayout {F = ℕ} {V = ℕ} dl (scalar_layout 0 dl s) → Fits dl (scalar s) (one_scalar dl s)
Fits-scalar dl s here lawful = record {
  faithful = λ _. faithful dl s (scalar_layout 0 dl s) refl (scalar_niche dl s) refl refl here;
  lawful = lawful;
  room = refl;
  within = within dl s (scalar_layout 0 dl s) refl (scalar_niche dl s) refl refl here;
  common = λ _. tt;
  untagged = λ _. tt;
}
