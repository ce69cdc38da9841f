-- Which of the layouts with a tag and with a niche is made first, and what is known then.
use Rattle.std.proofs.Common.{◌≡◌, ℕ, ◌≤◌, ◌∙◌, Bool, true, false, List, ap, arith, refl}
use Rattle.std.specs.Prelude.{◌≢◌, ◌==◌, ◌||◌, not, if◌then◌else◌, nat_le, nat_lt}
use Rattle.std.proofs.lemmas.Bool.{eqb-true, le-leb, leb-true}
use Rattle.std.proofs.Math.Nat.{pow-le-pow_right}
use Rattle.abi_base.specs.declared.data_layout.TargetDataLayout.{TargetDataLayout}
use Rattle.abi_base.specs.declared.integer.Integer.{Integer}
use Rattle.abi_base.specs.Integer.{integer_size}
use Rattle.abi_scalar.specs.declared.layout_data.LayoutData.{LayoutData}
use Rattle.abi_scalar.specs.declared.repr.ReprOptions.{ReprOptions}
use Rattle.abi_scalar.specs.Range.{numbers_of}
use Rattle.abi_calc.specs.declared.enums.bounds.FirstLayout.TheVariants.{Niche, OnlyTagged, Tagged}
use Rattle.abi_calc.specs.Enums.Bounds.{least_whole, most_free, most_tag, room_of_tag, tag_first, which_first}

-- a tag that has no more numbers than a niche leaves free, however far it grows, isn't made first, whatever the whole
pub outnumbered : {F V : Type 0} (asked : Integer) (least free : ℕ) (variants : List (List (LayoutData F V))) → nat_le (numbers_of (most_tag asked variants)) free ≡ true
    → tag_first asked least free variants ≡ false
outnumbered asked least free variants all =
    let most = most_tag asked variants in
    let room = room_of_tag least asked variants in
    let few : numbers_of most ≤ free = leb-true (numbers_of most) free all in
    let within : room ≤ most = omega arith in
    let fewer : numbers_of room ≤ numbers_of most = pow-le-pow_right (omega arith) (omega (arith, within)) in
    ap (λ b. not (nat_lt room (integer_size asked) || b)) (le-leb (numbers_of room) free (omega (arith, few, fewer))) ∙ never (nat_lt room (integer_size asked))
  where
    never : (b : Bool) → not (b || true) ≡ false
    never true = refl
    never false = refl

some_by : (free : ℕ) → free ≢ 0 → (free == 0) ≡ false
some_by free some = by (free == 0) refl
  where
    by : (b : Bool) → (free == 0) ≡ b → b ≡ false
    by true none = absurd (some (eqb-true free 0 none))
    by false other = refl

none_by : (none tag : Bool) (least free : ℕ) → (free == 0) ≡ none → (if none then OnlyTagged else if tag then Tagged least free else Niche) ≡ OnlyTagged → free ≡ 0
none_by true tag least free none is = eqb-true free 0 none
none_by false true least free none is = absurd (cc)
none_by false false least free none is = absurd (cc)

bounds_by : (none tag : Bool) (least free n m : ℕ) → (if none then OnlyTagged else if tag then Tagged least free else Niche) ≡ Tagged n m → (n ≡ least) × (m ≡ free)
bounds_by true tag least free n m is = absurd (cc)
bounds_by false true least free n m is = (cc, cc)
bounds_by false false least free n m is = absurd (cc)

module _ {F V : Type 0} (dl : TargetDataLayout) (repr : ReprOptions) (asked : Integer) (variants : List (List (LayoutData F V))) where
  -- the one with a tag is made alone only where no niche has a free number
  pub none_free : which_first dl repr asked variants ≡ OnlyTagged → most_free dl repr variants ≡ 0
  none_free is = none_by (most_free dl repr variants == 0) (tag_first asked (least_whole dl variants) (most_free dl repr variants) variants) (least_whole dl variants) (most_free dl repr variants) refl is

  -- where it is made first, the bounds of one with a niche are told
  pub told_bounds : (n m : ℕ) → which_first dl repr asked variants ≡ Tagged n m → (n ≡ least_whole dl variants) × (m ≡ most_free dl repr variants)
  told_bounds n m is =
      bounds_by (most_free dl repr variants == 0) (tag_first asked (least_whole dl variants) (most_free dl repr variants) variants) (least_whole dl variants) (most_free dl repr variants) n m is

  -- that with a niche is, where a tag has no more numbers than a niche leaves free
  pub niche_first : most_free dl repr variants ≢ 0 → nat_le (numbers_of (most_tag asked variants)) (most_free dl repr variants) ≡ true → which_first dl repr asked variants ≡ Niche
  niche_first some all = rw (some_by (most_free dl repr variants) some, outnumbered asked (least_whole dl variants) (most_free dl repr variants) variants all) refl
