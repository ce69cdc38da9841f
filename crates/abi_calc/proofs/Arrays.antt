-- Arrays are refused for their size alone, and exactly where it isn't below the bound.
use Rattle.std.proofs.Common.{◌≡◌, ◌≢◌, ℕ, ◌*◌, ◌==◌, ◌≤◌, ◌∙◌, Bool, true, false, Err, None, Ok, Option, arith, refl, sym}
use Rattle.std.specs.Prelude.{IfErr, Result, if◌then◌else◌, nat_lt, unwrap_or}
use Rattle.std.proofs.lemmas.Bool.Decides.{nat_tests}
use Rattle.abi_base.specs.declared.data_layout.TargetDataLayout.{TargetDataLayout}
use Rattle.abi_base.specs.DataLayout.{size_bound}
use Rattle.abi_scalar.specs.declared.error.LayoutCalculatorError.{LayoutCalculatorError}
use Rattle.abi_scalar.specs.declared.error.LayoutCalculatorError.TheVariants.{SizeOverflow}
use Rattle.abi_scalar.specs.declared.layout_data.LayoutData.{LayoutData}
use Rattle.abi_univariant.specs.Array.{array_answer}

module _ {F V H : Type 0} where
  -- an answer by a test
  abbrev by : Bool → LayoutData F V → Result (LayoutData F V) (LayoutCalculatorError H)
  by below layout = if below then Ok layout else Err SizeOverflow

  refused_where : (below : Bool) (layout : LayoutData F V) → by below layout ≡ Err SizeOverflow → below ≡ false
  refused_where true layout e = absurd (cc)
  refused_where false layout e = refl

  only_size : (below : Bool) (layout : LayoutData F V) (result : Result (LayoutData F V) (LayoutCalculatorError H)) → result ≡ by below layout → IfErr result (λ e. e ≡ SizeOverflow)
  only_size true layout result e = rw e tt
  only_size false layout result e = rw e refl

  module _ (first : V) (dl : TargetDataLayout) (element : LayoutData F V) (count : Option ℕ) (result : Result (LayoutData F V) (LayoutCalculatorError H)) where
    pub array_large : result ≡ array_answer first dl element count → result ≡ Err SizeOverflow → size_bound dl ≤ element.size * unwrap_or count 0
    array_large is err =
        let over : nat_lt (element.size * unwrap_or count 0) (size_bound dl) ≡ false = refused_where _ _ (sym is ∙ err) in
        grind (arith, nat_tests)

    pub array_refused : result ≡ array_answer first dl element count → size_bound dl ≤ element.size * unwrap_or count 0 → result ≡ Err SizeOverflow
    array_refused is large =
        let over : nat_lt (element.size * unwrap_or count 0) (size_bound dl) ≡ false = grind (arith, nat_tests) in
        rw over at is

    pub array_no_other : result ≡ array_answer first dl element count → IfErr result (λ e. e ≡ SizeOverflow)
    array_no_other is = only_size _ _ result is

-- the niche of so many elements
pub some_niche : {N : Type 0} (niche : Option N) (count : ℕ) → count ≢ 0 → (if count == 0 then None else niche) ≡ niche
some_niche niche count some = let is : (count == 0) ≡ false = grind (arith, nat_tests) in rw is refl

pub no_niche : {N : Type 0} (niche : Option N) (count : ℕ) → count ≡ 0 → (if count == 0 then None else niche) ≡ None
no_niche niche count none = rw none refl
