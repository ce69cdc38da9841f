-- What is known of an enum without a fault of its own.
use Rattle.std.proofs.Common.{◌≡◌, ℕ, ◌≤◌, List, Bool, true, false, Some, None, length, refl, All, [], ◌∷◌}
use Rattle.std.specs.Prelude.{not, nat_lt, if◌then◌else◌}
use Rattle.std.specs.List.{list_all, list_any}
use Rattle.std.proofs.lemmas.Bool.{ltb-false}
use Rattle.std.proofs.lemmas.List.Elements.{All-cons, All-nil}
use Rattle.abi_base.specs.declared.data_layout.TargetDataLayout.{TargetDataLayout}
use Rattle.abi_scalar.specs.declared.repr.ReprOptions.{ReprOptions}
use Rattle.abi_univariant.specs.List.{HasLawfulAligns}
use Rattle.rustc_abi.specs.declared.error.LayError.TheVariants.{BadAlign, BadIndex, DiscriminantTooWide, DuplicateDiscriminant}
use Rattle.abi_tree.specs.Placed.{Placed}
use Rattle.rustc_abi.specs.Enums.{has_equal, is_discriminant}
use Rattle.rustc_abi.specs.Laying.{enum_fault, has_bad_align, has_bad_index, most_fields}
use Rattle.rustc_abi.proofs.Trees.LayLemmas.{lawful_unless_bad, neither}

-- no fault: each test fails in turn
none_of : (a b c d : Bool) → (if a then Some BadIndex else (if b then Some BadAlign else (if c then Some DuplicateDiscriminant else (if not d then Some DiscriminantTooWide else None)))) ≡ None →
    (a ≡ false) × (b ≡ false) × (c ≡ false) × (d ≡ true)
none_of true b c d e = absurd (cc)
none_of false true c d e = absurd (cc)
none_of false false true d e = absurd (cc)
none_of false false false true e = (refl, refl, refl, refl)
none_of false false false false e = absurd (cc)

-- where no list is too long, none is
pub few_each : {A : Type 0} (variants : List (List A)) → list_any (λ fields. nat_lt most_fields (length fields)) variants ≡ false → All (λ fields. length fields ≤ most_fields) variants
few_each [] h = All-nil (λ fields. length fields ≤ most_fields)
few_each (ps ∷ variants) h =
    let both = neither (nat_lt most_fields (length ps)) (list_any (λ fields. nat_lt most_fields (length fields)) variants) h in
    All-cons (λ fields. length fields ≤ most_fields) ps variants (ltb-false most_fields (length ps) both.0) (few_each variants both.1)

module _ (dl : TargetDataLayout) (repr : ReprOptions) (numbers : List ℕ) (variants : List (List Placed)) (none : enum_fault dl repr numbers variants ≡ None) where
  facts : (has_bad_index variants ≡ false) × (has_bad_align repr ≡ false) × (has_equal numbers ≡ false) × (list_all (is_discriminant dl repr) numbers ≡ true)
  facts = none_of (has_bad_index variants) (has_bad_align repr) (has_equal numbers) (list_all (is_discriminant dl repr) numbers) none

  -- there are no more variants, and no more fields in each, than indices
  pub few_variants : length variants ≤ most_fields
  few_variants = ltb-false most_fields (length variants) (neither (nat_lt most_fields (length variants)) _ facts.0).0

  pub few_fields : All (λ fields. length fields ≤ most_fields) variants
  few_fields = few_each variants (neither (nat_lt most_fields (length variants)) _ facts.0).1

  -- the alignments that the repr names are within the limit
  pub lawful_aligns : HasLawfulAligns repr
  lawful_aligns = lawful_unless_bad repr facts.1

  -- the discriminants differ
  pub none_equal : has_equal numbers ≡ false
  none_equal = facts.2

  -- and are of their type
  pub all_discriminants : list_all (is_discriminant dl repr) numbers ≡ true
  all_discriminants = facts.3
