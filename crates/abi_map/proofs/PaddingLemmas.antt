-- The bytes that no part has.
use Rattle.std.proofs.Common.{◌≡◌, ℕ, suc, ◌<◌, List, [], ◌∷◌, ◌++◌, Bool, Option, None, Some, true, false, arith, map, refl, sym, ap, ◌∙◌}
use Rattle.std.specs.Prelude.{◌&&◌, ◌||◌, ◌-◌, ◌↔◌, cond, if◌then◌else◌, nat_le, nat_lt, not}
use Rattle.std.specs.List.{filter, list_any}
use Rattle.std.proofs.lemmas.Bool.{lt-ltb}
use Rattle.std.proofs.lemmas.List.Folds.{list_any-append}
use Rattle.std.proofs.Math.Bool.{or-false}
use Rattle.abi_index.proofs.RunsLemmas.{moved-zero}
use Rattle.abi_tree.specs.declared.parts.PartName.{PartName}
use Rattle.abi_tree.specs.declared.parts.PartName.TheVariants.{Elements, Lanes, Number, Tag}
use Rattle.abi_tree.specs.Parts.{Part, all_parts, common_parts, field_parts, parts_of_tagged_variants, placed_part, variant_parts}
use Rattle.abi_tree.specs.Placed.{Placed, scalar, pair, never, elements, vector, fields, union, single, tagged, states, Parts, no_parts, part, TaggedVariants, nothing_tagged, tagged_variant, size_of}
use Rattle.abi_tree.specs.Places.{is_data_place, is_place_of_tagged_variant, is_place_of_part}
use Rattle.abi_tree.specs.Runs.{is_padding_of}
use Rattle.abi_map.specs.Map.{names_at}
use Rattle.abi_map.specs.Runs.{PaddingHasNoName}

-- some part has the byte
abbrev any_has : List Part → (k : ℕ) → Bool
any_has parts k = list_any (λ (one : Part). one.has k) parts

no_names : (parts : List Part) (k : ℕ) → any_has parts k ≡ false → names_at parts k ≡ []
no_names [] k none = refl
no_names (one ∷ parts) k none = by (one.has k) (no_names parts k) none
  where
    by : (b : Bool) → (any_has parts k ≡ false → names_at parts k ≡ []) → (b || any_has parts k) ≡ false → map (λ (p : Part). p.name) (cond b (one ∷ filter (λ p. p.has k) parts) (filter (λ p. p.has k) parts)) ≡ []
    by true rest e = absurd (cc)
    by false rest e = rest e

none_has : (parts : List Part) (k : ℕ) → names_at parts k ≡ [] → any_has parts k ≡ false
none_has [] k none = refl
none_has (one ∷ parts) k none = by (one.has k) (none_has parts k) none
  where
    by : (b : Bool) → (names_at parts k ≡ [] → any_has parts k ≡ false) → map (λ (p : Part). p.name) (cond b (one ∷ filter (λ p. p.has k) parts) (filter (λ p. p.has k) parts)) ≡ [] → (b || any_has parts k) ≡ false
    by true rest e = absurd (cc)
    by false rest e = rest e

or_assoc : (a b c : Bool) → ((a || b) || c) ≡ (a || (b || c))
or_assoc true b c = refl
or_assoc false b c = refl

-- fields have their places
fields_have : (v : Option ℕ) (i k : ℕ) (parts : Parts) → any_has (field_parts v i parts) k ≡ is_place_of_part parts k
fields_have v i k no_parts = refl
fields_have v i k (part offset placed parts) = ap (λ b. (nat_le offset k && is_data_place placed (k - offset)) || b) (fields_have v (suc i) k parts)

tagged_variants_have : (v k : ℕ) (tagged_variants : TaggedVariants) → any_has (parts_of_tagged_variants v tagged_variants) k ≡ is_place_of_tagged_variant tagged_variants k
tagged_variants_have v k nothing_tagged = refl
tagged_variants_have v k (tagged_variant number layout mark parts tagged_variants) =
    list_any-append (λ (one : Part). one.has k) (field_parts (Some v) 0 parts) (parts_of_tagged_variants (suc v) tagged_variants)
    ∙ ap (λ b. b || any_has (parts_of_tagged_variants (suc v) tagged_variants) k) (fields_have (Some v) 0 k parts) ∙ ap (λ b. is_place_of_part parts k || b) (tagged_variants_have (suc v) k tagged_variants)

whole_has : (name : PartName) (placed : Placed) (k : ℕ) → any_has ((placed_part name 0 placed ∷ []) ++ []) k ≡ is_data_place placed k
whole_has name placed k = or-false (nat_le 0 k && is_data_place placed (k - 0)) ∙ moved-zero (is_data_place placed) k

alone_has : (parts : Parts) (k : ℕ) → any_has (field_parts None 0 parts ++ []) k ≡ is_place_of_part parts k
alone_has parts k =
    list_any-append (λ (one : Part). one.has k) (field_parts None 0 parts) [] ∙ or-false (any_has (field_parts None 0 parts) k) ∙ fields_have None 0 k parts

-- some part has a byte exactly where it is a data place
parts_have : (placed : Placed) (k : ℕ) → any_has (common_parts placed ++ variant_parts placed) k ≡ is_data_place placed k
parts_have (scalar layout s) k = whole_has Number (scalar layout s) k
parts_have (pair layout parts) k = alone_has parts k
parts_have (never layout mark) k = whole_has Number (never layout mark) k
parts_have (elements layout count element) k = whole_has Elements (elements layout count element) k
parts_have (vector layout lanes) k = whole_has Lanes (vector layout lanes) k
parts_have (fields layout mark parts) k = alone_has parts k
parts_have (union layout mark parts) k = alone_has parts k
parts_have (single layout mark index parts) k = alone_has parts k
parts_have (tagged layout mark offset tag encoding tagged_variants) k = ap (λ b. (nat_le offset k && is_data_place tag (k - offset)) || b) (tagged_variants_have 0 k tagged_variants)
parts_have (states layout prefix offset tag tagged_variants) k =
    let front : List Part = field_parts None 0 prefix in
    let of_tag = nat_le offset k && is_data_place tag (k - offset) in
    list_any-append (λ (one : Part). one.has k) (front ++ placed_part Tag offset tag ∷ []) (parts_of_tagged_variants 0 tagged_variants)
    ∙ ap (λ b. b || any_has (parts_of_tagged_variants 0 tagged_variants) k)
    (list_any-append (λ (one : Part). one.has k) front (placed_part Tag offset tag ∷ []) ∙ ap (λ b. b || (of_tag || false)) (fields_have None 0 k prefix) ∙ ap (λ b. is_place_of_part prefix k || b) (or-false of_tag))
    ∙ ap (λ b. (is_place_of_part prefix k || of_tag) || b) (tagged_variants_have 0 k tagged_variants) ∙ or_assoc (is_place_of_part prefix k) of_tag (is_place_of_tagged_variant tagged_variants k)

all_have : (placed : Placed) (k : ℕ) → k < size_of placed → any_has (all_parts placed) k ≡ is_data_place placed k
all_have placed k lt =
    ap (λ b. any_has (if b then common_parts placed ++ variant_parts placed else []) k) (lt-ltb 0 (size_of placed) (omega (arith, lt))) ∙ parts_have placed k

not_place : (size k : ℕ) (place : Bool) → k < size → (nat_lt k size && not place) ≡ true → place ≡ false
not_place size k true lt e =
    let clash : false ≡ true = sym (ap (λ b. b && false) (lt-ltb k size lt)) ∙ e in
    absurd (cc)
not_place size k false lt e = refl

-- the bytes without a name are padding
pub padding_named : PaddingHasNoName
padding_named placed k lt = (
  λ none. ap (λ b. b && not (is_data_place placed k)) (lt-ltb k (size_of placed) lt) ∙ ap (λ b. not b) (sym (all_have placed k lt) ∙ none_has (all_parts placed) k none),
  λ padding. no_names (all_parts placed) k (all_have placed k lt ∙ not_place (size_of placed) k (is_data_place placed k) lt padding),
)
