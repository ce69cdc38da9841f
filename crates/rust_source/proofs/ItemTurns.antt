-- A turn of the loops over attributes and items, and what stands at their ends.
use Rattle.std.proofs.Common.{◌≡◌, ℕ, zero, suc, ◌+◌, ◌-◌, ◌<◌, ◌≤◌, Bool, codes, false, true, List, Ok, Err, refl, ap, arith}
use Rattle.std.specs.Prelude.{if◌then◌else◌}
use Rattle.rust_source.specs.declared.item.Repr.{Repr}
use Rattle.rust_source.specs.declared.reader.attributes.Attributes.{Attributes}
use Rattle.rust_source.specs.declared.reader.attributes.Rules.{Rules}
use Rattle.rust_source.specs.declared.reader.cursor.Cursor.{Cursor}
use Rattle.rust_source.specs.declared.fault.SourceFaultKind.TheVariants.{TooDeep}
use Rattle.rust_source.specs.declared.target.CfgTarget.{CfgTarget}
use Rattle.rust_source.specs.Attributes.{attribute_read, attribute_with, attributes_from, expanded_from, one_attribute}
use Rattle.rust_source.specs.Cfg.{Noted, count_from, counting, predicate_read, predicate_with}
use Rattle.rust_source.specs.Cursor.{comma_passed, fault, is_done, is_next, passed}
use Rattle.rust_source.specs.Fields.{field_more, fields_from, variant_more, variants_behind}
use Rattle.rust_source.specs.Items.{FieldRead, VariantRead}
use Rattle.std.specs.Str.{bytes_eq}
use Rattle.rust_source.specs.KnownAttributes.{copy_from, is_other_trait, other_trait_from}
use Rattle.rust_source.specs.Reading.{read_on, then_read, word_text}
use Rattle.rust_source.specs.Repr.{word_more, words_from}
use Rattle.rust_source.specs.Terms.{done}
use Rattle.rust_source.specs.Until.{until, up_to}
use Rattle.rust_source.proofs.Turns.{none_left, turns}

pub words_more : (n i : ℕ) (r : Repr) (c : Cursor) → i < n → words_from (n - i) r c ≡ (if is_done c then Ok r else then_read (λ (s : Repr × Cursor). words_from (n - (i + 1)) s.0 s.1) (word_more r c))
words_more n i r c more = ap (λ k. words_from k r c) (turns n i more)

pub words_done : (n i : ℕ) (r : Repr) (c : Cursor) → n ≤ i → words_from (n - i) r c ≡ Ok r
words_done n i r c past = ap (λ k. words_from k r c) (none_left n i past)

pub traits_more : (n i : ℕ) (c : Cursor) → i < n → other_trait_from (n - i) c ≡ (if is_other_trait (word_text c) then true else other_trait_from (n - (i + 1)) (passed c 1))
traits_more n i c more = ap (λ k. other_trait_from k c) (turns n i more)

pub traits_done : (n i : ℕ) (c : Cursor) → n ≤ i → other_trait_from (n - i) c ≡ false
traits_done n i c past = ap (λ k. other_trait_from k c) (none_left n i past)

pub copy_more : (n i : ℕ) (c : Cursor) → i < n → copy_from (n - i) c ≡ (if bytes_eq (word_text c) (codes "Copy") then true else copy_from (n - (i + 1)) (passed c 1))
copy_more n i c more = ap (λ k. copy_from k c) (turns n i more)

pub copy_done : (n i : ℕ) (c : Cursor) → n ≤ i → copy_from (n - i) c ≡ false
copy_done n i c done = ap (λ k. copy_from k c) (none_left n i done)

module _ (t : CfgTarget) where
  pub predicate_less : (depth_left left : ℕ) (c : Cursor) (known : Noted) → left + 1 ≡ depth_left → predicate_read t depth_left c known ≡ predicate_with t (predicate_read t left) c known
  unfolding predicate_read
  predicate_less zero left c known is = absurd (omega arith)
  predicate_less (suc depth_left) left c known is = let e : depth_left ≡ left = omega arith in ap (λ r. predicate_with t (predicate_read t r) c known) e

  pub predicate_none : (depth_left : ℕ) (c : Cursor) (known : Noted) → depth_left ≡ 0 → predicate_read t depth_left c known ≡ (Err (fault c TooDeep), known)
  unfolding predicate_read
  predicate_none zero c known is = refl
  predicate_none (suc depth_left) c known is = absurd (omega arith)

  module _ (depth_left n i : ℕ) where
    pub count_more : (holding count : ℕ) (c : Cursor) (known : Noted) → i < n → count_from t (predicate_read t depth_left) (n - i) holding count c known ≡ (if is_done c then done (holding, count) known else read_on (λ (b : Bool × Cursor) ns. read_on (λ d ms. count_from t (predicate_read t depth_left) (n - (i + 1)) (counting holding b.0) (counting count true) d ms) (comma_passed b.1, ns)) (predicate_read t depth_left c known))
    count_more holding count c known more = ap (λ k. count_from t (predicate_read t depth_left) k holding count c known) (turns n i more)

    pub count_done : (holding count : ℕ) (c : Cursor) (known : Noted) → n ≤ i → count_from t (predicate_read t depth_left) (n - i) holding count c known ≡ done (holding, count) known
    count_done holding count c known past = ap (λ k. count_from t (predicate_read t depth_left) k holding count c known) (none_left n i past)

module _ (rules : Rules) where
  pub attribute_less : (depth_left left : ℕ) (said : Attributes) (c : Cursor) (known : Noted) → left + 1 ≡ depth_left → attribute_read rules depth_left said c known ≡ attribute_with rules (attribute_read rules left) said c known
  unfolding attribute_read
  attribute_less zero left said c known is = absurd (omega arith)
  attribute_less (suc depth_left) left said c known is = let e : depth_left ≡ left = omega arith in ap (λ r. attribute_with rules (attribute_read rules r) said c known) e

  pub attribute_none : (depth_left : ℕ) (said : Attributes) (c : Cursor) (known : Noted) → depth_left ≡ 0 → attribute_read rules depth_left said c known ≡ (Err (fault c TooDeep), known)
  unfolding attribute_read
  attribute_none zero said c known is = refl
  attribute_none (suc depth_left) said c known is = absurd (omega arith)

  module _ (n i : ℕ) where
    pub expanded_more : (depth_left : ℕ) (said : Attributes) (c : Cursor) (known : Noted) → i < n → expanded_from rules (attribute_read rules depth_left) (n - i) said c known ≡ (if is_done c then done said known else read_on (λ more ns. read_on (λ d ms. expanded_from rules (attribute_read rules depth_left) (n - (i + 1)) more d ms) (comma_passed (until 44 c), ns)) (attribute_read rules depth_left said (up_to 44 c) known))
    expanded_more depth_left said c known more = ap (λ k. expanded_from rules (attribute_read rules depth_left) k said c known) (turns n i more)

    pub expanded_done : (depth_left : ℕ) (said : Attributes) (c : Cursor) (known : Noted) → n ≤ i → expanded_from rules (attribute_read rules depth_left) (n - i) said c known ≡ done said known
    expanded_done depth_left said c known past = ap (λ k. expanded_from rules (attribute_read rules depth_left) k said c known) (none_left n i past)

    pub said_more : (said : Attributes) (c : Cursor) (known : Noted) → i < n → attributes_from rules (n - i) said c known ≡ (if is_next c 35 then read_on (λ (s : Attributes × Cursor) ns. attributes_from rules (n - (i + 1)) s.0 s.1 ns) (one_attribute rules said (passed c 1) known) else done (said, c) known)
    said_more said c known more = ap (λ k. attributes_from rules k said c known) (turns n i more)

    pub said_done : (said : Attributes) (c : Cursor) (known : Noted) → n ≤ i → attributes_from rules (n - i) said c known ≡ done (said, c) known
    said_done said c known past = ap (λ k. attributes_from rules k said c known) (none_left n i past)

    pub fields_more : (is_tuple : Bool) (all : List FieldRead) (c : Cursor) (known : Noted) → i < n → fields_from rules is_tuple (n - i) all c known ≡ (if is_done c then done all known else read_on (λ (f : List FieldRead × Cursor) ns. fields_from rules is_tuple (n - (i + 1)) f.0 f.1 ns) (field_more rules is_tuple all c known))
    fields_more is_tuple all c known more = ap (λ k. fields_from rules is_tuple k all c known) (turns n i more)

    pub fields_done : (is_tuple : Bool) (all : List FieldRead) (c : Cursor) (known : Noted) → n ≤ i → fields_from rules is_tuple (n - i) all c known ≡ done all known
    fields_done is_tuple all c known past = ap (λ k. fields_from rules is_tuple k all c known) (none_left n i past)

    pub variants_more : (all : List VariantRead) (c : Cursor) (known : Noted) → i < n → variants_behind rules (n - i) all c known ≡ (if is_done c then done all known else read_on (λ (v : List VariantRead × Cursor) ns. variants_behind rules (n - (i + 1)) v.0 v.1 ns) (variant_more rules all c known))
    variants_more all c known more = ap (λ k. variants_behind rules k all c known) (turns n i more)

    pub variants_done : (all : List VariantRead) (c : Cursor) (known : Noted) → n ≤ i → variants_behind rules (n - i) all c known ≡ done all known
    variants_done all c known past = ap (λ k. variants_behind rules k all c known) (none_left n i past)
