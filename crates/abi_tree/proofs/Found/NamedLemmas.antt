-- Which variant, or state, a tag's number names: what says it.
use Rattle.std.proofs.Common.{◌≡◌, ◌≢◌, ℕ, zero, suc, ◌+◌, ◌%◌, ◌<◌, ◌≤◌, List, [], ◌∷◌, length, get_or, drop, min, true, false, arith, ⊎_elim, refl, sym, ap, ◌∙◌, subst}
use Rattle.std.specs.Prelude.{◌||◌, ◌==◌, not, Bool, MatchBool}
use Rattle.std.proofs.lemmas.Bool.{cases_lt, eqb-true, eqb-false, false≢true, ne_eqb}
use Rattle.std.proofs.lemmas.List.{get_or-map, length-map}
use Rattle.abi_scalar.specs.Range.{numbers_of}
use Rattle.abi_tree.specs.Placed.{Placed, layout_of, is_flagged, nothing}
use Rattle.abi_tree.specs.Tag.{IsSpanned, NamesDirectly, niche_number}
use Rattle.abi_tree.specs.Nodes.{tagged_variants_in, own_fields, parts_at, placed_at, placed_in}
use Rattle.abi_tree.specs.declared.node.Node.{Node}
use Rattle.abi_tree.specs.Well.{all_at}
use Rattle.abi_tree.proofs.Found.ReadLemmas.{parts_from, parts_end}

tag_layout : (b : Bool) (P Q : Type 0) → (b ≡ true → P) → (b ≡ false → Q) → MatchBool b P Q
tag_layout true P Q first second = first refl
tag_layout false P Q first second = second refl

-- directly: its number, cut to the tag's width, is the tag's, and none of its fields is flagged
module _ (done : List Placed) (width tag : ℕ) where
  to_direct : (vs : List (ℕ × ℕ)) (i : ℕ) (d : ℕ × ℕ) → i < length vs → is_flagged (own_fields (placed_in done (get_or vs i d).1)) ≡ false →
      (get_or vs i d).0 % numbers_of width ≡ tag → NamesDirectly width (tagged_variants_in done vs) tag i
  to_direct [] i d lt flag is = absurd (omega arith)
  to_direct (v ∷ vs) zero d lt flag is = (flag, is)
  to_direct (v ∷ vs) (suc i) d lt flag is = to_direct vs i d (omega arith) flag is

  pub from_direct : (vs : List (ℕ × ℕ)) (i : ℕ) (d : ℕ × ℕ) → NamesDirectly width (tagged_variants_in done vs) tag i →
      (is_flagged (own_fields (placed_in done (get_or vs i d).1)) ≡ false) × ((get_or vs i d).0 % numbers_of width ≡ tag)
  from_direct [] i d h = absurd h
  from_direct (v ∷ vs) zero d h = h
  from_direct (v ∷ vs) (suc i) d h = from_direct vs i d h

  module _ (vs : List (ℕ × ℕ)) (i : ℕ) (d : ℕ × ℕ) where
    -- with the tag's number, the flag of its fields says it
    pub told_by_flag : i < length vs → (flag : Bool) → flag ≡ is_flagged (own_fields (placed_in done (get_or vs i d).1)) → (get_or vs i d).0 % numbers_of width ≡ tag →
        MatchBool (not flag) (NamesDirectly width (tagged_variants_in done vs) tag i) (NamesDirectly width (tagged_variants_in done vs) tag i → ⊥)
    told_by_flag lt true of is = λ h. absurd (false≢true (sym (from_direct vs i d h).0 ∙ sym of))
    told_by_flag lt false of is = to_direct vs i d lt (sym of) is

    -- another number names it never
    pub told_by_number : (number : ℕ) → number ≡ (get_or vs i d).0 % numbers_of width → number ≢ tag →
        MatchBool (number == tag) (NamesDirectly width (tagged_variants_in done vs) tag i) (NamesDirectly width (tagged_variants_in done vs) tag i → ⊥)
    told_by_number number of other =
        subst (λ b. MatchBool b (NamesDirectly width (tagged_variants_in done vs) tag i) (NamesDirectly width (tagged_variants_in done vs) tag i → ⊥)) (sym (ne_eqb number tag other))
        (λ h. other (of ∙ (from_direct vs i d h).1))

-- what two numbers tell: one thing where they are the same, and another where they aren't
pub told_by_same : (a b : ℕ) (P Q : Type 0) → (a ≡ b → P) → (a ≢ b → Q) → MatchBool (a == b) P Q
told_by_same a b P Q same other = tag_layout (a == b) P Q (λ e. same (eqb-true a b e)) (λ e. other (eqb-false a b e))

-- by a niche: where no variant before the last of the span has the tag's number, the last one alone may have it
module _ (width untagged first last start tag : ℕ) (before : (i : ℕ) → IsSpanned untagged first last i → i < last → tag ≢ niche_number width first start i) where
  pub none_but_last : tag ≢ niche_number width first start last → (i : ℕ) → IsSpanned untagged first last i → tag ≢ niche_number width first start i
  none_but_last other i spanned same =
      ⊎_elim (λ (lt : i < last). before i spanned lt same)
      (λ (end : last ≤ i). let here : i ≡ last = omega (arith, end, spanned.1) in other (same ∙ ap (niche_number width first start) here)) (cases_lt i last)

  pub none_untagged : last ≡ untagged → (i : ℕ) → IsSpanned untagged first last i → tag ≢ niche_number width first start i
  none_untagged is i spanned same =
      ⊎_elim (λ (lt : i < last). before i spanned lt same) (λ (end : last ≤ i). let here : i ≡ last = omega (arith, end, spanned.1) in spanned.2 (here ∙ is)) (cases_lt i last)

-- the fields before the i-th aren't flagged
pub flagged_from : (os : List ℕ) (ps : List Placed) (i : ℕ) → i < length os → i < length ps →
    is_flagged (parts_at (drop i os) (drop i ps)) ≡ ((layout_of (get_or ps i nothing)).uninhabited || is_flagged (parts_at (drop (i + 1) os) (drop (i + 1) ps)))
flagged_from os ps i lt below = ap is_flagged (parts_from os ps i lt below)

pub flagged_end : (os : List ℕ) (ps : List Placed) (i : ℕ) → min (length os) (length ps) ≤ i → is_flagged (parts_at (drop i os) (drop i ps)) ≡ false
flagged_end os ps i end = ap is_flagged (parts_end os ps i end)

-- the i-th of the children's types
pub child_is : (ns : List Node) (children : List ℕ) (i : ℕ) → i < length children → get_or (all_at ns children) i nothing ≡ placed_at ns (get_or children i 0)
child_is ns children i lt = get_or-map (placed_at ns) children i 0 nothing lt

pub count_children : (ns : List Node) (children : List ℕ) → length (all_at ns children) ≡ length children
count_children ns children = length-map children (placed_at ns)
