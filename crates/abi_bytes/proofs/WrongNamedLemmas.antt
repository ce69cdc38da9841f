-- Why cells don't hold a tag, and the variants beside it.
use Rattle.std.proofs.Common.{None, Some, ◌≡◌, ◌⊎◌, ℕ, zero, suc, ◌+◌, ◌<◌, ◌≤◌, List, [], ◌∷◌, length, get_or, arith, ap, sym, subst, inl, inr, ⊎_elim}
use Rattle.std.specs.Prelude.{MatchOption, Option}
use Rattle.std.proofs.lemmas.Bool.{cases_lt}
use Rattle.automata.specs.Cell.{Cell}
use Rattle.abi_base.specs.declared.endian.Endian.{Endian}
use Rattle.abi_scalar.specs.declared.variants.TagEncoding.{TagEncoding}
use Rattle.abi_tree.specs.Nodes.{own_fields, placed_in, tagged_variants_in, types_in}
use Rattle.abi_tree.specs.Placed.{Parts, Placed, TaggedVariants}
use Rattle.abi_tree.specs.Tag.{Names}
use Rattle.abi_bytes.specs.Holding.{HoldCellsOfParts, HoldCellsOfVariant, cells_at}
use Rattle.abi_bytes.specs.NotHeld.{HasVariant, IsWhyTag, IsWrongField, IsWrongVariantField, MakeAt}
use Rattle.abi_bytes.specs.WrongParts.{HoldBeside, IsWrongBeside, IsWrongIn, IsWrongNamed, Judges, variants_in}
use Rattle.abi_bytes.specs.declared.cell_walk.CellWalk.{CellWalk}
use Rattle.abi_bytes.specs.declared.wrong_parts.TagAt.{TagAt}
use Rattle.abi_bytes.specs.declared.not_held.NotHeld.{NotHeld}
use Rattle.abi_bytes.specs.declared.not_held.PartStep.{PartStep}
use Rattle.abi_bytes.specs.declared.not_held.PartStep.TheVariants.{Tag}
use Rattle.abi_bytes.specs.declared.not_held.Why.{Why}
use Rattle.abi_bytes.specs.declared.not_held.Why.TheVariants.{NoVariant}
use Rattle.abi_bytes.specs.declared.not_held.WrongPart.{WrongPart}
use Rattle.abi_bytes.proofs.VariantLemmas.{variant_at, variant_there}
use Rattle.abi_bytes.proofs.WrongLemmas.{tag_held, tag_named}

-- a variant has an index of the list
pub HasVariant-there : (done : List Placed) (vs : List (ℕ × ℕ)) (i : ℕ) → HasVariant (tagged_variants_in done vs) i → i < length vs
HasVariant-there done [] i h = absurd h
HasVariant-there done (v ∷ vs) zero h = omega arith
HasVariant-there done (v ∷ vs) (suc i) h = omega (arith, HasVariant-there done vs i h)

wrong_variant : (order : Endian) (w : List Cell) (done : List Placed) (vs : List (ℕ × ℕ)) (i : ℕ) (d : ℕ × ℕ) (at k : ℕ) (way : List PartStep) (wrong : WrongPart) → i < length vs →
    IsWrongField order w (own_fields (placed_in done (get_or vs i d).1)) at k way wrong → IsWrongVariantField order w (tagged_variants_in done vs) at i k way wrong
wrong_variant order w done [] i d at k way wrong lt h = absurd (omega arith)
wrong_variant order w done (v ∷ vs) zero d at k way wrong lt h = h
wrong_variant order w done (v ∷ vs) (suc i) d at k way wrong lt h = wrong_variant order w done vs i d at k way wrong (omega (arith, lt)) h

match_more : (found : Option NotHeld) (P R : Type 0) (Q : NotHeld → Type 0) → (P → R) → MatchOption found P Q → MatchOption found R Q
match_more None P R Q more h = more h
match_more (Some f) P R Q more h = h

module _ (order : Endian) (encoding : TagEncoding ℕ) (done : List Placed) (vs : List (ℕ × ℕ)) (w : List Cell) (at size offset n number : ℕ) where
  abbrev variants : TaggedVariants
  variants = tagged_variants_in done vs

  abbrev own_cells : List Cell
  own_cells = cells_at w at size

  abbrev IsNamed : ℕ → Type 0
  IsNamed i = Names encoding n variants number i

  abbrev own_of : (i : ℕ) → ℕ × ℕ → Parts
  own_of i d = own_fields (placed_in done (get_or vs i d).1)

  -- no variant before the i-th is named and held; what was found is of one that is named
  abbrev pub AreJudged : (i : ℕ) → Option NotHeld → Type 0
  AreJudged i found =
      ((j : ℕ) → j < i → IsNamed j → HoldCellsOfVariant order variants j own_cells → ⊥)
      × MatchOption found ((j : ℕ) → j < i → IsNamed j → ⊥) (λ f. IsWrongNamed order w encoding variants at offset n f.way.items f.part)

  -- the next one isn't named
  pub judged_more : (i : ℕ) (found new : Option NotHeld) → new ≡ found → (IsNamed i → ⊥) → AreJudged i found → AreJudged (i + 1) new
  judged_more i found new same other h =
      let none : (j : ℕ) → j < i + 1 → ((j < i) ⊎ (i ≡ j)) = λ j below. ⊎_elim (λ lt. inl lt) (λ le. inr (omega (arith, below, le))) (cases_lt j i) in (
        λ j below names held. ⊎_elim (λ lt. h.0 j lt names held) (λ e. other (subst IsNamed (sym e) names)) (none j below),
        subst (λ x. MatchOption x ((j : ℕ) → j < i + 1 → IsNamed j → ⊥) (λ f. IsWrongNamed order w encoding variants at offset n f.way.items f.part)) (sym same)
            (match_more found ((j : ℕ) → j < i → IsNamed j → ⊥) ((j : ℕ) → j < i + 1 → IsNamed j → ⊥) (λ f. IsWrongNamed order w encoding variants at offset n f.way.items f.part)
            (λ before j below names. ⊎_elim (λ lt. before j lt names) (λ e. other (subst IsNamed (sym e) names)) (none j below)) h.1),
      )

  module _ (made : MakeAt order w (at + offset) n number) where
    -- the next one is, and isn't held
    pub judged_wrong : (i : ℕ) (d : ℕ × ℕ) (found new : Option NotHeld) (f : NotHeld) → i < length vs → IsNamed i → new ≡ Some f →
        (HoldCellsOfParts order (own_of i d) own_cells → ⊥) × IsWrongIn order w (Some i) (own_of i d) at f.way.items f.part → AreJudged i found → AreJudged (i + 1) new
    judged_wrong i d found new f lt names is wrong h =
        let none : (j : ℕ) → j < i + 1 → ((j < i) ⊎ (i ≡ j)) = λ j below. ⊎_elim (λ lt. inl lt) (λ le. inr (omega (arith, below, le))) (cases_lt j i) in (
          λ j below it held.
              ⊎_elim (λ before. h.0 j before it held)
              (λ e. wrong.0 ((variant_at order done vs i d own_cells lt).1 (subst (λ x. HoldCellsOfVariant order variants x own_cells) (sym e) held))) (none j below),
          subst (λ x. MatchOption x ((j : ℕ) → j < i + 1 → IsNamed j → ⊥) (λ f. IsWrongNamed order w encoding variants at offset n f.way.items f.part)) (sym is)
              (i, wrong.1.0, wrong.1.1, wrong.1.2, (number, made, names), wrong_variant order w done vs i d at wrong.1.0 wrong.1.1 f.part lt wrong.1.3),
        )

    -- it is named and held
    pub beside_held : (i : ℕ) (d : ℕ × ℕ) → offset + n ≤ size → at + size ≤ length w → i < length vs → IsNamed i → HoldCellsOfParts order (own_of i d) own_cells →
        HoldBeside order encoding variants offset n own_cells
    beside_held i d inside fits lt names held =
        (i, tag_held order encoding variants w at size offset n number i inside made fits names, (variant_at order done vs i d own_cells lt).0 held)

    -- none is
    pub beside_unheld : (i : ℕ) (found : Option NotHeld) → offset + n ≤ size → length vs ≤ i → AreJudged i found → HoldBeside order encoding variants offset n own_cells → ⊥
    beside_unheld i found inside all h x =
        let there = variant_there order done vs x.0 own_cells x.2 in
        h.0 x.0 (omega (arith, there, all)) (tag_named order encoding variants w at size offset n number x.0 inside made x.1) x.2

    -- none is named
    pub none_named : (i : ℕ) → length vs ≤ i → ((j : ℕ) → j < i → IsNamed j → ⊥) → IsWhyTag order w encoding variants (at + offset) n (NoVariant number)
    none_named i all before = (made, λ j has names. let there = HasVariant-there done vs j has in before j (omega (arith, there, all)) names)

-- the number of a tag of this width names the variant with this index
abbrev pub IsNamedBy : CellWalk → TagAt → (number width index : ℕ) → Type 0
IsNamedBy walk tag number width i = Names tag.encoding.now width (variants_in walk tag) number i

-- how its own fields are judged
abbrev pub JudgesOwn : CellWalk → TagAt → (index : ℕ) → Option NotHeld → Type 0
JudgesOwn walk tag i found =
    let own : Parts = own_fields (placed_in (types_in walk.nodes.now) (get_or tag.variants.now i (0, 0)).1) in
    Judges (HoldCellsOfParts walk.order own (cells_at walk.cells.now tag.at tag.size)) (IsWrongIn walk.order walk.cells.now (Some i) own tag.at) found

-- what was made of a tag
pub tag_found : (order : Endian) (encoding : TagEncoding ℕ) (variants : TaggedVariants) (w : List Cell) (at offset n : ℕ) (why : Why) (f : NotHeld) → f.way.items ≡ Tag ∷ [] →
    f.part ≡ record { start = at + offset; size = n; why = why } → IsWhyTag order w encoding variants (at + offset) n why → IsWrongBeside order w encoding variants at offset n f.way.items f.part
tag_found order encoding variants w at offset n why f way part h =
    inl (
      way,
      (ap (λ (p : WrongPart). p.start) part, ap (λ (p : WrongPart). p.size) part),
      subst (IsWhyTag order w encoding variants (at + offset) n) (sym (ap (λ (p : WrongPart). p.why) part)) h,
    )
