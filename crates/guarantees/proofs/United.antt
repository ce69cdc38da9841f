-- A union's size and alignment, from its exact layout.
use Rattle.std.proofs.Common.{◌≡◌, ℕ, zero, suc, ◌^◌, ◌≤◌, List, [], ◌∷◌, Option, None, Some, map, max, arith, inl, inr, sym, ap, ap₂, ◌∙◌, subst}
use Rattle.std.specs.Prelude.{All, MatchOption, Ok, Err, if◌then◌else◌, is_some}
use Rattle.std.specs.Int.{next_multiple_of}
use Rattle.abi_base.specs.declared.data_layout.TargetDataLayout.{TargetDataLayout}
use Rattle.abi_scalar.specs.declared.repr.ReprOptions.{ReprOptions}
use Rattle.abi_univariant.specs.Fields.{greatest, greatest_size}
use Rattle.abi_univariant.specs.Placement.{cut}
use Rattle.abi_univariant.specs.Union.{raised_to, union_align, union_size}
use Rattle.abi_tree.specs.Placed.{Placed, layout_of, size_of}
use Rattle.abi_scalar.specs.Layout.{Layout}
use Rattle.abi_tree.specs.Tree.{Tree, Trees, union}
use Rattle.rustc_abi.specs.declared.error.LayError.{LayError}
use Rattle.rustc_abi.specs.Error.{Follows}
use Rattle.rustc_abi.specs.Laying.{AreLaying, IsLaying, IsUnited, fields_fault, placed_together}
use Rattle.guarantees.specs.InC.{IsGreatestAlign, IsLeastMultiple, IsUnionInC, LieTogetherAsInC, align_exponent}
use Rattle.guarantees.proofs.Ordered.{inj-Ok, no_error}
use Rattle.guarantees.proofs.Rounded.{rounded_up}

-- the layouts of the fields, as the calculator is handed them
abbrev handed : List Placed → List Layout
handed ps = map (λ l. l) (map layout_of ps)

-- ---- the greatest of the fields

sizes_below : (ps : List Placed) → All (λ p. size_of p ≤ greatest_size (handed ps)) ps
sizes_below [] k d lt = absurd (omega arith)
sizes_below (p ∷ ps) zero d lt = omega arith
sizes_below (p ∷ ps) (suc k) d lt = let below = sizes_below ps k d (omega arith) in omega (arith, below)

sizes_least : (other : ℕ) (ps : List Placed) → All (λ p. size_of p ≤ other) ps → greatest_size (handed ps) ≤ other
sizes_least other [] all = omega arith
sizes_least other (p ∷ ps) all =
    let first : size_of p ≤ other = all 0 p (omega arith) in
    omega (arith, first, sizes_least other ps (λ k d lt. all (suc k) d (omega arith)))

abbrev greatest_of : List Placed → ℕ
greatest_of ps = greatest (map (λ (l : Layout). l.align.abi) (handed ps))

aligns_below : (ps : List Placed) → All (λ p. align_exponent p ≤ greatest_of ps) ps
aligns_below [] k d lt = absurd (omega arith)
aligns_below (p ∷ ps) zero d lt = omega arith
aligns_below (p ∷ ps) (suc k) d lt = let below = aligns_below ps k d (omega arith) in omega (arith, below)

aligns_least : (other : ℕ) (ps : List Placed) → All (λ p. align_exponent p ≤ other) ps → greatest_of ps ≤ other
aligns_least other [] all = omega arith
aligns_least other (p ∷ ps) all =
    let first : align_exponent p ≤ other = all 0 p (omega arith) in
    omega (arith, first, aligns_least other ps (λ k d lt. all (suc k) d (omega arith)))

greatest_of_all : (least : ℕ) (ps : List Placed) → IsGreatestAlign None least ps (max least (greatest_of ps))
greatest_of_all least ps = record {
  above = omega arith;
  each = λ k d lt. omega (arith, aligns_below ps k d lt);
  no_greater = λ other low all. omega (arith, aligns_least other ps all);
}

-- ---- the exact layout

-- A union that was laid out: its fields by themselves, and its size and alignment.
pub record IsUnionLaid (dl : TargetDataLayout) (repr : ReprOptions) (ts : Trees) (placed : Placed) : Type 0 where
  pub fields : List Placed
  pub are : AreLaying dl ts (Ok fields)
  pub size : size_of placed ≡ union_size dl repr (handed fields)
  pub align : align_exponent placed ≡ union_align dl repr (handed fields)

united : (dl : TargetDataLayout) (repr : ReprOptions) (ts : Trees) (placed : Placed) (ps : List Placed) (fault : Option LayError) → AreLaying dl ts (Ok ps) →
    MatchOption fault (Follows (IsUnited dl repr (map layout_of ps)) (λ layout r. r ≡ Ok (placed_together repr ps layout)) (Ok placed)) (λ e. Ok placed ≡ Err e) → IsUnionLaid dl repr ts placed
united dl repr ts placed ps None are (inl h) = absurd (no_error placed h.0 h.2)
united dl repr ts placed ps None are (inr h) =
    let same : layout_of placed ≡ h.0 = ap layout_of (inj-Ok placed (placed_together repr ps h.0) h.2) in
    record {
      fields = ps;
      are = are;
      size = ap (λ (l : Layout). l.size) same ∙ ap (λ (l : Layout). l.size) h.1.2;
      align = ap (λ (l : Layout). l.align.abi) same ∙ ap (λ (l : Layout). l.align.abi) h.1.2;
    }
united dl repr ts placed ps (Some e) are h = absurd (no_error placed e h)

union_laid : (dl : TargetDataLayout) (repr : ReprOptions) (ts : Trees) (placed : Placed) → IsLaying dl (union repr ts) (Ok placed) → IsUnionLaid dl repr ts placed
union_laid dl repr ts placed (inl h) = absurd (no_error placed h.0 h.2)
union_laid dl repr ts placed (inr h) = united dl repr ts placed h.0 (fields_fault repr h.0) h.1 h.2

-- a union under such a repr is as large as in C
pub union_in_c : (dl : TargetDataLayout) (tree : Tree) (ts : Trees) (placed : Placed) → IsUnionInC tree ts → IsLaying dl tree (Ok placed) → (layout : Layout) → layout ≡ layout_of placed →
    (ps : List Placed) × AreLaying dl ts (Ok ps) × LieTogetherAsInC dl.aggregate_align ps layout.size layout.align.abi
union_in_c dl tree ts placed in_c laid layout is =
    let repr = in_c.0 in
    let u = union_laid dl repr ts placed (subst (λ t. IsLaying dl t (Ok placed)) in_c.1 laid) in
    let greatest : union_align dl repr (handed u.fields) ≡ max dl.aggregate_align (greatest_of u.fields) =
    ap₂ (λ (pack raised : Option ℕ). raised_to raised (cut pack (max (if is_some pack then dl.i8_align else dl.aggregate_align) (greatest_of u.fields)))) in_c.2 in_c.3 in
    let align : layout.align.abi ≡ max dl.aggregate_align (greatest_of u.fields) = ap (λ (l : Layout). l.align.abi) is ∙ u.align ∙ greatest in
    let size : layout.size ≡ next_multiple_of (greatest_size (handed u.fields)) (2 ^ layout.align.abi) =
    ap (λ (l : Layout). l.size) is ∙ u.size ∙ ap (λ a. next_multiple_of (greatest_size (handed u.fields)) (2 ^ a)) (greatest ∙ sym align) in (
      u.fields,
      u.are,
      record {
        end = greatest_size (handed u.fields);
        each = sizes_below u.fields;
        no_less = λ other all. sizes_least other u.fields all;
        aligned = subst (IsGreatestAlign None dl.aggregate_align u.fields) (sym align) (greatest_of_all dl.aggregate_align u.fields);
        rounded = subst (IsLeastMultiple layout.align.abi (greatest_size (handed u.fields))) (sym size) (rounded_up layout.align.abi (greatest_size (handed u.fields)));
      },
    )
