-- How unions and vectors are laid out, once their parts are.
use Rattle.std.proofs.Common.{◌≡◌, ℕ, ◌*◌, ◌≤◌, List, Option, Some, None, Bool, true, false, map, arith, refl, sym, ap, ◌∙◌, subst, inl, inr, Ok, Err}
use Rattle.std.specs.Prelude.{nat_lt, ◌==◌, if◌then◌else◌}
use Rattle.abi_scalar.specs.declared.niche.Niche.{Niche}
use Rattle.std.proofs.lemmas.Bool.{eqb-true}
use Rattle.abi_base.specs.declared.data_layout.TargetDataLayout.{TargetDataLayout}
use Rattle.abi_base.specs.DataLayout.{size_bound}
use Rattle.abi_scalar.specs.declared.repr.ReprOptions.{ReprOptions}
use Rattle.abi_scalar.specs.declared.error.LayoutCalculatorError.TheVariants as calculator
use Rattle.abi_scalar.specs.Lawful.{IsLawfulLayout}
use Rattle.abi_univariant.specs.Array.{array_answer, elements_layout}
use Rattle.abi_univariant.specs.Simd.{simd_answer}
use Rattle.rustc_abi.specs.declared.error.LayError.{LayError}
use Rattle.abi_tree.specs.declared.node.Node.{Node}
use Rattle.abi_tree.specs.Tree.{Tree, array, vector, union, Trees}
use Rattle.abi_tree.specs.Placed.{Placed, layout_of, elements, vector as placed_vector}
use Rattle.abi_scalar.specs.Layout.{Layout}
use Rattle.rustc_abi.specs.Error.{named, IsRefused}
use Rattle.abi_tree.specs.Fits.{Fits}
use Rattle.abi_tree.specs.Nodes.{placed_in, types_in}
use Rattle.rustc_abi.specs.Laying.{IsLaying, AreLaying, IsUnionOf, IsUnited, fields_fault, placed_together, lanes_of, placed_by}
use Rattle.abi_tree.specs.Well.{IsPut}
use Rattle.rustc_abi.specs.Adding.{IsAdded, EachFits}
use Rattle.rustc_abi.proofs.Trees.ListLemmas.{chosen}
use Rattle.abi_tree.proofs.Meaning.NodesLemmas.{Keeps-trans}
use Rattle.rustc_abi.proofs.Trees.LayLemmas.{IsAdded-put, IsAdded-elements}
use Rattle.rustc_abi.proofs.Unions.CalcLemmas.{united_layout, vector_made}
use Rattle.rustc_abi.proofs.Unions.UnionLemmas.{Fits-union}
use Rattle.rustc_abi.proofs.Unions.VectorLemmas.{Fits-vector}

-- the calculator's refusal is the union's
pub union_refused : (dl : TargetDataLayout) (repr : ReprOptions) (ps : List Placed) (e : LayError) → fields_fault repr ps ≡ None →
    IsRefused (IsUnited dl repr (map layout_of ps)) e → IsRefused (IsUnionOf dl repr ps) e
union_refused dl repr ps e faultless (inl memory) = inl memory
union_refused dl repr ps e faultless (inr f) = inr (rw faultless (inl (e, f, refl)))

-- a union's refusal is the tree's
pub union_tree_refused : (dl : TargetDataLayout) (repr : ReprOptions) (ts : Trees) (ps : List Placed) (e : LayError) → AreLaying dl ts (Ok ps) →
    IsRefused (IsUnionOf dl repr ps) e → IsRefused (IsLaying dl (union repr ts)) e
union_tree_refused dl repr ts ps e exact (inl memory) = inl memory
union_tree_refused dl repr ts ps e exact (inr f) = inr (inr (ps, exact, f))

-- a union's layout
pub IsAdded-union : (dl : TargetDataLayout) (old new : List Node) (i : ℕ) (repr : ReprOptions) (ps : List Placed) (layout : Layout) (ts : Trees) →
    fields_fault repr ps ≡ None → IsUnited dl repr (map layout_of ps) (Ok layout) → IsLawfulLayout dl layout →
    IsPut old new i (placed_together repr ps layout) → AreLaying dl ts (Ok ps) → EachFits dl ts ps → IsAdded dl old new i (union repr ts)
IsAdded-union dl old new i repr ps layout ts faultless united lawful put exact fits =
    let made = united_layout dl repr (map layout_of ps) layout united in
    let answer : IsUnionOf dl repr ps (Ok (placed_together repr ps layout)) = rw faultless (inr (layout, united, refl)) in
    IsAdded-put dl old new i (placed_together repr ps layout) (union repr ts) put (inr (ps, exact, answer))
    (Fits-union dl repr ts layout ps fits made.0 made.1 lawful)

-- the array of the lanes is not refused
lanes_made : (dl : TargetDataLayout) (element : Layout) (count : ℕ) (below : Bool) → nat_lt (element.size * count) (size_bound dl) ≡ below → below ≡ true →
    named {H = ℕ} (array_answer 0 dl element (Some count)) ≡ Ok (elements_layout 0 true count element)
lanes_made dl element count true e is =
    ap (λ b. named {A = Layout} {H = ℕ} (if b then Ok (elements_layout 0 true count element) else Err calculator.SizeOverflow)) e
lanes_made dl element count false e is = absurd (cc)

pub lanes_answered : (dl : TargetDataLayout) (element : Layout) (count : ℕ) (packed : Bool) (layout : Layout) → named (simd_answer (λ l. l) 0 0 dl element count packed) ≡ Ok layout →
    named {H = ℕ} (array_answer 0 dl element (Some count)) ≡ Ok (elements_layout 0 true count element)
lanes_answered dl element count packed layout answer =
    lanes_made dl element count (nat_lt (element.size * count) (size_bound dl)) refl (vector_made dl element count packed layout answer).below

not_zero : (count : ℕ) → 1 ≤ count → (none : Bool) → (none ≡ true → count ≡ 0) → none ≡ false
not_zero count some true is = absurd (omega (arith, some, is refl))
not_zero count some false is = refl

niche_by : (none : Bool) (niche : Option Niche) → none ≡ false → (if none then None else niche) ≡ niche
niche_by true niche is = absurd (cc)
niche_by false niche is = refl

-- where there is a lane, the array's niche is the element's
lanes_niche : (own element : Layout) (count : ℕ) → 1 ≤ count → own ≡ elements_layout 0 true count element → own.largest_niche ≡ element.largest_niche
lanes_niche own element count some made =
    ap (λ l. l.largest_niche) made ∙ niche_by (count == 0) element.largest_niche (not_zero count some (count == 0) (eqb-true count 0))

-- a vector's layout, behind that of the array of its lanes
pub IsAdded-vector : (dl : TargetDataLayout) (old one new : List Node) (i j : ℕ) (element : Placed) (count : ℕ) (packed : Bool) (own layout : Layout) (t : Tree) →
    named (simd_answer (λ l. l) 0 0 dl (layout_of element) count packed) ≡ Ok layout → IsLawfulLayout dl layout →
    named {H = ℕ} (array_answer 0 dl (layout_of element) (Some count)) ≡ Ok own → IsLawfulLayout dl own →
    IsPut old one i (elements own count element) → IsPut one new j (placed_vector layout (placed_in (types_in one) i)) →
    IsLaying dl t (Ok element) → Fits dl t element → IsAdded dl old new j (vector count packed t)
IsAdded-vector dl old one new i j element count packed own layout t answer lawful listed fine first last exact fits =
    let made = vector_made dl (layout_of element) count packed layout answer in
    let array_layout : own ≡ elements_layout 0 true count (layout_of element) = chosen ℕ _ _ own listed in
    let lanes_fit : Fits dl (array count t) (elements own count element) =
    subst (Fits dl (array count t)) first.meant (IsAdded-elements dl old one i element count own t listed fine first exact fits).fits in
    let put : IsPut old new j (placed_vector layout (elements own count element)) = record {
      kept = Keeps-trans (types_in old) (types_in one) (types_in new) first.kept last.kept;
      well = λ h. last.well (first.well h);
      last = last.last;
      meant = last.meant ∙ ap (placed_vector layout) first.meant;
    } in
    let inside : own.size ≤ layout.size = omega (arith, ap (λ l. l.size) array_layout, made.inside) in
    let niche = made.niche ∙ sym (lanes_niche own (layout_of element) count made.some array_layout) in
    IsAdded-put dl old new j (placed_vector layout (elements own count element)) (vector count packed t) put
    (inr (element, exact, sym (ap (placed_by (λ l. placed_vector l (lanes_of count element))) answer ∙ ap (λ a. Ok (placed_vector layout (elements a count element))) (sym array_layout))))
    (Fits-vector dl t count packed own element layout lanes_fit inside niche made.inhabited made.view lawful)
