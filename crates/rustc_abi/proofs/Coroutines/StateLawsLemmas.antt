-- Where the layout of a coroutine has its prefix fields and its tag.
use Rattle.std.proofs.Common.{◌≡◌, ℕ, ◌+◌, ◌≤◌, List, [], ◌∷◌, ◌++◌, Ok, None, true, All, length, map, arith, ap, ◌∙◌}
use Rattle.std.specs.Cmp.Derive.{both_true}
use Rattle.std.proofs.lemmas.Bool.{le-leb}
use Rattle.std.proofs.lemmas.List.{length-append, length-map}
use Rattle.abi_base.specs.declared.data_layout.TargetDataLayout.{TargetDataLayout}
use Rattle.abi_base.specs.DataLayout.{IsLawfulDataLayout}
use Rattle.abi_scalar.specs.declared.scalar.Scalar.{Scalar}
use Rattle.abi_scalar.specs.Lawful.{IsLawfulLayout}
use Rattle.abi_scalar.specs.Shape.{listed_offsets}
use Rattle.abi_calc.specs.Coroutine.Layout.{IsStateTag}
use Rattle.rustc_abi.specs.Coroutines.{IsCoroutined}
use Rattle.abi_tree.specs.Laws.{have_places}
use Rattle.rustc_abi.specs.Laying.{coroutine_fault, most_fields, one_scalar}
use Rattle.abi_tree.specs.Placed.{Placed, layout_of, size_of}
use Rattle.abi_scalar.specs.Layout.{Layout}
use Rattle.rustc_abi.proofs.Faults.CoroutineFaultLemmas.{inline_items}
use Rattle.rustc_abi.proofs.Places.InsideLemmas.{coroutine_places}
use Rattle.rustc_abi.proofs.Places.LawsLemmas.{ends_in, lengths_in}

pub state_places : (dl : TargetDataLayout) → IsLawfulDataLayout dl → (pres ps : List Placed) (states : List (List ℕ)) (conflicts : List (ℕ × ℕ)) → All (λ p. IsLawfulLayout dl (layout_of p)) pres →
    All (λ p. IsLawfulLayout dl (layout_of p)) ps → coroutine_fault (length pres) (length ps) states conflicts ≡ None → (tag : Scalar) → IsStateTag (length states) tag → (layout : Layout) →
    IsCoroutined dl pres tag (one_scalar dl tag) ps states conflicts (Ok layout) → have_places layout.size layout.fields (map size_of pres ++ size_of (one_scalar dl tag) ∷ []) ≡ true
state_places dl law pres ps states conflicts before there none tag is_state_tag layout h =
    let found = coroutine_places dl law pres ps states conflicts before there none tag is_state_tag layout h in
    let sizes : List ℕ = map size_of pres ++ size_of (one_scalar dl tag) ∷ [] in
    let count : length (listed_offsets layout.fields) ≡ length sizes = lengths_in layout.size (listed_offsets layout.fields) sizes found.0 in
    let few : length pres + 1 + length ps ≤ most_fields = inline_items (length pres) (length ps) states conflicts none in
    ap (λ f. have_places layout.size f sizes) found.1
    ∙ both_true (ends_in layout.size (listed_offsets layout.fields) sizes found.0)
    (le-leb (length (listed_offsets layout.fields)) 0xFFFF_FF01 (omega (arith, count, few, length-append (map size_of pres) (size_of (one_scalar dl tag) ∷ []), length-map pres size_of)))
