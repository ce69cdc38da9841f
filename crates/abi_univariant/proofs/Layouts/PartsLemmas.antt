-- Parts that are told when they are asked for.
use Rattle.std.proofs.Common.{◌≡◌, ℕ, ◌<◌, ◌∙◌, List, ap, arith, get_or, length, map, sym}
use Rattle.std.proofs.Math.ListN.{get_or-map}
use Rattle.std.proofs.lemmas.List.{get_or_default}
use Rattle.abi_base.specs.declared.data_layout.TargetDataLayout.{TargetDataLayout}
use Rattle.abi_scalar.specs.declared.layout_data.LayoutData.{LayoutData}
use Rattle.abi_univariant.specs.ListView.{part_at}
use Rattle.abi_univariant.specs.Part.{part_of, parts_of}
use Rattle.abi_univariant.specs.Placement.{no_part}
use Rattle.abi_univariant.proofs.Layouts.ListLemmas.{length-parts}

-- the part that a field's layout says is the one at its index
pub part_told : {F V H : Type 0} (layout_of : H → LayoutData F V) (dl : TargetDataLayout) (fields : List H) (i : ℕ) (d : H) → i < length fields
    → part_of dl (layout_of (get_or fields i d)) ≡ part_at (parts_of dl (map layout_of fields)) i
part_told layout_of dl fields i d short =
    let within : i < length (parts_of dl (map layout_of fields)) = omega (arith, short, length-parts layout_of dl fields) in
    sym (get_or_default (parts_of dl (map layout_of fields)) i no_part (part_of dl (layout_of d)) within ∙ get_or-map (λ f. part_of dl f) (map layout_of fields) i (layout_of d) ∙ ap (λ f. part_of dl f) (get_or-map layout_of fields i d))
