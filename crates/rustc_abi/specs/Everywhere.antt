-- What holds of a type and of each type in it.
use Rattle.std.specs.Prelude.{◌≡◌, ℕ, zero, suc, List, [], ◌∷◌, Ok, map, ⊤}
use Rattle.abi_base.specs.declared.data_layout.TargetDataLayout.{TargetDataLayout}
use Rattle.abi_tree.specs.declared.laid.Laid.{Laid}
use Rattle.abi_tree.specs.Laid.{placed_of}
use Rattle.abi_tree.specs.Tree.{Tree, scalar, pair, never, unit, array, vector, struct, union, enum, coroutine}
use Rattle.abi_tree.specs.Tree.{Trees, no_trees, more_trees, Variants, no_variants, more_variants}
use Rattle.abi_tree.specs.Placed.{Placed, never as nowhere, single, tagged, states as placed_states, Parts, TaggedVariants}
use Rattle.abi_tree.specs.Placed.{nothing_tagged, tagged_variant}
use Rattle.abi_tree.specs.Placed.{element_of, parts_in, first_part, more_parts}
use Rattle.abi_tree.specs.Nodes.{parts_at_0, placed_in}
use Rattle.rustc_abi.specs.Laying.{AreLaying}
use Rattle.rustc_abi.specs.Least.{fields_of}

-- the fact holds of these types as they are laid out by themselves: they have no place in the type that they are of
abbrev pub ByThemselves : TargetDataLayout → Trees → (Parts → Type 0) → Type 0
ByThemselves dl ts each = (ps : List Placed) × AreLaying dl ts (Ok ps) × each (parts_at_0 ps)

-- each state has those of these locals that it holds, and no other
abbrev pub HaveLocals : (locals : List Placed) → (states : List (List ℕ)) → TaggedVariants → Type 0
HaveLocals locals [] nothing_tagged = ⊤
HaveLocals locals (state ∷ states) (tagged_variant number layout mark parts tagged_variants) =
    (fields_of parts ≡ map (placed_in locals) state) × HaveLocals locals states tagged_variants
HaveLocals locals _ _ = ⊥

module _ (dl : TargetDataLayout) (P : Tree → Placed → Type 0) where
  abbrev mutual
    -- The fact holds of each type in the type. Fields of variants that are left out are taken as they are laid out by
    -- themselves, and so are a coroutine's locals, be they in some state or in none; states have them so.
    pub Within : Tree → Placed → Type 0
    Within (scalar s) placed = ⊤
    Within (pair a b) placed = ⊤
    Within never placed = ⊤
    Within unit placed = ⊤
    Within (array count element) placed = P element (element_of placed) × Within element (element_of placed)
    Within (vector lanes packed element) placed = P element (element_of (element_of placed)) × Within element (element_of (element_of placed))
    Within (struct repr always_sized order all) placed = OfEach all (parts_in placed)
    Within (union repr all) placed = OfEach all (parts_in placed)
    Within (enum repr all) (nowhere layout mark) = OfAbsent all
    Within (enum repr all) (single layout mark index parts) = OfVariant all index parts
    Within (enum repr all) (tagged layout mark offset tag encoding tagged_variants) = OfTaggedVariants all tagged_variants
    Within (enum repr all) _ = ⊥
    Within (coroutine prefix locals states conflicts) (placed_states layout pre offset tag tagged_variants) =
        OfEach prefix pre
        × ((ps : List Placed) × AreLaying dl locals (Ok ps) × OfEach locals (parts_at_0 ps) × HaveLocals ps states tagged_variants)
    Within (coroutine prefix locals states conflicts) _ = ⊥

    -- of each of these types, and of each in it
    pub OfEach : Trees → Parts → Type 0
    OfEach no_trees parts = ⊤
    OfEach (more_trees t ts) parts = (P t (first_part parts) × Within t (first_part parts)) × OfEach ts (more_parts parts)

    -- of each field of each of these variants, none of which has a place
    pub OfAbsent : Variants → Type 0
    OfAbsent no_variants = ⊤
    OfAbsent (more_variants discriminant ts others) = ByThemselves dl ts (OfEach ts) × OfAbsent others

    -- of each field of the variant with this index, and of the others, which have no place
    pub OfVariant : Variants → (index : ℕ) → Parts → Type 0
    OfVariant no_variants i parts = ⊥
    OfVariant (more_variants discriminant ts others) zero parts = OfEach ts parts × OfAbsent others
    OfVariant (more_variants discriminant ts others) (suc i) parts =
        ByThemselves dl ts (OfEach ts) × OfVariant others i parts

    -- of each field of each variant beside a tag
    pub OfTaggedVariants : Variants → TaggedVariants → Type 0
    OfTaggedVariants no_variants nothing_tagged = ⊤
    OfTaggedVariants (more_variants discriminant ts others) (tagged_variant number layout mark parts tagged_variants) =
        OfEach ts parts × OfTaggedVariants others tagged_variants
    OfTaggedVariants _ _ = ⊥

  -- the fact holds of the type, and of each in it
  abbrev pub Everywhere : Tree → Placed → Type 0
  Everywhere t placed = P t placed × Within t placed

-- the fact holds of the type that was laid out from the tree, and of each in it
abbrev pub EachIn : TargetDataLayout → Tree → (P : Tree → Placed → Type 0) → Laid → Type 0
EachIn dl tree P laid = Everywhere dl P tree (placed_of laid)
