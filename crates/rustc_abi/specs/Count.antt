-- How many nodes a tree is laid out with: one for each type in it, absent variants' fields and locals of no state among
-- them, and besides one for each scalar of a pair, for each vector's array of lanes, for each tag, and for each variant or
-- state beside a tag.
use Rattle.std.specs.Prelude.{◌≡◌, ◌↔◌, ℕ, ◌+◌, ◌&&◌, Bool, List, length, not, true, Ok}
use Rattle.abi_base.specs.declared.data_layout.TargetDataLayout.{TargetDataLayout}
use Rattle.abi_tree.specs.declared.node.Node.{Node}
use Rattle.abi_tree.specs.Tree.{Tree, array, vector, struct, union, enum, coroutine}
use Rattle.abi_tree.specs.Tree.{Trees, no_trees, more_trees, Variants, no_variants, more_variants}
use Rattle.abi_tree.specs.Placed.{Placed, pair as two, vector as lanes_of_vector, tagged, states as placed_states}
use Rattle.abi_tree.specs.Placed.{TaggedVariants, nothing_tagged, tagged_variant, layout_of}
use Rattle.abi_tree.specs.Deciding.{are_inhabited}
use Rattle.abi_tree.specs.Nodes.{placed_at}
use Rattle.rustc_abi.specs.Inhabited.{AreInhabited, EachInhabited, VariantsInhabited}
use Rattle.rustc_abi.specs.Laying.{IsLaying}

-- how many variants or states stand beside a tag
abbrev pub tagged_variant_count : TaggedVariants → ℕ
tagged_variant_count nothing_tagged = 0
tagged_variant_count (tagged_variant number layout mark parts tagged_variants) = tagged_variant_count tagged_variants + 1

-- the nodes that a laid-out type has beside those of the types in it: one, two for a vector, three for a pair, and with a
-- tag two and one for each variant or state
abbrev pub own_nodes : Placed → ℕ
own_nodes (two layout parts) = 3
own_nodes (lanes_of_vector layout lanes) = 2
own_nodes (tagged layout mark offset tag encoding tagged_variants) = tagged_variant_count tagged_variants + 2
own_nodes (placed_states layout prefix offset tag tagged_variants) = tagged_variant_count tagged_variants + 2
own_nodes _ = 1

module _ (dl : TargetDataLayout) where
  -- with the nodes of the types in it, so many, and its own, the tree is laid out with n nodes
  abbrev pub AddsOwn : Tree → (parts n : ℕ) → Type 0
  AddsOwn t parts n = (p : Placed) × IsLaying dl t (Ok p) × (n ≡ parts + own_nodes p)

  abbrev mutual
    -- the tree is laid out with n nodes
    pub HasNodes : Tree → (n : ℕ) → Type 0
    HasNodes (array count element) n = (m : ℕ) × HasNodes element m × AddsOwn (array count element) m n
    HasNodes (vector lanes packed element) n = (m : ℕ) × HasNodes element m × AddsOwn (vector lanes packed element) m n
    HasNodes (struct repr always_sized order all) n = (m : ℕ) × HaveNodes all m × AddsOwn (struct repr always_sized order all) m n
    HasNodes (union repr all) n = (m : ℕ) × HaveNodes all m × AddsOwn (union repr all) m n
    HasNodes (enum repr all) n = (m : ℕ) × VariantsHaveNodes all m × AddsOwn (enum repr all) m n
    HasNodes (coroutine prefix locals states conflicts) n =
        (m : ℕ) × HaveNodes prefix m × (k : ℕ) × HaveNodes locals k
        × AddsOwn (coroutine prefix locals states conflicts) (m + k) n
    HasNodes t n = AddsOwn t 0 n

    -- these trees, one after another, are
    pub HaveNodes : Trees → (n : ℕ) → Type 0
    HaveNodes no_trees n = n ≡ 0
    HaveNodes (more_trees t ts) n = (m : ℕ) × HasNodes t m × (k : ℕ) × HaveNodes ts k × (n ≡ m + k)

    -- the fields of these variants are
    pub VariantsHaveNodes : Variants → (n : ℕ) → Type 0
    VariantsHaveNodes no_variants n = n ≡ 0
    VariantsHaveNodes (more_variants discriminant ts others) n =
        (m : ℕ) × HaveNodes ts m × (k : ℕ) × VariantsHaveNodes others k × (n ≡ m + k)

  -- The nodes of the tree were put behind those that were there; none of all is flagged as having no value exactly where none was, and
  -- each type in the tree has values.
  abbrev pub IsCounted : (old new : List Node) → Tree → Type 0
  IsCounted old new t =
      (n : ℕ) × HasNodes t n × (length new ≡ length old + n)
      × ((are_inhabited new ≡ true) ↔ ((are_inhabited old ≡ true) × EachInhabited dl t))

  -- the same of types one after another
  abbrev pub AreCounted : (old new : List Node) → Trees → Type 0
  AreCounted old new ts =
      (n : ℕ) × HaveNodes ts n × (length new ≡ length old + n)
      × ((are_inhabited new ≡ true) ↔ ((are_inhabited old ≡ true) × AreInhabited dl ts))

  -- the same of the fields of variants
  abbrev pub AreVariantsCounted : (old new : List Node) → Variants → Type 0
  AreVariantsCounted old new all =
      (n : ℕ) × VariantsHaveNodes all n × (length new ≡ length old + n)
      × ((are_inhabited new ≡ true) ↔ ((are_inhabited old ≡ true) × VariantsInhabited dl all))

-- so many nodes were put behind those that were there, and one of them is flagged or not; none of all is, where none was and none is
-- of these
abbrev pub HasMore : (n : ℕ) → (flagged : Bool) → (old new : List Node) → Type 0
HasMore n flagged old new = (length new ≡ length old + n) × (are_inhabited new ≡ (are_inhabited old && not flagged))

-- behind those of the types in it, the own nodes of the type at this place were put; no node is flagged, where none was and the type
-- isn't
abbrev pub IsOwnPut : (old new : List Node) → (i : ℕ) → Type 0
IsOwnPut old new i =
    (length new ≡ length old + own_nodes (placed_at new i))
    × (are_inhabited new ≡ (are_inhabited old && not (layout_of (placed_at new i)).uninhabited))
