-- Worked facts: what the clauses on niches, alignments and marks refuse of small types, whatever else is said of them.
use Rattle.std.proofs.Common.{◌≡◌, [], ℕ, Bool, List, None, Option, arith, false, subst, true}
use Rattle.std.proofs.lemmas.List.Elements.{All-head}
use Rattle.abi_base.specs.declared.integer.Integer.{Integer}
use Rattle.abi_base.specs.declared.integer.Integer.TheVariants.{I8, I32}
use Rattle.abi_base.specs.declared.primitive.Primitive.TheVariants.{Int}
use Rattle.abi_base.specs.DataLayout.{default_data_layout}
use Rattle.abi_scalar.specs.declared.repr.ReprOptions.{ReprOptions}
use Rattle.abi_scalar.specs.declared.scalar.Scalar.{Scalar}
use Rattle.abi_scalar.specs.declared.scalar.Scalar.TheVariants.{Initialized}
use Rattle.abi_scalar.specs.Layout.{Layout}
use Rattle.abi_univariant.specs.ListNiche.{HasLargestNiche}
use Rattle.abi_tree.specs.declared.mark.Mark.{Mark}
use Rattle.abi_tree.specs.declared.mark.Mark.TheVariants.{Plain}
use Rattle.abi_tree.specs.Placed.{Parts, Placed, fields, no_parts, part, union as together}
use Rattle.abi_tree.specs.Tree.{Trees, scalar, struct, union}
use Rattle.rustc_abi.specs.Aligns.{HasAlignOfParts, abi_align_of}
use Rattle.rustc_abi.specs.Laying.{one_scalar}
use Rattle.rustc_abi.specs.Lists.{types_of}
use Rattle.rustc_abi.specs.Marks.{HasMarksOfParts}
use Rattle.rustc_abi.specs.Niches.{HasNicheOfParts}

-- an integer without a sign, up to a number
abbrev up_to : Integer → ℕ → Scalar
up_to integer end = Initialized (Int integer false) (record { start = 0; end = end })

-- ---- a struct of a bool has a niche

abbrev bool_field : Parts
bool_field = part 0 (one_scalar default_data_layout (up_to I8 1)) no_parts

bool_has_niche : (repr : ReprOptions) (always_sized : Bool) (order : Option (List ℕ)) (all : Trees) (layout : Layout)
    (mark : Mark) → layout.largest_niche ≡ None
    → HasNicheOfParts default_data_layout (struct repr always_sized order all) (fields layout mark bool_field) → ⊥
bool_has_niche repr always_sized order all layout mark none h =
    let most = subst (λ niche. HasLargestNiche default_data_layout niche (types_of bool_field)) none h.most in
    absurd (cc (All-head (λ (f : Layout). f.largest_niche ≡ None) _ [] most))

-- ---- an integer of four bytes isn't aligned as a byte

not_byte_aligned : (placed : Placed) → HasAlignOfParts default_data_layout (scalar (up_to I32 0xFFFF_FFFF)) placed
    → abi_align_of placed ≡ 0 → ⊥
not_byte_aligned placed h byte = omega (arith, h, byte)

-- ---- a struct says that it is one, and a union isn't marked as having no values

struct_is_marked : (repr : ReprOptions) (always_sized : Bool) (order : Option (List ℕ)) (all : Trees) (layout : Layout)
    (parts : Parts)
    → HasMarksOfParts default_data_layout (struct repr always_sized order all) (fields layout Plain parts) → ⊥
struct_is_marked repr always_sized order all layout parts h = absurd (cc h.0)

union_has_values : (repr : ReprOptions) (all : Trees) (layout : Layout) (mark : Mark) (parts : Parts)
    → HasMarksOfParts default_data_layout (union repr all) (together layout mark parts) → layout.uninhabited ≡ true → ⊥
union_has_values repr all layout mark parts h flagged = absurd (cc (h.1.uninhabited, flagged))
