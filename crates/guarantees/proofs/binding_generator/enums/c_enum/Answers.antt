-- The tree that was made is an enum under `repr(C)`.
use Rattle.std.proofs.Common.{ℕ, List, None, Vec, true, rules, ◌≡◌, length, map, ap, inl, refl, ◌∙◌, ◌<◌}
use Rattle.std.proofs.lemmas.Result.{IfErr-weaker, IfOk-weaker}
use Rattle.abi_base.specs.Size.{signed_value}
use Rattle.std.specs.declared.alloc.Global.{Global}
use Rattle.abi_scalar.specs.declared.repr.ReprOptions.{ReprOptions}
use Rattle.abi_scalar.specs.Repr.{is_c}
use Rattle.abi_tree.specs.declared.tree.TypeTree.{TypeTree, Enum}
use Rattle.abi_tree.specs.Tree.{Tree, enum, tree_of, trees_of_variants}
use Rattle.rustc_abi.specs.declared.error.LayError.TheVariants.{OutOfMemory}
use Rattle.rustc_abi.specs.Fault.{IsRefusedFor}
use Rattle.guarantees.specs.EnumInC.{IsEnumInC, LiesAsEnumInC, without_fields}
use Rattle.guarantees.specs.InC.{HasExtent}
use Rattle.guarantees.proofs.Enumed.{enum_in_c}
use Rattle.guarantees.proofs.Trees.{tree_of-Enum}
use Rattle.guarantees.proofs.binding_generator.enums.c_enum.Goals as goal

-- the tree
made : (repr : ReprOptions) (all : Vec (ℕ × Vec TypeTree Global) Global) (numbers : List ℕ) → trees_of_variants all.items ≡ without_fields numbers → is_c repr ≡ true → repr.int ≡ None →
    repr.pack ≡ None → repr.align ≡ None → IsEnumInC (tree_of (Enum repr all)) numbers
made repr all numbers are c unnamed loose unraised = (repr, tree_of-Enum repr all ∙ ap (enum repr) are, c, unnamed, loose, unraised)

pub returns : goal.returns
returns c =
    let tree = tree_of (Enum c.c_repr-repr.result c.in_ok-variants_of.field-0) in
    let in_c = made c.c_repr-repr.result c.in_ok-variants_of.field-0 c.args.numbers.now c.in_ok-variants_of.ensures c.c_repr-repr.ensures.c c.c_repr-repr.ensures.unnamed c.c_repr-repr.ensures.pack c.c_repr-repr.ensures.raised in
    record {
      integer =
          IfOk-weaker c.extent_of.result (λ c'. HasExtent c.args.dl.now tree c'.size c'.align)
          (λ c'. 0 < length c.args.numbers.now → LiesAsEnumInC c.args.dl.now (map (signed_value 128) c.args.numbers.now) c'.size c'.align)
          (λ c' h some. enum_in_c c.args.dl.now tree c.args.numbers.now in_c some c'.size c'.align h) c.extent_of.ensures.laid;
      laid =
          IfOk-weaker c.extent_of.result (λ c'. HasExtent c.args.dl.now tree c'.size c'.align)
          (λ c'. (tree : Tree) × IsEnumInC tree c.args.numbers.now × HasExtent c.args.dl.now tree c'.size c'.align)
          (λ c' h. (tree, in_c, h)) c.extent_of.ensures.laid;
      refused =
          IfErr-weaker c.extent_of.result (IsRefusedFor c.args.dl.now tree) (λ e. (tree : Tree) × IsEnumInC tree c.args.numbers.now × IsRefusedFor c.args.dl.now tree e)
          (λ e refused. (tree, in_c, refused)) c.extent_of.ensures.refused;
    }

-- without memory for the variants there is such a tree, too
pub returns-in_err-variants_of-clause-refused : goal.returns-in_err-variants_of-clause-refused
returns-in_err-variants_of-clause-refused c =
    let repr = c.c_repr-repr.result in
    let tree : Tree = enum repr (without_fields c.args.numbers.now) in
    let in_c : IsEnumInC tree c.args.numbers.now = (repr, refl, c.c_repr-repr.ensures.c, c.c_repr-repr.ensures.unnamed, c.c_repr-repr.ensures.pack, c.c_repr-repr.ensures.raised) in
    IfErr-weaker c.from_residual.result (λ e. e ≡ OutOfMemory) (λ e. (tree : Tree) × IsEnumInC tree c.args.numbers.now × IsRefusedFor c.args.dl.now tree e)
    (λ e want. (tree, in_c, inl want)) (search rules)
