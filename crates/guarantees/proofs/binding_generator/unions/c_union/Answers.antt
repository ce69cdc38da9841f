-- The tree that was made is a union under `repr(C)`.
use Rattle.std.proofs.Common.{List, Ok, map, refl, subst}
use Rattle.std.proofs.lemmas.Result.{IfErr-weaker, IfOk-weaker}
use Rattle.abi_tree.specs.declared.tree.TypeTree.{Union}
use Rattle.abi_tree.specs.Placed.{Placed, layout_of}
use Rattle.abi_tree.specs.Tree.{Tree, tree_of, trees}
use Rattle.rustc_abi.specs.Fault.{IsRefusedFor}
use Rattle.rustc_abi.specs.Laying.{AreLaying}
use Rattle.guarantees.specs.InC.{HasExtent, IsUnionInC, LieTogetherAsInC}
use Rattle.guarantees.proofs.Trees.{tree_of-Union}
use Rattle.guarantees.proofs.United.{union_in_c}
use Rattle.guarantees.proofs.binding_generator.unions.c_union.Goals as goal

pub returns : goal.returns
returns c =
    let tree = tree_of (Union c.c_repr.result c.args.fields) in
    let fields = trees (map tree_of c.args.fields.items) in
    let in_c : IsUnionInC tree fields = (c.c_repr.result, tree_of-Union c.c_repr.result c.args.fields, c.c_repr.ensures.pack, c.c_repr.ensures.raised) in
    record {
      placed =
          let dl = c.args.dl.now in
          IfOk-weaker c.extent_of.result (λ c'. HasExtent dl tree c'.size c'.align)
          (λ c'. (placed : List Placed) × AreLaying dl fields (Ok placed) × LieTogetherAsInC dl.aggregate_align placed c'.size c'.align)
          (λ c' h.
          let united = union_in_c dl tree fields h.1 in_c h.2 (layout_of h.1) refl in
          (united.0, united.1, subst (λ a. LieTogetherAsInC dl.aggregate_align united.0 c'.size a) h.4 (subst (λ s. LieTogetherAsInC dl.aggregate_align united.0 s (layout_of h.1).align.abi) h.3 united.2)))
          c.extent_of.ensures.laid;
      laid =
          IfOk-weaker c.extent_of.result (λ c'. HasExtent c.args.dl.now tree c'.size c'.align) (λ c'. (tree : Tree) × IsUnionInC tree fields × HasExtent c.args.dl.now tree c'.size c'.align)
          (λ c' laid. (tree, in_c, laid)) c.extent_of.ensures.laid;
      refused =
          IfErr-weaker c.extent_of.result (IsRefusedFor c.args.dl.now tree) (λ e. (tree : Tree) × IsUnionInC tree fields × IsRefusedFor c.args.dl.now tree e)
          (λ e refused. (tree, in_c, refused)) c.extent_of.ensures.refused;
    }
