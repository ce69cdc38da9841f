-- The tree that was made is a struct under `repr(C)`.
use Rattle.std.proofs.Common.{Option, ℕ, true, List, Ok, Err, Result, map}
use Rattle.std.specs.Prelude.{IfErr, IfOk}
use Rattle.abi_tree.specs.declared.tree.TypeTree.{Struct}
use Rattle.abi_tree.specs.Placed.{Placed}
use Rattle.abi_tree.specs.Tree.{Tree, Trees, tree_of, trees}
use Rattle.rustc_abi.specs.declared.error.LayError.{LayError}
use Rattle.rustc_abi.specs.Fault.{IsRefusedFor}
use Rattle.rustc_abi.specs.Laying.{AreLaying}
use Rattle.guarantees.specs.declared.binding_generator.CStruct.{CStruct}
use Rattle.guarantees.specs.InC.{IsInC, IsLaidOutAs, LieAsInC, least_align}
use Rattle.guarantees.proofs.Trees.{tree_of-Struct}
use Rattle.guarantees.proofs.binding_generator.c_struct_with.Goals as goal

-- what holds of the fields of each such struct holds of these
at_fields : (r : Result CStruct LayError) (P : (pack raised : Option ℕ) → Trees → Type 0) (Q : (pack raised : Option ℕ) → Trees → CStruct → Type 0) (pack raised : Option ℕ) (ts : Trees) →
    P pack raised ts → IfOk r (λ c. (pack raised : Option ℕ) (fields : Trees) → P pack raised fields → Q pack raised fields c) → IfOk r (Q pack raised ts)
at_fields (Ok c) P Q pack raised ts p h = h pack raised ts p
at_fields (Err e) P Q pack raised ts p h = h

pub struct_of-requires : goal.struct_of-requires
struct_of-requires c = (
  c.args.pack,
  c.args.align,
  trees (map tree_of c.args.fields.items),
  (c.c_repr.result, tree_of-Struct c.c_repr.result true c.args.fields, c.c_repr.ensures.fixed, c.c_repr.ensures.pack, c.c_repr.ensures.raised),
)

-- what is said of an answer, whichever it is
answered_so : (r : Result CStruct LayError) (P Q : CStruct → Type 0) → ((c : CStruct) → P c → Q c) → IfOk r P → IfOk r Q
answered_so (Ok c) P Q f h = f c h
answered_so (Err e) P Q f h = h

-- what is said of the tree's refusal is said of such a struct's
refused_so : (r : Result CStruct LayError) (P Q : LayError → Type 0) → ((e : LayError) → P e → Q e) → IfErr r P → IfErr r Q
refused_so (Ok c) P Q f h = h
refused_so (Err e) P Q f h = f e h

pub returns-clause-placed : goal.returns-clause-placed
returns-clause-placed c =
    at_fields c.struct_of.result (λ pack raised fields. IsInC pack raised (tree_of (Struct c.c_repr.result true c.args.fields)) fields)
    (λ pack raised fields c'. (placed : List Placed) × AreLaying c.args.dl.now fields (Ok placed) × LieAsInC pack (least_align c.args.dl.now pack raised) placed c'.offsets c'.size c'.align)
    c.args.pack c.args.align (trees (map tree_of c.args.fields.items))
    (c.c_repr.result, tree_of-Struct c.c_repr.result true c.args.fields, c.c_repr.ensures.fixed, c.c_repr.ensures.pack, c.c_repr.ensures.raised) c.struct_of.ensures.placed

pub returns-clause-refused : goal.returns-clause-refused
returns-clause-refused c =
    let tree = tree_of (Struct c.c_repr.result true c.args.fields) in
    let fields = trees (map tree_of c.args.fields.items) in
    let in_c : IsInC c.args.pack c.args.align tree fields = (c.c_repr.result, tree_of-Struct c.c_repr.result true c.args.fields, c.c_repr.ensures.fixed, c.c_repr.ensures.pack, c.c_repr.ensures.raised) in
    refused_so c.struct_of.result (IsRefusedFor c.args.dl.now tree)
    (λ e. (tree : Tree) × IsInC c.args.pack c.args.align tree fields × IsRefusedFor c.args.dl.now tree e)
    (λ e refused. (tree, in_c, refused)) c.struct_of.ensures.refused

pub returns-clause-laid : goal.returns-clause-laid
returns-clause-laid c =
    let tree = tree_of (Struct c.c_repr.result true c.args.fields) in
    let fields = trees (map tree_of c.args.fields.items) in
    let in_c : IsInC c.args.pack c.args.align tree fields = (c.c_repr.result, tree_of-Struct c.c_repr.result true c.args.fields, c.c_repr.ensures.fixed, c.c_repr.ensures.pack, c.c_repr.ensures.raised) in
    answered_so c.struct_of.result (λ c'. IsLaidOutAs c.args.dl.now tree c'.offsets c'.size c'.align)
    (λ c'. (tree : Tree) × IsInC c.args.pack c.args.align tree fields × IsLaidOutAs c.args.dl.now tree c'.offsets c'.size c'.align) (λ c' laid. (tree, in_c, laid)) c.struct_of.ensures.laid
