use Rattle.std.proofs.Common.{◌≡◌, ◌<◌, ◌*◌, Bool, true, false, length, nat_lt, Ok, Err, ℕ, ap, sym, arith}
use Rattle.std.specs.Prelude.{if◌then◌else◌}
use Rattle.std.proofs.lemmas.Result.{IfOk-weaker}
use Rattle.abi_base.specs.declared.data_layout.TargetDataLayout.{TargetDataLayout}
use Rattle.abi_base.specs.DataLayout.{size_bound}
use Rattle.abi_scalar.specs.declared.error.LayoutCalculatorError.TheVariants.{SizeOverflow}
use Rattle.abi_univariant.specs.Array.{elements_layout}
use Rattle.abi_tree.specs.Placed.{layout_of}
use Rattle.abi_scalar.specs.Layout.{Layout}
use Rattle.rustc_abi.specs.declared.error.LayError.{LayError}
use Rattle.rustc_abi.specs.Error.{named}
use Rattle.abi_tree.specs.Nodes.{placed_at, types_in}
use Rattle.rustc_abi.proofs.Places.LawsLemmas.{elements_laws, vector_laws}
use Rattle.rustc_abi.proofs.Unions.CalcLemmas.{vector_made}
use Rattle.rustc_abi.proofs.Unions.TogetherLemmas.{IsAdded-vector}
use Rattle.rustc_abi.proofs.Sizes.CountLemmas.{array_flagged, both_ok, flagged_there, more_absorbed, more_both, own_put}
use Rattle.rustc_abi.proofs.Trees.StillLemmas.{still_after}
use Rattle.rustc_abi.proofs.lay_vector.add_vector.Goals as goal

pub add-requires-clause-laws : goal.add-requires-clause-laws
add-requires-clause-laws c =
    let listed = c.in_ok-array.ensures.exact in
    elements_laws c.args.cx.dl.now (types_in c.args.nodes.now) c.args.element c.args.lanes c.in_ok-array.array (sym listed)

pub add-requires-2-clause-laws : goal.add-requires-2-clause-laws
add-requires-2-clause-laws c =
    let dl = c.args.cx.dl.now in
    let answer = c.in_ok-layout.ensures.ok in
    let listed = c.in_ok-array.ensures.exact in
    vector_laws dl (types_in c.add.new.nodes) c.in_ok-node.node (layout_of (placed_at c.args.nodes.now c.args.element)) c.args.lanes c.args.packed c.in_ok-array.array c.in_ok-layout.layout
    (ap layout_of c.in_ok-node.ensures.ok.meant) answer (sym listed)

-- where all lanes are below the bound, their array has a layout
never_refused : (dl : TargetDataLayout) (element : Layout) (lanes : ℕ) (e : LayError) (below : Bool) → below ≡ true → Err e ≡ named {H = ℕ} (if below then Ok (elements_layout 0 true lanes element) else Err SizeOverflow) → ⊥
never_refused dl element lanes e true is tag_distinguishes = cc
never_refused dl element lanes e false is tag_distinguishes = cc

pub returns-in_err-array-clause-err : goal.returns-in_err-array-clause-err
returns-in_err-array-clause-err c =
    let dl = c.args.cx.dl.now in
    let element = layout_of (placed_at c.args.nodes.now c.args.element) in
    let answer = c.in_ok-layout.ensures.ok in
    let below = (vector_made dl element c.args.lanes c.args.packed c.in_ok-layout.layout answer).below in
    let tag_distinguishes = c.in_err-array.ensures.exact in
    absurd (never_refused dl element c.args.lanes _ (nat_lt (element.size * c.args.lanes) (size_bound dl)) below tag_distinguishes)

pub returns-clause-ok : goal.returns-clause-ok
returns-clause-ok c =
    let dl = c.args.cx.dl.now in
    let answer = c.in_ok-layout.ensures.ok in
    let listed = c.in_ok-array.ensures.exact in
    let element = placed_at c.args.nodes.now c.args.element in
    IfOk-weaker c.add-2.result _ _
    (λ j put t laid fits. IsAdded-vector dl _ _ _ _ j element c.args.lanes c.args.packed c.in_ok-array.array c.in_ok-layout.layout t answer c.in_ok-layout.ensures.lawful (sym listed) c.in_ok-array.ensures.lawful c.in_ok-node.ensures.ok put laid fits)
    c.add-2.ensures.ok

pub returns-clause-own : goal.returns-clause-own
returns-clause-own c =
    let old = c.args.nodes.now in
    let listed = c.in_ok-array.ensures.exact in
    let here : c.args.element < length old = omega arith in
    let array = more_absorbed 1 c.in_ok-array.array.uninhabited old c.add.new.nodes
    (λ flag. flagged_there old c.args.element here (array_flagged c.args.cx.dl.now (layout_of (placed_at old c.args.element)) c.in_ok-array.array c.args.lanes listed flag)) c.in_ok-node.ensures.count in
    both_ok c.add-2.result _ _ _ c.add-2.ensures.ok c.add-2.ensures.count
    (λ i put count. own_put old c.add.new.nodes c.add-2.new.nodes i _ put (more_both 1 1 false _ _ _ _ array count))

pub returns-clause-behind : goal.returns-clause-behind
returns-clause-behind c = still_after _ _ _ c.in_ok-node.ensures.behind c.add-2.ensures.behind
