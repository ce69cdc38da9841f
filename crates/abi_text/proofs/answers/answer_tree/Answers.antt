use Rattle.std.proofs.Common.{◌≡◌, ℕ, List, Err, Ok, inl, inr, ap, ◌∙◌}
use Rattle.std.specs.Prelude.{◌≢◌}
use Rattle.std.proofs.lemmas.Result.{IfOk-weaker}
use Rattle.abi_base.specs.declared.data_layout.TargetDataLayout.{TargetDataLayout}
use Rattle.rustc_abi.specs.declared.error.LayError.{LayError}
use Rattle.rustc_abi.specs.declared.error.LayError.TheVariants.{OutOfMemory}
use Rattle.rustc_abi.specs.Fault.{IsRefusedFor}
use Rattle.abi_tree.specs.Laid.{placed_of}
use Rattle.abi_tree.specs.Placed.{Placed}
use Rattle.abi_tree.specs.Tree.{Tree, tree_of}
use Rattle.abi_text.specs.Names.{error_name}
use Rattle.abi_text.specs.Output.{Output, IsOutputOfTree, answered_by, refusal}
use Rattle.abi_text.proofs.answers.answer_tree.Goals as goal

-- a refusal, as it is written
report_text : (reports : TargetDataLayout → Placed → List ℕ → Type 0) (dl : TargetDataLayout) (t : Tree) (e : LayError) → IsRefusedFor dl t e → e ≢ OutOfMemory → (output : Output)
    → output ≡ refusal (error_name e) → IsOutputOfTree reports dl t output
report_text reports dl t e (inl memory) granted output is = absurd (granted memory)
report_text reports dl t e (inr (inl (unlawful, name))) granted output is = record { lawful = λ law. absurd (unlawful law); unlawful = λ _. is ∙ ap (λ x. refusal (error_name x)) name }
report_text reports dl t e (inr (inr (law, laying))) granted output is = record { lawful = λ _. (Err e, laying, is); unlawful = λ un. absurd (un law) }

pub answer_laid-requires : goal.answer_laid-requires
answer_laid-requires g c = record {
  target = c.in-Ok.ensures.lawful;
  laying = (tree_of c.args.tree.now, c.in-Ok.ensures.laid);
  lawful = c.in-Ok.ensures.layout;
}

pub returns-in-Ok : goal.returns-in-Ok
returns-in-Ok g c =
    IfOk-weaker c.answer_laid.result _ _
    (λ a is. record { lawful = λ _. (Ok (placed_of c.in-Ok.laid), c.in-Ok.ensures.laid, is); unlawful = λ un. absurd (un c.in-Ok.ensures.lawful) })
    c.answer_laid.ensures

pub returns-in-Err : goal.returns-in-Err
returns-in-Err g c =
    IfOk-weaker c.answer_error.result _ _
    (λ a is. report_text g.T.Report.reports c.args.dl.now (tree_of c.args.tree.now) c.in-Err.error c.in-Err.ensures.refused is.0 (answered_by a) is.1)
    c.answer_error.ensures
