-- Each of these evaluates within less room, or within the same room what stands lower.
use Rattle.std.proofs.Common.{◌≡◌, ◌+◌, ◌*◌, [], drop}
use Rattle.indexmap.specs.IndexMap.{get}
use Rattle.abi_rust.specs.Evaluating.{AreValues, arguments_from, evaluator}
use Rattle.abi_rust.specs.Scope.{same_key}
use Rattle.abi_rust.specs.Types.{all_given, where_of}
use Rattle.abi_rust.proofs.evaluate.+evaluating.Given as goal

abbrev pub decreases-evaluate : goal.decreases-evaluate
decreases-evaluate l = 8 * l.env.depth_left

abbrev pub decreases-discriminant_base : goal.decreases-discriminant_base
decreases-discriminant_base l = 8 * l.depth_left + 1

abbrev pub decreases-evaluate_second : goal.decreases-evaluate_second
decreases-evaluate_second l = 8 * l.env.depth_left + 1

abbrev pub decreases-constant_anew : goal.decreases-constant_anew
decreases-constant_anew l = 8 * l.depth_left + 1

abbrev pub decreases-constant : goal.decreases-constant
decreases-constant l = 8 * l.depth_left + 2

abbrev pub decreases-evaluate_unary : goal.decreases-evaluate_unary
decreases-evaluate_unary l = 8 * l.env.depth_left + 1

abbrev pub decreases-discriminant : goal.decreases-discriminant
decreases-discriminant l = 8 * l.depth_left + 2

abbrev pub decreases-evaluate_binary : goal.decreases-evaluate_binary
decreases-evaluate_binary l = 8 * l.env.depth_left + 2

abbrev pub decreases-evaluate_operand : goal.decreases-evaluate_operand
decreases-evaluate_operand l = 8 * l.env.depth_left + 3

abbrev pub decreases-evaluate_path : goal.decreases-evaluate_path
decreases-evaluate_path l = 8 * l.env.depth_left + 3

abbrev pub decreases-evaluate_cast : goal.decreases-evaluate_cast
decreases-evaluate_cast l = 8 * l.env.depth_left + 4

abbrev pub decreases-evaluate_receiver : goal.decreases-evaluate_receiver
decreases-evaluate_receiver l = 8 * l.env.depth_left + 1

abbrev pub decreases-evaluate_length : goal.decreases-evaluate_length
decreases-evaluate_length l = 8 * l.depth_left + 1

abbrev pub decreases-evaluate_of : goal.decreases-evaluate_of
decreases-evaluate_of l = 8 * l.env.depth_left + 2

abbrev pub decreases-evaluate_of_both : goal.decreases-evaluate_of_both
decreases-evaluate_of_both l = 8 * l.env.depth_left + 2

abbrev pub decreases-evaluate_method : goal.decreases-evaluate_method
decreases-evaluate_method l = 8 * l.env.depth_left + 3

abbrev pub decreases-evaluate_argument : goal.decreases-evaluate_argument
decreases-evaluate_argument l = 8 * l.env.depth_left + 1

abbrev pub decreases-evaluate_arguments : goal.decreases-evaluate_arguments
decreases-evaluate_arguments l = 8 * l.env.depth_left + 2

abbrev pub decreases-evaluate_function : goal.decreases-evaluate_function
decreases-evaluate_function l = 8 * l.env.depth_left + 3

-- the arguments that are left, behind those that are evaluated, are given as all are
abbrev pub invariant-evaluate_arguments-loop-index : goal.invariant-evaluate_arguments-loop-index
invariant-evaluate_arguments-loop-index l = record {
  value : arguments_from l.cx (evaluator l.cx l.env.depth_left) (where_of l.env) l.expr.at l.function (all_given l.given.items) l.index (drop l.index l.expr.arguments.now)
      ≡ arguments_from l.cx (evaluator l.cx l.env.depth_left) (where_of l.env) l.expr.at l.function [] 0 l.expr.arguments.now;
  kept : AreValues l.cx (get same_key l.budget.values);
}

abbrev pub decreases-evaluate_call : goal.decreases-evaluate_call
decreases-evaluate_call l = 8 * l.env.depth_left + 4

abbrev pub decreases-evaluate_any : goal.decreases-evaluate_any
decreases-evaluate_any l = 8 * l.env.depth_left + 5

abbrev pub decreases-evaluate_bound : goal.decreases-evaluate_bound
decreases-evaluate_bound l = 8 * l.env.depth_left + 1

abbrev pub decreases-evaluate_let : goal.decreases-evaluate_let
decreases-evaluate_let l = 8 * l.env.depth_left + 2

abbrev pub decreases-evaluate_choice : goal.decreases-evaluate_choice
decreases-evaluate_choice l = 8 * l.env.depth_left + 1
