use Rattle.abi_tree.specs.Value.{value_of}
use Rattle.abi_c.specs.Numbers.FlatValue.{flat_value, IsReadableValue}
use Rattle.abi_c.specs.Numbers.FrontValue.{front_value}
use Rattle.abi_c.proofs.NumberLemmas.ValueBack.{value_back, value_sound}
use Rattle.abi_c.proofs.NumberLemmas.Whole.{all_read, none_read, only_read, rest_read}
use Rattle.abi_c.proofs.numbers.value.read_flat_value.Goals as goal

pub returns-in_err-value-clause-unreadable : goal.returns-in_err-value-clause-unreadable
returns-in_err-value-clause-unreadable c = none_read (front_value 201) flat_value (IsReadableValue 201) (value_back 201) c.args.numbers.now _ _ c.from_residual.ensures.1 c.in_err-value.ensures.err

pub returns-then-at-numbers-clause-ok : goal.returns-then-at-numbers-clause-ok
returns-then-at-numbers-clause-ok c =
    all_read (front_value 201) flat_value (value_sound 201) c.args.numbers.now c.read_value_node.new.at (value_of c.in_ok-value.value) c.in_ok-value.ensures.ok c.if-at-numbers.true

pub returns-then-at-numbers-clause-one : goal.returns-then-at-numbers-clause-one
returns-then-at-numbers-clause-one c t h e =
    only_read (front_value 201) flat_value (IsReadableValue 201) (value_back 201) c.args.numbers.now c.read_value_node.new.at (value_of c.in_ok-value.value) t c.in_ok-value.ensures.ok h e

pub returns-else-at-numbers-clause-unreadable : goal.returns-else-at-numbers-clause-unreadable
returns-else-at-numbers-clause-unreadable c _ t h e =
    rest_read (front_value 201) flat_value (IsReadableValue 201) (value_back 201) c.args.numbers.now c.read_value_node.new.at (value_of c.in_ok-value.value) t c.in_ok-value.ensures.ok c.if-at-numbers.false h e
