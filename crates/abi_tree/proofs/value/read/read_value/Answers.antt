use Rattle.std.proofs.Common.{◌-◌, ◌<◌, ap, arith}
use Rattle.std.proofs.lemmas.List.Elements.{All-from_get_or}
use Rattle.std.proofs.lemmas.Result.{IfOk-weaker}
use Rattle.abi_tree.specs.Bytes.{AreBytes}
use Rattle.abi_tree.proofs.Found.KeptLemmas.{found_alone, found_laid, found_value}
use Rattle.abi_tree.proofs.value.read.read_value.Goals as goal

pub returns-clause-value : goal.returns-clause-value
returns-clause-value c =
    let all : AreBytes c.args.bytes.now = All-from_get_or (λ b. b < 256) c.args.bytes.now 0 (λ i lt. omega (arith, c.type_inv.bytes i)) in
    IfOk-weaker c.read_node.result _ _
    (λ found h. found_value c.args.laid.now c.args.bytes.now found all
    (found_laid c.args.laid.now c.args.bytes.now c.nodes-nodes.result.now (c.len.result - 1) c.endian.result found c.nodes-nodes.ensures.same (ap (λ n. n - 1) c.len.ensures) c.endian.ensures h))
    c.read_node.ensures

pub returns-clause-one : goal.returns-clause-one
returns-clause-one c =
    IfOk-weaker c.read_node.result _ _
    (λ found h. found_alone c.args.laid.now c.args.bytes.now found
    (found_laid c.args.laid.now c.args.bytes.now c.nodes-nodes.result.now (c.len.result - 1) c.endian.result found c.nodes-nodes.ensures.same (ap (λ n. n - 1) c.len.ensures) c.endian.ensures h))
    c.read_node.ensures
