use Rattle.std.proofs.Common.{◌≡◌, ◌<◌, subst, sym}
use Rattle.abi_index.specs.Relation.{row_count, columns_of}
use Rattle.abi_index.proofs.BitMatrixLemmas.{kept_row, columns_of_row, columns_within}
use Rattle.abi_index.proofs.bit_matrix.BitMatrix.columns.Goals as goal

pub returns-clause-columns : goal.returns-clause-columns
returns-clause-columns g c =
    let row = g.R.Idx.number c.args.row in
    let within = subst (λ m. row < row_count m) (sym c.self.view_is) c.requires in
    let is = kept_row _ _ _ _ _ c.index-columns.ensures c.as_slice.ensures.numbers c.index.ensures.place within in
    subst (λ m. c.as_slice.result.now ≡ columns_of m row) c.self.view_is (columns_of_row _ row _ c.self.invariant.2 c.as_slice.ensures.ascend is)

pub returns-clause-within : goal.returns-clause-within
returns-clause-within g c =
    let row = g.R.Idx.number c.args.row in
    let within = subst (λ m. row < row_count m) (sym c.self.view_is) c.requires in
    let is = kept_row _ _ _ _ _ c.index-columns.ensures c.as_slice.ensures.numbers c.index.ensures.place within in
    columns_within _ row _ _ c.self.invariant.2 c.self.invariant.1 is
