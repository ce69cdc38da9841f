use Rattle.std.proofs.Common.{◌≡◌, ◌+◌, rules}
use Rattle.abi_scalar.specs.Scalar.{scalar_size}
use Rattle.abi_scalar.specs.Pair.{second_offset}
use Rattle.abi_scalar.proofs.PairLemmas.{pair_lawful_at}
use Rattle.abi_scalar.proofs.ReadableLemmas.{readable_room}
use Rattle.abi_scalar.proofs.layout_data.LayoutData.scalar_pair.Goals as goal

pub align_to-b_offset-requires-clause-shift : goal.align_to-b_offset-requires-clause-shift
align_to-b_offset-requires-clause-shift g c =
    let room = readable_room (g.C.HasDataLayout.target c.args.cx.now) c.requires.data_layout c.args.a c.args.b c.requires.first c.requires.second in
    search rules

pub align_to-b_offset-requires-clause-fits : goal.align_to-b_offset-requires-clause-fits
align_to-b_offset-requires-clause-fits g c =
    let room = readable_room (g.C.HasDataLayout.target c.args.cx.now) c.requires.data_layout c.args.a c.args.b c.requires.first c.requires.second in
    search rules

pub add-end-requires : goal.add-end-requires
add-end-requires g c =
    let room = readable_room (g.C.HasDataLayout.target c.args.cx.now) c.requires.data_layout c.args.a c.args.b c.requires.first c.requires.second in
    search rules

pub align_to-requires-clause-shift : goal.align_to-requires-clause-shift
align_to-requires-clause-shift g c =
    let room = readable_room (g.C.HasDataLayout.target c.args.cx.now) c.requires.data_layout c.args.a c.args.b c.requires.first c.requires.second in
    search rules

pub align_to-requires-clause-fits : goal.align_to-requires-clause-fits
align_to-requires-clause-fits g c =
    let dl = g.C.HasDataLayout.target c.args.cx.now in
    let room = readable_room dl c.requires.data_layout c.args.a c.args.b c.requires.first c.requires.second in
    let end : c.add-end.result ≡ second_offset dl c.args.a c.args.b + scalar_size dl c.args.b = search rules in
    rw (end, c.pair_align-align.ensures) room.size

pub returns-clause-lawful : goal.returns-clause-lawful
returns-clause-lawful g c first second bound =
    pair_lawful_at (g.VariantIdx.Idx.at 0) (g.FieldIdx.Idx.at 0) (g.FieldIdx.Idx.at 1) (g.C.HasDataLayout.target c.args.cx.now)
    c.args.a c.args.b _ c.requires.first c.requires.second c.requires.data_layout first second bound (search rules)
