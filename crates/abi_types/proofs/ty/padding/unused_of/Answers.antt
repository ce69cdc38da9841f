use Rattle.std.proofs.Common.{◌≡◌, arith}
use Rattle.std.proofs.lemmas.Result.{IfOk-weaker}
use Rattle.abi_types.specs.Ty.Typed.{layout_in}
use Rattle.abi_types.proofs.PlacesLemmas.{beside_fits, beside_named, size_of, unused_bytes}
use Rattle.abi_types.proofs.ty.padding.unused_of.Goals as goal

pub variant-requires-clause-named : goal.variant-requires-clause-named
variant-requires-clause-named g c = beside_named (layout_in (g.W.Walk.typed_of c.args.this)).variants c.args.variant c.requires.variant

pub places_of-requires-clause-fits : goal.places_of-requires-clause-fits
places_of-requires-clause-fits g c =
    let t = g.W.Walk.typed_of c.args.this in
    let law = g.met.W.Walk.lawful_law c.args.this c.requires.valid in
    let size : c.bytes-size.result ≡ (layout_in t).size = size_of t c.layout.result.now c.bytes-size.result c.layout.ensures c.bytes-size.ensures in
    rw c.variant.ensures.variant (beside_fits t c.args.variant law c.requires.variant (omega (arith, size, c.bytes-size.type_inv)))

pub returns : goal.returns
returns g c =
    IfOk-weaker c.difference.result _ _
    (λ rest left. unused_bytes (g.W.Walk.typed_of c.args.this) (g.W.Walk.typed_of c.variant.result) c.args.variant c.requires.variant c.variant.ensures.variant
    c.args.beside.now c.in_ok-own.own rest c.requires.beside c.in_ok-own.ensures left)
    c.difference.ensures.bytes
