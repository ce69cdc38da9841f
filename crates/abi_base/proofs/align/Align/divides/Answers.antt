use Rattle.std.proofs.Common.{◌≡◌, ◌%◌, ◌^◌, ap, sym, ◌∙◌, eq-eqb}
use Rattle.std.proofs.lemmas.Bool.{eqb-true}
use Rattle.std.proofs.lemmas.Nat.Gcd.{dvd_of_mod-eq-zero, mod-eq-zero_of_dvd}
use Rattle.abi_base.proofs.align.Align.divides.Goals as goal

pub returns : goal.returns
returns c =
    let same : c.from.result % c.wide_bytes.result ≡ c.args.bytes % 2 ^ c.args.self
    = ap (λ m. c.from.result % m) c.wide_bytes.ensures ∙ ap (λ n. n % 2 ^ c.args.self) c.from.ensures in (
      λ t. dvd_of_mod-eq-zero (2 ^ c.args.self) (sym same ∙ eqb-true _ 0 t),
      λ d. eq-eqb _ 0 (same ∙ mod-eq-zero_of_dvd (2 ^ c.args.self) d),
    )
