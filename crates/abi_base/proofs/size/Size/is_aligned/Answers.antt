use Rattle.std.proofs.Common.{◌≡◌, ◌%◌, ◌^◌, ap, sym, ◌∙◌, eq-eqb}
use Rattle.std.proofs.lemmas.Bool.{eqb-true}
use Rattle.std.proofs.lemmas.Nat.Gcd.{dvd_of_mod-eq-zero, mod-eq-zero_of_dvd}
use Rattle.abi_base.proofs.size.Size.is_aligned.Goals as goal

pub returns : goal.returns
returns c =
    let same : c.self.inside.raw % c.bytes.result ≡ c.args.self % 2 ^ c.args.align
    = ap (λ m. c.self.inside.raw % m) c.bytes.ensures ∙ ap (λ n. n % 2 ^ c.args.align) c.self.view_is in (
      λ t. dvd_of_mod-eq-zero (2 ^ c.args.align) (sym same ∙ eqb-true _ 0 t),
      λ d. eq-eqb _ 0 (same ∙ mod-eq-zero_of_dvd (2 ^ c.args.align) d),
    )
