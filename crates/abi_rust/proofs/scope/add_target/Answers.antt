use Rattle.std.proofs.Common.{◌≡◌, ◌∙◌, ◌<◌, Bool, ap, arith, false, length, not, refl, set, sym}
use Rattle.abi_rust.specs.Globs.{is_in, lists_of, with_glob, with_target}
use Rattle.abi_rust.proofs.GlobLemmas.{of_ok, target_at, target_kept}
use Rattle.abi_rust.proofs.scope.add_target.Goals as goal

pub returns-in-Some-get_mut-clause-added : goal.returns-in-Some-get_mut-clause-added
returns-in-Some-get_mut-clause-added c =
    let all = c.args.direct.now.items in
    let g = c.in-Some.found in
    let v = c.in-Some-get_mut.known.now in
    let w = c.add_glob.new.known in
    let within : g.inside < length all = omega (arith, c.in-Some-get_mut.ensures.variant.0 refl) in
    of_ok (λ (b : Bool). w.items ≡ with_glob v.items g) (λ (b : Bool). b ≡ not (is_in v.items g))
    (λ (b : Bool). lists_of (set all g.inside w) ≡ with_target (lists_of all) c.args.target) c.add_glob.result
    (λ is_new one report. target_at all g v w within c.in-Some-get_mut.ensures.value one ∙ ap (with_target (lists_of all)) (sym c.in-Some.is))
    c.add_glob.ensures.added c.add_glob.ensures.is_new

pub returns-in-Some-get_mut-clause-none : goal.returns-in-Some-get_mut-clause-none
returns-in-Some-get_mut-clause-none c =
    let all = c.args.direct.now.items in
    let g = c.in-Some.found in
    let v = c.in-Some-get_mut.known.now in
    let w = c.add_glob.new.known in
    of_ok (λ (b : Bool). w.items ≡ with_glob v.items g) (λ (b : Bool). b ≡ not (is_in v.items g))
    (λ (b : Bool). b ≡ false → lists_of (set all g.inside w) ≡ lists_of all) c.add_glob.result
    (λ is_new one report none. target_kept all g.inside g v w is_new c.in-Some-get_mut.ensures.value one report none)
    c.add_glob.ensures.added c.add_glob.ensures.is_new
