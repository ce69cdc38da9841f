-- A feature that is on and that isn't one of the package's is the first such one.
use Rattle.std.proofs.Common.{◌≡◌, ◌∙◌, None, Some, ap, map, option_map, subst, sym}
use Rattle.cargo_manifest.specs.Enabled.{IsEnabled, link_view}
use Rattle.cargo_manifest.specs.Features.{first_other}
use Rattle.cargo_manifest.specs.Values.{texts}
use Rattle.cargo_manifest.proofs.EnabledLemmas.{first_other_is, first_other_none}
use Rattle.cargo_manifest.proofs.features.Features.enabled.Goals as goal

pub returns-in-Some-clause-unknown : goal.returns-in-Some-clause-unknown
returns-in-Some-clause-unknown c =
    let on = texts c.in_ok-on.on.items in
    let names = texts c.args.self.now.names.items in
    let asked = texts c.in_ok-asked.asked.items in
    let name = c.in-Some.name.now in
    let first : first_other on names ≡ Some name =
    (rw (c.deref-2.ensures.value, c.deref-3.ensures.value) at (sym c.first_other.ensures ∙ ap (option_map (λ t. t.now)) c.in-Some.is)) in
    let (among, isnt) = first_other_is on names name first in
    let by_links : IsEnabled (map link_view c.args.self.now.links.items) asked name =
    subst (λ ls. IsEnabled (map link_view ls) asked name) c.deref.ensures.value ((c.in_ok-on.ensures name).0 among) in
    (subst (λ a. IsEnabled (map link_view c.args.self.now.links.items) a name) c.in_ok-asked.ensures by_links, isnt)

pub returns-clause-known : goal.returns-clause-known
returns-clause-known c =
    let on = texts c.in_ok-on.on.items in
    let names = texts c.args.self.now.names.items in
    let first : first_other on names ≡ None =
    (rw (c.deref-2.ensures.value, c.deref-3.ensures.value) at (sym c.first_other.ensures ∙ ap (option_map (λ t. t.now)) c.in-None.is)) in
    first_other_none on names first
