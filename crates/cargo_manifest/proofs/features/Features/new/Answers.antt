-- The parts of what features turn on.
use Rattle.std.proofs.Common.{◌≡◌, ◌∙◌, ◌++◌, List, ap, codes, map, refl}
use Rattle.std.specs.Prelude.{flat_map}
use Rattle.toml.specs.Data.{Data}
use Rattle.cargo_manifest.specs.Enabled.{Link, link_view}
use Rattle.cargo_manifest.specs.Features.{feature_links, feature_names, implicit_features, implicit_link, listed_links, optional_of, with_dependency}
use Rattle.cargo_manifest.specs.Manifests.{data_of}
use Rattle.cargo_manifest.specs.Values.{Text, entries_at, entry_view, texts}
use Rattle.cargo_manifest.proofs.features.Features.new.Goals as goal

-- what a package has, part by part
record AreParts (m : Data) (os es : List Text) (en : List (Text × Data)) (ls : List Link) (im names : List Text) : Type 0 where
  optional : os ≡ optional_of m
  entries : en ≡ entries_at (codes "features") m
  explicit : es ≡ map (λ e. e.0) en
  listed : ls ≡ listed_links en
  implicit : im ≡ implicit_features os es ls
  every : names ≡ es ++ im

names_are : (m : Data) (os es : List Text) (en : List (Text × Data)) (ls : List Link) (im names : List Text)
    → AreParts m os es en ls im names → names ≡ feature_names m
unfolding feature_names
names_are m os es en ls im names parts =
    rw (parts.every, parts.implicit, parts.listed, parts.explicit, parts.entries, parts.optional) refl

links_are : (m : Data) (os es : List Text) (en : List (Text × Data)) (ls : List Link) (im names : List Text) (all : List Link)
    → AreParts m os es en ls im names → all ≡ flat_map (with_dependency os names) ls ++ map implicit_link im → all ≡ feature_links m
unfolding feature_links
links_are m os es en ls im names all parts is =
    rw (is, parts.every, parts.implicit, parts.listed, parts.explicit, parts.entries, parts.optional) refl

pub returns-clause-names : goal.returns-clause-names
returns-clause-names c =
    names_are (data_of c.args.manifest.now) (texts c.in_ok-optional.optional.items) (texts c.in_ok-explicit.explicit.items)
    (map entry_view c.in_ok-entries.entries.items) (map link_view c.in_ok-listed.listed.items) (texts c.put_implicit.new.names.items) (texts c.in_ok-names.names.items) (record {
      optional = c.in_ok-optional.ensures;
      entries = c.in_ok-entries.ensures;
      explicit = (rw c.deref.ensures.value at c.in_ok-explicit.ensures);
      listed = (rw c.deref-2.ensures.value at c.in_ok-listed.ensures);
      implicit = (rw (c.new-implicit.ensures.items, c.deref-3.ensures.value, c.deref-4.ensures.value, c.deref-5.ensures.value) at c.in_ok-put_implicit.ensures);
      every = (rw (c.deref-6.ensures.value, c.deref-7.ensures.value) at c.in_ok-names.ensures);
    })

pub returns-clause-links : goal.returns-clause-links
returns-clause-links c =
    links_are (data_of c.args.manifest.now) (texts c.in_ok-optional.optional.items) (texts c.in_ok-explicit.explicit.items)
    (map entry_view c.in_ok-entries.entries.items) (map link_view c.in_ok-listed.listed.items) (texts c.put_implicit.new.names.items) (texts c.in_ok-names.names.items)
    (map link_view c.put_implicit_links.new.links.items) (record {
      optional = c.in_ok-optional.ensures;
      entries = c.in_ok-entries.ensures;
      explicit = (rw c.deref.ensures.value at c.in_ok-explicit.ensures);
      listed = (rw c.deref-2.ensures.value at c.in_ok-listed.ensures);
      implicit = (rw (c.new-implicit.ensures.items, c.deref-3.ensures.value, c.deref-4.ensures.value, c.deref-5.ensures.value) at c.in_ok-put_implicit.ensures);
      every = (rw (c.deref-6.ensures.value, c.deref-7.ensures.value) at c.in_ok-names.ensures);
    })
    ((rw (c.deref-11.ensures.value) at c.in_ok-put_implicit_links.ensures) ∙ ap (λ ls. ls ++ map implicit_link (texts c.put_implicit.new.names.items))
    ((rw (c.deref-8.ensures.value, c.deref-9.ensures.value, c.deref-10.ensures.value) at c.in_ok-links.ensures)))
