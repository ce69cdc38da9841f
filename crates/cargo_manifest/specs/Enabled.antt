-- Which features are on.
use Rattle.std.specs.Prelude.{◌≡◌, ◌⊎◌, ◌++◌, Bool, List, [], ◌∷◌, bytes_eq, filter, not, if◌then◌else◌}
use Rattle.cargo_manifest.specs.Switches.{TurnsOn, feature, switch_view}
use Rattle.cargo_manifest.specs.Values.{Text, is_one_of}
use Rattle.cargo_manifest.specs.declared.enabled.Link.{Link as LentLink}

-- x is one of them
abbrev pub IsIn : {A : Type 0} → List A → A → Type 0
IsIn [] x = ⊥
IsIn (y ∷ ys) x = (y ≡ x) ⊎ IsIn ys x

-- a feature, and what it turns on
abbrev pub Link : Type 0
Link = Text × TurnsOn

abbrev pub link_view : LentLink → Link
link_view l = (l.feature.now, switch_view l.to)

-- a feature is on: it was asked for, or one that is on turns it on; no other one is
pub data IsEnabled (links : List Link) (asked : List Text) : Text → Type 0 where
  is_asked : (name : Text) → IsIn asked name → IsEnabled links asked name
  is_turned_on : (by name : Text) → IsEnabled links asked by → IsIn links (by, feature name) → IsEnabled links asked name

-- a feature is put behind those that are on, unless it is among them
abbrev pub put_feature : List Text → TurnsOn → List Text
put_feature on (feature name) = if is_one_of on name then on else on ++ name ∷ []
put_feature on _ = on

-- what a feature turns on is put behind those that are on
abbrev pub followed : (name : Text) → List Link → (on : List Text) → List Text
followed name [] on = on
followed name (l ∷ ls) on = followed name ls (if bytes_eq l.0 name then put_feature on l.1 else on)

-- the links of other features
abbrev pub other_links : (name : Text) → List Link → List Link
other_links name ls = filter (λ l. not (bytes_eq l.0 name)) ls
