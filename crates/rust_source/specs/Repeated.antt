-- Names that stand twice in a list.
use Rattle.std.specs.Prelude.{ℕ, ◌==◌, Bool, List, [], ◌∷◌, ◌++◌, map, Result, Ok, Err, if◌then◌else◌}
use Rattle.std.specs.List.{list_any}
use Rattle.rust_source.specs.declared.fault.SourceFault.{SourceFault}
use Rattle.rust_source.specs.declared.fault.SourceFaultKind.TheVariants.{RepeatedName}
use Rattle.rust_source.specs.declared.item.FieldName.{FieldName}
use Rattle.rust_source.specs.declared.item.FieldName.TheVariants.{Named, Numbered}
use Rattle.rust_source.specs.declared.place.Place.{Place}
use Rattle.rust_source.specs.Items.{FieldRead, ParameterRead, VariantRead}

-- the numbers of names, and where each stands
abbrev pub Listed : Type 0
Listed = List (ℕ × Place)

-- a name was met
abbrev pub was_met : (before : List ℕ) → (name : ℕ) → Bool
was_met before name = list_any (λ b. name == b) before

-- a name is met, behind these: a fault where it was met before
abbrev pub met : (before : List ℕ) → ℕ × Place → Result (Unit {0}) SourceFault × List ℕ
met before n =
    if was_met before n.0 then (Err (record { at = n.1; kind = RepeatedName }), before) else (Ok tt, before ++ n.0 ∷ [])

-- the fault at the first name that one before it is, with these before all
abbrev pub none_again : (before : List ℕ) → Listed → Result (Unit {0}) SourceFault
none_again before [] = Ok tt
none_again before (n ∷ ns) =
    if was_met before n.0 then Err (record { at = n.1; kind = RepeatedName }) else none_again (before ++ n.0 ∷ []) ns

-- the fault at the first name that one before it is
abbrev pub none_twice : Listed → Result (Unit {0}) SourceFault
none_twice names = none_again [] names

-- the name of a field before the others'; numbers are no names
abbrev pub name_before : FieldName → Place → Listed → Listed
name_before (Named n) at more = (n.0, at) ∷ more
name_before (Numbered k) at more = more

-- the names of fields
abbrev pub field_names : List FieldRead → Listed
field_names [] = []
field_names (f ∷ fs) = name_before f.name f.at (field_names fs)

-- the names of variants
abbrev pub variant_names : List VariantRead → Listed
variant_names = map (λ v. (v.name.0, v.at))

-- the names of parameters
abbrev pub parameter_names : List ParameterRead → Listed
parameter_names = map (λ p. (p.name.0, p.at))
