-- The greatest match so far.
use Rattle.std.proofs.Common.{◌≡◌, ◌∙◌, ◌<◌, ◌≤◌, ◌+◌, ◌++◌, ◌&&◌, ℕ, List, [], ◌∷◌, Option, Some, None, Bool, true, false, ap, arith, get_or, inl, inr, length, nat_cmp, refl, rules, subst, sym, take}
use Rattle.std.proofs.lemmas.Bool.{and_parts, cases_Bool, false≢true}
use Rattle.std.proofs.lemmas.Cmp.{nat_cmp_total, on_total, then_total}
use Rattle.std.proofs.lemmas.List.{take_all, take_more}
use Rattle.std.proofs.lemmas.Option.{slice_get_cases}
use Rattle.std.specs.Cmp.{IsTotalOrder, tied_itself}
use Rattle.std.specs.List.{AllByRecursion}
use Rattle.std.specs.Ordering.{is_lt}
use Rattle.std.specs.Prelude.{slice_get, if◌then◌else◌}
use Rattle.std.specs.declared.cmp.Ordering.{Ordering}
use Rattle.std.specs.declared.cmp.Ordering.TheVariants.{Less, Equal, Greater}
use Rattle.semver.specs.Eval.{matches_all, precedence_cmp}
use Rattle.semver.specs.Identifiers.{pre_text}
use Rattle.semver.specs.OrderLaws.{pre_total}
use Rattle.semver.specs.declared.Comparator.{Comparator}
use Rattle.semver.specs.declared.Version.{Version}
use Rattle.cargo_manifest.specs.Choice.{IsGreatestMatch, is_above, next_choice, version_at}

total : IsTotalOrder precedence_cmp
total = then_total (on_total (λ (v : Version). v.major) nat_cmp_total) (then_total (on_total (λ (v : Version). v.minor) nat_cmp_total)
    (then_total (on_total (λ (v : Version). v.patch) nat_cmp_total) (on_total (λ (v : Version). pre_text v.pre) pre_total)))

is_less : (o : Ordering) → is_lt o ≡ true → o ≡ Less
is_less Less h = refl
is_less Equal h = absurd (false≢true h)
is_less Greater h = absurd (false≢true h)

less_is : (o : Ordering) → o ≡ Less → is_lt o ≡ true
less_is o h = ap is_lt h

-- what one that was chosen isn't less than, a greater one isn't, either
not_less : (c u w : Version) → is_lt (precedence_cmp c u) ≡ true → is_lt (precedence_cmp c w) ≡ false → is_lt (precedence_cmp u w) ≡ false
not_less c u w up low = elim (cases_Bool (is_lt (precedence_cmp u w))) [
  | inl is ↦ absurd (false≢true (sym low ∙ less_is _ (total.trans c u w (is_less _ up) (is_less _ is))))
  | inr isnt ↦ isnt
]

not_less_itself : (u : Version) → is_lt (precedence_cmp u u) ≡ false
not_less_itself u = ap is_lt (tied_itself total u)

-- a version and the index of one of some others, of which so many were looked at
abbrev pub IsSoFar : List Comparator → (vs seen : List Version) → Option ℕ → Type 0
IsSoFar cs vs seen None = AllByRecursion (λ v. matches_all cs v ≡ false) seen
IsSoFar cs vs seen (Some i) = (chosen : Version) × (slice_get vs i ≡ Some chosen) × (matches_all cs chosen ≡ true)
    × AllByRecursion (λ v. matches_all cs v ≡ true → is_lt (precedence_cmp chosen v) ≡ false) seen

all_more : {A : Type 0} (P : A → Type 0) (xs : List A) (x : A) → AllByRecursion P xs → P x → AllByRecursion P (xs ++ x ∷ [])
all_more P [] x all here = (here, tt)
all_more P (y ∷ xs) x all here = (all.0, all_more P xs x all.1 here)

all_through : {A : Type 0} (P Q : A → Type 0) (xs : List A) → ((x : A) → P x → Q x) → AllByRecursion P xs → AllByRecursion Q xs
all_through P Q [] h all = tt
all_through P Q (x ∷ xs) h all = (h x all.0, all_through P Q xs h all.1)

-- a version more: one that isn't matched
unmatched : (cs : List Comparator) (vs seen : List Version) (chosen : Option ℕ) (v : Version) → IsSoFar cs vs seen chosen → matches_all cs v ≡ false → IsSoFar cs vs (seen ++ v ∷ []) chosen
unmatched cs vs seen None v far isnt = all_more _ seen v far isnt
unmatched cs vs seen (Some i) v (c, at, is, all) isnt = (c, at, is, all_more _ seen v all (λ matched. absurd (false≢true (sym isnt ∙ matched))))

-- one that is matched and isn't above the one that was chosen
not_above : (cs : List Comparator) (vs seen : List Version) (chosen : Option ℕ) (v : Version) → IsSoFar cs vs seen chosen → is_above v (version_at vs chosen) ≡ false → IsSoFar cs vs (seen ++ v ∷ []) chosen
not_above cs vs seen None v far isnt = absurd (false≢true (sym isnt))
not_above cs vs seen (Some i) v (c, at, is, all) isnt = (c, at, is, all_more _ seen v all (λ matched. rw at at isnt))

-- one that is, and that is chosen
above : (cs : List Comparator) (vs seen : List Version) (chosen : Option ℕ) (v : Version) (n : ℕ) → IsSoFar cs vs seen chosen → slice_get vs n ≡ Some v → matches_all cs v ≡ true
    → is_above v (version_at vs chosen) ≡ true → IsSoFar cs vs (seen ++ v ∷ []) (Some n)
above cs vs seen None v n far here is up =
    (v, here, is, all_more _ seen v (all_through _ _ seen (λ w other matched. absurd (false≢true (sym other ∙ matched))) far) (λ matched. not_less_itself v))
above cs vs seen (Some i) v n (c, at, was, all) here is up =
    (v, here, is, all_more _ seen v (all_through _ _ seen (λ w low matched. not_less c v w (rw at at up) (low matched)) all) (λ matched. not_less_itself v))

next_by : (cs : List Comparator) (vs seen : List Version) (chosen : Option ℕ) (v : Version) (n : ℕ) → IsSoFar cs vs seen chosen → slice_get vs n ≡ Some v
    → IsSoFar cs vs (seen ++ v ∷ []) (if matches_all cs v && is_above v (version_at vs chosen) then Some n else chosen)
next_by cs vs seen chosen v n far here = elim (cases_Bool (matches_all cs v)) [
  | inr isnt ↦ rw isnt (unmatched cs vs seen chosen v far isnt)
  | inl is ↦ elim (cases_Bool (is_above v (version_at vs chosen))) [
    | inl up ↦ rw (is, up) (above cs vs seen chosen v n far here is up)
    | inr isnt ↦ rw (is, isnt) (not_above cs vs seen chosen v far isnt)
  ]
]

choice_is : (cs : List Comparator) (vs : List Version) (chosen : Option ℕ) (n : ℕ) (v : Version) → slice_get vs n ≡ Some v
    → next_choice cs vs chosen n ≡ (if matches_all cs v && is_above v (version_at vs chosen) then Some n else chosen)
choice_is cs vs chosen n v here = rw (next_choice, here) refl

next : (cs : List Comparator) (vs : List Version) (chosen : Option ℕ) (n : ℕ) (v : Version) → slice_get vs n ≡ Some v → take (n + 1) vs ≡ take n vs ++ v ∷ []
    → IsSoFar cs vs (take n vs) chosen → IsSoFar cs vs (take (n + 1) vs) (next_choice cs vs chosen n)
next cs vs chosen n v here more far =
    subst (λ xs. IsSoFar cs vs xs (next_choice cs vs chosen n)) (sym more)
    (subst (IsSoFar cs vs (take n vs ++ v ∷ [])) (sym (choice_is cs vs chosen n v here)) (next_by cs vs (take n vs) chosen v n far here))

pub next_at : (cs : List Comparator) (vs : List Version) (chosen : Option ℕ) (n : ℕ) → n < length vs → IsSoFar cs vs (take n vs) chosen
    → IsSoFar cs vs (take (n + 1) vs) (next_choice cs vs chosen n)
next_at cs vs chosen n short far = elim (slice_get_cases vs n).1 [
  | inl (v, within, here, at) ↦ next cs vs chosen n v here (take_more vs n v within ∙ ap (λ y. take n vs ++ y ∷ []) at) far
  | inr past ↦ absurd (omega (arith, short, past.0))
]

pub over : (cs : List Comparator) (vs : List Version) (chosen : Option ℕ) (n : ℕ) → length vs ≤ n → IsSoFar cs vs (take n vs) chosen → IsGreatestMatch cs vs chosen
over cs vs None n all far = rw (take_all n vs all) at far
over cs vs (Some i) n all far = rw (take_all n vs all) at far
