-- A text that is written piece by piece.
use Rattle.std.proofs.Common.{◌≡◌, ℕ, ◌+◌, ◌-◌, ◌≤◌, List, [], ◌++◌, length, take, drop, Option, None, Some, sym, ap, ◌∙◌, arith, subst, append_assoc, append-nil, length-drop}
use Rattle.std.proofs.Math.Seq.{take-add}
use Rattle.std.proofs.lemmas.List.{drop-drop}
use Rattle.std.specs.Prelude.{IfSome}
use Rattle.std.specs.Io.KnownBytes.{Appends, Keeps}

-- so many bytes of the text are written
pub record IsSending (old now : Option (List ℕ)) (text rest : List ℕ) (count : ℕ) : Type 0 where
  pub within : count ≤ length text
  pub left : rest ≡ drop count text
  pub written : Appends old now (take count text)

appends_none : (old : Option (List ℕ)) → Appends old old []
appends_none None = tt
appends_none (Some xs) = sym (append-nil xs)

appends_then : (old now next : Option (List ℕ)) (xs ys : List ℕ) → Appends old now xs → Appends now next ys → Appends old next (xs ++ ys)
appends_then None now next xs ys h g = tt
appends_then (Some a) None next xs ys h g = absurd h
appends_then (Some a) (Some b) None xs ys h g = absurd g
appends_then (Some a) (Some b) (Some c) xs ys h g = g ∙ ap (λ zs. zs ++ ys) h ∙ append_assoc a xs ys

pub appends_keeps : (old now next : Option (List ℕ)) (xs : List ℕ) → Appends old now xs → Keeps now next → Appends old next xs
appends_keeps None now next xs h g = tt
appends_keeps (Some a) None next xs h g = absurd h
appends_keeps (Some a) (Some b) None xs h g = absurd g
appends_keeps (Some a) (Some b) (Some c) xs h g = g ∙ h

pub sending_none : (old : Option (List ℕ)) (text : List ℕ) (count : ℕ) → count ≡ 0 → IsSending old old text text count
sending_none old text count e = record {
  within = omega arith;
  left = ap (λ n. drop n text) (sym e);
  written = subst (λ n. Appends old old (take n text)) (sym e) (appends_none old);
}

pub sending_more : (old now next : Option (List ℕ)) (text rest more : List ℕ) (count some all : ℕ) → IsSending old now text rest count → Appends now next (take some rest)
    → some ≤ length rest → more ≡ drop some rest → all ≡ count + some → IsSending old next text more all
sending_more old now next text rest more count some all inv wrote within left e =
    let longer : length rest ≡ length text - count = ap length inv.left ∙ length-drop count text in
    let piece : take count text ++ take some rest ≡ take all text = sym (ap (λ n. take n text) e ∙ take-add count some text ∙ ap (λ xs. take count text ++ take some xs) (sym inv.left)) in
    record {
      within = omega (arith, inv.within);
      left = left ∙ ap (drop some) inv.left ∙ drop-drop some count text ∙ ap (λ n. drop n text) (sym e);
      written = subst (Appends old next) piece (appends_then old now next (take count text) (take some rest) inv.written wrote);
    }

-- nothing is written where the bytes stay
pub keeps_none : (old new : Option (List ℕ)) → Keeps old new → Appends old new []
keeps_none old new h = appends_keeps old old new [] (appends_none old) h

-- what holds of everything holds of the value that there may be
pub anyway : {X : Type 0} (o : Option X) (P : X → Type 0) → ((x : X) → P x) → IfSome o P
anyway None P h = tt
anyway (Some x) P h = h x
