-- An input has one output, as a tree has one answer.
use Rattle.std.proofs.Common.{◌≡◌, ℕ, Bool, true, false, List, ◌∷◌, Result, Ok, Err, refl, sym, ap, ap₂, ◌∙◌, subst}
use Rattle.std.specs.Prelude.{◌&&◌, MatchBool}
use Rattle.std.specs.Str.{bytes_eq, is_utf8}
use Rattle.std.proofs.lemmas.Slice.Eq.{bytes_eq-Decides}
use Rattle.abi_base.specs.declared.data_layout.TargetDataLayout.{TargetDataLayout}
use Rattle.abi_base.specs.DataLayout.{IsLawfulDataLayout}
use Rattle.abi_base.specs.DataLayoutFault.{Fault as Flaw}
use Rattle.abi_tree.specs.Placed.{Placed}
use Rattle.abi_tree.specs.Tree.{Tree}
use Rattle.rustc_abi.specs.declared.error.LayError.{LayError}
use Rattle.rustc_abi.specs.Laying.{IsLaying}
use Rattle.rustc_abi.proofs.Trees.OneAnswer.{one_answer}
use Rattle.abi_text.specs.declared.fault.Fault.{Fault}
use Rattle.abi_text.specs.DataLayoutLine.{data_layout_of}
use Rattle.abi_text.specs.Lines.{first_line, second_line}
use Rattle.abi_text.specs.Output.{Output, IsOutputOf, IsOutputOfLayout, IsOutputOfTree, IsOutputOfType, IsOutputUnder, output_of_text, unreadable}
use Rattle.abi_text.specs.Reading.{read}
use Rattle.abi_text.specs.Words.{words_of}

-- status and text
abbrev whole : Output → List ℕ
whole output = output.status ∷ output.text

abbrev output_with : (status : ℕ) → (text : List ℕ) → Output
output_with status text = record { text = text; status = status }

same_output : (a b : Output) → whole a ≡ whole b → a ≡ b
same_output a b e =
    let status : a.status ≡ b.status = cc in
    let text : a.text ≡ b.text = cc in
    ap₂ output_with status text

-- lists that can't differ are one
one_list_at : (xs ys : List ℕ) (b : Bool) → bytes_eq xs ys ≡ b → ((xs ≡ ys → ⊥) → ⊥) → xs ≡ ys
one_list_at xs ys true e h = (bytes_eq-Decides xs ys).0 e
one_list_at xs ys false e h = absurd (h (λ p. let yes = (bytes_eq-Decides xs ys).1 p in cc))

-- and so are outputs
one_of_two : (a b : Output) → ((a ≡ b → ⊥) → ⊥) → a ≡ b
one_of_two a b h = same_output a b (one_list_at (whole a) (whole b) (bytes_eq (whole a) (whole b)) refl (λ no. h (λ e. no (ap whole e))))

-- where a type has one text that tells of it
module _ (reports : TargetDataLayout → Placed → List ℕ → Type 0)
    (one : (dl : TargetDataLayout) (t : Tree) (p : Placed) (a b : List ℕ) → IsLawfulDataLayout dl → IsLaying dl t (Ok p) → reports dl p a → reports dl p b → a ≡ b) where
  of_layout : (dl : TargetDataLayout) (t : Tree) (r : Result Placed LayError) (a b : Output) → IsLawfulDataLayout dl → IsLaying dl t r → IsOutputOfLayout reports dl r a → IsOutputOfLayout reports dl r b → a ≡ b
  of_layout dl t (Ok p) a b lawful laying h g = h.2 ∙ ap output_of_text (one dl t p h.0 g.0 lawful laying h.1 g.1) ∙ sym g.2
  of_layout dl t (Err e) a b lawful laying h g = h ∙ sym g

  where_lawful : (dl : TargetDataLayout) (t : Tree) (a b : Output) → IsOutputOfTree reports dl t a → IsOutputOfTree reports dl t b → IsLawfulDataLayout dl → a ≡ b
  where_lawful dl t a b h g lawful =
      let x = h.lawful lawful in
      let y = g.lawful lawful in
      let same : y.0 ≡ x.0 = one_answer dl t y.0 x.0 y.1 x.1 in
      of_layout dl t x.0 a b lawful x.1 x.2 (subst (λ r. IsOutputOfLayout reports dl r b) same y.2)

  of_tree : (dl : TargetDataLayout) (t : Tree) (a b : Output) → IsOutputOfTree reports dl t a → IsOutputOfTree reports dl t b → a ≡ b
  of_tree dl t a b h g =
      one_of_two a b (λ no. no (h.unlawful (λ lawful. no (where_lawful dl t a b h g lawful)) ∙ sym (g.unlawful (λ lawful. no (where_lawful dl t a b h g lawful)))))

  of_type : (dl : TargetDataLayout) (r : Result Tree Fault) (a b : Output) → IsOutputOfType reports dl r a → IsOutputOfType reports dl r b → a ≡ b
  of_type dl (Ok t) a b h g = of_tree dl t a b h g
  of_type dl (Err fault) a b h g = h ∙ sym g

  under : (r : Result TargetDataLayout Flaw) (second : List ℕ) (a b : Output) → IsOutputUnder reports r second a → IsOutputUnder reports r second b → a ≡ b
  under (Ok dl) second a b h g = of_type dl (read dl (words_of second)) a b h g
  under (Err flaw) second a b h g = h ∙ sym g

  of_lines : (utf8 : Bool) (r : Result TargetDataLayout Flaw) (second : List ℕ) (a b : Output) → MatchBool utf8 (IsOutputUnder reports r second a) (a ≡ unreadable 0)
      → MatchBool utf8 (IsOutputUnder reports r second b) (b ≡ unreadable 0) → a ≡ b
  of_lines true r second a b h g = under r second a b h g
  of_lines false r second a b h g = h ∙ sym g

  -- an input has one output
  pub one_output : (input : List ℕ) (a b : Output) → IsOutputOf reports input a → IsOutputOf reports input b → a ≡ b
  one_output input a b h g =
      of_lines (is_utf8 (first_line input) && is_utf8 (second_line input)) (data_layout_of (first_line input)) (second_line input) a b h g
