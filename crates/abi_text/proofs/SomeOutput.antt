-- An input has an output: whether a data layout is lawful can be told, and a tree has an answer.
use Rattle.std.proofs.Common.{◌≡◌, ℕ, ◌^◌, ◌%◌, ◌≤◌, zero, Bool, true, false, List, [], ◌∷◌, Result, Ok, Err, inl, inr, refl}
use Rattle.std.specs.Prelude.{◌⊎◌, ◌&&◌, All, MatchBool, nat_le}
use Rattle.std.specs.Int.{◌∣◌}
use Rattle.std.specs.Str.{is_utf8}
use Rattle.std.proofs.lemmas.List.Elements.{All-cons, All-head, All-nil, All-tail}
use Rattle.std.proofs.lemmas.Nat.Gcd.{dvd_of_mod-eq-zero, mod-eq-zero_of_dvd}
use Rattle.abi_base.specs.declared.data_layout.TargetDataLayout.{TargetDataLayout}
use Rattle.abi_base.specs.declared.float.Float.{Float}
use Rattle.abi_base.specs.declared.float.Float.TheVariants.{F16, F16B, F32, F64, F128, PpcF128}
use Rattle.abi_base.specs.declared.integer.Integer.{Integer}
use Rattle.abi_base.specs.declared.integer.Integer.TheVariants.{I8, I16, I32, I64, I128}
use Rattle.abi_base.specs.Align.{max_exponent}
use Rattle.abi_base.specs.DataLayout.{IsLawfulDataLayout, IsPointerWidth, alignments_of}
use Rattle.abi_base.specs.DataLayoutFault.{Fault as Flaw}
use Rattle.abi_base.specs.Float.{float_align, float_size}
use Rattle.abi_base.specs.Integer.{integer_align, integer_size}
use Rattle.abi_univariant.proofs.Views.SomeView.{IsTold, both, is_at_most, same_number}
use Rattle.abi_tree.specs.Placed.{Placed}
use Rattle.abi_tree.specs.Tree.{Tree}
use Rattle.rustc_abi.specs.declared.error.LayError.{LayError}
use Rattle.rustc_abi.specs.Laying.{IsLaying}
use Rattle.rustc_abi.proofs.Trees.SomeAnswer.{some_answer}
use Rattle.abi_text.specs.declared.fault.Fault.{Fault}
use Rattle.abi_text.specs.DataLayoutLine.{data_layout_of}
use Rattle.abi_text.specs.Lines.{first_line, second_line}
use Rattle.abi_text.specs.Output.{Output, IsOutputOf, IsOutputOfLayout, IsOutputOfTree, IsOutputOfType, IsOutputUnder, output_of_fault, refusal, output_of_text, unreadable}
use Rattle.abi_text.specs.Names.{error_name, flaw_name}
use Rattle.abi_text.specs.Reading.{read}
use Rattle.abi_text.specs.Words.{words_of}
use Rattle.std.specs.Prelude.{codes}

either : {A B : Type 0} → IsTold A → IsTold B → IsTold (A ⊎ B)
either (inl a) t = inl (inl a)
either (inr n) (inl b) = inl (inr b)
either (inr n) (inr m) = inr (λ s. elim s [ inl a ↦ n a | inr b ↦ m b ])

divides : (m n : ℕ) → IsTold (m ∣ n)
divides m n = by (same_number (n % m) zero)
  where
    by : IsTold (n % m ≡ zero) → IsTold (m ∣ n)
    by (inl e) = inl (dvd_of_mod-eq-zero m e)
    by (inr never) = inr (λ d. never (mod-eq-zero_of_dvd m d))

all_at_most : (most : ℕ) (ns : List ℕ) → IsTold (All (λ n. n ≤ most) ns)
all_at_most most [] = inl (All-nil (λ n. n ≤ most))
all_at_most most (n ∷ ns) = more (is_at_most n most (nat_le n most) refl) (all_at_most most ns)
  where
    more : IsTold (n ≤ most) → IsTold (All (λ n. n ≤ most) ns) → IsTold (All (λ n. n ≤ most) (n ∷ ns))
    more (inl h) (inl all) = inl (All-cons (λ n. n ≤ most) n ns h all)
    more (inl h) (inr never) = inr (λ all. never (All-tail (λ n. n ≤ most) n ns all))
    more (inr never) t = inr (λ all. never (All-head (λ n. n ≤ most) n ns all))

is_width : (n : ℕ) → IsTold (IsPointerWidth n)
is_width n = either (same_number n 2) (either (same_number n 4) (same_number n 8))

module _ (dl : TargetDataLayout) where
  abbrev IntegerFits : Integer → Type 0
  IntegerFits i = 2 ^ integer_align dl i ∣ integer_size i

  abbrev FloatFits : Float → Type 0
  FloatFits f = 2 ^ float_align dl f ∣ float_size f

  integers_fit : IsTold ((i : Integer) → IntegerFits i)
  integers_fit =
      each (both (divides _ _) (both (divides _ _) (both (divides _ _) (both (divides _ _) (divides _ _)))))
    where
      each : IsTold (IntegerFits I8 × (IntegerFits I16 × (IntegerFits I32 × (IntegerFits I64 × IntegerFits I128)))) → IsTold ((i : Integer) → IntegerFits i)
      each (inl h) = inl (λ i. elim i as (λ i. IntegerFits i) [ I8 ↦ h.0 | I16 ↦ h.1.0 | I32 ↦ h.1.1.0 | I64 ↦ h.1.1.1.0 | I128 ↦ h.1.1.1.1 ])
      each (inr never) = inr (λ all. never (all I8, (all I16, (all I32, (all I64, all I128)))))

  floats_fit : IsTold ((f : Float) → FloatFits f)
  floats_fit =
      each (both (divides _ _) (both (divides _ _) (both (divides _ _) (both (divides _ _) (both (divides _ _) (divides _ _))))))
    where
      each : IsTold (FloatFits F16 × (FloatFits F16B × (FloatFits F32 × (FloatFits F64 × (FloatFits F128 × FloatFits PpcF128))))) → IsTold ((f : Float) → FloatFits f)
      each (inl h) = inl (λ f. elim f as (λ f. FloatFits f) [ F16 ↦ h.0 | F16B ↦ h.1.0 | F32 ↦ h.1.1.0 | F64 ↦ h.1.1.1.0 | F128 ↦ h.1.1.1.1.0 | PpcF128 ↦ h.1.1.1.1.1 ])
      each (inr never) = inr (λ all. never (all F16, (all F16B, (all F32, (all F64, (all F128, all PpcF128))))))

  is_lawful : IsTold (IsLawfulDataLayout dl)
  is_lawful =
      parts (both integers_fit (both floats_fit (both (is_width dl.default_address_space_pointer_spec.pointer_size) (both (is_width dl.default_address_space_pointer_spec.pointer_offset)
      (both (divides (2 ^ dl.default_address_space_pointer_spec.pointer_align) dl.default_address_space_pointer_spec.pointer_size) (all_at_most max_exponent (alignments_of dl)))))))
    where
      parts : IsTold (((i : Integer) → IntegerFits i) × (((f : Float) → FloatFits f) × (IsPointerWidth dl.default_address_space_pointer_spec.pointer_size
          × (IsPointerWidth dl.default_address_space_pointer_spec.pointer_offset
          × ((2 ^ dl.default_address_space_pointer_spec.pointer_align ∣ dl.default_address_space_pointer_spec.pointer_size) × All (λ n. n ≤ max_exponent) (alignments_of dl))))))
          → IsTold (IsLawfulDataLayout dl)
      parts (inl h) = inl (record { integers = h.0; floats = h.1.0; pointer = h.1.1.0; index = h.1.1.1.0; pointer_fits = h.1.1.1.1.0; limit = h.1.1.1.1.1 })
      parts (inr never) = inr (λ l. never (l.integers, (l.floats, (l.pointer, (l.index, (l.pointer_fits, l.limit))))))

-- ---- outputs

-- some output is allowed
abbrev HasOutput : (Output → Type 0) → Type 0
HasOutput P = (output : Output) × P output

-- where a type has a text that tells of it
module _ (reports : TargetDataLayout → Placed → List ℕ → Type 0)
    (some : (dl : TargetDataLayout) (t : Tree) (p : Placed) → IsLawfulDataLayout dl → IsLaying dl t (Ok p) → (text : List ℕ) × reports dl p text) where
  of_layout : (dl : TargetDataLayout) (t : Tree) (r : Result Placed LayError) → IsLawfulDataLayout dl → IsLaying dl t r → HasOutput (IsOutputOfLayout reports dl r)
  of_layout dl t (Ok p) law laying = let text = some dl t p law laying in (output_of_text text.0, (text.0, text.1, refl))
  of_layout dl t (Err e) law laying = (refusal (error_name e), refl)

  tree_if : (dl : TargetDataLayout) (t : Tree) → IsTold (IsLawfulDataLayout dl) → HasOutput (IsOutputOfTree reports dl t)
  tree_if dl t (inl law) =
      let answer = some_answer dl law t in
      let output = of_layout dl t answer.0 law answer.1 in
      (output.0, record { lawful = λ _. (answer.0, answer.1, output.1); unlawful = λ un. absurd (un law) })
  tree_if dl t (inr never) = (refusal (codes "UnlawfulDataLayout"), record { lawful = λ law. absurd (never law); unlawful = λ _. refl })

  of_type : (dl : TargetDataLayout) (r : Result Tree Fault) → HasOutput (IsOutputOfType reports dl r)
  of_type dl (Ok t) = tree_if dl t (is_lawful dl)
  of_type dl (Err fault) = (output_of_fault fault, refl)

  under : (r : Result TargetDataLayout Flaw) (second : List ℕ) → HasOutput (IsOutputUnder reports r second)
  under (Ok dl) second = of_type dl (read dl (words_of second))
  under (Err flaw) second = (refusal (flaw_name flaw), refl)

  of_lines : (utf8 : Bool) (r : Result TargetDataLayout Flaw) (second : List ℕ) → HasOutput (λ output. MatchBool utf8 (IsOutputUnder reports r second output) (output ≡ unreadable 0))
  of_lines true r second = under r second
  of_lines false r second = (unreadable 0, refl)

  -- an input has an output
  pub some_output : (input : List ℕ) → HasOutput (IsOutputOf reports input)
  some_output input = of_lines (is_utf8 (first_line input) && is_utf8 (second_line input)) (data_layout_of (first_line input)) (second_line input)
