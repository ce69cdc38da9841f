-- The specs of a data layout string, one after another.
use Rattle.std.proofs.Common.{◌≡◌, ℕ, Bool, true, false, List, [], ◌∷◌, Result, Ok, Err, IfErr, refl, sym, subst, ap}
use Rattle.abi_base.specs.declared.address_space.AddressSpace.{AddressSpace}
use Rattle.abi_base.specs.declared.setting.Setting.{Setting}
use Rattle.abi_base.specs.declared.data_layout.TargetDataLayout.{TargetDataLayout}
use Rattle.abi_base.specs.declared.parse_error.TargetDataLayoutError.{TargetDataLayoutError}
use Rattle.abi_base.specs.declared.parse_error.TargetDataLayoutError.TheVariants.{InvalidAddressSpace, InvalidBits, MissingAlignment, InvalidAlignment, InconsistentTargetArchitecture, InconsistentTargetPointerWidth, InvalidBitsSize, UnknownPointerSpecification, OutOfMemory}
use Rattle.std.specs.Prelude.{codes}
use Rattle.std.specs.Int.{div_ceil}
use Rattle.abi_base.specs.Align.{align_of_bytes}
use Rattle.abi_base.specs.DataLayoutFault.{Fault, bad_space, bad_bits, missing_alignment, bad_alignment, unknown_pointer, IsReading, NamesFault}
use Rattle.abi_base.specs.DataLayoutSpec.{◌>>=◌, alignment_in, begins, begins_alphabetic, bits_in, has_parts, or_fault, spec_parts, pointer_setting, pointers_in, setting_of, space_text, settings_of}
use Rattle.abi_base.specs.DataLayoutText.{data_layout_in, default_with, with_instructions, with_settings}

-- what the specs mean on top of a data layout
abbrev pub answer_from : TargetDataLayout → (least : ℕ) → List (List ℕ) → Result TargetDataLayout Fault
answer_from dl least specs = settings_of specs >>= λ ss. Ok (with_instructions (with_settings dl least ss))

-- a fault that is told of a part is told of the whole
pub told : {A B : Type 0} (a : Result A Fault) (b : Result B Fault) (e : TargetDataLayoutError) → NamesFault a e → ((f : Fault) → a ≡ Err f → b ≡ Err f) → NamesFault b e
told a b (InvalidAddressSpace text cause err) h k = k (bad_space text.now cause.now err) h
told a b (InvalidBits kind text cause err) h k = k (bad_bits kind.now text.now cause.now err) h
told a b (MissingAlignment cause) h k = k (missing_alignment cause.now) h
told a b (InvalidAlignment cause err) h k = k (bad_alignment cause.now err) h
told a b (UnknownPointerSpecification rest) h k = k (unknown_pointer rest.now) h
told a b (InconsistentTargetArchitecture dl target) h k = absurd h
told a b (InconsistentTargetPointerWidth pointer_size target) h k = absurd h
told a b (InvalidBitsSize err) h k = absurd h
told a b OutOfMemory h k = tt

-- an error that is passed on
pub refused : {A B : Type 0} (a : Result A Fault) (b : Result B Fault) (e : TargetDataLayoutError) (r : Result B TargetDataLayoutError) → NamesFault a e → ((f : Fault) → a ≡ Err f → b ≡ Err f) → r ≡ Err e → IsReading b r
refused a b e r h k is = rw is (told a b e h k)

-- a reading of one answer is a reading of an equal one
pub same_reading : {A : Type 0} (a b : Result A Fault) (r : Result A TargetDataLayoutError) → a ≡ b → IsReading b r → IsReading a r
same_reading a b r is h = subst (λ x. IsReading x r) (sym is) h

-- the alignment of parts, by the first of them
pub alignment_first : (parts : List (List ℕ)) (text : List ℕ) (rest : List (List ℕ)) (cause : List ℕ) → parts ≡ text ∷ rest
    → alignment_in parts cause ≡ (bits_in (codes "alignment") text cause >>= λ bits. or_fault (bad_alignment cause) (align_of_bytes (div_ceil bits 8)))
unfolding alignment_in
alignment_first parts text rest cause e = rw e refl

unknown_at : (rest : List ℕ) (parts : List (List ℕ)) → has_parts parts ≡ true → begins_alphabetic (space_text rest) ≡ true → pointer_setting rest parts ≡ Err (unknown_pointer (space_text rest))
unfolding pointer_setting
unknown_at rest [] h l = absurd (cc)
unknown_at rest (p ∷ ps) h l = rw l refl

-- a pointer spec that begins with a letter
pub pointer_unknown : (rest space : List ℕ) (parts : List (List ℕ)) → has_parts parts ≡ true → space ≡ space_text rest → begins_alphabetic space ≡ true → pointer_setting rest parts ≡ Err (unknown_pointer space)
pointer_unknown rest space parts h is l = rw is (unknown_at rest parts h (rw is at l))

-- and one that doesn't
pub pointer_first : (rest space size : List ℕ) (parts others : List (List ℕ)) (fat : Bool) → parts ≡ size ∷ others → space ≡ space_text rest → fat ≡ begins 102 rest → begins_alphabetic space ≡ false
    → pointer_setting rest parts ≡ pointers_in fat space size others
unfolding pointer_setting
pointer_first rest space size parts others fat e is f l = let letter : begins_alphabetic (space_text rest) ≡ false = rw is at l in rw (e, letter, is, f) refl

after_one : (dl made : TargetDataLayout) (least width : ℕ) (s : Setting) (later : Result (List Setting) Fault) → ((ss : List Setting) → with_settings made width ss ≡ with_settings dl least (s ∷ ss))
    → (later >>= λ ss. Ok (with_instructions (with_settings made width ss))) ≡ ((later >>= λ ss. Ok (s ∷ ss)) >>= λ ss. Ok (with_instructions (with_settings dl least ss)))
after_one dl made least width s (Ok ss) h = ap (λ (d : TargetDataLayout). Ok (with_instructions d)) (h ss)
after_one dl made least width s (Err f) h = refl

-- one spec more has been read
pub one_more : (dl made : TargetDataLayout) (least width : ℕ) (specs : List (List ℕ)) (spec : List ℕ) (others : List (List ℕ)) (s : Setting) → specs ≡ spec ∷ others → setting_of spec ≡ Ok s
    → ((ss : List Setting) → with_settings made width ss ≡ with_settings dl least (s ∷ ss)) → answer_from made width others ≡ answer_from dl least specs
unfolding settings_of
one_more dl made least width specs spec others s e is h = rw (e, is) (after_one dl made least width s (settings_of others) h)

-- the first spec has a fault
pub first_fault : (dl : TargetDataLayout) (least : ℕ) (specs : List (List ℕ)) (spec : List ℕ) (others : List (List ℕ)) (f : Fault) → specs ≡ spec ∷ others → setting_of spec ≡ Err f → answer_from dl least specs ≡ Err f
unfolding settings_of
first_fault dl least specs spec others f e is = rw (e, is) refl

-- no spec is left
pub none_left : (dl : TargetDataLayout) (least : ℕ) (specs : List (List ℕ)) → specs ≡ [] → answer_from dl least specs ≡ Ok (with_instructions dl)
unfolding settings_of
none_left dl least specs e = rw e refl

-- the answer from the beginning
pub at_first : (dl : TargetDataLayout) (space : AddressSpace) (text : List ℕ) → dl ≡ default_with space → answer_from dl 64 (spec_parts 45 text) ≡ data_layout_in space text
unfolding data_layout_in
at_first dl space text e = ap (λ (d : TargetDataLayout). answer_from d 64 (spec_parts 45 text)) e

-- an error that is passed on
pub err_passes : {A B : Type 0} (a : Result A Fault) (b : Result B Fault) (e : TargetDataLayoutError) (r : Result B TargetDataLayoutError) → NamesFault a e → ((f : Fault) → a ≡ Err f → b ≡ Err f) → r ≡ Err e → IfErr r (NamesFault b)
err_passes a b e r h k is = rw is (told a b e h k)
