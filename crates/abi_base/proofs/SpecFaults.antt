-- Specs with several faults: which one is told, and what a spec sets where it has none. Nothing here names a step of a reader.
use Rattle.std.proofs.Common.{◌≡◌, ℕ, Bool, List, Result, Ok, Err, refl, codes, drop}
use Rattle.abi_base.specs.declared.address_space.AddressSpace.{AddressSpace}
use Rattle.abi_base.specs.declared.setting.Setting.{Setting}
use Rattle.abi_base.specs.declared.setting.Setting.TheVariants.{Integer, Pointer, Vector}
use Rattle.abi_base.specs.declared.parse_error.TargetDataLayoutError.{TargetDataLayoutError}
use Rattle.abi_base.specs.DataLayoutFault.{IsReading, NamesFault}
use Rattle.abi_base.specs.DataLayoutSpec.{alignment_in, bits_in, index_text, integer, pointer_space, pointers_in, setting_in, size_written, vector}
use Rattle.abi_base.proofs.Specs.{refused}

module _ (fat : Bool) (space size : List ℕ) (parts : List (List ℕ)) where
  pub space_told : (e : TargetDataLayoutError) (r : Result Setting TargetDataLayoutError) → r ≡ Err e → NamesFault (pointer_space space) e → IsReading (pointers_in fat space size parts) r
  unfolding pointers_in
  space_told e r is h = refused (pointer_space space) (pointers_in fat space size parts) e r h (λ f at. rw at refl) is

  pub size_told : (e : TargetDataLayoutError) (r : Result Setting TargetDataLayoutError) (number : AddressSpace) → r ≡ Err e → NamesFault (size_written size (codes "p-")) e → pointer_space space ≡ Ok number
      → IsReading (pointers_in fat space size parts) r
  unfolding pointers_in
  size_told e r number is h a = refused (size_written size (codes "p-")) (pointers_in fat space size parts) e r h (λ f at. rw (a, at) refl) is

  pub alignment_told : (e : TargetDataLayoutError) (r : Result Setting TargetDataLayoutError) (number : AddressSpace) (bytes : ℕ) → r ≡ Err e → NamesFault (alignment_in parts (codes "p-")) e
      → pointer_space space ≡ Ok number → size_written size (codes "p-") ≡ Ok bytes → IsReading (pointers_in fat space size parts) r
  unfolding pointers_in
  alignment_told e r number bytes is h a b = refused (alignment_in parts (codes "p-")) (pointers_in fat space size parts) e r h (λ f at. rw (a, b, at) refl) is

  pub index_told : (e : TargetDataLayoutError) (r : Result Setting TargetDataLayoutError) (number : AddressSpace) (bytes align : ℕ) (text : List ℕ) → r ≡ Err e → NamesFault (size_written text (codes "p-")) e
      → text ≡ index_text size parts → pointer_space space ≡ Ok number → size_written size (codes "p-") ≡ Ok bytes → alignment_in parts (codes "p-") ≡ Ok align → IsReading (pointers_in fat space size parts) r
  unfolding pointers_in
  index_told e r number bytes align text is h t a b c = refused (size_written text (codes "p-")) (pointers_in fat space size parts) e r h (λ f at. rw (a, b, c, ← t, at) refl) is

  pub pointers_read : (number : AddressSpace) (bytes align index : ℕ) (text : List ℕ) → text ≡ index_text size parts → pointer_space space ≡ Ok number → size_written size (codes "p-") ≡ Ok bytes
      → alignment_in parts (codes "p-") ≡ Ok align → size_written text (codes "p-") ≡ Ok index
      → pointers_in fat space size parts ≡ Ok (Pointer number (record { pointer_size = bytes; pointer_align = align; pointer_offset = index; is_fat = fat }))
  unfolding pointers_in
  pointers_read number bytes align index text t a b c d = rw (a, b, c, ← t, d) refl

-- an integer's alignment
module _ (word text : List ℕ) (parts : List (List ℕ)) where
  pub width_told : (e : TargetDataLayoutError) (r : Result Setting TargetDataLayoutError) → r ≡ Err e → NamesFault (bits_in (codes "size") text (codes "i")) e → text ≡ drop 1 word → IsReading (setting_in (integer word parts)) r
  unfolding setting_in
  width_told e r is h t = refused (bits_in (codes "size") text (codes "i")) (setting_in (integer word parts)) e r h (λ f at. rw (← t, at) refl) is

  pub integer_told : (e : TargetDataLayoutError) (r : Result Setting TargetDataLayoutError) (bits : ℕ) → r ≡ Err e → NamesFault (alignment_in parts word) e → bits_in (codes "size") text (codes "i") ≡ Ok bits → text ≡ drop 1 word
      → IsReading (setting_in (integer word parts)) r
  unfolding setting_in
  integer_told e r bits is h a t = refused (alignment_in parts word) (setting_in (integer word parts)) e r h (λ f at. rw (← t, a, at) refl) is

  pub integer_read : (bits align : ℕ) → bits_in (codes "size") text (codes "i") ≡ Ok bits → alignment_in parts word ≡ Ok align → text ≡ drop 1 word → setting_in (integer word parts) ≡ Ok (Integer bits align)
  unfolding setting_in
  integer_read bits align a b t = rw (← t, a, b) refl

-- a vector's
module _ (word text : List ℕ) (parts : List (List ℕ)) where
  pub vector_size_told : (e : TargetDataLayoutError) (r : Result Setting TargetDataLayoutError) → r ≡ Err e → NamesFault (size_written text (codes "v")) e → text ≡ drop 1 word → IsReading (setting_in (vector word parts)) r
  unfolding setting_in
  vector_size_told e r is h t = refused (size_written text (codes "v")) (setting_in (vector word parts)) e r h (λ f at. rw (← t, at) refl) is

  pub vector_told : (e : TargetDataLayoutError) (r : Result Setting TargetDataLayoutError) (size : ℕ) → r ≡ Err e → NamesFault (alignment_in parts word) e → size_written text (codes "v") ≡ Ok size → text ≡ drop 1 word
      → IsReading (setting_in (vector word parts)) r
  unfolding setting_in
  vector_told e r size is h a t = refused (alignment_in parts word) (setting_in (vector word parts)) e r h (λ f at. rw (← t, a, at) refl) is

  pub vector_read : (size align : ℕ) → size_written text (codes "v") ≡ Ok size → alignment_in parts word ≡ Ok align → text ≡ drop 1 word → setting_in (vector word parts) ≡ Ok (Vector size align)
  unfolding setting_in
  vector_read size align a b t = rw (← t, a, b) refl
