-- The row of a spec, test by test.
use Rattle.std.proofs.Common.{◌≡◌, ℕ, List, ◌∷◌, true, false, ◌&&◌, None, Some, refl, drop}
use Rattle.std.specs.Prelude.{not, codes}
use Rattle.std.specs.Str.{bytes_eq}
use Rattle.abi_base.specs.declared.endian.Endian.TheVariants.{Little, Big}
use Rattle.abi_base.specs.declared.setting.AlignedWord.{AlignedWord}
use Rattle.abi_base.specs.DataLayoutSpec.{order, instructions, aligned_spec, pointer, integer, vector, ignored, aligned_word, begins, has_parts, lettered_row, spec_parts, row_of_spec, setting_in, setting_of}

-- a spec, by its first part and the others
pub setting_first : (spec word : List ℕ) (parts : List (List ℕ)) → spec_parts 58 spec ≡ word ∷ parts → setting_of spec ≡ setting_in (row_of_spec word parts)
unfolding setting_of
setting_first spec word parts e = rw e refl

module _ (word : List ℕ) (parts : List (List ℕ)) where
  pub row_pointer : begins 112 word && has_parts parts ≡ true → lettered_row word parts ≡ pointer (drop 1 word) parts
  unfolding lettered_row
  row_pointer p = rw p refl

  pub row_integer : begins 112 word && has_parts parts ≡ false → begins 105 word ≡ true → lettered_row word parts ≡ integer word parts
  unfolding lettered_row
  row_integer p i = rw (p, i) refl

  pub row_vector : begins 112 word && has_parts parts ≡ false → begins 105 word ≡ false → begins 118 word ≡ true → lettered_row word parts ≡ vector word parts
  unfolding lettered_row
  row_vector p i v = rw (p, i, v) refl

  pub row_ignored : begins 112 word && has_parts parts ≡ false → begins 105 word ≡ false → begins 118 word ≡ false → lettered_row word parts ≡ ignored
  unfolding lettered_row
  row_ignored p i v = rw (p, i, v) refl

  pub row_little : not (has_parts parts) && bytes_eq word (codes "e") ≡ true → row_of_spec word parts ≡ order Little
  unfolding row_of_spec
  row_little l = rw l refl

  pub row_big : not (has_parts parts) && bytes_eq word (codes "e") ≡ false → not (has_parts parts) && bytes_eq word (codes "E") ≡ true → row_of_spec word parts ≡ order Big
  unfolding row_of_spec
  row_big l b = rw (l, b) refl

  pub row_instructions : not (has_parts parts) && bytes_eq word (codes "e") ≡ false → not (has_parts parts) && bytes_eq word (codes "E") ≡ false
      → not (has_parts parts) && begins 80 word ≡ true → row_of_spec word parts ≡ instructions (drop 1 word)
  unfolding row_of_spec
  row_instructions l b p = rw (l, b, p) refl

  pub row_aligned : (named : AlignedWord) → not (has_parts parts) && bytes_eq word (codes "e") ≡ false → not (has_parts parts) && bytes_eq word (codes "E") ≡ false
      → not (has_parts parts) && begins 80 word ≡ false → aligned_word word ≡ Some named → row_of_spec word parts ≡ aligned_spec named word parts
  unfolding row_of_spec
  row_aligned named l b p a = rw (l, b, p, a) refl

  pub row_lettered : not (has_parts parts) && bytes_eq word (codes "e") ≡ false → not (has_parts parts) && bytes_eq word (codes "E") ≡ false
      → not (has_parts parts) && begins 80 word ≡ false → aligned_word word ≡ None → row_of_spec word parts ≡ lettered_row word parts
  unfolding row_of_spec
  row_lettered l b p a = rw (l, b, p, a) refl
