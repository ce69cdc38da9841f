-- What a program writes for an input of two lines, a data layout and a type, and the status that it ends with. `tells` says which texts
-- tell of a type that was laid out.
use Rattle.std.specs.Prelude.{◌≡◌, ℕ, ◌&&◌, ◌++◌, ◌⊎◌, MatchBool, List, take, codes, string_bytes, Option, Result, Ok, Err}
use Rattle.std.specs.Fmt.{decimal}
use Rattle.std.specs.Io.KnownBytes.{Appends}
use Rattle.std.specs.Str.{is_utf8}
use Rattle.abi_base.specs.declared.data_layout.TargetDataLayout.{TargetDataLayout}
use Rattle.abi_base.specs.DataLayout.{IsLawfulDataLayout}
use Rattle.abi_base.specs.DataLayoutFault.{Fault as Flaw}
use Rattle.rustc_abi.specs.declared.error.LayError.{LayError}
use Rattle.abi_tree.specs.Tree.{Tree}
use Rattle.abi_tree.specs.Placed.{Placed}
use Rattle.rustc_abi.specs.Laying.{IsLaying}
use Rattle.abi_text.specs.declared.answers.Answer.{Answer}
use Rattle.abi_text.specs.declared.fault.Fault.{Fault}
use Rattle.abi_text.specs.declared.fault.Fault.TheVariants.{Unreadable, TooDeep, OutOfMemory}
use Rattle.abi_text.specs.DataLayoutLine.{data_layout_of}
use Rattle.abi_text.specs.Lines.{first_line, second_line}
use Rattle.abi_text.specs.Names.{error_name, flaw_name}
use Rattle.abi_text.specs.Reading.{read}
use Rattle.abi_text.specs.Words.{words_of}

-- What is written, and the status.
pub record Output : Type 0 where
  pub text : List ℕ
  pub status : ℕ

-- a type that has no layout, or an input that can't be read
abbrev pub refusal : (name : List ℕ) → Output
refusal name = record { text = codes "refused " ++ name ++ codes "\n"; status = 1 }

-- a text whose word of this number doesn't fit
abbrev pub unreadable : (number : ℕ) → Output
unreadable number = record { text = codes "unreadable word " ++ decimal number ++ codes "\n"; status = 2 }

-- the output where memory is wanting
abbrev pub out_of_memory : Output
out_of_memory = refusal (codes "OutOfMemory")

-- the output for a text that can't be read
abbrev pub output_of_fault : Fault → Output
output_of_fault (Unreadable number) = unreadable number
output_of_fault TooDeep = refusal (codes "TooDeep")
output_of_fault OutOfMemory = out_of_memory

-- a text that tells of a type
abbrev pub output_of_text : (text : List ℕ) → Output
output_of_text text = record { text = text; status = 0 }

-- the output for a type's layout, or for its first fault
abbrev pub IsOutputOfLayout : (reports : TargetDataLayout → Placed → List ℕ → Type 0) → TargetDataLayout → Result Placed LayError → Output → Type 0
IsOutputOfLayout reports dl (Ok placed) output = (text : List ℕ) × reports dl placed text × (output ≡ output_of_text text)
IsOutputOfLayout reports dl (Err error) output = output ≡ refusal (error_name error)

-- the output for a type under a data layout: where the data layout is lawful, that for its layout or its first fault
pub record IsOutputOfTree (reports : TargetDataLayout → Placed → List ℕ → Type 0) (dl : TargetDataLayout) (tree : Tree) (output : Output) : Type 0 where
  pub lawful : IsLawfulDataLayout dl → (r : Result Placed LayError) × IsLaying dl tree r × IsOutputOfLayout reports dl r output
  pub unlawful : (IsLawfulDataLayout dl → ⊥) → output ≡ refusal (codes "UnlawfulDataLayout")

-- the output for a type that was read, or for the fault of its text
abbrev pub IsOutputOfType : (reports : TargetDataLayout → Placed → List ℕ → Type 0) → TargetDataLayout → Result Tree Fault → Output → Type 0
IsOutputOfType reports dl (Ok tree) output = IsOutputOfTree reports dl tree output
IsOutputOfType reports dl (Err fault) output = output ≡ output_of_fault fault

-- the output for the line of a type, under a data layout or its fault
abbrev pub IsOutputUnder : (reports : TargetDataLayout → Placed → List ℕ → Type 0) → Result TargetDataLayout Flaw → (second : List ℕ) → Output → Type 0
IsOutputUnder reports (Ok dl) second output = IsOutputOfType reports dl (read dl (words_of second)) output
IsOutputUnder reports (Err flaw) second output = output ≡ refusal (flaw_name flaw)

-- the output for the first two lines, a data layout and a type
abbrev pub IsOutputOfLines : (reports : TargetDataLayout → Placed → List ℕ → Type 0) → (first second : List ℕ) → Output → Type 0
IsOutputOfLines reports first second output =
    MatchBool (is_utf8 first && is_utf8 second)
    (IsOutputUnder reports (data_layout_of first) second output)
    (output ≡ unreadable 0)

-- the output for an input
abbrev pub IsOutputOf : (reports : TargetDataLayout → Placed → List ℕ → Type 0) → List ℕ → Output → Type 0
IsOutputOf reports input output = IsOutputOfLines reports (first_line input) (second_line input) output

-- the text was written whole behind what was there, and the status is the one given; or writing failed: only a beginning
-- of the text was written, and the status is 1
abbrev pub Sent : (old new : Option (List ℕ)) → (text : List ℕ) → (given status : ℕ) → Type 0
Sent old new text given status =
    (Appends old new text × (status ≡ given)) ⊎ ((count : ℕ) × Appends old new (take count text) × (status ≡ 1))

-- such an output was sent
abbrev pub SentOutput : (old new : Option (List ℕ)) → Output → (status : ℕ) → Type 0
SentOutput old new output status = Sent old new output.text output.status status

-- the run answered such an output; or that memory was wanting, or that reading failed
abbrev pub Answered : (old new : Option (List ℕ)) → (Output → Type 0) → (status : ℕ) → Type 0
Answered old new P status =
    ((output : Output) × P output × SentOutput old new output status)
    ⊎ (SentOutput old new out_of_memory status ⊎ SentOutput old new (refusal (codes "Input")) status)

-- an answer, as the definitions see it
abbrev pub answered_by : Answer → Output
answered_by answer = record { text = string_bytes answer.text; status = answer.status }
