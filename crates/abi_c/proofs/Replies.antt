-- What is answered of a type.
use Rattle.std.proofs.Common.{◌≡◌, ℕ, ◌<◌, List, [], ◌∷◌, Result, Ok, true, false, inl, inr, refl, sym, subst}
use Rattle.std.specs.Prelude.{◌≢◌, MatchBool}
use Rattle.std.specs.Str.{is_utf8}
use Rattle.abi_base.specs.declared.data_layout.TargetDataLayout.{TargetDataLayout}
use Rattle.abi_base.specs.declared.parse_error.TargetDataLayoutError.{TargetDataLayoutError}
use Rattle.abi_base.specs.declared.parse_error.TargetDataLayoutError.TheVariants as data_layout
use Rattle.abi_base.specs.DataLayoutFault.{Fault as Flaw, NamesFault}
use Rattle.rustc_abi.specs.declared.error.LayError.{LayError}
use Rattle.rustc_abi.specs.declared.error.LayError.TheVariants.{OutOfMemory}
use Rattle.rustc_abi.specs.Fault.{IsRefusedFor}
use Rattle.abi_c.specs.Numbers.FlatLayout.{flat_layout}
use Rattle.abi_tree.specs.Placed.{Placed}
use Rattle.abi_tree.specs.Tree.{Tree}
use Rattle.abi_text.specs.DataLayoutLine.{data_layout_of}
use Rattle.abi_c.specs.declared.laid_type.LayoutFailure.{LayoutFailure}
use Rattle.abi_c.specs.declared.laid_type.LayoutFailure.TheVariants as failure
use Rattle.abi_c.specs.Flat.{IsLayingReply, IsLayoutReply, IsReplyIn, IsReplyOf, IsReplyUnder, Reply, data_layout_error_number, refusal_number}
use Rattle.abi_c.specs.LaidType.{FailsAs, IsLaidType}

-- a failure that reports so much reports what follows from it
pub fails_weaker : (P Q : Reply → Type 0) → ((reply : Reply) → P reply → Q reply) → (f : LayoutFailure) → FailsAs P f → FailsAs Q f
fails_weaker P Q weaker (failure.Refused status number) is = (weaker _ is.0, is.1)
fails_weaker P Q weaker failure.OutOfMemory is = is

-- a refusal, by its number
pub refused_reply : (dl : TargetDataLayout) (t : Tree) (e : LayError) (reply : Reply) → IsRefusedFor dl t e → e ≢ OutOfMemory
    → reply ≡ record { status = 1; numbers = refusal_number e ∷ [] } → IsLayingReply dl t reply
refused_reply dl t e reply (inl memory) granted is = absurd (granted memory)
refused_reply dl t e reply (inr first) granted is = inr (e, first, is)

-- so does the failure that reports it
pub fails_refused : (dl : TargetDataLayout) (t : Tree) (e : LayError) (f : LayoutFailure) → IsRefusedFor dl t e
    → FailsAs (λ reply. (e ≢ OutOfMemory) × (reply ≡ record { status = 1; numbers = refusal_number e ∷ [] })) f → FailsAs (IsLayingReply dl t) f
fails_refused dl t e (failure.Refused status number) refused is = (refused_reply dl t e _ refused is.0.0 is.0.1, is.1)
fails_refused dl t e failure.OutOfMemory refused is = is

-- a string that is text
pub under_text : (P : TargetDataLayout → Reply → Type 0) (string text : List ℕ) (reply : Reply) → is_utf8 string ≡ true → text ≡ string → IsReplyIn P (data_layout_of text) reply → IsReplyUnder P string reply
under_text P string text reply utf8 same is =
    subst (λ b. MatchBool b (IsReplyIn P (data_layout_of string) reply) (reply ≡ record { status = 2; numbers = 0 ∷ [] })) (sym utf8)
    (subst (λ s. IsReplyIn P (data_layout_of s) reply) same is)

-- a string that is none
pub under_none : (P : TargetDataLayout → Reply → Type 0) (string : List ℕ) (reply : Reply) → is_utf8 string ≡ false → reply ≡ record { status = 2; numbers = 0 ∷ [] } → IsReplyUnder P string reply
under_none P string reply utf8 is =
    subst (λ b. MatchBool b (IsReplyIn P (data_layout_of string) reply) (reply ≡ record { status = 2; numbers = 0 ∷ [] })) (sym utf8) is

-- a string with a fault, by the number of the error that reports it
pub flaw_reply : (P : TargetDataLayout → Reply → Type 0) (r : Result TargetDataLayout Flaw) (e : TargetDataLayoutError) (reply : Reply) → NamesFault r e → e ≢ data_layout.OutOfMemory
    → reply ≡ record { status = 1; numbers = data_layout_error_number e ∷ [] } → IsReplyIn P r reply
flaw_reply P r (data_layout.InvalidAddressSpace text cause err) reply is granted same = subst (λ s. IsReplyIn P s reply) (sym is) same
flaw_reply P r (data_layout.InvalidBits kind text cause err) reply is granted same = subst (λ s. IsReplyIn P s reply) (sym is) same
flaw_reply P r (data_layout.MissingAlignment cause) reply is granted same = subst (λ s. IsReplyIn P s reply) (sym is) same
flaw_reply P r (data_layout.InvalidAlignment cause err) reply is granted same = subst (λ s. IsReplyIn P s reply) (sym is) same
flaw_reply P r (data_layout.UnknownPointerSpecification rest) reply is granted same = subst (λ s. IsReplyIn P s reply) (sym is) same
flaw_reply P r (data_layout.InconsistentTargetArchitecture dl target) reply is granted same = absurd is
flaw_reply P r (data_layout.InconsistentTargetPointerWidth pointer_size target) reply is granted same = absurd is
flaw_reply P r (data_layout.InvalidBitsSize err) reply is granted same = absurd is
flaw_reply P r data_layout.OutOfMemory reply is granted same = absurd (granted refl)

-- so does the failure that reports it
pub fails_flawed : (P : TargetDataLayout → Reply → Type 0) (r : Result TargetDataLayout Flaw) (e : TargetDataLayoutError) (f : LayoutFailure) → NamesFault r e
    → FailsAs (λ reply. (e ≢ data_layout.OutOfMemory) × (reply ≡ record { status = 1; numbers = data_layout_error_number e ∷ [] })) f → FailsAs (IsReplyIn P r) f
fails_flawed P r e (failure.Refused status number) refusal is = (flaw_reply P r e _ refusal is.0.0 is.0.1, is.1)
fails_flawed P r e failure.OutOfMemory refusal is = is

-- a string that says a data layout
pub said_reply : (P : TargetDataLayout → Reply → Type 0) (r : Result TargetDataLayout Flaw) (dl : TargetDataLayout) (reply : Reply) → r ≡ Ok dl → P dl reply → IsReplyIn P r reply
said_reply P r dl reply said is = subst (λ s. IsReplyIn P s reply) (sym said) is

-- a type that is laid out, by the numbers of its layout
pub laid_reply : (string numbers : List ℕ) (dl : TargetDataLayout) (t : Tree) (placed : Placed) (reply : Reply) → IsLaidType string numbers dl t placed
    → reply ≡ record { status = 0; numbers = flat_layout placed } → IsLayoutReply string numbers reply
laid_reply string numbers dl t placed reply laid is =
    under_text (λ d. IsReplyOf (IsLayingReply d) numbers) string string reply laid.text refl
    (said_reply (λ d. IsReplyOf (IsLayingReply d) numbers) (data_layout_of string) dl reply laid.said (inl (t, laid.whose, inl (placed, laid.laying, is))))

-- a failure by its status and number
pub reply_failure : (P : Reply → Type 0) (f : LayoutFailure) (status number : ℕ) (reply : Reply) → f ≡ failure.Refused status number → FailsAs P f
    → reply ≡ record { status = status; numbers = number ∷ [] } → P reply × (0 < reply.status)
reply_failure P f status number reply same is whose =
    subst (λ (t : Reply). P t × (0 < t.status)) (sym whose) (subst (FailsAs P) same is)

-- no numbers beside status 3
pub reply_none : (numbers : List ℕ) (reply : Reply) → numbers ≡ [] → reply ≡ record { status = 3; numbers = numbers } → reply ≡ record { status = 3; numbers = [] }
reply_none numbers reply none is = subst (λ (ns : List ℕ). reply ≡ record { status = 3; numbers = ns }) none is
