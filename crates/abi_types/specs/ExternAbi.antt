-- Calling conventions.
use Rattle.std.specs.Prelude.{◌≡◌, ℕ, List, Bool, true, false, codes, Result, Ok, IfOk, IfErr}
use Rattle.std.specs.declared.cmp.Ordering.{Ordering}
use Rattle.std.specs.Str.{bytes_eq}
use Rattle.std.specs.Ordering.{on, nat_cmp}
use Rattle.std.specs.Cmp.Lexicographic.{slice_cmp}
use Rattle.abi_base.specs.declared.abi_from_str_err.AbiFromStrErr.{AbiFromStrErr}
use Rattle.abi_base.specs.declared.abi_from_str_err.AbiFromStrErr.TheVariants.{Unknown}
use Rattle.abi_types.specs.declared.extern_abi.ExternAbi.{ExternAbi}
use Rattle.abi_types.specs.declared.extern_abi.ExternAbi.TheVariants.{C, Rust, Swift, Aapcs, AvrInterrupt, AvrNonBlockingInterrupt, Cdecl, CmseNonSecureCall, CmseNonSecureEntry, Custom, EfiApi, Fastcall, GpuKernel, LlvmIntrinsic, Msp430Interrupt, PtxKernel, RiscvInterruptM, RiscvInterruptS, RustCall, RustCold, RustInvalid, RustPreserveNone, Stdcall, System, SysV64, RustTail, Thiscall, Vectorcall, Win64, X86Interrupt}

-- each convention's number and name; a flag says whether it unwinds
abbrev pub row_of : ExternAbi → ℕ × List ℕ
row_of (C false) = (0, codes "C")
row_of (C true) = (1, codes "C-unwind")
row_of Rust = (2, codes "Rust")
row_of Swift = (3, codes "Swift")
row_of (Aapcs false) = (4, codes "aapcs")
row_of (Aapcs true) = (5, codes "aapcs-unwind")
row_of AvrInterrupt = (6, codes "avr-interrupt")
row_of AvrNonBlockingInterrupt = (7, codes "avr-non-blocking-interrupt")
row_of (Cdecl false) = (8, codes "cdecl")
row_of (Cdecl true) = (9, codes "cdecl-unwind")
row_of CmseNonSecureCall = (10, codes "cmse-nonsecure-call")
row_of CmseNonSecureEntry = (11, codes "cmse-nonsecure-entry")
row_of Custom = (12, codes "custom")
row_of EfiApi = (13, codes "efiapi")
row_of (Fastcall false) = (14, codes "fastcall")
row_of (Fastcall true) = (15, codes "fastcall-unwind")
row_of GpuKernel = (16, codes "gpu-kernel")
row_of LlvmIntrinsic = (17, codes "llvm-intrinsic")
row_of Msp430Interrupt = (18, codes "msp430-interrupt")
row_of PtxKernel = (19, codes "ptx-kernel")
row_of RiscvInterruptM = (20, codes "riscv-interrupt-m")
row_of RiscvInterruptS = (21, codes "riscv-interrupt-s")
row_of RustCall = (22, codes "rust-call")
row_of RustCold = (23, codes "rust-cold")
row_of RustInvalid = (24, codes "rust-invalid")
row_of RustPreserveNone = (25, codes "rust-preserve-none")
row_of (Stdcall false) = (26, codes "stdcall")
row_of (Stdcall true) = (27, codes "stdcall-unwind")
row_of (System false) = (28, codes "system")
row_of (System true) = (29, codes "system-unwind")
row_of (SysV64 false) = (30, codes "sysv64")
row_of (SysV64 true) = (31, codes "sysv64-unwind")
row_of RustTail = (32, codes "tail")
row_of (Thiscall false) = (33, codes "thiscall")
row_of (Thiscall true) = (34, codes "thiscall-unwind")
row_of (Vectorcall false) = (35, codes "vectorcall")
row_of (Vectorcall true) = (36, codes "vectorcall-unwind")
row_of (Win64 false) = (37, codes "win64")
row_of (Win64 true) = (38, codes "win64-unwind")
row_of X86Interrupt = (39, codes "x86-interrupt")

-- its number
abbrev pub abi_number : ExternAbi → ℕ
abi_number abi = (row_of abi).0

-- its name, as bytes
abbrev pub abi_name : ExternAbi → List ℕ
abi_name abi = (row_of abi).1

-- the text is its name
abbrev pub has_name : List ℕ → ExternAbi → Bool
has_name text abi = bytes_eq (abi_name abi) text

-- both have one name, so are one convention
abbrev pub have_same_name : ExternAbi → ExternAbi → Bool
have_same_name = on abi_name bytes_eq

-- the order of the names, byte by byte
abbrev pub name_cmp : ExternAbi → ExternAbi → Ordering
name_cmp = on abi_name (slice_cmp nat_cmp)

-- What is read from a text: the convention of that name, and `Unknown` where it is no convention's.
pub record IsAbiOfText (text : List ℕ) (read : Result ExternAbi AbiFromStrErr) : Type 0 where
  -- what is read has the text for its name
  pub named : IfOk read (λ abi. text ≡ abi_name abi)
  -- and a convention whose name is the text is read
  pub each : (abi : ExternAbi) → text ≡ abi_name abi → read ≡ Ok abi
  -- there is no other error
  pub unknown : IfErr read (λ error. error ≡ Unknown)
