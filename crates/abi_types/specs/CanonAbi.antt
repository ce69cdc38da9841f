-- Calling conventions as a code generator distinguishes them on one target.
use Rattle.std.specs.Prelude.{ℕ, List, Bool, true, false}
use Rattle.abi_types.specs.declared.extern_abi.ExternAbi.{ExternAbi}
use Rattle.abi_types.specs.declared.extern_abi.ExternAbi.TheVariants as extern
use Rattle.abi_types.specs.declared.canon_abi.CanonAbi.{CanonAbi}
use Rattle.abi_types.specs.declared.canon_abi.CanonAbi.TheVariants.{C, Rust, RustCold, RustPreserveNone, RustTail, Custom, Swift, Arm, GpuKernel, Interrupt, X86}
use Rattle.abi_types.specs.declared.canon_abi.ArmCall.TheVariants as arm
use Rattle.abi_types.specs.declared.canon_abi.InterruptKind.TheVariants as interrupt
use Rattle.abi_types.specs.declared.canon_abi.X86Call.TheVariants as x86
use Rattle.abi_types.specs.ExternAbi.{abi_name}

-- Rust's own conventions
abbrev pub is_rustic_canon : CanonAbi → Bool
is_rustic_canon Rust = true
is_rustic_canon RustCold = true
is_rustic_canon RustPreserveNone = true
is_rustic_canon RustTail = true
is_rustic_canon _ = false

-- the convention that has its name
abbrev pub same_name : CanonAbi → ExternAbi
same_name C = extern.C false
same_name Rust = extern.Rust
same_name RustCold = extern.RustCold
same_name RustPreserveNone = extern.RustPreserveNone
same_name RustTail = extern.RustTail
same_name Custom = extern.Custom
same_name Swift = extern.Swift
same_name (Arm arm.Aapcs) = extern.Aapcs false
same_name (Arm arm.CCmseNonSecureCall) = extern.CmseNonSecureCall
same_name (Arm arm.CCmseNonSecureEntry) = extern.CmseNonSecureEntry
same_name GpuKernel = extern.GpuKernel
same_name (Interrupt interrupt.Avr) = extern.AvrInterrupt
same_name (Interrupt interrupt.AvrNonBlocking) = extern.AvrNonBlockingInterrupt
same_name (Interrupt interrupt.Msp430) = extern.Msp430Interrupt
same_name (Interrupt interrupt.RiscvMachine) = extern.RiscvInterruptM
same_name (Interrupt interrupt.RiscvSupervisor) = extern.RiscvInterruptS
same_name (Interrupt interrupt.X86) = extern.X86Interrupt
same_name (X86 x86.Fastcall) = extern.Fastcall false
same_name (X86 x86.Stdcall) = extern.Stdcall false
same_name (X86 x86.SysV64) = extern.SysV64 false
same_name (X86 x86.Thiscall) = extern.Thiscall false
same_name (X86 x86.Vectorcall) = extern.Vectorcall false
same_name (X86 x86.Win64) = extern.Win64 false

-- its name, as bytes
abbrev pub canon_text : CanonAbi → List ℕ
canon_text abi = abi_name (same_name abi)
