-- What calling conventions are fit for.
use Rattle.std.specs.Prelude.{Bool, true, false}
use Rattle.abi_types.specs.declared.extern_abi.ExternAbi.{ExternAbi}
use Rattle.abi_types.specs.declared.extern_abi.ExternAbi.TheVariants.{C, System, Rust, RustCall, RustCold, RustInvalid, RustPreserveNone, RustTail, LlvmIntrinsic, Custom, EfiApi, Aapcs, CmseNonSecureCall, CmseNonSecureEntry, GpuKernel, PtxKernel, AvrInterrupt, AvrNonBlockingInterrupt, Msp430Interrupt, RiscvInterruptM, RiscvInterruptS, X86Interrupt, Cdecl, SysV64, Win64}
use Rattle.abi_types.specs.declared.c_variadic.CVariadicStatus.{CVariadicStatus}
use Rattle.abi_types.specs.declared.c_variadic.CVariadicStatus.TheVariants.{NotSupported, Stable}

-- Rust's own conventions
abbrev pub is_rustic : ExternAbi → Bool
is_rustic Rust = true
is_rustic RustCall = true
is_rustic RustCold = true
is_rustic RustPreserveNone = true
is_rustic RustTail = true
is_rustic _ = false

-- argument lists without an end: C's conventions have them, and those that C's may be another name of
abbrev pub c_variadic_status : ExternAbi → CVariadicStatus
c_variadic_status (C unwind) = Stable
c_variadic_status (Cdecl unwind) = Stable
c_variadic_status (System unwind) = Stable
c_variadic_status (Aapcs unwind) = Stable
c_variadic_status (SysV64 unwind) = Stable
c_variadic_status (Win64 unwind) = Stable
c_variadic_status EfiApi = Stable
c_variadic_status _ = NotSupported

-- a call in tail position can be made a jump, save with a handler of interrupts, a kernel, a call that clears registers as it
-- returns, one from assembly, and one whose arguments come as a tuple
abbrev pub keeps_tail_calls : ExternAbi → Bool
keeps_tail_calls AvrInterrupt = false
keeps_tail_calls AvrNonBlockingInterrupt = false
keeps_tail_calls Msp430Interrupt = false
keeps_tail_calls RiscvInterruptM = false
keeps_tail_calls RiscvInterruptS = false
keeps_tail_calls X86Interrupt = false
keeps_tail_calls GpuKernel = false
keeps_tail_calls PtxKernel = false
keeps_tail_calls CmseNonSecureCall = false
keeps_tail_calls CmseNonSecureEntry = false
keeps_tail_calls Custom = false
keeps_tail_calls RustCall = false
keeps_tail_calls _ = true

-- safe functions implement the traits `Fn`, save handlers of interrupts, kernels, what assembly alone calls, and what is for the
-- compiler's own use
abbrev pub implements_fn : ExternAbi → Bool
implements_fn AvrInterrupt = false
implements_fn AvrNonBlockingInterrupt = false
implements_fn Msp430Interrupt = false
implements_fn RiscvInterruptM = false
implements_fn RiscvInterruptS = false
implements_fn X86Interrupt = false
implements_fn GpuKernel = false
implements_fn PtxKernel = false
implements_fn Custom = false
implements_fn LlvmIntrinsic = false
implements_fn RustCall = false
implements_fn RustInvalid = false
implements_fn _ = true
