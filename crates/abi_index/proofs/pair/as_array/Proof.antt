-- `both` shares two items side by side as an array of two, for every T. Assumes `Logic`.
use mathlib.Core.Path.{refl}
use Prim.Native.Nat.{ℕ}
use mathlib.Core.List.{List, [], ◌∷◌}
use seplogic.Ra.Ura.{Ura}
use mir.Syntax.{Args, Body, Fn, named, a_type, seq, assign, place, rv_opd, copy, return}
use mir.MapTy.{inst_fn}
use mir.Val.{Val, vptr}
use base.Logic.{SProp, ent, via, fst∗}
use base.Fml.{Lft, Share, ftrue, flft}
use base.Stored.{Gv}
use prog.Memory.{Memory}
use prog.Routine.{Routine}
use prog.Wp.{Env, Calls, Loops, WpFn, Tables}
use types.Logic.{Logic}
use contract.Lifetimes.{AllOutlive}
use contract.Monad.{Fun}
use contract.Running.{tables, tables_of}
use sound.WpLaws.{WpFn-mono}
use types.Kit.{‵, ◌⊛◌, at_ret, ◌$◌, ◌∵◌, !, qed, move, keep, drop, fsplit, fjoin, feq_i, rewrite, suffices, frame, done}
use types.Run.{stop, addr, of_opd, first, blocks, exec, returns, enter}
use types.ByLocal.{alloc_all, pass_all, free_all, look_at, get, through, sets, sets_last, env}
use denote.Array.{Array}
use denote.Builtin.{RefOf}
use denote.Exit.{yes}
use denote.Opens.{unhide, hide}
use denote.Memory.{shared_of}
use denote.Param.{param, layout, layouts}
use denote.RattleType.{RattleType, owns}
use denote.Ref.{Bor, ShrRef, shr_vals, shr_Tells}
use denote.Signature.{plain}
use denote.Steps.{nothing}
use denote.Triple.Clauses.{Clauses, Ended, closing}
use denote.Triple.Entry.{on_entry}
use denote.Triple.Spec.{Meets, triple_of}
use denote.Triple.Table.{entered}
use denote.Triple.Walked.{says, Stays, stay_dropped, walk_of, ends_at, walked, Goes-dropped, walk_Meets}
use Rattle.abi_index.proofs.PairMemory.{first_at, second_at}
use Rattle.abi_index.specs.contracts.pair.Pair.{the_row}
use Rattle.abi_index.specs.contracts.pair.as_array as F
use Rattle.abi_index.specs.contracts.pair.as_array.Key.{name as #self}
use Rattle.abi_index.proofs.pair.as_array.Statement as stated
use Rattle.abi_index.proofs.pair.as_array.Code as code

module _ (X : RattleType) where
  abbrev args : Args
  args = layouts (a_type ∷ []) (X, tt)

  abbrev fn' : Fn
  fn' = inst_fn args code.function

  abbrev R : RattleType
  R = param 0 X

  abbrev S : RattleType
  S = the_row R

  abbrev ended : Ended
  ended = F.ended X

  abbrev stayed : Stays ended.signature.params ended.kept
  stayed = (stay_dropped (RefOf (0 ∷ []) tt (plain (λ _. S)) (λ _. tt)) yes, tt)

abbrev rest : Body
rest = seq (assign (place 0 []) (rv_opd (copy (place 2 [])))) return

module _ (X : RattleType) {M : Type 1} {𝓤 : Ura M} (𝓛 : Logic 𝓤) (at_mem : Memory → SProp 𝓤) (run : Routine → Fun 𝓤) where
  open 𝓛 use {H}

  abbrev clauses : Clauses 𝓤 (ended X)
  clauses = F.clauses X 𝓛 at_mem run

  module _ (C : Calls 𝓤 H) (Λ : Loops 𝓤 H) (κ κT : Lft) (q qT : Share) (bd : AllOutlive 2 (ended X).signature.outlives (κ, (κT, tt))) (b o : ℕ) (x : (S X).Denot) where
    abbrev self : Bor (S X).Denot
    self = record { ref_ptr = (b, o); now = x }

    abbrev bound : (walk_of 𝓛 (ended X) (stayed X) clauses).Ghost
    bound = (((κ, (κT, tt)), (q, (qT, tt)), bd, (self, tt), (shr_vals self, tt)), tt)

    abbrev Post : Val → SProp 𝓤
    Post = (walk_of 𝓛 (ended X) (stayed X) clauses).post bound

    walk : ent 𝓤 (on_entry 𝓛 (ended X).signature (κ, (κT, tt)) (q, (qT, tt)) (self, tt) (shr_vals self, tt)) (WpFn 𝓤 H C Λ (fn' X) (vptr b o ∷ []) Post)
    walk =
        let code_of_lem : Gv = (Array (R X) 2).coded.code (x.first ∷ x.second ∷ []) in
        qed 𝓛 ((‵ (flft κ q) ⊛ ‵ (flft κT qT) ⊛ ‵ ftrue) ∷ ‵ (owns (ShrRef (named 0) κ (S X) ∷ []) (self, tt) (shr_vals self, tt)) ∷ []) ∵ enter ! C Λ (fn' X) (vptr b o ∷ []) _ $
        alloc_all ! (λ l. pass_all ! refl ((tt, tt), tt) $
        let En : Env 𝓤 H = env (fn' X).locals l in
        first ! $ blocks ! $
        sets ! (addr ! (through ! refl (stop !))) refl (tt, tt) $
        sets ! (of_opd ! (get ! refl)) refl (tt, tt) $
        sets_last ! (addr ! (through ! refl (stop !))) refl (tt, tt) $
        exec ! C Λ En rest (at_ret En Post) $
        sets ! (of_opd ! (get ! refl)) refl (tt, tt) $
        move ! (1 ∷ []) $ fsplit ! $ fsplit ! $ drop ! $ unhide ! $
        -- [the fields; what is left of the struct]
        fsplit ! $ move ! (1 ∷ []) $ drop ! $
        -- [the first; the second and nothing]
        fsplit ! $ move ! (1 ∷ []) $ fsplit ! $
        rewrite ! 0 (λ (p : ℕ). ‵ (shared_of (R X) x.second b p κ)) (second_at (layout X) o) refl $ fjoin ! $ move ! (1 ∷ []) $
        rewrite ! 0 (λ (p : ℕ). ‵ (shared_of (R X) x.first b p κ)) (first_at (layout X) o) refl $ fjoin ! $
        feq_i ! ℕ 2 2 refl $ fjoin ! $ hide ! $
        returns ! (look_at ! 0 refl) $ free_all ! refl $ keep ! (2 ∷ 0 ∷ []) $
        suffices ! _ (ends_at 𝓛 (ended X) (stayed X) clauses bound (vptr b o) (record { ref_ptr = (b, o); now = x.first ∷ x.second ∷ [] }) (tt, tt) (tt, tt)) $ says ! refl $
        frame ! $ nothing ! $ nothing ! $ fjoin ! $ frame ! $
        feq_i ! (List Val) (vptr b o ∷ []) (vptr b o ∷ []) refl $ fjoin ! $ done !)

  meets : (𝓣 : Tables 𝓤 H) → Meets 𝓛 (ended X).signature (WpFn 𝓤 H 𝓣.C 𝓣.Λ (fn' X)) (closing 𝓛 (ended X) clauses)
  meets 𝓣 =
      walk_Meets 𝓛 (ended X) (stayed X) (Goes-dropped 𝓛 2 (RefOf (0 ∷ []) tt (plain (λ _. S X)) (λ _. tt)) yes (λ κs x f. refl), tt) clauses (WpFn 𝓤 H 𝓣.C 𝓣.Λ (fn' X)) (WpFn-mono 𝓤 H 𝓛.laws 𝓣 (fn' X))
      (walked 𝓛 (ended X) (stayed X) clauses (WpFn 𝓤 H 𝓣.C 𝓣.Λ (fn' X)) (λ κs. (shr_vals, tt)) (λ κs. (shr_Tells (named 0) κs.0 (S X), tt))
      (λ κs qs bounds a g are. via 𝓤 _ (fst∗ 𝓤 _ ((clauses κs a).requires g))
      (walk 𝓣.C 𝓣.Λ κs.0 κs.1.0 qs.0 qs.1.0 bounds a.0.ref_ptr.0 a.0.ref_ptr.1 a.0.now)))

pub as_array_spec : {M : Type 1} → stated.statement M
unfolding tables_of
as_array_spec 𝓤 𝓛 𝓜 𝓡 wired X L =
    let A = 𝓛.A in
    let 𝓣 : Tables 𝓤 𝓛.H = tables_of 𝓤 𝓛.H 𝓜 (tables 𝓤 𝓛.H 𝓜 𝓡 𝓡.env) in
    entered 𝓤 𝓛.H (triple_of 𝓛 (ended X).signature (F.spec X 𝓛 𝓜.mem 𝓡.returns)) 𝓣.C 𝓣.Λ (#self (args X)) (fn' X) (code.unfolded 𝓤 𝓛.H 𝓜 𝓡 wired (X, tt))
    (meets X 𝓛 𝓜.mem 𝓡.returns 𝓣)
