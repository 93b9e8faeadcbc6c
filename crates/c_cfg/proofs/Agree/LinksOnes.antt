-- Which links take a choice: the first of an assignment of a choice, and that of a `malloc` that may fail; no other.
use Rattle.std.proofs.Common.{◌+◌, ℕ, Bool, true, false, refl, sym, subst, List, [], ◌∷◌, ◌++◌}
use Rattle.c_types.specs.declared.mode.MallocMode.{MallocMode}
use Rattle.c_types.specs.declared.mode.MallocMode.TheVariants.{Always, MayFail}
use Rattle.c_types.specs.declared.program.PtrRhs.{PtrRhs}
use Rattle.c_types.specs.declared.program.PtrRhs.TheVariants.{Path as RhsPath, Null as RhsNull, New as RhsNew}
use Rattle.c_types.specs.declared.program.Act.{Act}
use Rattle.c_types.specs.declared.program.Act.TheVariants.{SetPtr, SetData, Free, Error, Halt, Return, Break, Continue}
use Rattle.c_types.specs.declared.program.Act.TheVariants.{Leave as LeaveAct}
use Rattle.c_types.specs.declared.program.PtrOp.{PtrOp}
use Rattle.c_types.specs.declared.program.DataOp.{DataOp}
use Rattle.c_types.specs.Control.{Items, closed_ptrs, closed_datums}
use Rattle.c_types.specs.Steps.{act_takes, ptr_rhs_takes, data_rhs_takes}
use Rattle.c_cfg.specs.declared.graph.Instr.TheVariants.{StorePtr, Kill, Stop}
use Rattle.c_cfg.specs.Links.{Link, One, Two, links_in, used, loads_but_last, ends, ptr_row, data_row, free_row}
use Rattle.c_cfg.specs.Links.{return_row, act_row, ptr_loads, cmp_loads}
use Rattle.c_cfg.proofs.PlainLinks.{ArePlain, PlainAs, kept, stays, ends_plain, ptr_plain, cmp_plain, copied_plain}
use Rattle.c_cfg.proofs.PlainLinks.{nulled_plain, made_plain, set_data_plain, freed_plain, returned_plain}
use Rattle.c_cfg.proofs.Agree.Ways.{AreOnes, TakesAs}

pub plain_ones : (ls : List Link) → ArePlain ls → AreOnes ls
plain_ones [] h = tt
plain_ones (One i ∷ ls) h = plain_ones ls h.1
plain_ones (Two i j ∷ ls) h = absurd h

plain_takes : (takes : Bool) (ls : List Link) → PlainAs takes ls → TakesAs takes ls
plain_takes false ls h = plain_ones ls h
plain_takes true [] h = absurd h
plain_takes true (One i ∷ ls) h = absurd h
plain_takes true (Two i j ∷ ls) h = plain_ones ls h.2

in_mode : (mode : MallocMode) (takes : Bool) (ls : List Link) → PlainAs takes ls → TakesAs takes (links_in mode ls)
in_mode mode takes ls h = subst (TakesAs takes) (sym (stays mode takes ls h)) (plain_takes takes ls h)

pub ends_ones : (ps ds : List ℕ) → AreOnes (ends ps ds)
ends_ones ps ds = plain_ones (ends ps ds) (ends_plain ps ds)

module _ (nv nd : ℕ) where
  pub ptr_ones : (l r : PtrOp) → AreOnes (ptr_loads nv nd l r)
  ptr_ones l r = plain_ones (ptr_loads nv nd l r) (ptr_plain nv nd l r)

  pub cmp_ones : (l r : DataOp) → AreOnes (cmp_loads nv nd l r)
  cmp_ones l r = plain_ones (cmp_loads nv nd l r) (cmp_plain nv nd l r)

  -- the links after a New
  rest_ones : (x f : ℕ) (fs : List ℕ)
      → AreOnes (loads_but_last (nv + 1) x f fs (λ b g. StorePtr b g nv) ++ ends (nv ∷ used (nv + 1) fs) [])
  rest_ones x f fs = plain_ones _ (made_plain nv nd x f fs)

  made_takes : (mode : MallocMode) (x : ℕ) (fs : List ℕ) (shape : ℕ)
      → TakesAs (ptr_rhs_takes mode (RhsNew shape)) (links_in mode (ptr_row nv nd x fs (RhsNew shape)))
  made_takes Always x [] shape = tt
  made_takes Always x (f ∷ fs) shape = rest_ones x f fs
  made_takes MayFail x [] shape = tt
  made_takes MayFail x (f ∷ fs) shape = subst AreOnes (sym (kept _ (made_plain nv nd x f fs))) (rest_ones x f fs)

  set_ptr_takes : (mode : MallocMode) (x : ℕ) (fs : List ℕ) (from : PtrRhs)
      → TakesAs (ptr_rhs_takes mode from) (links_in mode (ptr_row nv nd x fs from))
  set_ptr_takes Always x fs (RhsPath q) =
      in_mode Always false (ptr_row nv nd x fs (RhsPath q)) (copied_plain nv nd x fs q)
  set_ptr_takes Always x fs RhsNull = in_mode Always false (ptr_row nv nd x fs RhsNull) (nulled_plain nv nd x fs)
  set_ptr_takes MayFail x fs (RhsPath q) =
      in_mode MayFail false (ptr_row nv nd x fs (RhsPath q)) (copied_plain nv nd x fs q)
  set_ptr_takes MayFail x fs RhsNull = in_mode MayFail false (ptr_row nv nd x fs RhsNull) (nulled_plain nv nd x fs)
  set_ptr_takes mode x fs (RhsNew shape) = made_takes mode x fs shape

  pub act_row_takes : (mode : MallocMode) (a : Act) (is : Items)
      → TakesAs (act_takes mode a) (links_in mode (act_row nv nd a is))
  act_row_takes mode (SetPtr to from) is = set_ptr_takes mode to.var to.fields from
  act_row_takes mode (SetData to from) is =
      in_mode mode (data_rhs_takes from) (data_row nv nd to from) (set_data_plain nv nd to from)
  act_row_takes mode (Free q) is = in_mode mode false (free_row nv nd q) (freed_plain nv nd q)
  act_row_takes mode Error is = in_mode mode false (One (Stop true) ∷ []) ((refl, refl), tt)
  act_row_takes mode Halt is = in_mode mode false (One (Stop false) ∷ []) ((refl, refl), tt)
  act_row_takes mode (LeaveAct f value) is = in_mode mode false (One (Stop false) ∷ []) ((refl, refl), tt)
  act_row_takes mode (Return operand) is =
      in_mode mode false (return_row nv nd operand) (returned_plain nv nd operand)
  act_row_takes mode Break is =
      in_mode mode false (One (Kill (closed_ptrs is) (closed_datums is)) ∷ []) ((refl, refl), tt)
  act_row_takes mode Continue is =
      in_mode mode false (One (Kill (closed_ptrs is) (closed_datums is)) ∷ []) ((refl, refl), tt)
