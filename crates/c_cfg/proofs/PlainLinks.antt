-- Which links stay where `malloc` may fail: all but a New. Of those that stay, the first of an assignment of a choice
-- takes a choice, and no other.
use Rattle.std.proofs.Common.{◌≡◌, ◌+◌, ℕ, suc, Bool, true, false, refl, ap, ◌∙◌, Some, None, Option, List, [], ◌∷◌}
use Rattle.std.proofs.Common.{◌++◌, length}
use Rattle.c_types.specs.declared.mode.MallocMode.{MallocMode}
use Rattle.c_types.specs.declared.mode.MallocMode.TheVariants.{Always, MayFail}
use Rattle.c_types.specs.declared.program.Path.{Path}
use Rattle.c_types.specs.declared.program.DataPath.{DataPath}
use Rattle.c_types.specs.declared.program.DataPath.TheVariants.{Var as DataVar, Field as DataField}
use Rattle.c_types.specs.declared.program.PtrRhs.TheVariants.{Path as RhsPath, Null as RhsNull}
use Rattle.c_types.specs.declared.program.DataRhs.{DataRhs}
use Rattle.c_types.specs.declared.program.DataRhs.TheVariants.{Path as DataRhsPath, Known as DataRhsKnown}
use Rattle.c_types.specs.declared.program.DataRhs.TheVariants.{Choice as DataRhsChoice}
use Rattle.c_types.specs.declared.program.PtrOp.{PtrOp}
use Rattle.c_types.specs.declared.program.PtrOp.TheVariants.{Path as OpPath, Null as OpNull}
use Rattle.c_types.specs.declared.program.DataOp.{DataOp}
use Rattle.c_types.specs.declared.program.DataOp.TheVariants.{Path as DataOpPath, Known as DataOpKnown}
use Rattle.c_types.specs.declared.program.VarRef.{VarRef}
use Rattle.c_types.specs.declared.program.VarRef.TheVariants.{Ptr as PtrRef, Data as DataRef}
use Rattle.c_types.specs.declared.program.Arg.{Arg}
use Rattle.c_types.specs.declared.program.Arg.TheVariants.{Ptr as GivenPtr, Data as GivenData}
use Rattle.c_types.specs.declared.program.Dest.{Dest}
use Rattle.c_types.specs.declared.program.Dest.TheVariants.{Ptr as ToPtr, Data as ToData}
use Rattle.c_types.specs.Control.{with_result}
use Rattle.c_types.specs.Steps.{data_rhs_takes, below}
use Rattle.c_cfg.specs.declared.graph.Const.TheVariants.{Null as ConstNull, Known as ConstKnown}
use Rattle.c_cfg.specs.declared.graph.Instr.{Instr}
use Rattle.c_cfg.specs.declared.graph.Instr.TheVariants.{LoadPtr, StorePtr, StoreConst, Free, Kill, LoadData, StoreData}
use Rattle.c_cfg.specs.Graphs.{is_choose}
use Rattle.c_cfg.specs.Links.{Link, One, Two, failing, links_in, loads, holder, used, base_used}
use Rattle.c_cfg.specs.Links.{data_used, data_holder, loads_but_last, ends, data_loads, op_loads, data_op_loads}
use Rattle.c_cfg.specs.Links.{ptr_row}
use Rattle.c_cfg.specs.Links.{data_row, free_row, return_row, ptr_loads, cmp_loads}
use Rattle.c_cfg.specs.Links.{give_path, give_ptr, give_datum, give_links, given_used, give_each, each_used, enter_row}
use Rattle.c_cfg.specs.Links.{die, leave_row, hand_ptr, hand_datum, hand_links, dest_used, exit_row}

-- an edge that stays, and takes no choice
abbrev pub Plain : Instr → Type 0
Plain i = (failing i ≡ One i) × (is_choose i ≡ false)

-- each is one such edge
abbrev pub ArePlain : List Link → Type 0
ArePlain [] = Unit {0}
ArePlain (One i ∷ ls) = Plain i × ArePlain ls
ArePlain (Two i j ∷ ls) = ⊥

-- the first is two edges that take a choice, if one is taken, and the others are plain
abbrev pub PlainAs : Bool → List Link → Type 0
PlainAs false ls = ArePlain ls
PlainAs true [] = ⊥
PlainAs true (One i ∷ ls) = ⊥
PlainAs true (Two i j ∷ ls) = (is_choose i ≡ true) × (is_choose j ≡ true) × ArePlain ls

pub kept : (ls : List Link) → ArePlain ls → links_in MayFail ls ≡ ls
kept [] h = refl
kept (One i ∷ ls) h = ap (λ l. l ∷ links_in MayFail ls) h.0.0 ∙ ap (λ ms. One i ∷ ms) (kept ls h.1)
kept (Two i j ∷ ls) h = absurd h

pub kept_as : (takes : Bool) (ls : List Link) → PlainAs takes ls → links_in MayFail ls ≡ ls
kept_as false ls h = kept ls h
kept_as true [] h = absurd h
kept_as true (One i ∷ ls) h = absurd h
kept_as true (Two i j ∷ ls) h = ap (λ ms. Two i j ∷ ms) (kept ls h.2)

-- in either mode
pub stays : (mode : MallocMode) (takes : Bool) (ls : List Link) → PlainAs takes ls → links_in mode ls ≡ ls
stays Always takes ls h = refl
stays MayFail takes ls h = kept_as takes ls h

pub length_in : (mode : MallocMode) (ls : List Link) → length (links_in mode ls) ≡ length ls
length_in Always ls = refl
length_in MayFail [] = refl
length_in MayFail (l ∷ ls) = ap suc (length_in MayFail ls)

pub both_plain : (ls ms : List Link) → ArePlain ls → ArePlain ms → ArePlain (ls ++ ms)
both_plain [] ms h k = k
both_plain (One i ∷ ls) ms h k = (h.0, both_plain ls ms h.1 k)
both_plain (Two i j ∷ ls) ms h k = absurd h

-- Paths

loads_plain : (t b : ℕ) (fs : List ℕ) → ArePlain (loads t b fs)
loads_plain t b [] = tt
loads_plain t b (f ∷ fs) = ((refl, refl), loads_plain t t fs)

last_plain : (t b f : ℕ) (fs : List ℕ) (last : ℕ → ℕ → Instr) → ((c g : ℕ) → Plain (last c g))
    → ArePlain (loads_but_last t b f fs last)
last_plain t b f [] last h = (h b f, tt)
last_plain t b f (g ∷ gs) last h = ((refl, refl), last_plain t t g gs last h)

pub ends_plain : (ps ds : List ℕ) → ArePlain (ends ps ds)
ends_plain [] [] = tt
ends_plain [] (d ∷ ds) = ((refl, refl), tt)
ends_plain (p ∷ ps) ds = ((refl, refl), tt)

data_plain : (t d : ℕ) (q : DataPath) → ArePlain (data_loads t d q)
data_plain t d (DataVar x) = tt
data_plain t d (DataField base f) =
    both_plain (loads t base.var base.fields) (One (LoadData d (holder t base.var base.fields) f) ∷ [])
    (loads_plain t base.var base.fields) ((refl, refl), tt)

-- the arrows of a target, and the Kill
pub target_plain : (t x f : ℕ) (fs : List ℕ) (last : ℕ → ℕ → Instr) (killed : List ℕ)
    → ((c g : ℕ) → Plain (last c g))
    → ArePlain (loads_but_last t x f fs last ++ ends killed [])
target_plain t x f fs last killed h =
    both_plain (loads_but_last t x f fs last) (ends killed []) (last_plain t x f fs last h) (ends_plain killed [])

-- Operands

op_plain : (t : ℕ) (q : PtrOp) → ArePlain (op_loads t q)
op_plain t (OpPath q) = loads_plain t q.var q.fields
op_plain t OpNull = tt

data_op_plain : (t d : ℕ) (q : DataOp) → ArePlain (data_op_loads t d q)
data_op_plain t d (DataOpPath q) = data_plain t d q
data_op_plain t d (DataOpKnown k) = tt

then_ends : (ls : List Link) (i : Instr) (ps ds : List ℕ) → ArePlain ls → Plain i
    → ArePlain (ls ++ One i ∷ ends ps ds)
then_ends ls i ps ds h e = both_plain ls (One i ∷ ends ps ds) h (e, ends_plain ps ds)

module _ (nv nd : ℕ) where
  pub ptr_plain : (l r : PtrOp) → ArePlain (ptr_loads nv nd l r)
  ptr_plain l r = both_plain (op_loads nv l) (op_loads (nv + 1) r) (op_plain nv l) (op_plain (nv + 1) r)

  pub cmp_plain : (l r : DataOp) → ArePlain (cmp_loads nv nd l r)
  cmp_plain l r = both_plain (data_op_loads nv nd l) (data_op_loads (nv + 1) (nd + 1) r) (data_op_plain nv nd l)
      (data_op_plain (nv + 1) (nd + 1) r)

  -- Acts

  pub copied_plain : (x : ℕ) (fs : List ℕ) (q : Path) → ArePlain (ptr_row nv nd x fs (RhsPath q))
  copied_plain x [] q = here q.fields
    where
      here : (fs : List ℕ) → ArePlain (ptr_row nv nd x [] (RhsPath (record { var = q.var; fields = fs })))
      here [] = ((refl, refl), tt)
      here (f ∷ fs) = target_plain nv q.var f fs (λ b g. LoadPtr x b g) (used nv fs) (λ c g. (refl, refl))
  copied_plain x (f ∷ fs) q =
      let last : ℕ → ℕ → Instr = λ b g. StorePtr b g (holder nv q.var q.fields) in
      let killed : List ℕ = used nv q.fields ++ used (nv + 1) fs in
      both_plain (loads nv q.var q.fields) (loads_but_last (nv + 1) x f fs last ++ ends killed [])
      (loads_plain nv q.var q.fields) (target_plain (nv + 1) x f fs last killed (λ c g. (refl, refl)))

  pub nulled_plain : (x : ℕ) (fs : List ℕ) → ArePlain (ptr_row nv nd x fs RhsNull)
  nulled_plain x [] = ((refl, refl), tt)
  nulled_plain x (f ∷ fs) =
      target_plain (nv + 1) x f fs (λ b g. StoreConst b g ConstNull) (used (nv + 1) fs) (λ c g. (refl, refl))

  -- what comes after the New
  pub made_plain : (x f : ℕ) (fs : List ℕ)
      → ArePlain (loads_but_last (nv + 1) x f fs (λ b g. StorePtr b g nv) ++ ends (nv ∷ used (nv + 1) fs) [])
  made_plain x f fs =
      target_plain (nv + 1) x f fs (λ b g. StorePtr b g nv) (nv ∷ used (nv + 1) fs) (λ c g. (refl, refl))

  pub set_data_plain : (to : DataPath) (from : DataRhs) → PlainAs (data_rhs_takes from) (data_row nv nd to from)
  set_data_plain (DataVar x) (DataRhsPath (DataVar y)) = ((refl, refl), tt)
  set_data_plain (DataVar x) (DataRhsPath (DataField base f)) =
      both_plain (data_loads nv x (DataField base f)) (ends (used nv base.fields) [])
      (data_plain nv x (DataField base f)) (ends_plain (used nv base.fields) [])
  set_data_plain (DataVar x) (DataRhsKnown k) = ((refl, refl), tt)
  set_data_plain (DataVar x) DataRhsChoice = (refl, refl, tt)
  set_data_plain (DataField base f) (DataRhsPath q) =
      let ls : List Link = loads (nv + 1) base.var base.fields in
      let i : Instr = StoreData (holder (nv + 1) base.var base.fields) f (data_holder nd q) in
      let killed : List ℕ = base_used nv q ++ used (nv + 1) base.fields in
      both_plain (data_loads nv nd q) (ls ++ One i ∷ ends killed (data_used nd q)) (data_plain nv nd q)
      (then_ends ls i killed (data_used nd q) (loads_plain (nv + 1) base.var base.fields) (refl, refl))
  set_data_plain (DataField base f) (DataRhsKnown k) =
      then_ends (loads (nv + 1) base.var base.fields)
      (StoreConst (holder (nv + 1) base.var base.fields) f (ConstKnown k)) (used (nv + 1) base.fields) []
      (loads_plain (nv + 1) base.var base.fields) (refl, refl)
  set_data_plain (DataField base f) DataRhsChoice = (
    refl,
    refl,
    then_ends (loads (nv + 1) base.var base.fields) (StoreData (holder (nv + 1) base.var base.fields) f nd)
        (used (nv + 1) base.fields) (nd ∷ []) (loads_plain (nv + 1) base.var base.fields) (refl, refl),
  )

  pub freed_plain : (q : Path) → ArePlain (free_row nv nd q)
  freed_plain q = then_ends (loads nv q.var q.fields) (Free (holder nv q.var q.fields)) (used nv q.fields) []
      (loads_plain nv q.var q.fields) (refl, refl)

  pub returned_plain : (operand : Option DataPath) → ArePlain (return_row nv nd operand)
  returned_plain None = ((refl, refl), tt)
  returned_plain (Some q) =
      both_plain (data_loads nv nd q) (One (Kill (below (nv + 2)) (below (nd + 2))) ∷ []) (data_plain nv nd q)
      ((refl, refl), tt)

  -- Calls

  path_given : (x b : ℕ) (fs : List ℕ) → ArePlain (give_path nv nd x b fs)
  path_given x b [] = ((refl, refl), tt)
  path_given x b (f ∷ fs) = last_plain nv b f fs (λ c g. LoadPtr x c g) (λ c g. (refl, refl))

  ptr_given : (x : ℕ) (q : PtrOp) → ArePlain (give_ptr nv nd x q)
  ptr_given x (OpPath q) = path_given x q.var q.fields
  ptr_given x OpNull = ((refl, refl), tt)

  datum_given : (x : ℕ) (q : DataOp) → ArePlain (give_datum nv nd x q)
  datum_given x (DataOpPath (DataVar y)) = ((refl, refl), tt)
  datum_given x (DataOpPath (DataField base f)) = data_plain nv x (DataField base f)
  datum_given x (DataOpKnown k) = ((refl, refl), tt)

  given : (v : VarRef) (a : Arg) → ArePlain (give_links nv nd v a)
  given (PtrRef x) (GivenPtr q) = ptr_given x q
  given (PtrRef x) (GivenData q) = ((refl, refl), tt)
  given (DataRef x) (GivenPtr q) = ((refl, refl), tt)
  given (DataRef x) (GivenData q) = datum_given x q

  each_given : (vs : List VarRef) (ws : List Arg) → ArePlain (give_each nv nd vs ws)
  each_given [] ws = tt
  each_given (v ∷ vs) [] = tt
  each_given (v ∷ vs) (a ∷ ws) =
      both_plain (give_links nv nd v a) (give_each nv nd vs ws) (given v a) (each_given vs ws)

  pub enter_plain : (vs : List VarRef) (ws : List Arg) → ArePlain (enter_row nv nd vs ws)
  enter_plain [] ws = ((refl, refl), tt)
  enter_plain (v ∷ vs) [] = ((refl, refl), tt)
  enter_plain (v ∷ vs) (a ∷ ws) =
      both_plain (give_each nv nd (v ∷ vs) (a ∷ ws)) (ends (each_used nv nd (a ∷ ws)) [])
      (each_given (v ∷ vs) (a ∷ ws)) (ends_plain (each_used nv nd (a ∷ ws)) [])

  pub leave_plain : (v : Option VarRef) (vs : List VarRef) (a : Option Arg) → ArePlain (leave_row nv nd v vs a)
  leave_plain None vs a = ((refl, refl), tt)
  leave_plain (Some v) vs None = ((refl, refl), tt)
  leave_plain (Some v) vs (Some a) =
      both_plain (give_links nv nd v a) (die nv nd vs (given_used nv nd a) ∷ []) (given v a) ((refl, refl), tt)

  ptr_handed : (x y : ℕ) (fs : List ℕ) → ArePlain (hand_ptr nv nd x y fs)
  ptr_handed x y [] = ((refl, refl), tt)
  ptr_handed x y (f ∷ fs) = last_plain (nv + 1) y f fs (λ b g. StorePtr b g x) (λ c g. (refl, refl))

  datum_handed : (x : ℕ) (q : DataPath) → ArePlain (hand_datum nv nd x q)
  datum_handed x (DataVar y) = ((refl, refl), tt)
  datum_handed x (DataField base f) =
      both_plain (loads (nv + 1) base.var base.fields)
      (One (StoreData (holder (nv + 1) base.var base.fields) f x) ∷ []) (loads_plain (nv + 1) base.var base.fields)
      ((refl, refl), tt)

  handed : (v : VarRef) (d : Dest) → ArePlain (hand_links nv nd v d)
  handed (PtrRef x) (ToPtr q) = ptr_handed x q.var q.fields
  handed (PtrRef x) (ToData q) = tt
  handed (DataRef x) (ToPtr q) = tt
  handed (DataRef x) (ToData q) = datum_handed x q

  pub exit_plain : (v : Option VarRef) (vs : List VarRef) (d : Option Dest) → ArePlain (exit_row nv nd v vs d)
  exit_plain None vs d = ((refl, refl), tt)
  exit_plain (Some v) vs None = ((refl, refl), tt)
  exit_plain (Some v) vs (Some d) =
      both_plain (hand_links nv nd v d) (die nv nd (with_result (Some v) vs) (dest_used nv nd d) ∷ []) (handed v d)
      ((refl, refl), tt)
