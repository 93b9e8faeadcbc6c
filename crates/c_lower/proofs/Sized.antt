-- How many edges acts and tests have, by the lengths of their paths, and that each step of a call has as many
-- locations as links.
use Rattle.std.proofs.Common.{◌≡◌, ℕ, zero, suc, ◌+◌, ◌<◌, List, [], ◌∷◌, ◌++◌, length, refl, sym, ap, ◌∙◌, arith}
use Rattle.std.proofs.Common.{Option, Some, None, slice_get}
use Rattle.std.specs.Prelude.{pred}
use Rattle.std.proofs.lemmas.List.{length-append}
use Rattle.c_types.specs.declared.program.Path.{Path}
use Rattle.c_types.specs.declared.program.DataPath.{DataPath}
use Rattle.c_types.specs.declared.program.DataPath.TheVariants.{Var as DataVar, Field as DataField}
use Rattle.c_types.specs.declared.program.PtrRhs.{PtrRhs}
use Rattle.c_types.specs.declared.program.PtrRhs.TheVariants.{Path as RhsPath, Null as RhsNull, New as RhsNew}
use Rattle.c_types.specs.declared.program.DataRhs.{DataRhs}
use Rattle.c_types.specs.declared.program.DataRhs.TheVariants.{Path as DataRhsPath, Known as DataRhsKnown}
use Rattle.c_types.specs.declared.program.DataRhs.TheVariants.{Choice as DataRhsChoice}
use Rattle.c_types.specs.declared.program.Act.{Act}
use Rattle.c_types.specs.declared.program.Act.TheVariants.{SetPtr, SetData, Free as FreeAct, Return}
use Rattle.c_types.specs.declared.program.Act.TheVariants.{Leave as LeaveAct}
use Rattle.c_types.specs.declared.program.PtrOp.{PtrOp}
use Rattle.c_types.specs.declared.program.PtrOp.TheVariants.{Path as OpPath, Null as OpNull}
use Rattle.c_types.specs.declared.program.DataOp.{DataOp}
use Rattle.c_types.specs.declared.program.DataOp.TheVariants.{Path as DataOpPath, Known as DataOpKnown}
use Rattle.c_types.specs.declared.program.Atom.{Atom}
use Rattle.c_types.specs.declared.program.Atom.TheVariants.{Choice as ChoiceAtom, Known as KnownAtom, Ptr as PtrAtom}
use Rattle.c_types.specs.declared.program.Atom.TheVariants.{Data as DataAtom}
use Rattle.c_types.specs.declared.program.VarRef.{VarRef}
use Rattle.c_types.specs.declared.program.Arg.{Arg}
use Rattle.c_types.specs.declared.program.Dest.{Dest}
use Rattle.c_types.specs.declared.program.Func.{Func}
use Rattle.c_types.specs.Control.{Done, Do, leave_items, act_items}
use Rattle.c_cfg.specs.declared.graph.Instr.{Instr}
use Rattle.c_cfg.specs.declared.graph.Instr.TheVariants.{LoadPtr, StorePtr, StoreConst, Free, Kill, StoreData}
use Rattle.c_cfg.specs.declared.graph.Const.TheVariants.{Null as ConstNull, Known as ConstKnown}
use Rattle.c_types.specs.Steps.{below}
use Rattle.c_cfg.specs.declared.link.Link.{Link}
use Rattle.c_cfg.specs.declared.link.Link.TheVariants.{One}
use Rattle.c_cfg.specs.Links.{loads, holder, used, loads_but_last, ends, data_loads, op_loads, op_used}
use Rattle.c_cfg.specs.Links.{data_op_loads, op_base_used, op_data_used, var_row, path_row, ptr_row, data_var_row}
use Rattle.c_cfg.specs.Links.{data_field_row, data_row, return_row, act_row, enter_row, leave_row, exit_row}
use Rattle.c_lower.specs.inner.Numbering.{width, atom_width, enter_width, exit_width}
use Rattle.c_cfg.proofs.Filling.{Filled, act_filled, enter_filled, leave_filled, exit_filled}
use Rattle.c_lower.specs.inner.Sizes.{end_size, path_size, var_size, field_size, ptr_size, read_size, data_var_size}
use Rattle.c_lower.specs.inner.Sizes.{data_field_size, data_size, return_size, leave_size, act_size, op_size}
use Rattle.c_lower.specs.inner.Sizes.{data_op_size}
use Rattle.c_lower.specs.inner.Sizes.{atom_size}

-- Parts

loads_long : (t b : ℕ) (fs : List ℕ) → length (loads t b fs) ≡ length fs
loads_long t b [] = refl
loads_long t b (f ∷ fs) = ap suc (loads_long t t fs)

last_long : (t b f : ℕ) (fs : List ℕ) (last : ℕ → ℕ → Instr) → length (loads_but_last t b f fs last) ≡ length fs + 1
last_long t b f [] last = omega arith
last_long t b f (g ∷ gs) last = let e = last_long t t g gs last in omega (arith, e)

end_used : (n : ℕ) → 0 < n → end_size n ≡ 1
end_used zero h = absurd (omega (arith, h))
end_used (suc n) h = refl

end_some : (n m : ℕ) → end_size (n + 1 + m) ≡ 1
end_some n m = end_used (n + 1 + m) (omega arith)

-- the end of reads of one path, of two paths, and where a temporary is used in any case
one_end : (t : ℕ) (fs : List ℕ) → length (ends (used t fs) []) ≡ end_size (length fs)
one_end t [] = refl
one_end t (f ∷ fs) = refl

both_ends : (t u : ℕ) (fs gs : List ℕ) → length (ends (used t fs ++ used u gs) []) ≡ end_size (length fs + length gs)
both_ends t u [] [] = refl
both_ends t u [] (g ∷ gs) = sym (end_used (0 + length (g ∷ gs)) (omega arith))
both_ends t u (f ∷ fs) gs = sym (end_used (length (f ∷ fs) + length gs) (omega arith))

some_end : (ps : List ℕ) (d : ℕ) (ds : List ℕ) → length (ends ps (d ∷ ds)) ≡ 1
some_end [] d ds = refl
some_end (p ∷ ps) d ds = refl

data_long : (t d : ℕ) (q : DataPath) → length (data_loads t d q) ≡ read_size q
data_long t d (DataVar x) = refl
data_long t d (DataField base f) = length-append (loads t base.var base.fields) _
    ∙ ap (λ n. n + 1) (loads_long t base.var base.fields)

-- reads but the last of a path, and an end, with what stands before
but_last_step : (n : ℕ) (t b f : ℕ) (fs : List ℕ) (last : ℕ → ℕ → Instr) (es : List Link) (m : ℕ) → length es ≡ m
    → n + length (loads_but_last t b f fs last ++ es) ≡ n + length fs + 1 + m
but_last_step n t b f fs last es m h = let e = length-append (loads_but_last t b f fs last) es in
    let l = last_long t b f fs last in omega (arith, e, l, h)

module _ (nv nd : ℕ) where
  -- Assignments to pointers

  var_long : (x : ℕ) (from : PtrRhs) → length (var_row nv nd x from) ≡ var_size from
  var_long x (RhsPath q) = by_fields q.fields
    where
      by_fields : (fs : List ℕ) → length (var_row nv nd x (RhsPath (record { var = q.var; fields = fs })))
          ≡ path_size fs
      by_fields [] = refl
      by_fields (f ∷ fs) =
          let e = but_last_step 0 nv q.var f fs (λ c g. LoadPtr x c g) (ends (used nv fs) []) (end_size (length fs))
          (one_end nv fs) in omega (arith, e)
  var_long x RhsNull = refl
  var_long x (RhsNew shape) = refl

  field_long : (x f : ℕ) (fs : List ℕ) (from : PtrRhs) → length (path_row nv nd x f fs from)
      ≡ field_size (length fs) from
  field_long x f fs (RhsPath q) =
      let e = length-append (loads nv q.var q.fields)
      (loads_but_last (nv + 1) x f fs (λ c g. StorePtr c g (holder nv q.var q.fields))
      ++ ends (used nv q.fields ++ used (nv + 1) fs) []) in
      let l = loads_long nv q.var q.fields in
      let r = but_last_step 0 (nv + 1) x f fs (λ c g. StorePtr c g (holder nv q.var q.fields))
      (ends (used nv q.fields ++ used (nv + 1) fs) []) (end_size (length q.fields + length fs))
      (both_ends nv (nv + 1) q.fields fs) in
      omega (arith, e, l, r)
  field_long x f fs RhsNull =
      let e = but_last_step 0 (nv + 1) x f fs (λ c g. StoreConst c g ConstNull) (ends (used (nv + 1) fs) [])
      (end_size (length fs)) (one_end (nv + 1) fs) in omega (arith, e)
  field_long x f fs (RhsNew shape) =
      let e = but_last_step 1 (nv + 1) x f fs (λ c g. StorePtr c g nv) (ends (nv ∷ used (nv + 1) fs) []) 1 refl in
      omega (arith, e)

  ptr_long : (x : ℕ) (fs : List ℕ) (from : PtrRhs) → length (ptr_row nv nd x fs from) ≡ ptr_size fs from
  ptr_long x [] from = var_long x from
  ptr_long x (f ∷ fs) from = field_long x f fs from

  -- Assignments to data

  data_var_long : (x : ℕ) (from : DataRhs) → length (data_var_row nv nd x from) ≡ data_var_size from
  data_var_long x (DataRhsPath (DataField base f)) =
      let e = length-append (data_loads nv x (DataField base f)) (ends (used nv base.fields) []) in let l =
      data_long nv x (DataField base f) in let u = one_end nv base.fields in omega (arith, e, l, u)
  data_var_long x _ = refl

  -- the reads of the left base, the store, and the end
  store_long : (base : Path) (i : Instr) (es : List Link) (m : ℕ) → length es ≡ m
      → length (loads (nv + 1) base.var base.fields ++ One i ∷ es) ≡ length base.fields + 1 + m
  store_long base i es m h = let e = length-append (loads (nv + 1) base.var base.fields) (One i ∷ es) in
      let l = loads_long (nv + 1) base.var base.fields in omega (arith, e, l, h)

  data_field_long : (base : Path) (f : ℕ) (from : DataRhs) → length (data_field_row nv nd base f from)
      ≡ data_field_size (length base.fields) from
  data_field_long base f (DataRhsPath (DataVar y)) =
      let e = store_long base (StoreData (holder (nv + 1) base.var base.fields) f y)
      (ends (used (nv + 1) base.fields) []) (end_size (length base.fields)) (one_end (nv + 1) base.fields) in
      let k : 0 + length base.fields ≡ length base.fields = omega arith in let z : end_size (0 + length base.fields)
      ≡ end_size (length base.fields) = ap end_size k in omega (arith, e, z)
  data_field_long base f (DataRhsPath (DataField b g)) =
      let i = StoreData (holder (nv + 1) base.var base.fields) f nd in
      let es = ends (used nv b.fields ++ used (nv + 1) base.fields) (nd ∷ []) in
      let e = length-append (data_loads nv nd (DataField b g)) (loads (nv + 1) base.var base.fields ++ One i ∷ es) in
      let l = data_long nv nd (DataField b g) in
      let r = store_long base i es 1 (some_end (used nv b.fields ++ used (nv + 1) base.fields) nd []) in
      let u : end_size (length b.fields + 1 + length base.fields) ≡ 1 =
      end_some (length b.fields) (length base.fields) in
      omega (arith, e, l, r, u)
  data_field_long base f (DataRhsKnown k) =
      let e = store_long base (StoreConst (holder (nv + 1) base.var base.fields) f (ConstKnown k))
      (ends (used (nv + 1) base.fields) []) (end_size (length base.fields)) (one_end (nv + 1) base.fields) in
      omega (arith, e)
  data_field_long base f DataRhsChoice =
      let e = store_long base (StoreData (holder (nv + 1) base.var base.fields) f nd)
      (ends (used (nv + 1) base.fields) (nd ∷ [])) 1 (some_end (used (nv + 1) base.fields) nd []) in omega (arith, e)

  data_set_long : (to : DataPath) (from : DataRhs) → length (data_row nv nd to from) ≡ data_size to from
  data_set_long (DataVar x) from = data_var_long x from
  data_set_long (DataField base f) from = data_field_long base f from

  -- Acts

  return_long : (operand : Option DataPath) → length (return_row nv nd operand) ≡ return_size operand
  return_long None = refl
  return_long (Some q) =
      let e = length-append (data_loads nv nd q) (One (Kill (below (nv + 2)) (below (nd + 2))) ∷ []) in
      let l = data_long nv nd q in omega (arith, e, l)

  full : (ls : List Link) → Filled ls → suc (pred (length ls)) ≡ length ls
  full [] h = absurd h
  full (l ∷ ls) h = refl

  -- an act that is an item as it stands
  alone : (a : Act) (n : ℕ) → length (act_row nv nd a Done) ≡ n → width nv nd (Do a 0 Done) ≡ n
  alone a n e = let f = full (act_row nv nd a Done) (act_filled nv nd a Done) in omega (arith, f, e)

  module _ (funcs : List Func) where
    leave_long : (g : Option Func) (f : ℕ) (value : Option Arg) → width nv nd (leave_items g f value 0 Done)
        ≡ leave_size nv nd funcs g value
    leave_long None f value = refl
    leave_long (Some g) f value =
        let e = full (leave_row nv nd g.result g.locals value) (leave_filled nv nd g.result g.locals value) in
        omega (arith, e)

    pub act-sized : (a : Act) → width nv nd (act_items funcs a 0 Done) ≡ act_size nv nd funcs a
    act-sized (SetPtr to from) = alone (SetPtr to from) _ (ptr_long to.var to.fields from)
    act-sized (SetData to from) = alone (SetData to from) _ (data_set_long to from)
    act-sized (FreeAct q) =
        let e = length-append (loads nv q.var q.fields)
        (One (Free (holder nv q.var q.fields)) ∷ ends (used nv q.fields) []) in let l = loads_long nv q.var q.fields in
        let u = one_end nv q.fields in alone (FreeAct q) _ (omega (arith, e, l, u))
    act-sized (LeaveAct f value) = leave_long (slice_get funcs f) f value
    act-sized (Return operand) = alone (Return operand) _ (return_long operand)
    act-sized _ = refl

  -- Calls

  pub enter-sized : (vs : List VarRef) (ws : List Arg) → enter_width nv nd vs ws ≡ length (enter_row nv nd vs ws)
  enter-sized vs ws = full (enter_row nv nd vs ws) (enter_filled nv nd vs ws)

  pub exit-sized : (v : Option VarRef) (vs : List VarRef) (d : Option Dest) → exit_width nv nd v vs d
      ≡ length (exit_row nv nd v vs d)
  exit-sized v vs d = full (exit_row nv nd v vs d) (exit_filled nv nd v vs d)

  -- Tests

  op_long : (t : ℕ) (o : PtrOp) → length (op_loads t o) ≡ op_size o
  op_long t (OpPath q) = loads_long t q.var q.fields
  op_long t OpNull = refl

  data_op_long : (t d : ℕ) (o : DataOp) → length (data_op_loads t d o) ≡ data_op_size o
  data_op_long t d (DataOpPath q) = data_long t d q
  data_op_long t d (DataOpKnown k) = refl

  -- the temporaries that an operand uses are as many as none where it has no reads, and one where it has
  ptr_end : (l r : PtrOp) → length (ends (op_used nv l ++ op_used (nv + 1) r) []) ≡ end_size (op_size l + op_size r)
  ptr_end (OpPath q) (OpPath r) = both_ends nv (nv + 1) q.fields r.fields
  ptr_end (OpPath q) OpNull = both_ends nv (nv + 1) q.fields []
  ptr_end OpNull (OpPath r) = both_ends nv (nv + 1) [] r.fields
  ptr_end OpNull OpNull = refl

  end_last : (n m : ℕ) → end_size (m + (n + 1)) ≡ 1
  end_last n m = end_used (m + (n + 1)) (omega arith)

  data_end : (l r : DataOp)
      → length (ends (op_base_used nv l ++ op_base_used (nv + 1) r) (op_data_used nd l ++ op_data_used (nd + 1) r))
      ≡ end_size (data_op_size l + data_op_size r)
  data_end (DataOpPath (DataField b f)) r =
      some_end (op_base_used nv (DataOpPath (DataField b f)) ++ op_base_used (nv + 1) r) nd (op_data_used (nd + 1) r)
      ∙ sym (end_some (length b.fields) (data_op_size r))
  data_end (DataOpPath (DataVar x)) (DataOpPath (DataField b f)) = some_end (used (nv + 1) b.fields) (nd + 1) []
      ∙ sym (end_last (length b.fields) 0)
  data_end (DataOpKnown k) (DataOpPath (DataField b f)) = some_end (used (nv + 1) b.fields) (nd + 1) []
      ∙ sym (end_last (length b.fields) 0)
  data_end _ _ = refl

  pub atom-sized : (a : Atom) → atom_width nv nd a ≡ atom_size a
  atom-sized ChoiceAtom = refl
  atom-sized (KnownAtom b) = refl
  atom-sized (PtrAtom l r e) =
      let loads_are = length-append (op_loads nv l) (op_loads (nv + 1) r) in let left = op_long nv l in let right =
      op_long (nv + 1) r in let end = ptr_end l r in
      omega (arith, loads_are, left, right, end)
  atom-sized (DataAtom l r e) =
      let loads_are = length-append (data_op_loads nv nd l) (data_op_loads (nv + 1) (nd + 1) r) in let left =
      data_op_long nv nd l in let right = data_op_long (nv + 1) (nd + 1) r in let end = data_end l r in
      omega (arith, loads_are, left, right, end)

pub ruleset sizes = (act-sized, atom-sized, enter-sized, exit-sized)
