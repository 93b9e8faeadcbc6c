-- The edges of assignments to pointers, and of `free`, do what the step does.
use Rattle.std.proofs.Common.{◌≡◌, ◌<◌, ◌+◌, ℕ, zero, suc, true, false, if◌then◌else◌, Option}
use Rattle.std.proofs.Common.{is_some, Ok}
use Rattle.std.proofs.Common.{List, [], ◌∷◌, ◌++◌, length, length-set, map, append-nil, refl, sym, ap, ◌∙◌, subst}
use Rattle.std.proofs.lemmas.List.{length-map}
use Rattle.fore_base.specs.declared.fault.Fault.TheVariants.{Leak}
use Rattle.fore_base.specs.declared.store.Value.{Value}
use Rattle.fore_base.specs.declared.store.Value.TheVariants.{Null, Uninit, Dangling, Cell}
use Rattle.fore_base.specs.declared.store.Datum.{Datum}
use Rattle.fore_base.specs.declared.store.Datum.TheVariants.{Undefined}
use Rattle.fore_base.specs.declared.store.Store.{Store}
use Rattle.fore_base.specs.Stores.{onward, var_of, set_var, load, store_at, walk, write_from, with_field, dangle}
use Rattle.fore_base.specs.Stores.{without, freed, grown}
use Rattle.fore_base.specs.Heap.{leaks}
use Rattle.fore_base.specs.Shapes.{targets_of}
use Rattle.c_types.specs.declared.mode.MallocMode.{MallocMode}
use Rattle.c_types.specs.declared.mode.MallocMode.TheVariants.{Always, MayFail}
use Rattle.c_types.specs.declared.program.Path.{Path}
use Rattle.c_types.specs.Program.{Program, path_target, rhs_typed, is_typed}
use Rattle.c_types.specs.Fits.{PointsTo}
use Rattle.c_types.specs.Steps.{read, write_path, blank, makes_cell, assign_new, assign, free_path}
use Rattle.c_types.specs.declared.program.PtrRhs.{PtrRhs}
use Rattle.c_types.proofs.WellTyped.{has_shapes_typed, has_vars_typed}
use Rattle.c_types.specs.declared.program.PtrRhs.TheVariants.{Path as RhsPath, Null as RhsNull, New as RhsNew}
use Rattle.c_types.proofs.CellsFit.{IsAt}
use Rattle.c_types.proofs.Fitting.{PathLeads, path_leads, path_below, Sound, grown_sound, grown_points}
use Rattle.c_types.proofs.StepLaws.{target_is, some_target, agreed}
use Rattle.c_cfg.specs.declared.graph.PtrArg.TheVariants.{Var as PtrVar, Null as PtrNull}
use Rattle.c_cfg.specs.declared.graph.Const.TheVariants.{Null as ConstNull}
use Rattle.c_cfg.specs.declared.graph.Instr.{Instr}
use Rattle.c_cfg.specs.declared.graph.Instr.TheVariants.{CopyPtr, LoadPtr, StorePtr, StoreConst, New, Free}
use Rattle.c_cfg.specs.Edges.{Pass, Passed, Faulted, onto, raw_step, leak_tested}
use Rattle.c_cfg.specs.Links.{Link, One, links_in, loads, holder, used, loads_but_last, ends, ptr_row, free_row}
use Rattle.c_cfg.proofs.PlainLinks.{kept, stays, copied_plain, nulled_plain, made_plain}
use Rattle.c_cfg.proofs.Agree.Temporaries.{ext, ext0, Sized, var_ext, set_ext, p0_holds, p0_set}
use Rattle.c_cfg.proofs.Agree.TempLeaks.{hidden, fresh}
use Rattle.c_cfg.proofs.Agree.Passing.{then_pass, links_pass, settled_pass, done_pass, onto_same, onto_onward}
use Rattle.c_cfg.proofs.Agree.Passing.{onward_onward, one_link, clearing, finishing}
use Rattle.c_cfg.proofs.Agree.Arrows.{before_last, last_of, loads_are, used_before, walk_before, write_before}
use Rattle.c_cfg.proofs.Agree.Arrows.{LastLeads, last_leads}
use Rattle.c_cfg.proofs.Agree.OneEdges.{load_raw, store_raw, store_null_raw}
use Rattle.c_cfg.proofs.Agree.Reading.{path_less, sound_sized, Slot, first_slot, second_slot, held, read_points}
use Rattle.c_cfg.proofs.Agree.Reading.{path_then, path_held}
use Rattle.c_cfg.proofs.Agree.Dying.{IsCleared, all_cleared, held_cleared}

pub set_sized : (nv nd : ℕ) (s : Store) (x : ℕ) (v : Value) → Sized nv nd s → Sized nv nd (set_var s x v)
set_sized nv nd s x v z = record { ptrs = length-set s.vars x v ∙ z.ptrs; datums = z.datums }

stored_sized : (nv nd : ℕ) (s t : Store) (w : Value) (f : ℕ) (v : Value) → Sized nv nd s → store_at s w f v ≡ Ok t
    → Sized nv nd t
stored_sized nv nd s t (Cell n) f v z e = let same : record s { cells = with_field s.cells n f v } ≡ t = cc in
    subst (Sized nv nd) same (record { ptrs = z.ptrs; datums = z.datums })
stored_sized nv nd s t _ f v z e = cc

pub append_on : {A : Type 0} (xs : List A) (y : A) (zs : List A) → (xs ++ y ∷ []) ++ zs ≡ xs ++ y ∷ zs
append_on [] y zs = refl
append_on (x ∷ xs) y zs = ap (λ ys. x ∷ ys) (append_on xs y zs)

module _ (p : Program) (choice : ℕ) where
  abbrev nv : ℕ
  nv = length p.vars

  abbrev nd : ℕ
  nd = length p.data_vars

  abbrev pass : List Link → Store → Pass
  pass ls g = links_pass p.shapes.structs choice ls g

  -- a `malloc` that gives the null pointer: this is the first edge, and the others are those of a new cell
  abbrev null_row : ℕ → List ℕ → List Link
  null_row x [] = One (CopyPtr x PtrNull) ∷ []
  null_row x (f ∷ fs) = One (CopyPtr nv PtrNull) ∷ (loads_but_last (nv + 1) x f fs (λ b g. StorePtr b g nv)
      ++ ends (nv ∷ used (nv + 1) fs) [])

  module _ (t : Store) (sound : Sound p t) (a : Value)
      (clear : (y : Value) (e : Datum) → leaks (ext t a y Undefined e) ≡ false) where
    sized : Sized nv nd t
    sized = sound_sized p t sound

    slot1 : Slot nv nd t (nv + 1) (nd + 1) (λ v e. ext t a v Undefined e)
    slot1 = second_slot nv nd t sized a Undefined clear

    -- a target with arrows, from the value on; p0 may be in use
    pub path_writes : (x f : ℕ) (fs : List ℕ) (u : ℕ) → PathLeads p (record { var = x; fields = f ∷ fs }) u
        → (last : ℕ → ℕ → Instr) (v : Value)
        → ((b k : ℕ) (y w : Value) → var_of (ext t a y Undefined Undefined) b ≡ w → PointsTo t.cells k w
        → IsAt (targets_of p.shapes.structs k) (last_of f fs) u
        → raw_step p.shapes.structs (last b (last_of f fs)) 0 (ext t a y Undefined Undefined)
        ≡ onto (store_at t w (last_of f fs) v) (λ z. Passed (ext z a y Undefined Undefined)))
        → (ps killed : List ℕ) → killed ≡ ps ++ used (nv + 1) fs → IsCleared nv Uninit ps a
        → pass (loads_but_last (nv + 1) x f fs last ++ ends killed []) (ext t a Uninit Undefined Undefined)
        ≡ done_pass (write_from t (var_of t x) f fs v)
    path_writes x f fs u path last v is_last ps killed parts cleared =
        let bs : List ℕ = before_last f fs in
        let l : ℕ = last_of f fs in
        let g : Store = ext t a Uninit Undefined Undefined in
        let on : LastLeads p.shapes.structs path.first f fs u =
        last_leads p.shapes.structs path.first f fs u path.leads_on in
        let q : Path = record { var = x; fields = before_last f fs } in
        let before : PathLeads p (record { var = x; fields = before_last f fs }) on.struct =
        record { first = path.first; is_var = path.is_var; leads_on = on.before } in
        let put : Value → Datum → Store = λ v e. ext t a v Undefined e in
        let h : ℕ = holder (nv + 1) x (before_last f fs) in
        ap (λ ls. pass (ls ++ ends killed []) g) (loads_are (nv + 1) x f fs last)
        ∙ ap (λ ls. pass ls g) (append_on (loads (nv + 1) x bs) (One (last h l)) (ends killed []))
        ∙ path_then p t sound choice (nv + 1) (nd + 1) put slot1 Undefined q on.struct before
        (One (last h l) ∷ ends killed [])
        ∙ onto_same (walk t (var_of t x) bs)
        (λ w. pass (One (last h l) ∷ ends killed []) (ext t a (held bs w) Undefined Undefined))
        (λ w. done_pass (store_at t w l v))
        (λ w got.
        ap (λ z. then_pass (leak_tested z) (λ r. pass (ends killed []) r))
        (is_last h on.struct (held bs w) w
        (path_held p t sound choice (nv + 1) (nd + 1) put slot1 Undefined q on.struct w Undefined before got)
        (read_points p t sound choice q on.struct w before got) on.last)
        ∙ finishing p.shapes.structs choice killed [] (store_at t w l v) (λ z. z) (λ z. a) (λ z. held bs w)
        (λ z. Undefined) (λ z. Undefined)
        (λ z e. all_cleared nv nd z (stored_sized nv nd t z w l v sized e) a (held bs w) Undefined Undefined ps
        (used (nv + 1) bs) [] [] killed [] (parts ∙ ap (λ qs. ps ++ qs) (used_before (nv + 1) f fs)) refl
        cleared (held_cleared (nv + 1) bs w) refl refl))
        ∙ sym (onto_onward (walk t (var_of t x) bs) (λ w. store_at t w l v) settled_pass)
        ∙ ap (λ r. done_pass r) (sym (write_before t (var_of t x) f fs v))

  module _ (s : Store) (sound : Sound p s) (whole : leaks s ≡ false) where
    size : Sized nv nd s
    size = sound_sized p s sound

    slot0 : (y : Value) → Slot nv nd s nv nd (λ v d. ext s v y d Undefined)
    slot0 y = first_slot nv nd s size y Undefined (λ v d. hidden s v y d Undefined whole)

    abbrev path_of : ℕ → List ℕ → Path
    path_of y fs = record { var = y; fields = fs }

    -- the variable x = a path
    var_copied : (x : ℕ) → x < nv → (y : ℕ) (fs : List ℕ) (u : ℕ) → PathLeads p (record { var = y; fields = fs }) u
        → pass (ptr_row nv nd x [] (RhsPath (path_of y fs))) (ext0 s)
        ≡ done_pass (onward (read s (path_of y fs)) (λ v. Ok (set_var s x v)))
    var_copied x less y [] u path =
        one_link p.shapes.structs choice (CopyPtr x (PtrVar y)) (ext0 s) (set_var s x (var_of s y))
        (ap (λ v. Passed (set_var (ext0 s) x v))
        (var_ext nv nd s size Uninit Uninit Undefined Undefined y (path_less p (path_of y []) u path))
        ∙ ap (λ g. Passed g) (set_ext nv nd s size Uninit Uninit Undefined Undefined x (var_of s y) less))
    var_copied x less y (f ∷ fs) u path =
        let bs : List ℕ = before_last f fs in
        let l : ℕ = last_of f fs in
        let on : LastLeads p.shapes.structs path.first f fs u =
        last_leads p.shapes.structs path.first f fs u path.leads_on in
        let before : PathLeads p (record { var = y; fields = before_last f fs }) on.struct =
        record { first = path.first; is_var = path.is_var; leads_on = on.before } in
        let put : Value → Datum → Store = λ v d. ext s v Uninit d Undefined in
        let killed : List ℕ = used nv fs in
        let last : ℕ → ℕ → Instr = λ b g. LoadPtr x b g in
        let h : ℕ = holder nv y bs in
        ap (λ ls. pass (ls ++ ends killed []) (ext0 s)) (loads_are nv y f fs last)
        ∙ ap (λ ls. pass ls (ext0 s)) (append_on (loads nv y bs) (One (last h l)) (ends killed []))
        ∙ path_then p s sound choice nv nd put (slot0 Uninit) Undefined (path_of y bs) on.struct before
        (One (last h l) ∷ ends killed [])
        ∙ onto_same (walk s (var_of s y) bs)
        (λ w. pass (One (last h l) ∷ ends killed []) (ext s (held bs w) Uninit Undefined Undefined))
        (λ w. done_pass (onward (load s w l) (λ v. Ok (set_var s x v))))
        (λ w got.
        ap (λ z. then_pass (leak_tested z) (λ r. pass (ends killed []) r))
        (load_raw p s sound (ext s (held bs w) Uninit Undefined Undefined) refl x h l on.struct u w
        (path_held p s sound choice nv nd put (slot0 Uninit) Undefined (path_of y bs) on.struct w Undefined before
        got) (read_points p s sound choice (path_of y bs) on.struct w before got) on.last
        ∙ onto_same (load s w l) (λ v. Passed (set_var (ext s (held bs w) Uninit Undefined Undefined) x v))
        (λ v. Passed (ext (set_var s x v) (held bs w) Uninit Undefined Undefined))
        (λ v this. ap (λ g. Passed g) (set_ext nv nd s size (held bs w) Uninit Undefined Undefined x v less)))
        ∙ finishing p.shapes.structs choice killed [] (load s w l) (λ v. set_var s x v) (λ v. held bs w) (λ v. Uninit)
        (λ v. Undefined) (λ v. Undefined)
        (λ v this. all_cleared nv nd (set_var s x v) (set_sized nv nd s x v size) (held bs w) Uninit Undefined Undefined
        (used nv bs) [] [] [] killed [] (used_before nv f fs ∙ sym (append-nil _)) refl (held_cleared nv bs w) refl
        refl refl)
        ∙ sym (onto_onward (load s w l) (λ v. Ok (set_var s x v)) settled_pass))
        ∙ sym (onto_onward (walk s (var_of s y) bs) (λ w. onward (load s w l) (λ v. Ok (set_var s x v))) settled_pass)
        ∙ ap (λ r. done_pass r)
        (sym (onward_onward (walk s (var_of s y) bs) (λ w. load s w l) (λ v. Ok (set_var s x v))))
        ∙ ap (λ r. done_pass (onward r (λ v. Ok (set_var s x v)))) (sym (walk_before s (var_of s y) f fs))

    no_leak : (x y : Value) (d e : Datum) → leaks (ext s x y d e) ≡ false
    no_leak x y d e = hidden s x y d e whole

    -- a path with arrows = a path
    path_copied : (x f : ℕ) (fs : List ℕ) (k : ℕ) → PathLeads p (record { var = x; fields = f ∷ fs }) k → (q : Path)
        → PathLeads p q k
        → pass (ptr_row nv nd x (f ∷ fs) (RhsPath q)) (ext0 s)
        ≡ done_pass (onward (read s q) (λ v. write_from s (var_of s x) f fs v))
    path_copied x f fs k path q from =
        let rest : List Link = loads_but_last (nv + 1) x f fs (λ b g. StorePtr b g (holder nv q.var q.fields))
        ++ ends (used nv q.fields ++ used (nv + 1) fs) [] in
        path_then p s sound choice nv nd (λ v d. ext s v Uninit d Undefined) (slot0 Uninit) Undefined q k from rest
        ∙ onto_same (read s q) (λ v. pass rest (ext s (held q.fields v) Uninit Undefined Undefined))
        (λ v. done_pass (write_from s (var_of s x) f fs v))
        (λ v got.
        path_writes s sound (held q.fields v) (λ y e. no_leak (held q.fields v) y Undefined e) x f fs k path
        (λ b g. StorePtr b g (holder nv q.var q.fields)) v
        (λ b j y w is points at.
        store_raw p s sound (held q.fields v) y Undefined Undefined b (last_of f fs) (holder nv q.var q.fields) j k w v
        is
        (path_held p s sound choice nv nd (λ v d. ext s v y d Undefined) (slot0 y) Undefined q k v Undefined from got)
        points at (read_points p s sound choice q k v from got))
        (used nv q.fields) (used nv q.fields ++ used (nv + 1) fs) refl (held_cleared nv q.fields v))
        ∙ sym (onto_onward (read s q) (λ v. write_from s (var_of s x) f fs v) settled_pass)

    -- = the null pointer
    nulled : (x : ℕ) → x < nv → (fs : List ℕ) (k : ℕ) → PathLeads p (record { var = x; fields = fs }) k
        → pass (ptr_row nv nd x fs RhsNull) (ext0 s)
        ≡ done_pass (write_path s x fs Null)
    nulled x less [] k path =
        one_link p.shapes.structs choice (CopyPtr x PtrNull) (ext0 s) (set_var s x Null)
        (ap (λ g. Passed g) (set_ext nv nd s size Uninit Uninit Undefined Undefined x Null less))
    nulled x less (f ∷ fs) k path =
        path_writes s sound Uninit (λ y e. no_leak Uninit y Undefined e) x f fs k path (λ b g. StoreConst b g ConstNull)
        Null
        (λ b j y w is points at.
        store_null_raw p s sound Uninit y Undefined Undefined b (last_of f fs) j k w is points at)
        [] (used (nv + 1) fs) refl refl

    -- = a new cell
    module _ (shape : ℕ) (less : shape < length p.shapes.structs) where
      abbrev with_cell : Store
      with_cell = grown s (blank p.shapes.structs s.next shape)

      made : (x : ℕ) → x < nv → (fs : List ℕ) → PathLeads p (record { var = x; fields = fs }) shape
          → pass (ptr_row nv nd x fs (RhsNew shape)) (ext0 s)
          ≡ done_pass (assign_new true p.shapes.structs s (path_of x fs) shape)
      made x small [] path =
          one_link p.shapes.structs choice (New x shape) (ext0 s) (set_var with_cell x (Cell s.next))
          (ap (λ g. Passed g)
          (set_ext nv nd with_cell (record { ptrs = size.ptrs; datums = size.datums }) Uninit Uninit Undefined
          Undefined x (Cell s.next) small))
      made x small (f ∷ fs) path =
          let t : Store = grown s (blank p.shapes.structs s.next shape) in
          let grows : Sound p (grown s (blank p.shapes.structs s.next shape)) = grown_sound p s shape less sound in
          let rest : List Link = loads_but_last (nv + 1) x f fs (λ b g. StorePtr b g nv)
          ++ ends (nv ∷ used (nv + 1) fs) [] in
          let tall : Sized nv nd (grown s (blank p.shapes.structs s.next shape)) = sound_sized p with_cell grows in
          let sets : set_var (ext with_cell Uninit Uninit Undefined Undefined) nv (Cell s.next)
          ≡ ext with_cell (Cell s.next) Uninit Undefined Undefined =
          p0_set nv nd with_cell tall Uninit Uninit Undefined Undefined (Cell s.next) in
          let stays : leaks (ext with_cell (Cell s.next) Uninit Undefined Undefined) ≡ false =
          fresh p.shapes.structs s shape Uninit Undefined Undefined whole in
          ap (λ g. then_pass (leak_tested (Passed g)) (λ r. pass rest r)) sets
          ∙ ap
          (λ b.
          then_pass (if b then Faulted Leak else Passed (ext with_cell (Cell s.next) Uninit Undefined Undefined))
          (λ r. pass rest r)) stays
          ∙ path_writes with_cell grows (Cell s.next) (λ y e. fresh p.shapes.structs s shape y Undefined e whole) x f fs
          shape path (λ b g. StorePtr b g nv) (Cell s.next)
          (λ b j y w is points at.
          store_raw p with_cell grows (Cell s.next) y Undefined Undefined b (last_of f fs) nv j shape w (Cell s.next) is
          (p0_holds nv nd with_cell tall (Cell s.next) y Undefined Undefined) points at (grown_points p s shape))
          (nv ∷ []) (nv ∷ used (nv + 1) fs) refl refl

    -- = the null pointer that a `malloc` gives
    unmade : (x : ℕ) → x < nv → (fs : List ℕ) (k : ℕ) → PathLeads p (record { var = x; fields = fs }) k
        → pass (null_row x fs) (ext0 s) ≡ done_pass (write_path s x fs Null)
    unmade x less [] k path = nulled x less [] k path
    unmade x less (f ∷ fs) k path =
        let rest : List Link = loads_but_last (nv + 1) x f fs (λ b g. StorePtr b g nv)
        ++ ends (nv ∷ used (nv + 1) fs) [] in
        let sets : set_var (ext s Uninit Uninit Undefined Undefined) nv Null ≡ ext s Null Uninit Undefined Undefined =
        p0_set nv nd s size Uninit Uninit Undefined Undefined Null in
        let clear : leaks (ext s Null Uninit Undefined Undefined) ≡ false = no_leak Null Uninit Undefined Undefined in
        ap (λ g. then_pass (leak_tested (Passed g)) (λ r. pass rest r)) sets
        ∙ ap
        (λ b.
        then_pass (if b then Faulted Leak else Passed (ext s Null Uninit Undefined Undefined)) (λ r. pass rest r)) clear
        ∙ path_writes s sound Null (λ y e. no_leak Null y Undefined e) x f fs k path (λ b g. StorePtr b g nv) Null
        (λ b j y w is points at.
        store_raw p s sound Null y Undefined Undefined b (last_of f fs) nv j k w Null is
        (p0_holds nv nd s size Null y Undefined Undefined) points at tt)
        (nv ∷ []) (nv ∷ used (nv + 1) fs) refl refl

    -- `free`

    abbrev ended : ℕ → Store
    ended n = record s { vars = map (dangle n) s.vars; cells = without n s.cells }

    dangle_held : (n : ℕ) (fs : List ℕ) (v : Value) → dangle n (held fs v) ≡ held fs (dangle n v)
    dangle_held n [] v = refl
    dangle_held n (f ∷ fs) v = refl

    map_two : (n : ℕ) (vs : List Value) (x : Value) → map (dangle n) (vs ++ x ∷ Uninit ∷ []) ≡ map (dangle n) vs
        ++ dangle n x ∷ Uninit ∷ []
    map_two n [] x = refl
    map_two n (v ∷ vs) x = ap (λ ws. dangle n v ∷ ws) (map_two n vs x)

    freeing : (h : ℕ) (fs : List ℕ) (w : Value) → var_of (ext s (held fs w) Uninit Undefined Undefined) h ≡ w
        → then_pass (leak_tested (raw_step p.shapes.structs (Free h) 0 (ext s (held fs w) Uninit Undefined Undefined)))
        (λ r. pass (ends (used nv fs) []) r) ≡ done_pass (freed s w)
    freeing h fs Null is =
        rw is
        (clearing p.shapes.structs choice (used nv fs) [] s (held fs Null) Uninit Undefined Undefined
        (all_cleared nv nd s size (held fs Null) Uninit Undefined Undefined (used nv fs) [] [] [] (used nv fs) []
        (sym (append-nil _)) refl (held_cleared nv fs Null) refl refl refl))
    freeing h fs Uninit is = rw is refl
    freeing h fs Dangling is = rw is refl
    freeing h fs (Cell n) is =
        let tall : Sized nv nd (record s { vars = map (dangle n) s.vars; cells = without n s.cells }) =
        record { ptrs = length-map s.vars (dangle n) ∙ size.ptrs; datums = size.datums } in
        let gives : raw_step p.shapes.structs (Free h) 0 (ext s (held fs (Cell n)) Uninit Undefined Undefined)
        ≡ Passed (ext (ended n) (held fs (dangle n (Cell n))) Uninit Undefined Undefined) =
        rw is
        (ap
        (λ vs.
        Passed
        (record s { vars = vs; data_vars = s.data_vars ++ Undefined ∷ Undefined ∷ []; cells = without n s.cells }))
        (map_two n s.vars (held fs (Cell n))
        ∙ ap (λ v. map (dangle n) s.vars ++ v ∷ Uninit ∷ []) (dangle_held n fs (Cell n)))) in
        ap (λ z. then_pass (leak_tested z) (λ r. pass (ends (used nv fs) []) r)) gives
        ∙ clearing p.shapes.structs choice (used nv fs) [] (ended n) (held fs (dangle n (Cell n))) Uninit Undefined
        Undefined
        (all_cleared nv nd (ended n) tall (held fs (dangle n (Cell n))) Uninit Undefined Undefined (used nv fs) [] [] []
        (used nv fs) [] (sym (append-nil _)) refl (held_cleared nv fs (dangle n (Cell n))) refl refl refl)

    pub free_passes : (q : Path) → is_some (path_target p.shapes.structs p.vars (length p.data_vars) q) ≡ true
        → pass (free_row nv nd q) (ext0 s) ≡ done_pass (free_path s q)
    free_passes q typed =
        let some = some_target (path_target p.shapes.structs p.vars (length p.data_vars) q) typed in
        let leads : PathLeads p q some.0 = path_leads p q some.0 some.1 in
        let h : ℕ = holder nv q.var q.fields in
        path_then p s sound choice nv nd (λ v d. ext s v Uninit d Undefined) (slot0 Uninit) Undefined q some.0
        leads (One (Free h) ∷ ends (used nv q.fields) [])
        ∙ onto_same (read s q)
        (λ v. pass (One (Free h) ∷ ends (used nv q.fields) []) (ext s (held q.fields v) Uninit Undefined Undefined))
        (λ v. done_pass (freed s v))
        (λ v got. freeing h q.fields v
        (path_held p s sound choice nv nd (λ v d. ext s v Uninit d Undefined) (slot0 Uninit) Undefined q some.0
        v Undefined leads got))
        ∙ sym (onto_onward (read s q) (λ v. freed s v) settled_pass)

    copied : (x : ℕ) (fs : List ℕ) (k : ℕ) → PathLeads p (record { var = x; fields = fs }) k → (q : Path)
        → PathLeads p q k → pass (ptr_row nv nd x fs (RhsPath q)) (ext0 s)
        ≡ done_pass (onward (read s q) (λ v. write_path s x fs v))
    copied x [] k path q from = var_copied x (path_less p (path_of x []) k path) q.var q.fields k from
    copied x (f ∷ fs) k path q from = path_copied x f fs k path q from

-- = a `malloc` that may fail, on either choice
module _ (p : Program) (s : Store) (sound : Sound p s) (whole : leaks s ≡ false) (shape : ℕ)
    (less : shape < length p.shapes.structs) (x : ℕ) (small : x < length p.vars) where
  -- for the choice 0 the first of the two edges is taken
  null_taken : (fs : List ℕ)
      → links_pass p.shapes.structs 0
      (links_in MayFail (ptr_row (length p.vars) (length p.data_vars) x fs (RhsNew shape))) (ext0 s)
      ≡ links_pass p.shapes.structs 0 (null_row p 0 x fs) (ext0 s)
  null_taken [] = refl
  null_taken (f ∷ fs) =
      ap (λ ls. links_pass p.shapes.structs 0 (One (CopyPtr (length p.vars) PtrNull) ∷ ls) (ext0 s))
      (kept _ (made_plain (length p.vars) (length p.data_vars) x f fs))

  -- for another one the second
  new_taken : (n : ℕ) (fs : List ℕ)
      → links_pass p.shapes.structs (suc n)
      (links_in MayFail (ptr_row (length p.vars) (length p.data_vars) x fs (RhsNew shape))) (ext0 s)
      ≡ links_pass p.shapes.structs (suc n) (ptr_row (length p.vars) (length p.data_vars) x fs (RhsNew shape)) (ext0 s)
  new_taken n [] = refl
  new_taken n (f ∷ fs) =
      ap (λ ls. links_pass p.shapes.structs (suc n) (One (New (length p.vars) shape) ∷ ls) (ext0 s))
      (kept _ (made_plain (length p.vars) (length p.data_vars) x f fs))

  made_in : (mode : MallocMode) (choice : ℕ) (fs : List ℕ) → PathLeads p (record { var = x; fields = fs }) shape
      → links_pass p.shapes.structs choice
      (links_in mode (ptr_row (length p.vars) (length p.data_vars) x fs (RhsNew shape))) (ext0 s)
      ≡ done_pass (assign_new (makes_cell mode choice) p.shapes.structs s (record { var = x; fields = fs }) shape)
  made_in Always choice fs path = made p choice s sound whole shape less x small fs path
  made_in MayFail zero fs path = null_taken fs ∙ unmade p 0 s sound whole x small fs shape path
  made_in MayFail (suc n) fs path = new_taken n fs ∙ made p (suc n) s sound whole shape less x small fs path

module _ (p : Program) (typed : is_typed p ≡ true) (choice : ℕ) (s : Store) (sound : Sound p s)
    (whole : leaks s ≡ false) (mode : MallocMode) where
  abbrev target : Path → Option ℕ
  target q = path_target p.shapes.structs p.vars (length p.data_vars) q

  abbrev row : Path → PtrRhs → List Link
  row to from = ptr_row (length p.vars) (length p.data_vars) to.var to.fields from

  pub set_ptr_passes : (to : Path) (from : PtrRhs)
      → rhs_typed p.shapes.structs p.vars (length p.data_vars) (target to) from ≡ true
      → links_pass p.shapes.structs choice (links_in mode (row to from)) (ext0 s)
      ≡ done_pass (assign p.shapes.structs mode s to from choice)
  set_ptr_passes to (RhsPath from) fits =
      let both = agreed (target to) (target from) fits in
      ap (λ ls. links_pass p.shapes.structs choice ls (ext0 s))
      (stays mode false (row to (RhsPath from))
      (copied_plain (length p.vars) (length p.data_vars) to.var to.fields from))
      ∙ copied p choice s sound whole to.var to.fields both.0 (path_leads p to both.0 both.1) from
      (path_leads p from both.0 both.2)
  set_ptr_passes to RhsNull fits =
      let some = some_target (target to) fits in
      let leads : PathLeads p to some.0 = path_leads p to some.0 some.1 in
      ap (λ ls. links_pass p.shapes.structs choice ls (ext0 s))
      (stays mode false (row to RhsNull) (nulled_plain (length p.vars) (length p.data_vars) to.var to.fields))
      ∙ nulled p choice s sound whole to.var (path_less p to some.0 leads) to.fields some.0 leads
  set_ptr_passes to (RhsNew shape) fits =
      let leads : PathLeads p to shape = path_leads p to shape (target_is (target to) shape fits) in
      let less : shape < length p.shapes.structs =
      path_below p to shape (has_shapes_typed p typed) (has_vars_typed p typed) leads in
      made_in p s sound whole shape less to.var (path_less p to shape leads) mode choice to.fields leads
