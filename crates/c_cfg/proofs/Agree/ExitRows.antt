-- The edges with which a call ends do what the step does.
use Rattle.std.proofs.Common.{◌≡◌, ◌<◌, ◌+◌, ℕ, true, false, true≢false, nat_lt, Option, Some, None, Result, Ok, Err}
use Rattle.std.proofs.Common.{List, [], ◌∷◌, ◌++◌, length, length-set, refl, sym, ap, ◌∙◌, subst}
use Rattle.std.proofs.lemmas.Bool.{and_parts, ltb-true}
use Rattle.fore_base.specs.declared.fault.Fault.{Fault}
use Rattle.fore_base.specs.declared.store.Value.{Value}
use Rattle.fore_base.specs.declared.store.Value.TheVariants.{Uninit}
use Rattle.fore_base.specs.declared.store.Datum.{Datum}
use Rattle.fore_base.specs.declared.store.Datum.TheVariants.{Undefined}
use Rattle.fore_base.specs.declared.store.Store.{Store}
use Rattle.fore_base.specs.Stores.{onward, var_of, datum_of, set_var, set_datum, set_each, walk, store_at, store_datum}
use Rattle.fore_base.specs.Heap.{leaks}
use Rattle.c_types.specs.declared.program.Path.{Path}
use Rattle.c_types.specs.declared.program.DataPath.{DataPath}
use Rattle.c_types.specs.declared.program.DataPath.TheVariants.{Var as DataVar, Field as DataField}
use Rattle.c_types.specs.declared.program.VarRef.{VarRef}
use Rattle.c_types.specs.declared.program.VarRef.TheVariants.{Ptr as PtrRef, Data as DataRef}
use Rattle.c_types.specs.declared.program.Dest.{Dest}
use Rattle.c_types.specs.declared.program.Dest.TheVariants.{Ptr as ToPtr, Data as ToData}
use Rattle.c_types.specs.Program.{Program, path_target, data_typed, dest_typed, to_typed, is_typed}
use Rattle.c_types.specs.Control.{ptr_vars, with_result}
use Rattle.c_types.specs.Steps.{read, write_path, write_data, without, hand, exit}
use Rattle.c_types.specs.Fits.{ExitFits}
use Rattle.c_types.proofs.CellsFit.{length_set_each}
use Rattle.c_types.proofs.Fitting.{PathLeads, path_leads, Sound}
use Rattle.c_types.proofs.LeakKept.{write_from_vars, store_datum_vars}
use Rattle.c_types.proofs.StepLaws.{agreed}
use Rattle.c_cfg.specs.declared.graph.PtrArg.TheVariants.{Var as PtrVar}
use Rattle.c_cfg.specs.declared.graph.DataArg.TheVariants.{Var as ArgVar}
use Rattle.c_cfg.specs.declared.graph.Instr.{Instr}
use Rattle.c_cfg.specs.declared.graph.Instr.TheVariants.{CopyPtr, StorePtr, CopyData, StoreData}
use Rattle.c_cfg.specs.Edges.{Pass, Passed, onto, raw_step, leak_tested}
use Rattle.c_cfg.specs.Links.{Link, One, loads, holder, used, used_before, die, hand_ptr, hand_datum, hand_links}
use Rattle.c_cfg.specs.Links.{dest_used, exit_row}
use Rattle.c_cfg.proofs.RangedCalls.{Known, ptrs_known, func_known, result_known}
use Rattle.c_cfg.proofs.Agree.Temporaries.{ext, ext0, Sized, var_ext, datum_ext, set_ext, set_datum_ext}
use Rattle.c_cfg.proofs.Agree.TempLeaks.{hidden}
use Rattle.c_cfg.proofs.Agree.Passing.{then_pass, settled_pass, done_pass, onto_same, onto_onward}
use Rattle.c_cfg.proofs.Agree.Arrows.{before_last, last_of, loads_are, write_before, LastLeads, last_leads}
use Rattle.c_cfg.proofs.Agree.OneEdges.{store_raw, store_datum_raw}
use Rattle.c_cfg.proofs.Agree.Reading.{path_less, sound_sized, Slot, second_slot, held, value_of, FieldTyped}
use Rattle.c_cfg.proofs.Agree.Reading.{field_typed, data_var_less, read_points, path_then, path_held}
use Rattle.c_cfg.proofs.Agree.Dying.{IsCleared, both_cleared}
use Rattle.c_cfg.proofs.Agree.PointerRows.{append_on}
use Rattle.c_cfg.proofs.Agree.Given.{tested_onto, bare, pass}
use Rattle.c_cfg.proofs.Agree.CallRows.{dies, die_alone}

module _ (p : Program) (typed : is_typed p ≡ true) (choice : ℕ) where
  abbrev nv : ℕ
  nv = length p.vars

  abbrev nd : ℕ
  nd = length p.data_vars

  abbrev go : List Link → Store → Pass
  go ls g = pass p choice ls g

  abbrev target : Path → Option ℕ
  target q = path_target p.shapes.structs p.vars (length p.data_vars) q

  -- on from the store t, p1 holding w
  abbrev on_from : List Link → Store → Value → Pass
  on_from rest t w = then_pass (leak_tested (Passed (ext t Uninit w Undefined Undefined))) (λ g. go rest g)

  module _ (s : Store) (sound : Sound p s) (whole : leaks s ≡ false) where
    size : Sized nv nd s
    size = sound_sized p s sound

    slot : Slot nv nd s (nv + 1) (nd + 1) (λ v e. ext s Uninit v Undefined e)
    slot = second_slot nv nd s size Uninit Undefined (λ v e. hidden s Uninit v Undefined e whole)

    -- what p1 holds then

    abbrev path_leaves : ℕ → List ℕ → Value
    path_leaves y [] = Uninit
    path_leaves y (f ∷ fs) = held (before_last f fs) (value_of (walk s (var_of s y) (before_last f fs)))

    abbrev leaves : Dest → Value
    leaves (ToPtr q) = path_leaves q.var q.fields
    leaves (ToData (DataVar y)) = Uninit
    leaves (ToData (DataField base f)) = held base.fields (value_of (read s base))

    one_set : (i : Instr) (t : Store) (rest : List Link) → raw_step p.shapes.structs i 0 (ext0 s) ≡ Passed (ext0 t)
        → go (One i ∷ rest) (ext0 s) ≡ on_from rest t Uninit
    one_set i t rest is = ap (λ r. then_pass (leak_tested r) (λ g. go rest g)) is

    ptr_handed : (x : ℕ) → x < nv → (u : ℕ) → PathLeads p (bare x) u → (y : ℕ) (fs : List ℕ)
        → PathLeads p (record { var = y; fields = fs }) u → (rest : List Link)
        → go (hand_ptr nv nd x y fs ++ rest) (ext0 s)
        ≡ onto (write_path s y fs (var_of s x)) (λ t. on_from rest t (path_leaves y fs))
    ptr_handed x less u from y [] path rest =
        one_set (CopyPtr y (PtrVar x)) (set_var s y (var_of s x)) rest
        (ap (λ v. Passed (set_var (ext0 s) y v)) (var_ext nv nd s size Uninit Uninit Undefined Undefined x less)
        ∙ ap (λ g. Passed g)
        (set_ext nv nd s size Uninit Uninit Undefined Undefined y (var_of s x)
        (path_less p (record { var = y; fields = [] }) u path)))
    ptr_handed x less u from y (f ∷ fs) path rest =
        let bs : List ℕ = before_last f fs in
        let l : ℕ = last_of f fs in
        let v : Value = var_of s x in
        let on : LastLeads p.shapes.structs path.first f fs u =
        last_leads p.shapes.structs path.first f fs u path.leads_on in
        let q : Path = record { var = y; fields = before_last f fs } in
        let before : PathLeads p (record { var = y; fields = before_last f fs }) on.struct =
        record { first = path.first; is_var = path.is_var; leads_on = on.before } in
        let last : ℕ → ℕ → Instr = λ b g. StorePtr b g x in
        let h : ℕ = holder (nv + 1) y bs in
        ap (λ ls. go (ls ++ rest) (ext0 s)) (loads_are (nv + 1) y f fs last)
        ∙ ap (λ ls. go ls (ext0 s)) (append_on (loads (nv + 1) y bs) (One (last h l)) rest)
        ∙ path_then p s sound choice (nv + 1) (nd + 1) (λ v e. ext s Uninit v Undefined e) slot Undefined q on.struct
        before (One (last h l) ∷ rest)
        ∙ onto_same (walk s (var_of s y) bs)
        (λ w. go (One (last h l) ∷ rest) (ext s Uninit (held bs w) Undefined Undefined))
        (λ w. onto (store_at s w l v) (λ t. on_from rest t (path_leaves y (f ∷ fs))))
        (λ w got.
        ap (λ r. then_pass (leak_tested r) (λ g. go rest g))
        (store_raw p s sound Uninit (held bs w) Undefined Undefined h l x on.struct u w v
        (path_held p s sound choice (nv + 1) (nd + 1) (λ v e. ext s Uninit v Undefined e) slot Undefined q on.struct w
        Undefined before got)
        (var_ext nv nd s size Uninit (held bs w) Undefined Undefined x less)
        (read_points p s sound choice q on.struct w before got) on.last
        (read_points p s sound choice (bare x) u v from refl))
        ∙ tested_onto (store_at s w l v) (λ t. ext t Uninit (held bs w) Undefined Undefined) (λ g. go rest g)
        ∙ ap (λ r. onto (store_at s w l v) (λ t. on_from rest t (held bs (value_of r)))) (sym got))
        ∙ sym
        (onto_onward (walk s (var_of s y) bs) (λ w. store_at s w l v) (λ t. on_from rest t (path_leaves y (f ∷ fs))))
        ∙ ap (λ r. onto r (λ t. on_from rest t (path_leaves y (f ∷ fs)))) (sym (write_before s (var_of s y) f fs v))

    datum_handed : (x : ℕ) → x < nd → (q : DataPath)
        → data_typed p.shapes.structs p.vars (length p.data_vars) q ≡ true → (rest : List Link)
        → go (hand_datum nv nd x q ++ rest) (ext0 s)
        ≡ onto (write_data s q (datum_of s x)) (λ t. on_from rest t (leaves (ToData q)))
    datum_handed x less (DataVar y) e rest =
        one_set (CopyData y (ArgVar x)) (set_datum s y (datum_of s x)) rest
        (ap (λ d. Passed (set_datum (ext0 s) y d)) (datum_ext nv nd s size Uninit Uninit Undefined Undefined x less)
        ∙ ap (λ g. Passed g)
        (set_datum_ext nv nd s size Uninit Uninit Undefined Undefined y (datum_of s x) (data_var_less p y e)))
    datum_handed x less (DataField base f) e rest =
        let this : FieldTyped p base f = field_typed p base f e in
        let h : ℕ = holder (nv + 1) base.var base.fields in
        let d : Datum = datum_of s x in
        ap (λ ls. go ls (ext0 s)) (append_on (loads (nv + 1) base.var base.fields) (One (StoreData h f x)) rest)
        ∙ path_then p s sound choice (nv + 1) (nd + 1) (λ v e. ext s Uninit v Undefined e) slot Undefined base
        this.struct this.leads (One (StoreData h f x) ∷ rest)
        ∙ onto_same (read s base)
        (λ w. go (One (StoreData h f x) ∷ rest) (ext s Uninit (held base.fields w) Undefined Undefined))
        (λ w. onto (store_datum s w f d) (λ t. on_from rest t (held base.fields (value_of (read s base)))))
        (λ w got.
        ap (λ r. then_pass (leak_tested r) (λ g. go rest g))
        (store_datum_raw p s sound Uninit (held base.fields w) Undefined Undefined h f x this.struct w d
        (path_held p s sound choice (nv + 1) (nd + 1) (λ v e. ext s Uninit v Undefined e) slot Undefined base
        this.struct w Undefined this.leads got)
        (datum_ext nv nd s size Uninit (held base.fields w) Undefined Undefined x less)
        (read_points p s sound choice base this.struct w this.leads got) this.less)
        ∙ tested_onto (store_datum s w f d) (λ t. ext t Uninit (held base.fields w) Undefined Undefined)
        (λ g. go rest g)
        ∙ ap (λ r. onto (store_datum s w f d) (λ t. on_from rest t (held base.fields (value_of r)))) (sym got))
        ∙ sym
        (onto_onward (read s base) (λ w. store_datum s w f d)
        (λ t. on_from rest t (held base.fields (value_of (read s base)))))

    abbrev DestFits : VarRef → Dest → Type 0
    DestFits v d = dest_typed p.shapes.structs p.vars (length p.data_vars) v d ≡ true

    -- what a variable holds is assigned, and then comes the rest
    handed : (v : VarRef) (d : Dest) → DestFits v d → (rest : List Link)
        → go (hand_links nv nd v d ++ rest) (ext0 s) ≡ onto (hand s v d) (λ t. on_from rest t (leaves d))
    handed (PtrRef x) (ToPtr q) e rest =
        let both = agreed (target (bare x)) (target q) e in
        let from : PathLeads p (bare x) both.0 = path_leads p (bare x) both.0 both.1 in
        ptr_handed x (path_less p (bare x) both.0 from) both.0 from q.var q.fields
        (path_leads p q both.0 both.2) rest
    handed (PtrRef x) (ToData q) e rest = absurd (true≢false (sym e))
    handed (DataRef x) (ToPtr q) e rest = absurd (true≢false (sym e))
    handed (DataRef x) (ToData q) e rest =
        let both = and_parts (nat_lt x nd) (data_typed p.shapes.structs p.vars (length p.data_vars) q) e in
        datum_handed x (ltb-true x nd both.0) q both.1 rest

    -- the store has as many variables

    path_long : (y : ℕ) (fs : List ℕ) (v : Value) (t : Store) → write_path s y fs v ≡ Ok t → length t.vars ≡ nv
    path_long y [] v t e = let same : set_var s y v ≡ t = cc in
        ap (λ (u : Store). length u.vars) (sym same) ∙ length-set s.vars y v ∙ size.ptrs
    path_long y (f ∷ fs) v t e = ap length (write_from_vars s t fs (var_of s y) f v e) ∙ size.ptrs

    data_long : (q : DataPath) (d : Datum) (t : Store) → write_data s q d ≡ Ok t → length t.vars ≡ nv
    data_long (DataVar y) d t e = let same : set_datum s y d ≡ t = cc in
        ap (λ (u : Store). length u.vars) (sym same) ∙ size.ptrs
    data_long (DataField base f) d t e = by (read s base) e
      where
        by : (r : Result Value Fault) → onward r (λ w. store_datum s w f d) ≡ Ok t → length t.vars ≡ nv
        by (Ok w) e = ap length (store_datum_vars s t w f d e) ∙ size.ptrs
        by (Err k) e = cc

    hand_long : (v : VarRef) (d : Dest) (t : Store) → DestFits v d → hand s v d ≡ Ok t → length t.vars ≡ nv
    hand_long (PtrRef x) (ToPtr q) t e got = path_long q.var q.fields (var_of s x) t got
    hand_long (PtrRef x) (ToData q) t e got = absurd (true≢false (sym e))
    hand_long (DataRef x) (ToPtr q) t e got = absurd (true≢false (sym e))
    hand_long (DataRef x) (ToData q) t e got = data_long q (datum_of s x) t got

    left_cleared : (d : Dest) → IsCleared (nv + 1) Uninit (dest_used nv nd d) (leaves d)
    left_cleared (ToPtr q) = by q.fields
      where
        by : (fs : List ℕ) → IsCleared (nv + 1) Uninit (used_before (nv + 1) fs) (path_leaves q.var fs)
        by [] = refl
        by (f ∷ []) = refl
        by (f ∷ g ∷ gs) = refl
    left_cleared (ToData (DataVar y)) = refl
    left_cleared (ToData (DataField base f)) = by base.fields
      where
        by : (fs : List ℕ) → IsCleared (nv + 1) Uninit (used (nv + 1) fs) (held fs (value_of (read s base)))
        by [] = refl
        by (g ∷ gs) = refl

    pub exit_passes : (v : Option VarRef) (vs : List VarRef) (d : Option Dest) → ExitFits p v vs d
        → go (exit_row nv nd v vs d) (ext0 s) ≡ done_pass (exit s v vs d)
    exit_passes v vs d fits =
        by v d fits.to_fits
        (result_known p typed v fits.func vs fits.result_is (func_known p typed fits.func fits.is_there).0
        (subst (Known p) (sym fits.params_are) (func_known p typed fits.func fits.is_there).1))
      where
        by : (v : Option VarRef) (d : Option Dest)
            → to_typed p.shapes.structs p.vars (length p.data_vars) v d ≡ true → Known p (with_result v vs)
            → go (exit_row nv nd v vs d) (ext0 s) ≡ done_pass (exit s v vs d)
        by None d e known = die_alone p typed choice vs s
        by (Some v) None e known = die_alone p typed choice (v ∷ vs) s
        by (Some v) (Some d) e known =
            let qs : List ℕ = dest_used nv nd d in
            let y : Value = leaves d in
            handed v d e (die nv nd (v ∷ vs) qs ∷ [])
            ∙ onto_same (hand s v d) (λ t. on_from (die nv nd (v ∷ vs) qs ∷ []) t y)
            (λ t. settled_pass (without (v ∷ vs) t))
            (λ t got.
            dies p typed choice (v ∷ vs) qs t Uninit y (hand_long v d t e got) (ptrs_known p (v ∷ vs) known)
            (both_cleared nv (set_each t.vars (ptr_vars (v ∷ vs)) Uninit) Uninit
            (length_set_each t.vars (ptr_vars (v ∷ vs)) Uninit ∙ hand_long v d t e got) [] qs Uninit y refl
            (left_cleared d)))
            ∙ sym (onto_onward (hand s v d) (λ t. Ok (without (v ∷ vs) t)) settled_pass)
