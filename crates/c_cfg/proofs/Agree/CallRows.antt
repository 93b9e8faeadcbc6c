-- The edges with which a call begins, and those of a `return` of a function, do what the step does.
use Rattle.std.proofs.Common.{◌≡◌, ◌<◌, ◌⊎◌, inl, inr, ℕ, Bool, true, false, true≢false, if◌then◌else◌, Option, Some}
use Rattle.std.proofs.Common.{None, Ok, List, [], ◌∷◌, ◌++◌, length, slice_index_or, append-nil, append_assoc, refl}
use Rattle.std.proofs.Common.{sym, ap, ◌∙◌, subst}
use Rattle.std.proofs.lemmas.Bool.{and_parts}
use Rattle.fore_base.specs.declared.fault.Fault.TheVariants.{Leak}
use Rattle.fore_base.specs.declared.store.Value.{Value}
use Rattle.fore_base.specs.declared.store.Value.TheVariants.{Uninit}
use Rattle.fore_base.specs.declared.store.Datum.TheVariants.{Undefined}
use Rattle.fore_base.specs.declared.store.Store.{Store}
use Rattle.fore_base.specs.Lists.{IsIn, Every}
use Rattle.fore_base.specs.Stores.{onward, set_each, kill}
use Rattle.fore_base.specs.Heap.{leaks}
use Rattle.c_types.specs.declared.program.DataPath.TheVariants.{Field as DataField}
use Rattle.c_types.specs.declared.program.PtrOp.TheVariants.{Path as OpPath}
use Rattle.c_types.specs.declared.program.DataOp.TheVariants.{Path as DataOpPath}
use Rattle.c_types.specs.declared.program.VarRef.{VarRef}
use Rattle.c_types.specs.declared.program.VarRef.TheVariants.{Ptr as PtrRef, Data as DataRef}
use Rattle.c_types.specs.declared.program.Arg.{Arg}
use Rattle.c_types.specs.declared.program.Arg.TheVariants.{Ptr as GivenPtr, Data as GivenData}
use Rattle.c_types.specs.Program.{Program, arg_typed, args_typed, value_typed, is_typed}
use Rattle.c_types.specs.Control.{ptr_vars, datum_vars}
use Rattle.c_types.specs.Steps.{read, give, enter, without, leave}
use Rattle.c_types.specs.Losses.{is_cell, vars_hold}
use Rattle.c_types.specs.Fits.{EnterFits, LeaveFits}
use Rattle.c_types.proofs.CellsFit.{length_set_each}
use Rattle.c_types.proofs.Fitting.{Gives, Sound}
use Rattle.c_types.proofs.HeldOn.{HoldsOn, holds_same, holds_keeps, enter_holds}
use Rattle.c_types.proofs.LeakKept.{kept_sound}
use Rattle.c_types.proofs.LeakGained.{added_leaks, kill_adds}
use Rattle.c_cfg.specs.declared.graph.Instr.TheVariants.{Kill}
use Rattle.c_cfg.specs.Edges.{Pass, Passed, Faulted, leak_tested}
use Rattle.c_cfg.specs.Links.{Link, ends, used, used_before, give_links, given_used, give_each, one_used, each_used}
use Rattle.c_cfg.specs.Links.{enter_row, die, leave_row}
use Rattle.c_cfg.proofs.RangedCalls.{Known, ptrs_known, func_known}
use Rattle.c_cfg.proofs.Agree.Temporaries.{with_vars, ext, ext0, Sized, kill_ext0, each_front, each_append}
use Rattle.c_cfg.proofs.Agree.Temporaries.{each_anywhere}
use Rattle.c_cfg.proofs.Agree.TempLeaks.{hidden, leaks_ext0}
use Rattle.c_cfg.proofs.Agree.Passing.{then_pass, settled_pass, done_pass, onto_same, onto_onward, one_link, killing}
use Rattle.c_cfg.proofs.Agree.Passing.{ends_pass}
use Rattle.c_cfg.proofs.Agree.Reading.{sound_sized, held_or, value_of}
use Rattle.c_cfg.proofs.Agree.Dying.{IsCleared, both_cleared, all_cleared}
use Rattle.c_cfg.proofs.Agree.Given.{give_sound, pass, on_from, path_leaves, leaves, given}

-- what died can only have made a leak
kept_by_kill : (ps ds : List ℕ) (t : Store) → leaks (kill ps ds t) ≡ false → leaks t ≡ false
kept_by_kill ps ds t fine = here (leaks t) refl
  where
    here : (b : Bool) → leaks t ≡ b → leaks t ≡ false
    here true is = absurd (true≢false (sym (added_leaks t (kill ps ds t) (kill_adds t ps ds) is) ∙ fine))
    here false is = is

none_used : (xs ys : List ℕ) (nv nd : ℕ) → one_used nv nd xs ys ≡ [] → (xs ≡ []) × (ys ≡ [])
none_used [] ys nv nd e = (refl, e)
none_used (x ∷ xs) ys nv nd e = absurd (cc e)

-- none of the variables holds a cell
abbrev pub AreFree : Store → List VarRef → Type 0
AreFree s vs = (x : ℕ) → IsIn (PtrRef x) vs → is_cell (slice_index_or s.vars x Uninit) ≡ false

one_free : (s : Store) (v : VarRef) (vs : List VarRef) → AreFree s (v ∷ vs) → vars_hold s (v ∷ []) ≡ false
one_free s (PtrRef x) vs free = let e : is_cell (slice_index_or s.vars x Uninit) ≡ false = free x (inl refl) in
    rw e refl
one_free s (DataRef x) vs free = refl

module _ (p : Program) (typed : is_typed p ≡ true) (choice : ℕ) where
  abbrev nv : ℕ
  nv = length p.vars

  abbrev nd : ℕ
  nd = length p.data_vars

  abbrev go : List Link → Store → Pass
  go ls g = pass p choice ls g

  -- What dies in the last edge of a step, p0 and p1 holding x and y before

  dead_is : (vs : List VarRef) (qs : List ℕ) (t : Store) (x y : Value) → length t.vars ≡ nv
      → Every (λ k. k < nv) (ptr_vars vs)
      → set_each (set_each t.vars (ptr_vars vs) Uninit ++ x ∷ y ∷ []) qs Uninit
      ≡ set_each t.vars (ptr_vars vs) Uninit ++ Uninit ∷ Uninit ∷ []
      → kill (ptr_vars vs ++ qs) (datum_vars vs) (ext t x y Undefined Undefined) ≡ ext0 (without vs t)
  dead_is vs qs t x y long below cleared =
      ap
      (λ us. with_vars t us (set_each (t.data_vars ++ Undefined ∷ Undefined ∷ []) (datum_vars vs) Undefined))
      (each_append (t.vars ++ x ∷ y ∷ []) (ptr_vars vs) qs Uninit
      ∙ ap (λ us. set_each us qs Uninit) (each_front nv t.vars (x ∷ y ∷ []) (ptr_vars vs) Uninit long below)
      ∙ cleared)
      ∙ ap (λ us. with_vars t (set_each t.vars (ptr_vars vs) Uninit ++ Uninit ∷ Uninit ∷ []) us)
      (each_anywhere t.data_vars (datum_vars vs) Undefined)

  pub dies : (vs : List VarRef) (qs : List ℕ) (t : Store) (x y : Value) → length t.vars ≡ nv
      → Every (λ k. k < nv) (ptr_vars vs)
      → set_each (set_each t.vars (ptr_vars vs) Uninit ++ x ∷ y ∷ []) qs Uninit
      ≡ set_each t.vars (ptr_vars vs) Uninit ++ Uninit ∷ Uninit ∷ []
      → then_pass (leak_tested (Passed (ext t x y Undefined Undefined))) (λ g. go (die nv nd vs qs ∷ []) g)
      ≡ settled_pass (without vs t)
  dies vs qs t x y long below cleared =
      killing p.shapes.structs choice (ptr_vars vs ++ qs) (datum_vars vs) (without vs t) (ext t x y Undefined Undefined)
      (λ fine. hidden t x y Undefined Undefined (kept_by_kill (ptr_vars vs) (datum_vars vs) t fine))
      (dead_is vs qs t x y long below cleared)

  -- where the step does nothing else
  pub die_alone : (vs : List VarRef) (s : Store) → go (die nv nd vs [] ∷ []) (ext0 s) ≡ settled_pass (without vs s)
  die_alone vs s =
      one_link p.shapes.structs choice (Kill (ptr_vars vs ++ []) (datum_vars vs)) (ext0 s) (without vs s)
      (ap (λ ks. Passed (kill ks (datum_vars vs) (ext0 s))) (append-nil (ptr_vars vs))
      ∙ ap (λ g. Passed g) (kill_ext0 (ptr_vars vs) (datum_vars vs) s))

  -- p0 after an operand was read

  module _ (s : Store) (sound : Sound p s) (whole : leaks s ≡ false) (z : Value) where
    abbrev left : Arg → Value
    left a = leaves p choice s sound whole z a

    path_left : (y : ℕ) (fs : List ℕ) → used_before nv fs ≡ [] → path_leaves p choice s sound whole z y fs ≡ z
    path_left y [] e = refl
    path_left y (f ∷ []) e = refl
    path_left y (f ∷ g ∷ gs) e = absurd (cc e)

    left_same : (a : Arg) → given_used nv nd a ≡ [] → left a ≡ z
    left_same (GivenPtr (OpPath q)) e = path_left q.var q.fields e
    left_same (GivenData (DataOpPath (DataField base f))) e = by base.fields e
      where
        by : (fs : List ℕ) → used nv fs ≡ [] → held_or z fs (value_of (read s base)) ≡ z
        by [] e = refl
        by (g ∷ gs) e = absurd (cc e)
    left_same _ e = refl

  left_cleared : (s : Store) (sound : Sound p s) (whole : leaks s ≡ false) (a : Arg)
      → IsCleared nv Uninit (given_used nv nd a) (leaves p choice s sound whole Uninit a)
  left_cleared s sound whole (GivenPtr (OpPath q)) = by q.fields
    where
      by : (fs : List ℕ) → IsCleared nv Uninit (used_before nv fs) (path_leaves p choice s sound whole Uninit q.var fs)
      by [] = refl
      by (f ∷ []) = refl
      by (f ∷ g ∷ gs) = refl
  left_cleared s sound whole (GivenData (DataOpPath (DataField base f))) = by base.fields
    where
      by : (fs : List ℕ) → IsCleared nv Uninit (used nv fs) (held_or Uninit fs (value_of (read s base)))
      by [] = refl
      by (g ∷ gs) = refl
  left_cleared s sound whole _ = refl

  -- A call begins

  abbrev Either : List ℕ → Type 0
  Either us = (us ≡ nv ∷ []) ⊎ (us ≡ [])

  used_once : (fs : List ℕ) → Either (used nv fs)
  used_once [] = inr refl
  used_once (f ∷ fs) = inl refl

  given_once : (a : Arg) → Either (given_used nv nd a)
  given_once (GivenPtr (OpPath q)) = by q.fields
    where
      by : (fs : List ℕ) → Either (used_before nv fs)
      by [] = inr refl
      by (f ∷ fs) = used_once fs
  given_once (GivenData (DataOpPath (DataField base f))) = used_once base.fields
  given_once _ = inr refl

  each_once : (ws : List Arg) → Either (each_used nv nd ws)
  each_once [] = inr refl
  each_once (a ∷ ws) = by (given_used nv nd a) (given_once a) (each_once ws)
    where
      by : (us : List ℕ) → Either us → Either (each_used nv nd ws) → Either (one_used nv nd us (each_used nv nd ws))
      by [] h rest = rest
      by (u ∷ us) (inl e) rest = let same : u ≡ nv = cc in inl (ap (λ k. k ∷ []) same)
      by (u ∷ us) (inr e) rest = absurd (cc e)

  -- these die at the end: p0, or else p0 holds nothing, and none of the arguments that are left uses it
  abbrev Ends : List ℕ → Value → List Arg → Type 0
  Ends us z ws = (us ≡ nv ∷ []) ⊎ ((us ≡ []) × (z ≡ Uninit) × (each_used nv nd ws ≡ []))

  ends_on : (s : Store) (sound : Sound p s) (whole : leaks s ≡ false) (us : List ℕ) (z : Value) (a : Arg)
      (ws : List Arg) → Ends us z (a ∷ ws) → Ends us (leaves p choice s sound whole z a) ws
  ends_on s sound whole us z a ws (inl e) = inl e
  ends_on s sound whole us z a ws (inr h) =
      let both = none_used (given_used nv nd a) (each_used nv nd ws) nv nd h.2 in
      inr (h.0, left_same s sound whole z a both.0 ∙ h.1, both.1)

  ends_clear : (us : List ℕ) (z : Value) (ws : List Arg) → Ends us z ws → IsCleared nv Uninit us z
  ends_clear us z ws (inl e) = subst (λ ks. IsCleared nv Uninit ks z) (sym e) refl
  ends_clear us z ws (inr h) = subst (λ ks. IsCleared nv Uninit ks z) (sym h.0) h.1

  abbrev ArgsFit : List VarRef → List Arg → Type 0
  ArgsFit vs ws = args_typed p.shapes.structs p.vars (length p.data_vars) vs ws ≡ true

  settled_is : (s : Store) → leaks s ≡ false → settled_pass s ≡ Passed (ext0 s)
  settled_is s whole = rw (leaks_ext0 s, whole) refl

  enters_none : (s : Store) → Sound p s → leaks s ≡ false → (us : List ℕ) (z : Value) (ws : List Arg) → Ends us z ws
      → go (ends us []) (ext s z Uninit Undefined Undefined) ≡ settled_pass s
  enters_none s sound whole us z ws h =
      ends_pass p.shapes.structs choice us [] s (ext s z Uninit Undefined Undefined)
      (all_cleared nv nd s (sound_sized p s sound) z Uninit Undefined Undefined us [] [] [] us [] (sym (append-nil us))
      refl (ends_clear us z ws h) refl refl refl) whole
      ∙ sym (settled_is s whole)

  module _ (u : Store) (clear : leaks u ≡ false) where
    -- from a store on which each variable that held a cell at first still does
    enters : (vs : List VarRef) (ws : List Arg) (s : Store) → Sound p s → HoldsOn u s → ArgsFit vs ws → AreFree u vs
        → (us : List ℕ) (z : Value) → Ends us z ws
        → go (give_each nv nd vs ws ++ ends us []) (ext s z Uninit Undefined Undefined) ≡ done_pass (enter s vs ws)
    enters [] ws s sound holds e free us z h =
        enters_none s sound (kept_sound u s (holds_keeps u s holds) clear) us z ws h
    enters (v ∷ vs) [] s sound holds e free us z h =
        enters_none s sound (kept_sound u s (holds_keeps u s holds) clear) us z [] h
    enters (v ∷ vs) (a ∷ ws) s sound holds e free us z h =
        let whole : leaks s ≡ false = kept_sound u s (holds_keeps u s holds) clear in
        let both = and_parts (arg_typed p.shapes.structs p.vars (length p.data_vars) v a)
        (args_typed p.shapes.structs p.vars (length p.data_vars) vs ws) e in
        let rest : List Link = give_each nv nd vs ws ++ ends us [] in
        let x : Value = leaves p choice s sound whole z a in
        ap (λ ls. go ls (ext s z Uninit Undefined Undefined))
        (append_assoc (give_links nv nd v a) (give_each nv nd vs ws) (ends us []))
        ∙ given p choice s sound whole z v a both.0 rest
        ∙ onto_same (give s v a) (λ t. on_from p choice rest t x) (λ t. done_pass (enter t vs ws))
        (λ t got.
        let kept : HoldsOn u t =
        subst (λ r. Gives (HoldsOn u) (onward r (λ w. Ok w))) got
        (enter_holds u s (v ∷ []) (a ∷ []) (one_free u v vs free) holds) in
        let fits : Sound p t = subst (λ r. Gives (Sound p) r) got (give_sound p s v a both.0 sound) in
        ap
        (λ b. then_pass (if b then Faulted Leak else Passed (ext t x Uninit Undefined Undefined)) (λ g. go rest g))
        (hidden t x Uninit Undefined Undefined (kept_sound u t (holds_keeps u t kept) clear))
        ∙ enters vs ws t fits kept both.1 (λ y i. free y (inr i)) us x (ends_on s sound whole us z a ws h))
        ∙ sym (onto_onward (give s v a) (λ t. enter t vs ws) settled_pass)

  pub enter_passes : (s : Store) → Sound p s → leaks s ≡ false → (vs : List VarRef) (ws : List Arg)
      → EnterFits p vs ws → AreFree s vs → go (enter_row nv nd vs ws) (ext0 s) ≡ done_pass (enter s vs ws)
  enter_passes s sound whole vs ws fits free = by vs ws fits.args_fit free
    where
      first : (ws : List Arg) → Either (each_used nv nd ws) → Ends (each_used nv nd ws) Uninit ws
      first ws (inl e) = inl e
      first ws (inr e) = inr (e, refl, e)

      by : (vs : List VarRef) (ws : List Arg) → ArgsFit vs ws → AreFree s vs
          → go (enter_row nv nd vs ws) (ext0 s) ≡ done_pass (enter s vs ws)
      by [] ws e free = one_link p.shapes.structs choice (Kill [] []) (ext0 s) s refl
      by (v ∷ vs) [] e free = one_link p.shapes.structs choice (Kill [] []) (ext0 s) s refl
      by (v ∷ vs) (a ∷ ws) e free =
          enters s whole (v ∷ vs) (a ∷ ws) s sound (holds_same s) e free (each_used nv nd (a ∷ ws)) Uninit
          (first (a ∷ ws) (each_once (a ∷ ws)))

  -- `return` of a function

  pub leave_passes : (s : Store) → Sound p s → leaks s ≡ false → (v : Option VarRef) (vs : List VarRef)
      (a : Option Arg) → LeaveFits p v vs a → go (leave_row nv nd v vs a) (ext0 s) ≡ done_pass (leave s v vs a)
  leave_passes s sound whole v vs a fits = by v a fits.value_fits
    where
      below : Every (λ k. k < nv) (ptr_vars vs)
      below = ptrs_known p vs (subst (Known p) (sym fits.locals_are) (func_known p typed fits.func fits.is_there).2)

      by : (v : Option VarRef) (a : Option Arg)
          → value_typed p.shapes.structs p.vars (length p.data_vars) v a ≡ true
          → go (leave_row nv nd v vs a) (ext0 s) ≡ done_pass (leave s v vs a)
      by None a e = die_alone vs s
      by (Some v) None e = die_alone vs s
      by (Some v) (Some a) e =
          let x : Value = leaves p choice s sound whole Uninit a in
          let qs : List ℕ = given_used nv nd a in
          given p choice s sound whole Uninit v a e (die nv nd vs qs ∷ [])
          ∙ onto_same (give s v a) (λ t. on_from p choice (die nv nd vs qs ∷ []) t x) (λ t. settled_pass (without vs t))
          (λ t got.
          let size : Sized nv nd t =
          sound_sized p t (subst (λ r. Gives (Sound p) r) got (give_sound p s v a e sound)) in
          dies vs qs t x Uninit size.ptrs below
          (ap (λ ks. set_each (set_each t.vars (ptr_vars vs) Uninit ++ x ∷ Uninit ∷ []) ks Uninit)
          (sym (append-nil qs))
          ∙ both_cleared nv (set_each t.vars (ptr_vars vs) Uninit) Uninit
          (length_set_each t.vars (ptr_vars vs) Uninit ∙ size.ptrs) qs [] x Uninit (left_cleared s sound whole a)
          refl))
          ∙ sym (onto_onward (give s v a) (λ t. Ok (without vs t)) settled_pass)
