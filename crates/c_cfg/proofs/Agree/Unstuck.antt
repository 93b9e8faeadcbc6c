-- No run of a program's graph is stuck. Where a run can be: at a place between two steps, on the way through a step, or
-- at a test; and each edge leads to such a location again.
use Rattle.std.proofs.Common.{◌≡◌, ◌<◌, ◌⊎◌, inl, inr, ℕ, zero, suc, Bool, true, false, Some, None, Result, Ok, Err}
use Rattle.std.proofs.Common.{List, [], ◌∷◌, length, refl, sym, ap, ◌∙◌, subst, arith}
use Rattle.fore_base.specs.declared.fault.Fault.{Fault as Kind}
use Rattle.fore_base.specs.declared.store.Store.{Store}
use Rattle.fore_base.specs.Lists.{IsIn, Every}
use Rattle.fore_base.specs.Heap.{leaks}
use Rattle.fore_base.proofs.ListLemmas.{every_parts, every_in}
use Rattle.fore_base.specs.declared.store.Value.TheVariants.{Uninit}
use Rattle.fore_base.specs.declared.store.Datum.TheVariants.{Undefined}
use Rattle.fore_base.specs.Stores.{kill}
use Rattle.c_types.specs.declared.mode.MallocMode.{MallocMode}
use Rattle.c_types.specs.declared.program.Act.{Act}
use Rattle.c_types.specs.declared.program.Act.TheVariants.{Return}
use Rattle.c_types.specs.Program.{Program, is_typed}
use Rattle.c_types.specs.Control.{Items, Done, opened, Do, Close, If, Enter, Leave, Exit}
use Rattle.c_types.specs.Control.{Ask, ◌then◌, from_exit}
use Rattle.c_types.specs.declared.program.Atom.{Atom}
use Rattle.c_types.specs.declared.program.Atom.TheVariants.{Choice as ChoiceAtom, Known as KnownAtom, Ptr as PtrAtom}
use Rattle.c_types.specs.declared.program.Atom.TheVariants.{Data as DataAtom}
use Rattle.c_types.specs.Steps.{Turn, Goes, Stops, Faults, enter, leave, exit as exit_of, act_takes, settle, settled}
use Rattle.c_types.specs.Steps.{act_turn, turn_of, all_dead, below}
use Rattle.c_types.specs.Fits.{ItemsFit}
use Rattle.c_types.proofs.ItemsTyped.{then_fit, opened_fit}
use Rattle.c_types.proofs.Turns.{then_done}
use Rattle.c_types.proofs.CellsFit.{length_set_each}
use Rattle.c_cfg.specs.declared.graph.Instr.{Instr}
use Rattle.c_cfg.specs.declared.graph.Edge.{Edge}
use Rattle.c_cfg.specs.Edges.{Pass, Passed, Faulted, Halted, NotPassed, onto, if_agreed, raw_step, leak_tested, gstep}
use Rattle.c_cfg.specs.GraphRuns.{out_of}
use Rattle.c_cfg.specs.Links.{Link, One, Two, links_in, act_row, enter_row, leave_row, exit_row}
use Rattle.c_cfg.specs.Lowering.{edge, IsWay, but_last, IsTestRow, followed_by, LowerOf}
use Rattle.c_cfg.specs.Visits.{HasWay, Visits, begin, by_edge, IsNeverStuck}
use Rattle.c_cfg.specs.declared.graph.Instr.TheVariants.{Kill, Choose}
use Rattle.c_cfg.specs.Graphs.{ControlGraph}
use Rattle.c_cfg.specs.Places.{places}
use Rattle.c_cfg.specs.Temporaries.{TemporariesUnset}
use Rattle.c_cfg.proofs.Landing.{Each, Front, each, whole, each_followed, each_opened, each_exit}
use Rattle.c_cfg.proofs.Filling.{Filled, filled_in, act_filled, enter_filled, leave_filled, exit_filled}
use Rattle.c_cfg.proofs.Agree.Temporaries.{ext0, Sized, ext_unset}
use Rattle.c_cfg.proofs.Agree.Passing.{then_pass, links_pass, done_pass}
use Rattle.c_cfg.proofs.Agree.Tested.{Tests, faults, compares, ptr_tests, data_tests}
use Rattle.c_cfg.proofs.Agree.Ways.{AreOnes, TakesAs}
use Rattle.c_cfg.proofs.Agree.StepsAlike.{IsKnown}
use Rattle.c_cfg.proofs.Agree.Simulated.{Ready, next_ready, front_of, idle_opened}
use Rattle.c_cfg.proofs.Agree.TempLeaks.{leaks_ext0}
use Rattle.c_cfg.proofs.Agree.ActTurns.{turn_pass, done_turn, stop_of, kill_passes, act_passes, GoesTo, settle_to}
use Rattle.c_cfg.proofs.Agree.ActTurns.{settled_to, act_to}
use Rattle.c_cfg.proofs.Agree.Reading.{sound_sized}
use Rattle.c_cfg.proofs.Agree.LinksOnes.{plain_ones, ends_ones, ptr_ones, cmp_ones, act_row_takes}
use Rattle.c_cfg.proofs.Agree.Agreed.{first, rowed, ready, begins}
use Rattle.c_cfg.proofs.PlainLinks.{enter_plain, leave_plain, exit_plain}
use Rattle.c_cfg.proofs.Ranged.{Ranged, then_ranged}
use Rattle.c_cfg.proofs.Calls.OpenCalls.{open_vars, Closed}
use Rattle.c_cfg.proofs.Calls.Idle.{Idle, Kept, idle_free}
use Rattle.c_cfg.proofs.Agree.CallRows.{enter_passes, leave_passes}
use Rattle.c_cfg.proofs.Agree.ExitRows.{exit_passes}

dead_sized : (nv nd : ℕ) (s : Store) → Sized nv nd s → Sized nv nd (all_dead s)
dead_sized nv nd s z = record {
  ptrs = length_set_each s.vars (below (length s.vars)) Uninit ∙ z.ptrs;
  datums = length_set_each s.data_vars (below (length s.data_vars)) Undefined ∙ z.datums;
}

every_own : (cs : List Items) → Every (λ c. IsIn c (Done ∷ cs)) cs
every_own cs = here cs (λ c i. inr i)
  where
    here : (ds : List Items) → ((c : Items) → IsIn c ds → IsIn c (Done ∷ cs)) → Every (λ c. IsIn c (Done ∷ cs)) ds
    here [] sub = tt
    here (d ∷ ds) sub = (sub d (inl refl), here ds (λ c i. sub c (inr i)))

module _ (p : Program) (typed : is_typed p ≡ true) (mode : MallocMode) (edges : List Edge) (line : ℕ → ℕ)
    (at : Items → ℕ) (mids : Items → List ℕ) (most : ℕ) (exit : out_of edges (at Done) ≡ []) (all : List Items) where
  abbrev pub pass : ℕ → List Link → Store → Pass
  pass x ls s = links_pass p.shapes.structs x ls s

  abbrev pub Place : Items → Type 0
  Place c = IsKnown p mode edges line at mids most c

  abbrev pub IsReady : Items → Store → Type 0
  IsReady c s = Ready p typed mode edges line at mids most exit c s

  -- the exit, or one of the places
  abbrev pub Among : Items → Type 0
  Among c = IsIn c (Done ∷ all)

  -- in the middle of the step of a place
  pub record IsMid (k : ℕ) : Type 0 where
    pub items : Items
    pub is_there : IsIn items all
    pub is_mid : IsIn k (mids items)

  -- Where a run can be

  pub record AtEnd (k : ℕ) (s : Store) : Type 0 where
    pub store : Store
    pub is_at : k ≡ at Done
    pub is_ext : s ≡ ext0 store
    pub sized : Sized (length p.vars) (length p.data_vars) store

  pub record AtPlace (k : ℕ) (s : Store) : Type 0 where
    pub items : Items
    pub store : Store
    pub is_at : k ≡ at (opened items)
    pub is_ext : s ≡ ext0 store
    pub is_ready : IsReady items store
    pub among : Each Among items Done

  abbrev pub Settled : ℕ → Store → Type 0
  Settled k s = AtEnd k s ⊎ AtPlace k s

  abbrev pub Lands : (ℕ → Store → Type 0) → ℕ → Pass → Type 0
  Lands T to (Passed u) = T to u
  Lands T to (Faulted f) = Unit {0}
  Lands T to Halted = Unit {0}
  Lands T to NotPassed = ⊥

  pub record OnWay (T : ℕ → Store → Type 0) (k : ℕ) (s : Store) : Type 0 where
    pub at_line : ℕ
    pub links : List Link
    pub way : List ℕ
    pub to : ℕ
    pub leads : IsWay edges at_line links k way to
    pub ones : AreOnes links
    pub lands : Lands T to (pass 0 links s)
    pub insides : Every IsMid (but_last (k ∷ way))

  pub record AtTest (k : ℕ) (s : Store) : Type 0 where
    pub at_line : ℕ
    pub if_same : ℕ
    pub if_other : ℕ
    pub same_test : Instr
    pub other_test : Instr
    pub tests : out_of edges k ≡ edge at_line k if_same same_test None ∷ edge at_line k if_other other_test None ∷ []
    pub compared : Result Bool Kind
    pub clear : leaks s ≡ false
    pub same_raw : raw_step p.shapes.structs same_test 0 s ≡ onto compared (λ same. if_agreed true same s)
    pub other_raw : raw_step p.shapes.structs other_test 0 s ≡ onto compared (λ same. if_agreed false same s)
    pub same_on : OnWay Settled if_same s
    pub other_on : OnWay Settled if_other s

  abbrev pub Reached : ℕ → Store → Type 0
  Reached k s = Settled k s ⊎ (AtTest k s × IsMid k)

  abbrev pub Seen : ℕ → Store → Type 0
  Seen k s = OnWay Reached k s

  -- What an edge leads to is seen too, and one of the edges goes somewhere on either choice.
  abbrev pub Good : Store → Edge → Type 0
  Good s e = (t : Store) → gstep p.shapes.structs e s ≡ Passed t → Seen e.to t

  pub record StepsOn (es : List Edge) (s : Store) : Type 0 where
    pub each_good : Every (Good s) es
    pub some_goes : (x : ℕ) → x < 2 → (es ≡ []) ⊎ HasWay p.shapes.structs es x s

  abbrev pub Steps : ℕ → Store → Type 0
  Steps k s = StepsOn (out_of edges k) s

  -- The middles of steps

  each_mid : (c : Items) → IsIn c all → (ks : List ℕ) → ((k : ℕ) → IsIn k ks → IsIn k (mids c)) → Every IsMid ks
  each_mid c h [] sub = tt
  each_mid c h (k ∷ ks) sub =
      (record { items = c; is_there = h; is_mid = sub k (inl refl) }, each_mid c h ks (λ j i. sub j (inr i)))

  place_mids : (c : Items) → Among c → (c ≡ Done → ⊥) → Every IsMid (mids c)
  place_mids c (inl e) other = absurd (other e)
  place_mids c (inr h) other = each_mid c h (mids c) (λ k i. i)

  but_mid : (ks : List ℕ) → Every IsMid ks → Every IsMid (but_last ks)
  but_mid [] h = tt
  but_mid (k ∷ []) h = tt
  but_mid (k ∷ m ∷ ms) h = (h.0, but_mid (m ∷ ms) h.1)

  last_mid : (l : ℕ) (ls : List Link) (m : ℕ) (ms : List ℕ) (to : ℕ) → IsWay edges l ls m ms to → Every IsMid (m ∷ ms)
      → IsMid to
  last_mid l [] m [] to w h = subst IsMid w h.0
  last_mid l [] m (n ∷ ms) to w h = absurd w
  last_mid l (x ∷ ls) m [] to w h = absurd w
  last_mid l (x ∷ ls) m (n ∷ ms) to w h = last_mid l ls n ms to w.1 h.1

  -- Landing

  lands_mid : (T : ℕ → Store → Type 0) (to : ℕ) (z : Pass) → IsMid to → Lands T to z
      → Lands (λ k s. T k s × IsMid k) to z
  lands_mid T to (Passed u) mid h = (h, mid)
  lands_mid T to (Faulted f) mid h = tt
  lands_mid T to Halted mid h = tt
  lands_mid T to NotPassed mid h = h

  lands_more : (T U : ℕ → Store → Type 0) → ((k : ℕ) (s : Store) → T k s → U k s) → (to : ℕ) (z : Pass) → Lands T to z
      → Lands U to z
  lands_more T U more to (Passed u) h = more to u h
  lands_more T U more to (Faulted f) h = tt
  lands_more T U more to Halted h = tt
  lands_more T U more to NotPassed h = h

  on_way_more : (T U : ℕ → Store → Type 0) → ((k : ℕ) (s : Store) → T k s → U k s) → (k : ℕ) (s : Store) → OnWay T k s
      → OnWay U k s
  on_way_more T U more k s w =
      record {
        at_line = w.at_line;
        links = w.links;
        way = w.way;
        to = w.to;
        leads = w.leads;
        ones = w.ones;
        lands = lands_more T U more w.to (pass 0 w.links s) w.lands;
        insides = w.insides;
      }

  settled_seen : (k : ℕ) (s : Store) → OnWay Settled k s → Seen k s
  settled_seen k s w = on_way_more Settled Reached (λ k s h. inl h) k s w

  here_seen : (k : ℕ) (s : Store) → Reached k s → Seen k s
  here_seen k s h = record
      { at_line = 0; links = []; way = []; to = k; leads = refl; ones = tt; lands = h; insides = tt }

  -- what is left of a way after its first edge
  after_edge : (T : ℕ → Store → Type 0) (to : ℕ) (z : Pass) (rest : Store → Pass) → Lands T to (then_pass z rest)
      → (t : Store) → z ≡ Passed t → Lands T to (rest t)
  after_edge T to z rest h t e = subst (λ y. Lands T to (then_pass y rest)) e h

  no_stop : (T : ℕ → Store → Type 0) (to : ℕ) (z : Pass) (rest : Store → Pass) → Lands T to (then_pass z rest)
      → z ≡ NotPassed → ⊥
  no_stop T to z rest h e = subst (λ y. Lands T to (then_pass y rest)) e h

  -- Edges

  no_edges : (s : Store) → StepsOn [] s
  no_edges s = record { each_good = tt; some_goes = λ x less. inl refl }

  -- an edge of any choice that goes somewhere
  by_edge_at : {es : List Edge} (l k m : ℕ) (i : Instr) (s : Store) → IsIn (edge l k m i None) es
      → (leak_tested (raw_step p.shapes.structs i 0 s) ≡ NotPassed → ⊥)
      → (x : ℕ) → x < 2 → (es ≡ []) ⊎ HasWay p.shapes.structs es x s
  by_edge_at l k m i s there goes x less =
      inr (record { edge = edge l k m i None; is_there = there; taken = refl; goes = goes })

  one_edge : (l k m : ℕ) (i : Instr) (s : Store) → (leak_tested (raw_step p.shapes.structs i 0 s) ≡ NotPassed → ⊥)
      → ((t : Store) → leak_tested (raw_step p.shapes.structs i 0 s) ≡ Passed t → Seen m t)
      → StepsOn (edge l k m i None ∷ []) s
  one_edge l k m i s goes good = record
      { each_good = (good, tt); some_goes = by_edge_at l k m i s (inl refl) goes }

  two_choices : (l k a b : ℕ) (i j : Instr) (s : Store)
      → (leak_tested (raw_step p.shapes.structs i 0 s) ≡ NotPassed → ⊥)
      → (leak_tested (raw_step p.shapes.structs j 1 s) ≡ NotPassed → ⊥)
      → ((t : Store) → leak_tested (raw_step p.shapes.structs i 0 s) ≡ Passed t → Seen a t)
      → ((t : Store) → leak_tested (raw_step p.shapes.structs j 1 s) ≡ Passed t → Seen b t)
      → StepsOn (edge l k a i (Some 0) ∷ edge l k b j (Some 1) ∷ []) s
  two_choices l k a b i j s goes0 goes1 good0 good1 = record { each_good = (good0, (good1, tt)); some_goes = by }
    where
      by : (x : ℕ) → x < 2 → ((edge l k a i (Some 0) ∷ edge l k b j (Some 1) ∷ []) ≡ [])
          ⊎ HasWay p.shapes.structs (edge l k a i (Some 0) ∷ edge l k b j (Some 1) ∷ []) x s
      by zero less = inr (record { edge = edge l k a i (Some 0); is_there = inl refl; taken = refl; goes = goes0 })
      by (suc zero) less = inr
          (record { edge = edge l k b j (Some 1); is_there = inr (inl refl); taken = refl; goes = goes1 })
      by (suc (suc x)) less = absurd (omega (arith, less))

  on_edges : (k : ℕ) (es : List Edge) (s : Store) → out_of edges k ≡ es → StepsOn es s → Steps k s
  on_edges k es s is h = subst (λ fs. StepsOn fs s) (sym is) h

  test_steps : (k : ℕ) (s : Store) → AtTest k s → Steps k s
  test_steps k s h = on_edges k _ s h.tests (by h.compared h.same_raw h.other_raw)
    where
      passed_same : (a : Pass) (g t : Store) → a ≡ Passed g → a ≡ Passed t → g ≡ t
      passed_same a g t u v = let both : Passed g ≡ Passed t = sym u ∙ v in cc

      by : (r : Result Bool Kind) → raw_step p.shapes.structs h.same_test 0 s ≡ onto r (λ same. if_agreed true same s)
          → raw_step p.shapes.structs h.other_test 0 s ≡ onto r (λ same. if_agreed false same s)
          → StepsOn (edge h.at_line k h.if_same h.same_test None ∷ edge h.at_line k h.if_other h.other_test None ∷ []) s
      by (Err x) same other =
          let p1 : leak_tested (raw_step p.shapes.structs h.same_test 0 s) ≡ Faulted x = ap (λ z. leak_tested z) same in
          let p2 : leak_tested (raw_step p.shapes.structs h.other_test 0 s) ≡ Faulted x =
          ap (λ z. leak_tested z) other in
          record {
            each_good = ((λ t q. absurd (cc (p1, q))), ((λ t q. absurd (cc (p2, q))), tt));
            some_goes = by_edge_at h.at_line k h.if_same h.same_test s (inl refl) (λ q. cc (p1, q));
          }
      by (Ok true) same other =
          let p1 : leak_tested (raw_step p.shapes.structs h.same_test 0 s) ≡ Passed s = ap (λ z. leak_tested z) same
          ∙ rw h.clear refl in
          let p2 : leak_tested (raw_step p.shapes.structs h.other_test 0 s) ≡ NotPassed =
          ap (λ z. leak_tested z) other in
          record {
            each_good = (
              (λ t q. subst (Seen h.if_same) (passed_same _ s t p1 q) (settled_seen h.if_same s h.same_on)),
              ((λ t q. absurd (cc (p2, q))), tt),
            );
            some_goes = by_edge_at h.at_line k h.if_same h.same_test s (inl refl) (λ q. cc (p1, q));
          }
      by (Ok false) same other =
          let p1 : leak_tested (raw_step p.shapes.structs h.same_test 0 s) ≡ NotPassed = ap (λ z. leak_tested z) same in
          let p2 : leak_tested (raw_step p.shapes.structs h.other_test 0 s) ≡ Passed s = ap (λ z. leak_tested z) other
          ∙ rw h.clear refl in
          record {
            each_good = (
              (λ t q. absurd (cc (p1, q))),
              ((λ t q. subst (Seen h.if_other) (passed_same _ s t p2 q) (settled_seen h.if_other s h.other_on)), tt),
            );
            some_goes = by_edge_at h.at_line k h.if_other h.other_test s (inr (inl refl)) (λ q. cc (p2, q));
          }

  -- the first edge of a way
  way_on : (T : ℕ → Store → Type 0) → ((k : ℕ) (s : Store) → T k s → Reached k s)
      → (l : ℕ) (i : Instr) (ls : List Link) (k : ℕ) (ms : List ℕ) (to : ℕ) (s : Store)
      → IsWay edges l (One i ∷ ls) k ms to → AreOnes ls → Lands T to (pass 0 (One i ∷ ls) s) → Every IsMid (but_last ms)
      → Steps k s
  way_on T more l i ls k [] to s w ones h inside = absurd w
  way_on T more l i ls k (m ∷ ms) to s w ones h inside =
      on_edges k (edge l k m i None ∷ []) s w.0
      (one_edge l k m i s (no_stop T to (leak_tested (raw_step p.shapes.structs i 0 s)) (λ t. pass 0 ls t) h)
      (λ t e. on_way_more T Reached more m t
      (record {
        at_line = l;
        links = ls;
        way = ms;
        to = to;
        leads = w.1;
        ones = ones;
        lands = after_edge T to (leak_tested (raw_step p.shapes.structs i 0 s)) (λ t. pass 0 ls t) h t e;
        insides =
            inside;
      })))

  ones_same : (ls : List Link) (x y : ℕ) (s : Store) → AreOnes ls → pass x ls s ≡ pass y ls s
  ones_same [] x y s h = refl
  ones_same (Two i j ∷ ls) x y s h = absurd h
  ones_same (One i ∷ ls) x y s h = here (leak_tested (raw_step p.shapes.structs i 0 s)) (λ t. ones_same ls x y t h)
    where
      here : (z : Pass) → ((t : Store) → pass x ls t ≡ pass y ls t) → then_pass z (λ t. pass x ls t)
          ≡ then_pass z (λ t. pass y ls t)
      here (Passed t) same = same t
      here (Faulted f) same = refl
      here Halted same = refl
      here NotPassed same = refl

  -- the links of a step
  row_steps : (takes : Bool) (l : ℕ) (ls : List Link) (k : ℕ) (ms : List ℕ) (to : ℕ) (s : Store)
      → IsWay edges l ls k ms to → TakesAs takes ls → Filled ls → ((x : ℕ) → Lands Settled to (pass x ls s))
      → Every IsMid (but_last ms) → Steps k s
  row_steps takes l [] k ms to s w taking filled h inside = absurd filled
  row_steps false l (One i ∷ ls) k ms to s w taking filled h inside =
      way_on Settled (λ k s u. inl u) l i ls k ms to s w taking (h 0) inside
  row_steps false l (Two i j ∷ ls) k ms to s w taking filled h inside = absurd taking
  row_steps true l (One i ∷ ls) k ms to s w taking filled h inside = absurd taking
  row_steps true l (Two i j ∷ ls) k [] to s w taking filled h inside = absurd w
  row_steps true l (Two i j ∷ ls) k (m ∷ ms) to s w taking filled h inside =
      on_edges k (edge l k m i (Some 0) ∷ edge l k m j (Some 1) ∷ []) s w.0
      (two_choices l k m m i j s
      (no_stop Settled to (leak_tested (raw_step p.shapes.structs i 0 s)) (λ t. pass 0 ls t) (h 0))
      (no_stop Settled to (leak_tested (raw_step p.shapes.structs j 1 s)) (λ t. pass 1 ls t) (h 1))
      (λ t e. settled_seen m t
      (record {
        at_line = l;
        links = ls;
        way = ms;
        to = to;
        leads = w.1;
        ones = taking;
        lands = after_edge Settled to (leak_tested (raw_step p.shapes.structs i 0 s)) (λ t. pass 0 ls t) (h 0) t e;
        insides = inside;
      }))
      (λ t e. settled_seen m t
      (record {
        at_line = l;
        links = ls;
        way = ms;
        to = to;
        leads = w.1;
        ones = taking;
        lands = subst (Lands Settled to) (ones_same ls 1 0 t taking)
            (after_edge Settled to (leak_tested (raw_step p.shapes.structs j 1 s)) (λ t. pass 1 ls t) (h 1) t e);
        insides = inside;
      })))

  -- a comparison's row
  test_row : (l : ℕ) (loads : List Link) (test : Bool → Instr) (ends : List Link) (k : ℕ) (ms : List ℕ)
      (same other : ℕ) (t : Store) → IsTestRow edges l loads test ends k ms same other → AreOnes loads → AreOnes ends
      → (compared : Result Bool Kind) → Tests p 0 t loads test ends compared
      → Settled same (ext0 t) → Settled other (ext0 t) → Every IsMid ms → Steps k (ext0 t)
  test_row l loads test ends k ms same other t row loads_ones ends_ones' compared tests on_same on_other inside =
      go_on loads row.front row.reads loads_ones (lands tests) parts.0
    where
      parts : Every IsMid row.front × Every IsMid (but_last (row.if_same ∷ row.after_same))
          × Every IsMid (but_last (row.if_other ∷ row.after_other))
      parts =
          let h1 = every_parts IsMid row.front _ (subst (λ ks. Every IsMid ks) row.middle inside) in
          let h2 = every_parts IsMid (but_last (row.if_same ∷ row.after_same)) _ h1.1 in
          (h1.0, h2.0, h2.1)

      lands : Tests p 0 t loads test ends compared → Lands AtTest row.tested (pass 0 loads (ext0 t))
      lands (faults f reads meets) = subst (Lands AtTest row.tested) (sym reads) tt
      lands (compares g reads clear tests ended) =
          subst (Lands AtTest row.tested) (sym reads)
          (record {
            at_line = l;
            if_same = row.if_same;
            if_other = row.if_other;
            same_test = test true;
            other_test = test false;
            tests = row.compares;
            compared = compared;
            clear = clear;
            same_raw = tests true;
            other_raw = tests false;
            same_on =
                record {
                  at_line = l;
                  links = ends;
                  way = row.after_same;
                  to = same;
                  leads = row.same_ends;
                  ones = ends_ones';
                  lands = subst (Lands Settled same) (sym ended) on_same;
                  insides = parts.1;
                };
            other_on =
                record {
                  at_line = l;
                  links = ends;
                  way = row.after_other;
                  to = other;
                  leads = row.other_ends;
                  ones = ends_ones';
                  lands = subst (Lands Settled other) (sym ended) on_other;
                  insides = parts.2;
                };
          })

      go_on : (ls : List Link) (front : List ℕ) → IsWay edges l ls k front row.tested → AreOnes ls
          → Lands AtTest row.tested (pass 0 ls (ext0 t)) → Every IsMid front → Steps k (ext0 t)
      go_on [] [] w ones h front_mid = test_steps k (ext0 t) (subst (λ j. AtTest j (ext0 t)) (sym w) h)
      go_on [] (m ∷ front) w ones h front_mid = absurd w
      go_on (One i ∷ ls) [] w ones h front_mid = absurd w
      go_on (One i ∷ ls) (m ∷ front) w ones h front_mid =
          way_on (λ k s. AtTest k s × IsMid k) (λ k s u. inr u) l i ls k (m ∷ front) row.tested (ext0 t) w ones
          (lands_mid AtTest row.tested (pass 0 (One i ∷ ls) (ext0 t)) (last_mid l ls m front row.tested w.1 front_mid)
          h) (but_mid (m ∷ front) front_mid)
      go_on (Two i j ∷ ls) front w ones h front_mid = absurd ones

  -- A place

  module _ (c : Items) (t : Store) (r : IsReady c t) where
    -- where a turn leads
    turn_lands : (turn : Turn) (x : ℕ) (is : Items) (stop : Pass) → turn_of p.shapes.structs mode (opened c) t x
        ≡ turn
        → GoesTo is turn → Each Place is Done → Each Among is Done → Lands Settled (at (opened is)) stop
        → Lands Settled (at (opened is)) (turn_pass stop turn)
    turn_lands (Goes js u) x is stop e to each among stops =
        inr
        (record {
          items = js;
          store = u;
          is_at = ap (λ z. at (opened z)) (sym to.0);
          is_ext = refl;
          is_ready = next_ready p typed mode edges line at mids most exit c js t u x r e to.1
              (subst (λ z. Each Place z Done) (sym to.0) each);
          among = subst (λ z. Each Among z Done) (sym to.0) among;
        })
    turn_lands Stops x is stop e to each among stops = stops
    turn_lands (Faults f) x is stop e to each among stops = tt

    act_stops : (a : Act) (is : Items) → Lands Settled (at (opened (followed_by a is))) (stop_of a t)
    act_stops (Return operand) is =
        inl
        (record { store = all_dead t; is_at = refl; is_ext = refl; sized = dead_sized _ _ t (sound_sized p t r.sound) })
    act_stops _ is = tt

    -- a side of a test
    on_side : (js : Items) → Each Place js Done → Each Among js Done → ItemsFit p js → Kept p typed js t
        → Settled (at (opened js)) (ext0 t)
    on_side js each among fits kept =
        inr
        (record {
          items = js;
          store = t;
          is_at = refl;
          is_ext = refl;
          is_ready = record {
            places = each;
            fits = fits;
            ranged = kept.0;
            sound = r.sound;
            clear = r.clear;
            idle = kept.1;
          };
          among = among;
        })

    ext_clear : leak_tested (Passed (ext0 t)) ≡ Passed (ext0 t)
    ext_clear = rw (leaks_ext0 t, r.clear) refl

    -- by an edge that changes nothing
    taken : (js : Items) → Settled (at (opened js)) (ext0 t) → (u : Store) → leak_tested (Passed (ext0 t)) ≡ Passed u
        → Seen (at (opened js)) u
    taken js settled u got =
        let both : Passed (ext0 t) ≡ Passed u = sym ext_clear ∙ got in
        let same : ext0 t ≡ u = cc in
        subst (Seen (at (opened js))) same (here_seen (at (opened js)) (ext0 t) (inl settled))

    goes_somewhere : leak_tested (Passed (ext0 t)) ≡ NotPassed → ⊥
    goes_somewhere e = cc (ext_clear, e)

    module _ (m : ℕ) (x y is : Items) (yes_on : Settled (at (opened (x then is))) (ext0 t))
        (no_on : Settled (at (opened (y then is))) (ext0 t)) where
      atom_steps : (a : Atom) → Place (If (Ask a m) x y is) → Every IsMid (mids (If (Ask a m) x y is))
          → Steps (at (If (Ask a m) x y is)) (ext0 t)
      atom_steps ChoiceAtom h inside =
          on_edges _ _ (ext0 t) h.0.0
          (two_choices (line m) _ (at (opened (y then is))) (at (opened (x then is))) (Choose None) (Choose None)
          (ext0 t) goes_somewhere goes_somewhere (taken (y then is) no_on) (taken (x then is) yes_on))
      atom_steps (KnownAtom true) h inside =
          on_edges _ _ (ext0 t) h.0.0
          (one_edge (line m) _ (at (opened (x then is))) (Kill [] []) (ext0 t) goes_somewhere
          (taken (x then is) yes_on))
      atom_steps (KnownAtom false) h inside =
          on_edges _ _ (ext0 t) h.0.0
          (one_edge (line m) _ (at (opened (y then is))) (Kill [] []) (ext0 t) goes_somewhere (taken (y then is) no_on))
      atom_steps (PtrAtom l q true) h inside =
          test_row (line m) _ _ _ _ _ _ _ t h.0 (ptr_ones (length p.vars) (length p.data_vars) l q) (ends_ones _ _) _
          (ptr_tests p 0 t r.sound r.clear l q h.1.0.0) yes_on no_on inside
      atom_steps (PtrAtom l q false) h inside =
          test_row (line m) _ _ _ _ _ _ _ t h.0 (ptr_ones (length p.vars) (length p.data_vars) l q) (ends_ones _ _) _
          (ptr_tests p 0 t r.sound r.clear l q h.1.0.0) no_on yes_on inside
      atom_steps (DataAtom l q true) h inside =
          test_row (line m) _ _ _ _ _ _ _ t h.0 (cmp_ones (length p.vars) (length p.data_vars) l q) (ends_ones _ _) _
          (data_tests p 0 t r.sound r.clear l q h.1.0.0) yes_on no_on inside
      atom_steps (DataAtom l q false) h inside =
          test_row (line m) _ _ _ _ _ _ _ t h.0 (cmp_ones (length p.vars) (length p.data_vars) l q) (ends_ones _ _) _
          (data_tests p 0 t r.sound r.clear l q h.1.0.0) no_on yes_on inside

    -- a step of a call, or a `return` of one
    call_steps : (turned : Result Store Kind) (o js : Items) (l : ℕ) (ls : List Link) (k : ℕ) (ms : List ℕ)
        → opened c ≡ o → ((x : ℕ) → turn_of p.shapes.structs mode o t x ≡ settled turned js)
        → IsWay edges l ls k ms (at (opened js)) → AreOnes ls → Filled ls
        → ((x : ℕ) → pass x ls (ext0 t) ≡ done_pass turned) → Each Place js Done → Each Among js Done
        → Every IsMid (but_last ms) → Steps k (ext0 t)
    call_steps turned o js l ls k ms e is w ones filled passes each among inside =
        row_steps false l ls k ms (at (opened js)) (ext0 t) w ones filled
        (λ x. subst (Lands Settled (at (opened js))) (sym (passes x ∙ done_turn Halted turned js))
        (turn_lands (settled turned js) x js Halted (ap (λ z. turn_of p.shapes.structs mode z t x) e ∙ is x)
        (settled_to turned js) each among tt)) inside

    side_kept : (x is : Items) → Ranged p x → Ranged p is → Closed x → Idle p typed (open_vars 0 is) t
        → Kept p typed (x then is) t
    side_kept x is hx hi closed idle =
        (then_ranged p x is hx hi, subst (λ us. Idle p typed us t) (sym (closed 0 is)) idle)

    -- where the place stands, the same variables are open
    idle_at : (o : Items) → opened c ≡ o → Idle p typed (open_vars 0 o) t
    idle_at o e = subst (λ z. Idle p typed (open_vars 0 z) t) e
        (idle_opened p typed mode edges line at mids most exit c t r)

    place_steps : (o : Items) → opened c ≡ o → Front Place o → Front Among o → ItemsFit p o → Steps (at o) (ext0 t)
    place_steps Done e h among fits = on_edges (at Done) [] (ext0 t) exit (no_edges (ext0 t))
    place_steps (Do a m is) e h among fits =
        row_steps (act_takes mode a) (line m) (links_in mode (act_row (length p.vars) (length p.data_vars) a is))
        (at (Do a m is)) h.0.0.way
        (at (opened (followed_by a is))) (ext0 t) h.0.0.leads
        (act_row_takes (length p.vars) (length p.data_vars) mode a is)
        (filled_in mode (act_row (length p.vars) (length p.data_vars) a is)
        (act_filled (length p.vars) (length p.data_vars) a is))
        (λ x. subst (Lands Settled (at (opened (followed_by a is))))
        (sym (act_passes p typed x t r.sound r.clear mode a is fits.0))
        (turn_lands (act_turn p.shapes.structs mode a is t x) x (followed_by a is) (stop_of a t)
        (ap (λ z. turn_of p.shapes.structs mode z t x) e) (act_to p.shapes.structs mode a is t x)
        (each_followed Place a is h.1.1) (each_followed Among a is among.1.1) (act_stops a is)))
        (subst (λ ks. Every IsMid ks) h.0.0.middle (place_mids (Do a m is) among.0 (λ e. cc e)))
    place_steps (Close ps ds m is) e h among fits =
        row_steps false (line m) (One (Kill ps ds) ∷ []) (at (Close ps ds m is)) h.0.0.way (at (opened is)) (ext0 t)
        h.0.0.leads tt tt
        (λ x. subst (Lands Settled (at (opened is))) (sym (kill_passes p typed x t r.sound r.clear ps ds Halted is))
        (turn_lands (settle (kill ps ds t) is) x is Halted (ap (λ z. turn_of p.shapes.structs mode z t x) e)
        (settle_to (kill ps ds t) is) h.1.1 among.1.1 tt))
        (subst (λ ks. Every IsMid ks) h.0.0.middle (place_mids (Close ps ds m is) among.0 (λ e. cc e)))
    place_steps (If (Ask a m) x y is) e h among fits =
        atom_steps m x y is
        (on_side (x then is) (whole Place x is (rw (then_done is) at h.1.1) h.1.3)
        (whole Among x is (rw (then_done is) at among.1.1) among.1.3) (then_fit p x is fits.0 fits.2)
        (side_kept x is h.0.1.0.1 h.0.1.0.3 h.0.1.0.4 (idle_at (If (Ask a m) x y is) e)))
        (on_side (y then is) (whole Place y is (rw (then_done is) at h.1.2) h.1.3)
        (whole Among y is (rw (then_done is) at among.1.2) among.1.3) (then_fit p y is fits.1 fits.2)
        (side_kept y is h.0.1.0.2 h.0.1.0.3 h.0.1.0.5 (idle_at (If (Ask a m) x y is) e))) a h.0
        (place_mids (If (Ask a m) x y is) among.0 (λ e. cc e))
    place_steps (Enter vs ws m is) e h among fits =
        call_steps (enter t vs ws) (Enter vs ws m is) is (line m)
        (enter_row (length p.vars) (length p.data_vars) vs ws)
        (at (Enter vs ws m is))
        h.0.0.way e (λ x. refl) h.0.0.leads (plain_ones _ (enter_plain (length p.vars) (length p.data_vars) vs ws))
        (enter_filled (length p.vars) (length p.data_vars) vs ws)
        (λ x. enter_passes p typed x t r.sound r.clear vs ws fits.0
        (idle_free p typed (Enter vs ws m is) t h.0.1.0 h.0.1.1 (idle_at (Enter vs ws m is) e))) h.1.1 among.1.1
        (subst (λ ks. Every IsMid ks) h.0.0.middle (place_mids (Enter vs ws m is) among.0 (λ e. cc e)))
    place_steps (Leave v vs a m is) e h among fits =
        call_steps (leave t v vs a) (Leave v vs a m is) (from_exit is) (line m)
        (leave_row (length p.vars) (length p.data_vars) v vs a)
        (at (Leave v vs a m is))
        h.0.0.way e (λ x. refl) h.0.0.leads (plain_ones _ (leave_plain (length p.vars) (length p.data_vars) v vs a))
        (leave_filled (length p.vars) (length p.data_vars) v vs a)
        (λ x. leave_passes p typed x t r.sound r.clear v vs a fits.0) (each_exit Place is h.1.1)
        (each_exit Among is among.1.1)
        (subst (λ ks. Every IsMid ks) h.0.0.middle (place_mids (Leave v vs a m is) among.0 (λ e. cc e)))
    place_steps (Exit v vs d m is) e h among fits =
        call_steps (exit_of t v vs d) (Exit v vs d m is) is (line m)
        (exit_row (length p.vars) (length p.data_vars) v vs d)
        (at (Exit v vs d m is))
        h.0.0.way e (λ x. refl) h.0.0.leads (plain_ones _ (exit_plain (length p.vars) (length p.data_vars) v vs d))
        (exit_filled (length p.vars) (length p.data_vars) v vs d)
        (λ x. exit_passes p typed x t r.sound r.clear v vs d fits.0) h.1.1 among.1.1
        (subst (λ ks. Every IsMid ks) h.0.0.middle (place_mids (Exit v vs d m is) among.0 (λ e. cc e)))
    place_steps _ e h among fits = absurd h.0.0

  -- Wherever a run can be

  reached_steps : (k : ℕ) (s : Store) → Reached k s → Steps k s
  reached_steps k s (inl (inl h)) = on_edges k [] s (ap (out_of edges) h.is_at ∙ exit) (no_edges s)
  reached_steps k s (inl (inr h)) =
      let base : Steps (at (opened h.items)) (ext0 h.store) =
      place_steps h.items h.store h.is_ready (opened h.items) refl
      (front_of p typed mode edges line at mids most exit h.items h.store h.is_ready)
      (each_opened Among h.items (inl refl) h.among) (opened_fit p h.items h.is_ready.fits) in
      subst (λ j. Steps j s) (sym h.is_at) (subst (λ u. Steps (at (opened h.items)) u) (sym h.is_ext) base)
  reached_steps k s (inr h) = test_steps k s h.0

  seen_steps : (k : ℕ) (s : Store) → Seen k s → Steps k s
  seen_steps k s w = here w.links w.way w.leads w.ones w.lands w.insides
    where
      here : (ls : List Link) (ms : List ℕ) → IsWay edges w.at_line ls k ms w.to → AreOnes ls
          → Lands Reached w.to (pass 0 ls s) → Every IsMid (but_last (k ∷ ms)) → Steps k s
      here [] [] e ones h inside = subst (λ j. Steps j s) (sym e) (reached_steps w.to s h)
      here [] (m ∷ ms) e ones h inside = absurd e
      here (One i ∷ ls) [] e ones h inside = absurd e
      here (One i ∷ ls) (m ∷ ms) e ones h inside =
          way_on Reached (λ k s u. u) w.at_line i ls k (m ∷ ms) w.to s e ones h inside.1
      here (Two i j ∷ ls) ms e ones h inside = absurd ones

  -- in the middle of a step, or with temporaries that hold nothing
  reached_unset : (k : ℕ) (s : Store) → Reached k s → IsMid k ⊎ TemporariesUnset (length p.vars) (length p.data_vars) s
  reached_unset k s (inl (inl h)) = inr (ext_unset _ _ h.store s h.is_ext h.sized)
  reached_unset k s (inl (inr h)) = inr (ext_unset _ _ h.store s h.is_ext (sound_sized p h.store h.is_ready.sound))
  reached_unset k s (inr h) = inl h.1

  seen_unset : (k : ℕ) (s : Store) → Seen k s → IsMid k ⊎ TemporariesUnset (length p.vars) (length p.data_vars) s
  seen_unset k s w = here w.links w.way w.leads w.lands w.insides
    where
      here : (ls : List Link) (ms : List ℕ) → IsWay edges w.at_line ls k ms w.to → Lands Reached w.to (pass 0 ls s)
          → Every IsMid (but_last (k ∷ ms)) → IsMid k ⊎ TemporariesUnset (length p.vars) (length p.data_vars) s
      here [] [] e h inside = reached_unset k s (subst (λ j. Reached j s) (sym e) h)
      here [] (m ∷ ms) e h inside = absurd e
      here (l ∷ ls) [] e h inside = absurd e
      here (l ∷ ls) (m ∷ ms) e h inside = inl inside.0

module _ (p : Program) (typed : is_typed p ≡ true) (mode : MallocMode) (g : ControlGraph)
    (low : LowerOf p mode g) where
  abbrev IsSeen : ℕ → Store → Type 0
  IsSeen k s = Seen p typed mode g.edges low.line low.at low.mids
      (rowed p typed mode g low).most low.exit (places low.items Done) k s

  steps : (k : ℕ) (s : Store) → IsSeen k s
      → StepsOn p typed mode g.edges low.line low.at low.mids
      (rowed p typed mode g low).most low.exit (places low.items Done)
      (out_of g.edges k) s
  steps k s h = seen_steps p typed mode g.edges low.line low.at low.mids
      (rowed p typed mode g low).most low.exit
      (places low.items Done) k s h

  same_shapes : g.shapes.structs ≡ p.shapes.structs
  same_shapes = ap (λ z. z.structs) low.shapes

  visits_seen : {k : ℕ} {s : Store} → Visits g k s → IsSeen k s
  visits_seen begin =
      here_seen p typed mode g.edges low.line low.at low.mids
      (rowed p typed mode g low).most low.exit (places low.items Done) 0 _
      (inl
      (inr
      (record {
        items = low.items;
        store = first p typed mode g low;
        is_at = sym low.entry;
        is_ext = sym (begins p typed mode g low);
        is_ready = ready p typed mode g low;
        among =
            each _ low.items Done (every_own (places low.items Done));
      })))
  visits_seen (by_edge {k} {s} {t} e before there got) =
      every_in
      (Good p typed mode g.edges low.line low.at low.mids
      (rowed p typed mode g low).most low.exit (places low.items Done) s)
      (out_of g.edges k) e ((steps k s (visits_seen before)).each_good) there t
      (subst (λ shapes. gstep shapes e s ≡ Passed t) same_shapes got)

  pub never_stuck : IsNeverStuck g
  never_stuck k s visits x less =
      subst (λ shapes. (out_of g.edges k ≡ []) ⊎ HasWay shapes (out_of g.edges k) x s) (sym same_shapes)
      ((steps k s (visits_seen visits)).some_goes x less)

  -- in the middle of the step of a place
  abbrev pub Middle : ℕ → Type 0
  Middle k = IsMid p typed mode g.edges low.line low.at low.mids
      (rowed p typed mode g low).most low.exit (places low.items Done) k

  pub middle_or_unset : (k : ℕ) (s : Store) → Visits g k s → Middle k
      ⊎ TemporariesUnset (length p.vars) (length p.data_vars) s
  middle_or_unset k s visits =
      seen_unset p typed mode g.edges low.line low.at low.mids
      (rowed p typed mode g low).most low.exit (places low.items Done) k
      s (visits_seen visits)
