-- A program and its graph agree.
use Rattle.std.proofs.Common.{◌≡◌, ◌<◌, ◌≤◌, ◌+◌, ℕ, zero, suc, true, false, List, [], ◌∷◌, ◌++◌, length, replicate}
use Rattle.std.proofs.Common.{refl, sym, ap, ◌∙◌, subst, arith}
use Rattle.fore_base.specs.declared.fault.Fault.{Fault as Kind}
use Rattle.fore_base.specs.declared.store.Value.{Value}
use Rattle.fore_base.specs.declared.store.Value.TheVariants.{Uninit}
use Rattle.fore_base.specs.declared.store.Datum.{Datum}
use Rattle.fore_base.specs.declared.store.Datum.TheVariants.{Undefined}
use Rattle.fore_base.specs.declared.store.Store.{Store}
use Rattle.fore_base.specs.Lists.{Every}
use Rattle.fore_base.specs.Heap.{leaks}
use Rattle.c_types.specs.declared.mode.MallocMode.{MallocMode}
use Rattle.c_types.specs.declared.outcome.Outcome.{Outcome}
use Rattle.c_types.specs.declared.outcome.Outcome.TheVariants.{Ended, Fault, Starved, BadChoice, StillRunning}
use Rattle.c_types.specs.Program.{Program, is_typed}
use Rattle.c_types.specs.Control.{Items, Done, opened}
use Rattle.c_types.specs.Runs.{run, go, at_end, own_line, empty_store}
use Rattle.c_types.specs.Over.{IsOver}
use Rattle.c_types.specs.Fits.{ItemsFit}
use Rattle.c_types.proofs.Fitting.{empty_sound}
use Rattle.c_types.proofs.ItemsTyped.{start_fits}
use Rattle.c_cfg.specs.Graphs.{ControlGraph}
use Rattle.c_cfg.specs.GraphRuns.{grun, ggo, at_location}
use Rattle.c_cfg.specs.Lowering.{LowerOf, IsRow}
use Rattle.c_cfg.specs.Places.{places}
use Rattle.c_cfg.specs.Agreement.{IsFaultAt, IsEnded, IsStarved, IsBadAt, Agrees}
use Rattle.c_cfg.proofs.Agree.Temporaries.{ext0}
use Rattle.c_cfg.proofs.Agree.Ways.{stepless}
use Rattle.c_cfg.proofs.Ranged.{Ranged, places_ranged, unmarked}
use Rattle.c_cfg.proofs.RangedStart.{start_ranged}
use Rattle.c_cfg.proofs.Agree.StepsAlike.{size}
use Rattle.c_cfg.proofs.Agree.Simulated.{Follows, Still, Stays, longer, fuel, fuel_least, Ready, over, goes_on}
use Rattle.c_cfg.proofs.Agree.OtherMarks.{go_same, items_marked}
use Rattle.c_cfg.proofs.Landing.{Each, each}
use Rattle.c_cfg.proofs.Calls.Homes.{Homed, each_every, each_unmarked}
use Rattle.c_cfg.proofs.Calls.BodyHomes.{start_homed}
use Rattle.c_cfg.proofs.Calls.Safe.{empty_safe}

-- one bound of all sizes

bound_more : {A : Type 0} (P Q : A → Type 0) (g : A → ℕ) (v w : ℕ) → v ≤ w → (xs : List A)
    → Every (λ x. P x × Q x × (g x ≤ v)) xs → Every (λ x. P x × Q x × (g x ≤ w)) xs
bound_more P Q g v w h [] e = tt
bound_more P Q g v w h (x ∷ xs) e = ((e.0.0, e.0.1, omega (arith, e.0.2, h)), bound_more P Q g v w h xs e.1)

pub record Bounded {A : Type 0} (P Q : A → Type 0) (g : A → ℕ) (xs : List A) : Type 0 where
  pub most : ℕ
  pub positive : 0 < most
  pub each_most : Every (λ x. P x × Q x × (g x ≤ most)) xs

bounded : {A : Type 0} (P Q : A → Type 0) (g : A → ℕ) (xs : List A) → Every P xs → Every Q xs → Bounded P Q g xs
bounded P Q g [] h k = record { most = 1; positive = omega arith; each_most = tt }
bounded P Q g (x ∷ xs) h k =
    let rest : Bounded P Q g xs = bounded P Q g xs h.1 k.1 in
    record {
      most = g x + rest.most;
      positive = omega (arith, rest.positive);
      each_most =
          ((h.0, k.0, omega arith), bound_more P Q g rest.most (g x + rest.most) (omega arith) xs rest.each_most);
    }

every_both : {A : Type 0} (P Q : A → Type 0) (xs : List A) → Every P xs → Every Q xs → Every (λ x. P x × Q x) xs
every_both P Q [] h k = tt
every_both P Q (x ∷ xs) h k = ((h.0, k.0), every_both P Q xs h.1 k.1)

-- The empty stores

two_more : {A : Type 0} (n : ℕ) (x : A) → replicate n x ++ x ∷ x ∷ [] ≡ replicate (n + 2) x
two_more zero x = refl
two_more (suc n) x = let more : suc n + 2 ≡ suc (n + 2) = omega arith in ap (λ xs. x ∷ xs) (two_more n x)
    ∙ sym (ap (λ k. replicate k x) more)

empty_clear : (ptrs datums : ℕ) → leaks (empty_store ptrs datums) ≡ false
unfolding leaks
empty_clear ptrs datums = refl

-- Outcomes

abbrev at_line : ℕ → Outcome → ℕ
at_line other (Ended step) = other
at_line other (Fault kind line step) = line
at_line other (Starved step) = other
at_line other (BadChoice index) = other
at_line other StillRunning = other

abbrev of_kind : Kind → Outcome → Kind
of_kind other (Ended step) = other
of_kind other (Fault kind line step) = kind
of_kind other (Starved step) = other
of_kind other (BadChoice index) = other
of_kind other StillRunning = other

fault_from : (o : Outcome) (kind : Kind) (line : ℕ) → stepless o ≡ Fault kind line 0 → IsFaultAt kind line o
fault_from (Fault k l step) kind line e =
    (step, ap (λ z. Fault z l step) (ap (of_kind kind) e) ∙ ap (λ z. Fault kind z step) (ap (at_line line) e))
fault_from _ kind line e = absurd (cc e)

ended_from : (o : Outcome) → stepless o ≡ Ended 0 → IsEnded o
ended_from (Ended step) e = (step, refl)
ended_from _ e = absurd (cc e)

starved_from : (o : Outcome) → stepless o ≡ Starved 0 → IsStarved o
starved_from (Starved step) e = (step, refl)
starved_from _ e = absurd (cc e)

bad_from : (o : Outcome) (index : ℕ) → stepless o ≡ BadChoice index → IsBadAt index o
bad_from (BadChoice i) index e = e
bad_from _ index e = absurd (cc e)

stays_stepless : (o r : Outcome) → Stays o r → IsOver o → stepless r ≡ stepless o
stays_stepless StillRunning r h v = absurd v
stays_stepless _ r h v = ap stepless h

-- The program's run o of as many steps as the graph's run r of edges, which is over: with more edges that comes to t.
from_graph : (o r t : Outcome) → Follows o t → Still o r → Stays r t → IsOver r → stepless o ≡ stepless r
from_graph StillRunning r t f s h v = absurd (subst IsOver s v)
from_graph _ r t f s h v = sym f ∙ stays_stepless r t h v

module _ (p : Program) (typed : is_typed p ≡ true) (mode : MallocMode) (g : ControlGraph)
    (low : LowerOf p mode g) where
  abbrev pub first : Store
  first = empty_store (length p.vars) (length p.data_vars)

  abbrev sizes : Items → ℕ
  sizes c = size (length p.vars) (length p.data_vars) c

  -- the items, and each of the places, keep the parameters of functions that are not active
  own_ranged : Ranged p low.items
  own_ranged = unmarked p low.line low.items (subst (Ranged p) (sym low.is_program) (start_ranged p typed))

  own_homed : Each (Homed p) low.items Done
  own_homed = each_unmarked p low.line low.items Done
      (subst (λ c. Each (Homed p) c Done) (sym low.is_program) (start_homed p typed))

  pub rowed : Bounded (IsRow (length p.vars) (length p.data_vars) g.edges mode low.line low.at low.mids)
      (λ c. Ranged p c × Homed p c) sizes (places low.items Done)
  rowed = bounded _ (λ c. Ranged p c × Homed p c) sizes (places low.items Done) low.rows
      (every_both (Ranged p) (Homed p) (places low.items Done) (places_ranged p low.items Done own_ranged tt)
      (each_every (Homed p) low.items Done own_homed))

  pub ready : Ready p typed mode g.edges low.line low.at low.mids rowed.most low.exit low.items first
  ready = record {
    places = each _ low.items Done rowed.each_most;
    fits = items_marked low.line p low.items (subst (ItemsFit p) (sym low.is_program) (start_fits p typed));
    ranged = own_ranged;
    sound = empty_sound p;
    clear = empty_clear (length p.vars) (length p.data_vars);
    idle = λ x param absent. empty_safe (length p.vars) (length p.data_vars) x;
  }

  made : List Value → List Datum → Store
  made vs ds = record { vars = vs; data_vars = ds; cells = []; next = 1 }

  pub begins : ext0 first ≡ empty_store g.ptrs g.datums
  unfolding made
  begins =
      ap (λ vs. made vs (replicate (length p.data_vars) Undefined ++ Undefined ∷ Undefined ∷ []))
      (two_more (length p.vars) Uninit ∙ ap (λ k. replicate k Uninit) (sym low.ptrs))
      ∙ ap (λ ds. made (replicate g.ptrs Uninit) ds)
      (two_more (length p.data_vars) Undefined ∙ ap (λ k. replicate k Undefined) (sym low.datums))

  source_is : (cs : List ℕ) (n : ℕ) → go p.shapes.structs mode low.line at_end n 0 low.items first cs 0
      ≡ run p mode cs n
  unfolding run
  source_is cs n = sym (go_same low.line p.shapes.structs mode n 0 low.items first cs 0)
      ∙ ap (λ c. go p.shapes.structs mode own_line at_end n 0 c first cs 0) low.is_program

  target_is : (cs : List ℕ) (m : ℕ)
      → ggo p.shapes.structs g.edges (at_location g.edges) m 0 (low.at (opened low.items)) (ext0 first) cs 0
      ≡ grun g cs m
  unfolding grun
  target_is cs m =
      ap (λ k. ggo p.shapes.structs g.edges (at_location g.edges) m 0 k (ext0 first) cs 0) low.entry
      ∙ ap (λ s. ggo p.shapes.structs g.edges (at_location g.edges) m 0 0 s cs 0) begins
      ∙ ap (λ shapes. ggo shapes g.edges (at_location g.edges) m 0 0 (empty_store g.ptrs g.datums) cs 0)
      (sym (ap (λ z. z.structs) low.shapes))

  forth : (cs : List ℕ) (n m : ℕ) → fuel rowed.most n ≤ m → Follows (run p mode cs n) (grun g cs m)
  forth cs n m h =
      subst (λ o. Follows o (grun g cs m)) (source_is cs n)
      (subst (λ r. Follows (go p.shapes.structs mode low.line at_end n 0 low.items first cs 0) r) (target_is cs m)
      (over p typed mode g.edges low.line low.at low.mids rowed.most low.exit n m h low.items first ready 0 0 cs 0))

  going : (cs : List ℕ) (n : ℕ) → Still (run p mode cs n) (grun g cs n)
  going cs n =
      subst (λ o. Still o (grun g cs n)) (source_is cs n)
      (subst (λ r. Still (go p.shapes.structs mode low.line at_end n 0 low.items first cs 0) r) (target_is cs n)
      (goes_on p typed mode g.edges low.line low.at low.mids rowed.most low.exit n low.items first ready 0 0 cs 0))

  stays : (cs : List ℕ) (n m : ℕ) → n ≤ m → Stays (grun g cs n) (grun g cs m)
  unfolding grun
  stays cs n m h = longer g.shapes.structs g.edges n m h 0 0 (empty_store g.ptrs g.datums) cs 0

  back : (cs : List ℕ) (m : ℕ) → IsOver (grun g cs m) → stepless (run p mode cs m) ≡ stepless (grun g cs m)
  back cs m v =
      from_graph (run p mode cs m) (grun g cs m) (grun g cs (fuel rowed.most m))
      (forth cs m (fuel rowed.most m) (omega arith)) (going cs m)
      (stays cs m (fuel rowed.most m) (fuel_least rowed.most m rowed.positive)) v

  pub agree : Agrees p mode g
  agree = record {
    faults = λ cs kind line. record {
      there =
          λ n h. (
            fuel rowed.most n,
            fault_from _ kind line
                (subst (λ o. Follows o (grun g cs (fuel rowed.most n))) h.1
                (forth cs n (fuel rowed.most n) (omega arith))),
          );
      back = λ m h. (m, omega arith, fault_from _ kind line (back cs m (subst IsOver (sym h.1) tt) ∙ ap stepless h.1));
    };
    ends = λ cs. record {
      there =
          λ n h. (
            fuel rowed.most n,
            ended_from _
                (subst (λ o. Follows o (grun g cs (fuel rowed.most n))) h.1
                (forth cs n (fuel rowed.most n) (omega arith))),
          );
      back = λ m h. (m, omega arith, ended_from _ (back cs m (subst IsOver (sym h.1) tt) ∙ ap stepless h.1));
    };
    starves = λ cs. record {
      there =
          λ n h. (
            fuel rowed.most n,
            starved_from _
                (subst (λ o. Follows o (grun g cs (fuel rowed.most n))) h.1
                (forth cs n (fuel rowed.most n) (omega arith))),
          );
      back = λ m h. (m, omega arith, starved_from _ (back cs m (subst IsOver (sym h.1) tt) ∙ ap stepless h.1));
    };
    bad_choices = λ cs index. record {
      there =
          λ n h. (
            fuel rowed.most n,
            bad_from _ index
                (subst (λ o. Follows o (grun g cs (fuel rowed.most n))) h
                (forth cs n (fuel rowed.most n) (omega arith))),
          );
      back = λ m h. (m, omega arith, bad_from _ index (back cs m (subst IsOver (sym h) tt) ∙ ap stepless h));
    };
  }
