-- Forests on their way along an edge: how they begin, how one of them is taken along, and what is left at the end.
use Rattle.std.proofs.Common.{◌≡◌, ◌⊎◌, inl, inr, List, [], ◌∷◌, ◌++◌, refl, sym, subst, false}
use Rattle.fore_base.specs.Heap.{leaks}
use Rattle.fore_base.specs.Lists.{IsIn, Every}
use Rattle.fore_base.specs.declared.fault.Fault.{Fault}
use Rattle.fore_base.specs.declared.fault.Fault.TheVariants.{Leak}
use Rattle.fore_base.specs.declared.store.Store.{Store}
use Rattle.fore_base.proofs.ListLemmas.{in_left, in_right, every_append, every_weaker}
use Rattle.fa_core.specs.declared.boxes.BoxDef.{BoxDef}
use Rattle.fa_core.specs.declared.faces.Face.{Face}
use Rattle.fa_core.specs.declared.forest.Forest.{Forest}
use Rattle.fa_core.specs.Boxes.{IsTableOf}
use Rattle.fa_core.specs.Member.{Stands, Regroups, RegroupsInto}
use Rattle.fa_core.proofs.Composed.{regroups_same}
use Rattle.fa_core.proofs.Regrouped.{members_split}
use Rattle.fa_merge.specs.Reached.{AlwaysLeaks, NeverLeaks}
use Rattle.c_cfg.specs.Edges.{Pass, Passed, Faulted, Halted, NotPassed, leak_tested, gstep, raw_step, choice_of}
use Rattle.c_cfg.specs.declared.graph.Edge.{Edge}
use Rattle.sym_core.specs.Carried.{Carries, AllGo}
use Rattle.sym_core.specs.Cases.{BadAt, StandsInOne, IsMet, AllCases, IsTrueBad}
use Rattle.sym_core.specs.Kept.{Keeps}
use Rattle.sym_core.specs.Refined.{Refines}
use Rattle.sym_core.proofs.Refining.{regroups_refine, refines_on, keeps_refined, bads_refined}
use Rattle.sym_step.specs.inner.Stepping.{IsStepping, IsSteppingBy}
use Rattle.sym_step.proofs.FreedChild.{leaked_leaks}
use Rattle.sym_step.proofs.Keeping.{keeps_regrouped, fault_met, leak_met, goes_on, goes_keeps, unleaked_sound}

module _ (face : Face) (e : Edge) where
  -- more forests and more Bads meet no less
  met_more : (T : List BoxDef) (Ns Ms : List Forest) (Bs Cs : List BadAt) → ((N : Forest) → IsIn N Ns → IsIn N Ms)
      → ((b : BadAt) → IsIn b Bs → IsIn b Cs) → (s : Store) (p : Pass) → IsMet face T Ns Bs s p → IsMet face T Ms Cs s p
  met_more T Ns Ms Bs Cs f g s (Passed t) (N, i, h) = (N, f N i, h)
  met_more T Ns Ms Bs Cs f g s (Faulted k) (b, i, q, h) = (b, g b i, q, h)
  met_more T Ns Ms Bs Cs f g s Halted h = tt
  met_more T Ns Ms Bs Cs f g s NotPassed h = tt

  -- at the beginning the forest itself is still to go
  pub begins : {P : List BoxDef → Type 0} → (F : Forest) → IsSteppingBy P face F e (F ∷ []) [] []
  begins F = record {
    whole = λ T t s h. inl (F, inl refl, h);
    refines = λ T t. (regroups_refine face T e.instr F F (regroups_same T F), tt);
    keeps = λ T t. tt;
    bads = λ T t. tt;
  }

  -- one forest is taken along the edge
  module _ {P : List BoxDef → Type 0} (F G : Forest) (Gs Hs Ns Ms : List Forest) (Bs Cs : List BadAt)
      (a : IsSteppingBy P face F e (G ∷ Gs) Ns Bs) (b : IsSteppingBy P face G e Hs Ms Cs) where
    old_met : (T : List BoxDef) (s : Store) (p : Pass) → IsMet face T Ns Bs s p → IsMet face T (Ns ++ Ms) (Bs ++ Cs) s p
    old_met T s p h = met_more T Ns (Ns ++ Ms) Bs (Bs ++ Cs) (λ N i. in_left N Ns Ms i) (λ x i. in_left x Bs Cs i) s p h

    new_met : (T : List BoxDef) (s : Store) (p : Pass) → IsMet face T Ms Cs s p → IsMet face T (Ns ++ Ms) (Bs ++ Cs) s p
    new_met T s p h = met_more T Ms (Ns ++ Ms) Cs (Bs ++ Cs) (λ N i. in_right N Ns Ms i) (λ x i. in_right x Bs Cs i) s p
        h

    abbrev Left : List BoxDef → Store → Type 0
    Left T s = StandsInOne face T (Gs ++ Hs) s ⊎ IsMet face T (Ns ++ Ms) (Bs ++ Cs) s (gstep face.shapes.structs e s)

    of_one : (T : List BoxDef) (s : Store) → StandsInOne face T Hs s
        ⊎ IsMet face T Ms Cs s (gstep face.shapes.structs e s) → Left T s
    of_one T s (inl (H, i, h)) = inl (H, in_right H Gs Hs i, h)
    of_one T s (inr h) = inr (new_met T s (gstep face.shapes.structs e s) h)

    of_all : (T : List BoxDef) → P T → (s : Store) → StandsInOne face T (G ∷ Gs) s
        ⊎ IsMet face T Ns Bs s (gstep face.shapes.structs e s) → Left T s
    of_all T t s (inl (H, inl q, h)) =
        of_one T s (b.whole T t s (subst (λ (X : Forest). Stands face.shapes.structs T X s) q h))
    of_all T t s (inl (H, inr i, h)) = inl (H, in_left H Gs Hs i, h)
    of_all T t s (inr h) = inr (old_met T s (gstep face.shapes.structs e s) h)

    pub one_taken : IsSteppingBy P face F e (Gs ++ Hs) (Ns ++ Ms) (Bs ++ Cs)
    one_taken = record {
      whole = λ T t s h. of_all T t s (a.whole T t s h);
      refines = λ T t. every_append (Refines face T e.instr F) Gs Hs (a.refines T t).1
          (every_weaker (Refines face T e.instr G) (Refines face T e.instr F) Hs
          (λ H g. refines_on face T e.instr F G H (a.refines T t).0 g) (b.refines T t));
      keeps = λ T t. every_append (Keeps face T F e) Ns Ms (a.keeps T t)
          (every_weaker (Keeps face T G e) (Keeps face T F e) Ms
          (λ M k. keeps_refined face T e F G M (a.refines T t).0 k) (b.keeps T t));
      bads = λ T t. every_append (IsTrueBad face T F e) Bs Cs (a.bads T t)
          (every_weaker (IsTrueBad face T G e) (IsTrueBad face T F e) Cs
          (λ x k. bads_refined face T e F G x (a.refines T t).0 k) (b.bads T t));
    }

  -- where none is left to go, each member is met
  pub none_left : {P : List BoxDef → Type 0} → (F : Forest) (Ns : List Forest) (Bs : List BadAt)
      → IsSteppingBy P face F e [] Ns Bs → (T : List BoxDef) → P T → AllCases face T F e Ns Bs
  none_left F Ns Bs a T t s h = here (a.whole T t s h)
    where
      here : StandsInOne face T [] s ⊎ IsMet face T Ns Bs s (gstep face.shapes.structs e s)
          → IsMet face T Ns Bs s (gstep face.shapes.structs e s)
      here (inl (H, i, k)) = absurd i
      here (inr k) = k

  -- by fewer lists of boxes
  pub stepping_fewer : {P Q : List BoxDef → Type 0} → ((T : List BoxDef) → P T → Q T) → (F : Forest)
      (Gs Ns : List Forest) (Bs : List BadAt) → IsSteppingBy Q face F e Gs Ns Bs → IsSteppingBy P face F e Gs Ns Bs
  stepping_fewer w F Gs Ns Bs a = record {
    whole = λ T t. a.whole T (w T t);
    refines = λ T t. a.refines T (w T t);
    keeps = λ T t. a.keeps T (w T t);
    bads = λ T t. a.bads T (w T t);
  }

  -- What one forest becomes.

  module _ (H : Forest) where
    abbrev Meets : Fault → Type 0
    Meets k = (T : List BoxDef) → IsTableOf face T → (s : Store) → Stands face.shapes.structs T H s
        → gstep face.shapes.structs e s ≡ Faulted k

    -- a fault of all members
    pub all_fault : (k : Fault) → Meets k → IsStepping face H e [] [] (record { fault = k; at = H } ∷ [])
    all_fault k w = record {
      whole =
          λ T t s h.
          inr
          (subst (IsMet face T [] (record { fault = k; at = H } ∷ []) s) (sym (w T t s h))
          (record { fault = k; at = H }, inl refl, refl, h));
      refines = λ T t. tt;
      keeps = λ T t. tt;
      bads = λ T t. ((λ s h. (h, w T t s h)), tt);
    }

    -- the edge's own fault
    pub edge_fault : (k : Fault)
        → ((T : List BoxDef) → IsTableOf face T → AllGo face T H e.instr (choice_of e.choice) (Faulted k))
        → IsStepping face H e [] [] (record { fault = k; at = H } ∷ [])
    edge_fault k w = all_fault k (λ T t s h. fault_met face T e H k (w T t) s h)

    -- no member goes on
    stays_met : (T : List BoxDef) (s : Store) (p : Pass) → (p ≡ NotPassed) ⊎ (p ≡ Halted)
        → IsMet face T [] [] s (leak_tested p)
    stays_met T s p (inl q) = subst (λ (x : Pass). IsMet face T [] [] s (leak_tested x)) (sym q) tt
    stays_met T s p (inr q) = subst (λ (x : Pass). IsMet face T [] [] s (leak_tested x)) (sym q) tt

    pub all_stay : ((T : List BoxDef) → IsTableOf face T → AllGo face T H e.instr (choice_of e.choice) NotPassed
        ⊎ AllGo face T H e.instr (choice_of e.choice) Halted) → IsStepping face H e [] [] []
    all_stay w = record {
      whole =
          λ T t s h.
          inr
          (stays_met T s (raw_step face.shapes.structs e.instr (choice_of e.choice) s)
          (elim (w T t) [ inl k ↦ inl (k s h) | inr k ↦ inr (k s h) ]));
      refines = λ T t. tt;
      keeps = λ T t. tt;
      bads = λ T t. tt;
    }

    module _ (R : Forest)
        (carries : (T : List BoxDef) → IsTableOf face T → Carries face T H R e.instr (choice_of e.choice))
      where
        -- a leak of all members
        pub all_leak : AlwaysLeaks face R → IsStepping face H e [] [] (record { fault = Leak; at = H } ∷ [])
        all_leak w = all_fault Leak
            (λ T t s h. leak_met face T e H R (carries T t) (λ u k. leaked_leaks u (w T t u k)) s h)

        -- all members go on, into the forests that R is regrouped into
        pub all_go : NeverLeaks face R → (Ms : List Forest) → ((T : List BoxDef) → RegroupsInto T R Ms)
            → ((T : List BoxDef) → Every (Regroups T R) Ms) → IsStepping face H e [] Ms []
        all_go w Ms into each = record {
          whole = λ T t s h. inr (there T s (goes_on face T e H R (carries T t) (sound T t) s h));
          refines = λ T t. tt;
          keeps = λ T t. every_weaker (Regroups T R) (Keeps face T H e) Ms
              (λ M g. keeps_regrouped face T e H R M (goes_keeps face T e H R (carries T t) (sound T t)) g) (each T);
          bads = λ T t. tt;
        }
          where
            sound : (T : List BoxDef) → IsTableOf face T → (u : Store) → Stands face.shapes.structs T R u → leaks u ≡
                false
            sound T t u k = unleaked_sound u (λ l. w T t u k l)

            there : (T : List BoxDef) (s : Store) → (t : Store) × (gstep face.shapes.structs e s ≡ Passed t)
                × Stands face.shapes.structs T R t → IsMet face T Ms [] s (gstep face.shapes.structs e s)
            there T s (t, g, k) = subst (IsMet face T Ms [] s) (sym g)
                (members_split face.shapes.structs T R Ms (into T) t k)
