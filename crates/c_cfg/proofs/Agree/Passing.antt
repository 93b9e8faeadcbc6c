-- Links, one after the other, on a store: what the edges of a step do.
use Rattle.std.proofs.Common.{◌≡◌, ℕ, zero, suc, Bool, true, false, Result, Ok, Err, List, [], ◌∷◌, ◌++◌, refl, sym, ap}
use Rattle.std.proofs.Common.{◌∙◌}
use Rattle.fore_base.specs.declared.fault.Fault.{Fault}
use Rattle.fore_base.specs.declared.shape.Shape.{Shape}
use Rattle.fore_base.specs.declared.store.Value.{Value}
use Rattle.fore_base.specs.declared.store.Datum.{Datum}
use Rattle.fore_base.specs.declared.store.Store.{Store}
use Rattle.fore_base.specs.Stores.{onward, kill}
use Rattle.fore_base.specs.Heap.{leaks}
use Rattle.c_cfg.specs.declared.graph.Instr.{Instr}
use Rattle.c_cfg.specs.declared.graph.Instr.TheVariants.{Kill}
use Rattle.c_cfg.specs.Links.{Link, One, Two, ends}
use Rattle.c_cfg.specs.Edges.{Pass, Passed, Faulted, Halted, NotPassed, onto, raw_step, leak_tested}
use Rattle.c_cfg.proofs.Agree.Temporaries.{ext, ext0}
use Rattle.c_cfg.proofs.Agree.TempLeaks.{hidden, leaks_ext0}

-- on with a store, or as the pass goes
abbrev pub then_pass : Pass → (Store → Pass) → Pass
then_pass (Passed s) next = next s
then_pass (Faulted k) next = Faulted k
then_pass Halted next = Halted
then_pass NotPassed next = NotPassed

-- the edge for a choice
abbrev pub pick : ℕ → Instr → Instr → Instr
pick zero i j = i
pick (suc x) i j = j

module _ (shapes : List Shape) (x : ℕ) where
  abbrev pub link_pass : Link → Store → Pass
  link_pass (One i) s = leak_tested (raw_step shapes i 0 s)
  link_pass (Two i j) s = leak_tested (raw_step shapes (pick x i j) x s)

  -- the links in turn; x is the choice
  abbrev pub links_pass : List Link → Store → Pass
  links_pass [] s = Passed s
  links_pass (l ∷ ls) s = then_pass (link_pass l s) (λ t. links_pass ls t)

  then_then : (p : Pass) (f g : Store → Pass) → then_pass (then_pass p f) g ≡ then_pass p (λ s. then_pass (f s) g)
  then_then (Passed s) f g = refl
  then_then _ f g = refl

  then_same : (p : Pass) (f g : Store → Pass) → ((s : Store) → f s ≡ g s) → then_pass p f ≡ then_pass p g
  then_same (Passed s) f g same = same s
  then_same _ f g same = refl

  pub links_append : (ls ms : List Link) (s : Store) → links_pass (ls ++ ms) s
      ≡ then_pass (links_pass ls s) (λ t. links_pass ms t)
  links_append [] ms s = refl
  links_append (l ∷ ls) ms s =
      then_same (link_pass l s) (λ t. links_pass (ls ++ ms) t) (λ t. then_pass (links_pass ls t) (λ u. links_pass ms u))
      (λ t. links_append ls ms t)
      ∙ sym (then_then (link_pass l s) (λ t. links_pass ls t) (λ u. links_pass ms u))

-- what was got, and then what comes

pub then_onto : {A : Type 0} (r : Result A Fault) (f : A → Store) (g : Store → Pass)
    → then_pass (onto r (λ a. Passed (f a))) g ≡ onto r (λ a. g (f a))
then_onto (Ok a) f g = refl
then_onto (Err k) f g = refl

pub onto_same : {A : Type 0} (r : Result A Fault) (f g : A → Pass) → ((a : A) → r ≡ Ok a → f a ≡ g a)
    → onto r f ≡ onto r g
onto_same (Ok a) f g same = same a refl
onto_same (Err k) f g same = refl

pub onto_onward : {A B : Type 0} (r : Result A Fault) (f : A → Result B Fault) (g : B → Pass) → onto (onward r f) g
    ≡ onto r (λ a. onto (f a) g)
onto_onward (Ok a) f g = refl
onto_onward (Err k) f g = refl

pub onward_onward : {A B C : Type 0} (r : Result A Fault) (f : A → Result B Fault) (g : B → Result C Fault)
    → onward (onward r f) g ≡ onward r (λ a. onward (f a) g)
onward_onward (Ok a) f g = refl
onward_onward (Err k) f g = refl

-- The end of a step: the store between the steps, leak tested.
abbrev pub settled_pass : Store → Pass
settled_pass t = leak_tested (Passed (ext0 t))

abbrev pub done_pass : Result Store Fault → Pass
done_pass r = onto r settled_pass

pub then_nothing : (p : Pass) → then_pass p (λ h. Passed h) ≡ p
then_nothing (Passed s) = refl
then_nothing _ = refl

-- a step of one edge
pub one_link : (shapes : List Shape) (x : ℕ) (i : Instr) (g t : Store) → raw_step shapes i 0 g ≡ Passed (ext0 t)
    → links_pass shapes x (One i ∷ []) g ≡ settled_pass t
one_link shapes x i g t is = ap (λ z. then_pass (leak_tested z) (λ h. Passed h)) is ∙ then_nothing (settled_pass t)

-- after the last edge, the Kill of the temporaries, if there is one

pub killing : (shapes : List Shape) (x : ℕ) (ps : List ℕ) (ds : List ℕ) (t g : Store)
    → (leaks t ≡ false → leaks g ≡ false) → kill ps ds g ≡ ext0 t
    → then_pass (leak_tested (Passed g)) (λ h. links_pass shapes x (One (Kill ps ds) ∷ []) h)
    ≡ settled_pass t
killing shapes x ps ds t g hides dead = here (leaks t) (leaks g) refl refl
  where
    here : (b c : Bool) → leaks t ≡ b → leaks g ≡ c
        → then_pass (leak_tested (Passed g)) (λ h. links_pass shapes x (One (Kill ps ds) ∷ []) h) ≡ settled_pass t
    here b false is other = rw other
        (then_nothing (leak_tested (Passed (kill ps ds g))) ∙ ap (λ h. leak_tested (Passed h)) dead)
    here true true is other = rw (other, leaks_ext0 t, is) refl
    here false true is other = absurd (cc (other, hides is))

pub clearing : (shapes : List Shape) (x : ℕ) (ps ds : List ℕ) (t : Store) (v w : Value) (d e : Datum)
    → kill ps ds (ext t v w d e) ≡ ext0 t
    → then_pass (leak_tested (Passed (ext t v w d e))) (λ h. links_pass shapes x (ends ps ds) h) ≡ settled_pass t
clearing shapes x [] [] t v w d e dead = then_nothing (leak_tested (Passed (ext t v w d e)))
    ∙ ap (λ h. leak_tested (Passed h)) dead
clearing shapes x [] (n ∷ ds) t v w d e dead = killing shapes x [] (n ∷ ds) t (ext t v w d e) (hidden t v w d e) dead
clearing shapes x (p ∷ ps) ds t v w d e dead = killing shapes x (p ∷ ps) ds t (ext t v w d e) (hidden t v w d e) dead

-- the same of what may meet a fault, where the temporaries may depend on what was got
pub finishing : {A : Type 0} (shapes : List Shape) (x : ℕ) (ps ds : List ℕ) (r : Result A Fault) (t : A → Store)
    (v w : A → Value) (d e : A → Datum)
    → ((a : A) → r ≡ Ok a → kill ps ds (ext (t a) (v a) (w a) (d a) (e a)) ≡ ext0 (t a))
    → then_pass (leak_tested (onto r (λ a. Passed (ext (t a) (v a) (w a) (d a) (e a)))))
    (λ h. links_pass shapes x (ends ps ds) h) ≡ onto r (λ a. settled_pass (t a))
finishing shapes x ps ds (Ok a) t v w d e dead = clearing shapes x ps ds (t a) (v a) (w a) (d a) (e a) (dead a refl)
finishing shapes x ps ds (Err k) t v w d e dead = refl

-- the Kill after a test, on a store that had not leaked
pub ends_pass : (shapes : List Shape) (x : ℕ) (ps ds : List ℕ) (t g : Store) → kill ps ds g ≡ ext0 t → leaks t ≡ false
    → links_pass shapes x (ends ps ds) g ≡ Passed (ext0 t)
ends_pass shapes x [] [] t g dead sound = ap Passed dead
ends_pass shapes x [] (d ∷ ds) t g dead sound = rw (dead, leaks_ext0 t, sound) refl
ends_pass shapes x (p ∷ ps) ds t g dead sound = rw (dead, leaks_ext0 t, sound) refl
