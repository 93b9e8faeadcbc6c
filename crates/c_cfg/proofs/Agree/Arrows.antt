-- Paths: the arrows before the last, and the last one.
use Rattle.std.proofs.Common.{◌≡◌, ℕ, Result, Ok, Err, List, [], ◌∷◌, ◌++◌, refl, sym, ap, ◌∙◌, subst}
use Rattle.fore_base.specs.declared.fault.Fault.{Fault}
use Rattle.fore_base.specs.declared.shape.Shape.{Shape}
use Rattle.fore_base.specs.declared.store.Value.{Value}
use Rattle.fore_base.specs.declared.store.Store.{Store}
use Rattle.fore_base.specs.Stores.{onward, load, store_at, walk, write_from}
use Rattle.fore_base.specs.Shapes.{targets_of}
use Rattle.c_types.proofs.CellsFit.{IsAt}
use Rattle.c_types.proofs.Fitting.{Leads}
use Rattle.c_cfg.specs.declared.graph.Instr.{Instr}
use Rattle.c_cfg.specs.declared.graph.Instr.TheVariants.{LoadPtr}
use Rattle.c_cfg.specs.Links.{One, loads, holder, used, loads_but_last}
use Rattle.c_cfg.proofs.Agree.Passing.{onward_onward}

-- of the arrows f and fs those before the last, and the last

abbrev pub before_last : ℕ → List ℕ → List ℕ
before_last f [] = []
before_last f (g ∷ gs) = f ∷ before_last g gs

abbrev pub last_of : ℕ → List ℕ → ℕ
last_of f [] = f
last_of f (g ∷ gs) = last_of g gs

holder_self : (t : ℕ) (fs : List ℕ) → holder t t fs ≡ t
holder_self t [] = refl
holder_self t (f ∷ fs) = refl

pub loads_are : (t b f : ℕ) (fs : List ℕ) (last : ℕ → ℕ → Instr) → loads_but_last t b f fs last
    ≡ loads t b (before_last f fs) ++ One (last (holder t b (before_last f fs)) (last_of f fs)) ∷ []
loads_are t b f [] last = refl
loads_are t b f (g ∷ gs) last =
    ap (λ ls. One (LoadPtr t b f) ∷ ls) (loads_are t t g gs last)
    ∙ ap (λ h. One (LoadPtr t b f) ∷ (loads t t (before_last g gs) ++ One (last h (last_of g gs)) ∷ []))
    (holder_self t (before_last g gs))

pub used_before : (t f : ℕ) (fs : List ℕ) → used t fs ≡ used t (before_last f fs)
used_before t f [] = refl
used_before t f (g ∷ gs) = refl

onward_ok : {A : Type 0} (r : Result A Fault) → onward r (λ a. Ok a) ≡ r
onward_ok (Ok a) = refl
onward_ok (Err k) = refl

onward_same : {A B : Type 0} (r : Result A Fault) (f g : A → Result B Fault) → ((a : A) → f a ≡ g a)
    → onward r f ≡ onward r g
onward_same (Ok a) f g same = same a
onward_same (Err k) f g same = refl

pub walk_before : (s : Store) (v : Value) (f : ℕ) (fs : List ℕ) → walk s v (f ∷ fs)
    ≡ onward (walk s v (before_last f fs)) (λ w. load s w (last_of f fs))
walk_before s v f [] = onward_ok (load s v f)
walk_before s v f (g ∷ gs) =
    onward_same (load s v f) (λ w. walk s w (g ∷ gs))
    (λ w. onward (walk s w (before_last g gs)) (λ u. load s u (last_of g gs))) (λ w. walk_before s w g gs)
    ∙ sym (onward_onward (load s v f) (λ w. walk s w (before_last g gs)) (λ u. load s u (last_of g gs)))

pub write_before : (s : Store) (v : Value) (f : ℕ) (fs : List ℕ) (w : Value) → write_from s v f fs w
    ≡ onward (walk s v (before_last f fs)) (λ u. store_at s u (last_of f fs) w)
write_before s v f [] w = refl
write_before s v f (g ∷ gs) w =
    onward_same (load s v f) (λ u. write_from s u g gs w)
    (λ u. onward (walk s u (before_last g gs)) (λ z. store_at s z (last_of g gs) w)) (λ u. write_before s u g gs w)
    ∙ sym (onward_onward (load s v f) (λ u. walk s u (before_last g gs)) (λ z. store_at s z (last_of g gs) w))

-- the struct before the last arrow
pub record LastLeads (shapes : List Shape) (t f : ℕ) (fs : List ℕ) (u : ℕ) : Type 0 where
  pub struct : ℕ
  pub before : Leads shapes t (before_last f fs) struct
  pub last : IsAt (targets_of shapes struct) (last_of f fs) u

pub last_leads : (shapes : List Shape) (t f : ℕ) (fs : List ℕ) (u : ℕ) → Leads shapes t (f ∷ fs) u
    → LastLeads shapes t f fs u
last_leads shapes t f [] u on =
    record { struct = t; before = refl; last = subst (λ k. IsAt (targets_of shapes t) f k) on.2 on.1 }
last_leads shapes t f (g ∷ gs) u on =
    let rest : LastLeads shapes on.0 g gs u = last_leads shapes on.0 g gs u on.2 in
    record { struct = rest.struct; before = (on.0, on.1, rest.before); last = rest.last }
