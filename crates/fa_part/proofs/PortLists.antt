-- Ports as the code has them, and the ports and structs of the definitions.
use Rattle.std.proofs.Common.{◌≡◌, inl, inr, ℕ, Bool, true, false, cond, nat_eq, List, [], ◌∷◌, ◌++◌, map, refl, sym}
use Rattle.std.proofs.Common.{ap, subst}
use Rattle.std.proofs.lemmas.Bool.{eqb-true}
use Rattle.fore_base.specs.Lists.{IsIn, IsDistinct, Every, Paired}
use Rattle.fore_base.proofs.ListLemmas.{every_in, in_every}
use Rattle.ta_core.specs.Auto.{Automaton}
use Rattle.fa_core.specs.Folding.{ArePortRoots, IsPortRoot, Ports, taken_at}
use Rattle.fa_part.specs.declared.ports.Port.{Port}
use Rattle.fa_part.specs.Ports.{IsPortOf, IsTakenOnce, ports_of, roots_of, shapes_of}

-- their roots
pub port_roots : (ps : List Port) → map (λ p. p.0) (ports_of ps) ≡ roots_of ps
port_roots [] = refl
port_roots (p ∷ ps) = ap (λ (l : List ℕ). p.root ∷ l) (port_roots ps)

module _ (R : ℕ × List ℕ → ℕ → Type 0) where
  abbrev At : Port → Type 0
  At p = R (p.root, p.fields) p.shape

  pub ports_paired : (ps : List Port) → Every At ps → Paired R (ports_of ps) (shapes_of ps)
  ports_paired [] h = tt
  ports_paired (p ∷ ps) h = (h.0, ports_paired ps h.1)

  pub paired_ports : (ps : List Port) → Paired R (ports_of ps) (shapes_of ps) → Every At ps
  paired_ports [] h = tt
  paired_ports (p ∷ ps) h = (h.0, paired_ports ps h.1)

pub each_port : (autos : List Automaton) (ps : List Port) → ArePortRoots autos (ports_of ps) (shapes_of ps)
    → Every (IsPortOf autos) ps
each_port autos ps h = paired_ports (λ p s. IsPortRoot autos p.0 s p.1) ps h

pub all_ports : (autos : List Automaton) (ps : List Port) → Every (IsPortOf autos) ps
    → ArePortRoots autos (ports_of ps) (shapes_of ps)
all_ports autos ps h = ports_paired (λ p s. IsPortRoot autos p.0 s p.1) ps h

-- The fields that are taken at a root.

-- a field that is taken at a root is one of a port there
pub taken_port : (ps : List Port) (r f : ℕ) → IsIn f (taken_at (ports_of ps) r) → (p : Port) × IsIn p ps × (p.root ≡ r)
taken_port [] r f i = absurd i
taken_port (o ∷ ps) r f i = here (nat_eq o.root r) refl (taken_port ps r f) i
  where
    here : (c : Bool) → nat_eq o.root r ≡ c
        → (IsIn f (taken_at (ports_of ps) r) → (p : Port) × IsIn p ps × (p.root ≡ r))
        → IsIn f (cond c (o.fields ++ taken_at (ports_of ps) r) (taken_at (ports_of ps) r))
        → (p : Port) × IsIn p (o ∷ ps) × (p.root ≡ r)
    here true e go i = (o, inl refl, eqb-true o.root r e)
    here false e go i = let k = go i in (k.0, inr k.1, k.2)

-- where no field is taken twice at the root of a port, none is at any root
pub once_at_all : (ps : List Port) → Every (IsTakenOnce ps) ps → (r : ℕ)
    → IsDistinct (taken_at (ports_of ps) r)
once_at_all ps h r = here (taken_at (ports_of ps) r) refl
  where
    here : (fs : List ℕ) → taken_at (ports_of ps) r ≡ fs → IsDistinct (taken_at (ports_of ps) r)
    here [] e = subst (λ (l : List ℕ). IsDistinct l) (sym e) tt
    here (f ∷ fs) e =
        let k = taken_port ps r f (subst (λ (l : List ℕ). IsIn f l) (sym e) (inl refl)) in
        subst (λ (z : ℕ). IsDistinct (taken_at (ports_of ps) z)) k.2
        (every_in (IsTakenOnce ps) ps k.0 h k.1)

pub each_once : (ps : List Port) → ((r : ℕ) → IsDistinct (taken_at (ports_of ps) r)) → Every (IsTakenOnce ps) ps
each_once ps h = in_every (IsTakenOnce ps) ps (λ p i. h p.root)

-- a port more
pub ports_more : (ps : List Port) (p : Port) → ports_of (ps ++ p ∷ []) ≡ ports_of ps ++ (p.root, p.fields) ∷ []
ports_more [] p = refl
ports_more (o ∷ ps) p = ap (λ (l : Ports). (o.root, o.fields) ∷ l) (ports_more ps p)
