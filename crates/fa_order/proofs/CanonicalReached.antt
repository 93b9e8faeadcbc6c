-- Each root of a canonical forest is reached: the walk meets each of them.
use Rattle.std.proofs.Common.{◌≡◌, ◌≢◌, ◌⊎◌, inl, inr, ℕ, zero, suc, ◌<◌, ◌≤◌, Bool, true, false, true≢false, nat_eq}
use Rattle.std.proofs.Common.{List, [], ◌∷◌, refl, sym, subst, ◌∙◌, Some, slice_get, arith}
use Rattle.std.proofs.lemmas.Bool.{eqb-true, eq-eqb}
use Rattle.fore_base.specs.Lists.{IsIn}
use Rattle.fore_base.proofs.ListLemmas.{in_append}
use Rattle.ta_core.specs.declared.tree.Tree.{Tree}
use Rattle.fa_core.specs.Canonical.{GoesOn, IsCanonical, IsFirstOpen, LeadsBack, RefersTo, Walks, ended, old, new}
use Rattle.fa_core.specs.Canonical.{again}
use Rattle.fa_core.specs.Canonical.{refs_at}
use Rattle.fa_core.specs.Ways.{ways}
use Rattle.fa_core.specs.declared.faces.BoxFace.{BoxFace}
use Rattle.fa_core.specs.declared.faces.Face.{Face}
use Rattle.fa_core.specs.declared.forest.Forest.{Forest}
use Rattle.fa_core.specs.declared.forest.Target.{Target}
use Rattle.fa_core.proofs.Dressing.{choice_length}
use Rattle.fa_core.proofs.WayParts.{way_roots}
use Rattle.fa_back.specs.Reached.{RootReached, by_var, by_tree, by_way}
use Rattle.fa_back.proofs.ByMarks.{var_roots_in}
use Rattle.fa_back.proofs.RootMarks.{once_in}
use Rattle.fa_merge.specs.Reached.{AreAllReached}
use Rattle.fa_order.proofs.BackDecided.{leads_decided}

less_or : (k n : ℕ) → (k ≤ n) ⊎ (n < k)
less_or zero n = inl (omega arith)
less_or (suc k) zero = inr (omega arith)
less_or (suc k) (suc n) = elim (less_or k n) [ inl l ↦ inl (omega (arith, l)) | inr l ↦ inr (omega (arith, l)) ]

less_last : (x k : ℕ) → x < suc k → (x < k) ⊎ (x ≡ k)
less_last x k l = here (nat_eq x k) refl
  where
    here : (b : Bool) → nat_eq x k ≡ b → (x < k) ⊎ (x ≡ k)
    here true e = inr (eqb-true x k e)
    here false e = inl (let d : x ≢ k = (λ z. true≢false (sym (eq-eqb x k z) ∙ e)) in omega (arith, l, d))

-- what a tree has as a reference, it refers to
refs_there : (ts : List Tree) (k x : ℕ) → IsIn x (refs_at ts k) → (t : Tree) × (slice_get ts k ≡ Some t) × RefersTo t x
refs_there [] k x i = absurd i
refs_there (t ∷ ts) zero x i = (t, refl, once_in x (way_roots (ways t)) i)
refs_there (t ∷ ts) (suc k) x i = refs_there ts k x i

first_open : (P : ℕ → Type 0) (k : ℕ) (rs : List ℕ) → IsFirstOpen P k rs → P k
first_open P k [] h = absurd h
first_open P k (r ∷ rs) (inl h) = h.1
first_open P k (r ∷ rs) (inr h) = first_open P k rs h.1

module _ (bs : List BoxFace) (vars : List Target) (ts : List Tree) where
  abbrev Met : ℕ → Type 0
  Met = RootReached bs vars ts

  -- a way back leads to the root at which the walk goes on
  goes_leads : (k : ℕ) (g : GoesOn bs ts k) → LeadsBack bs ts g.from g.into k
  goes_leads k g = elim (leads_decided bs g.from g.into g.into ts) [
    | inr n ↦ by_list (λ h. absurd (n h))
    | inl own ↦ elim (less_or k g.into) [
      | inl l ↦ subst (λ (z : ℕ). LeadsBack bs ts g.from g.into z) (sym (g.own_first l own)) own
      | inr l ↦ by_list (λ h. l)
    ]
  ]
    where
      by_list : (LeadsBack bs ts g.from g.into g.into → g.into < k) → LeadsBack bs ts g.from g.into k
      by_list f = (let t = g.open_way.3 in
          first_open (λ r. LeadsBack bs ts g.from g.into r) k _ (g.then_list f t.0 t.1))

  walked : {todo : List ℕ} {k n : ℕ} → ((r : ℕ) → IsIn r todo → Met r) → ((r : ℕ) → r < k → Met r)
      → Walks (refs_at ts) (GoesOn bs ts) todo k n → (r : ℕ) → r < n → Met r
  walked t p ended r l = p r l
  walked t p (old i w) r l = walked (λ x j. t x (inr j)) p w r l
  walked {todo = _ ∷ todo} t p (new {k = k} w) r l =
      walked
      (λ x j. elim (in_append x (refs_at ts k) todo j) [
        | inl i ↦ (let u = refs_there ts k x i in by_tree k u.0 (t k (inl refl)) u.1 u.2)
        | inr i ↦ t x (inr i)
      ])
      (λ x j. elim (less_last x k j) [
        | inl i ↦ p x i
        | inr e ↦ subst Met (sym e) (t k (inl refl))
      ]) w r l
  walked t p (again {k = k} i g w) r l =
      walked
      (λ x j. elim j [
        | inl e ↦ subst Met (sym e) (by_way g.from g.into (p g.from g.open_way.2) (goes_leads k g))
        | inr z ↦ absurd z
      ]) p w r l

-- the law
pub canonical_reached : (face : Face) (F : Forest) → IsCanonical face F → AreAllReached face F
canonical_reached face F can r l ts c =
    walked face.boxes F.vars ts (λ k i. by_var (var_roots_in F.vars k i)) (λ k i. absurd (omega (arith, i)))
    (can.order ts c) r (let e = choice_length F.autos ts c in omega (arith, l, e))
