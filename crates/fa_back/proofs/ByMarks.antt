-- The roots that are reached follow from the signatures of the trees alone.
use Rattle.std.proofs.Common.{◌≡◌, inl, inr, ℕ}
use Rattle.std.proofs.Common.{List, [], ◌∷◌, refl, sym, ap, subst, ◌∙◌, Some, slice_get}
use Rattle.fore_base.specs.Lists.{IsIn, Paired}
use Rattle.fore_base.proofs.ListLemmas.{in_map}
use Rattle.ta_core.specs.declared.tree.Tree.{Tree}
use Rattle.fa_core.specs.declared.faces.BoxFace.{BoxFace}
use Rattle.fa_core.specs.declared.forest.Target.{Target}
use Rattle.fa_core.specs.declared.forest.Target.TheVariants.{Null as NullTarget, Uninit as UninitTarget}
use Rattle.fa_core.specs.declared.forest.Target.TheVariants.{Dangling as DanglingTarget, At}
use Rattle.fa_core.specs.declared.signature.RefMark.{RefMark}
use Rattle.fa_core.specs.declared.signature.Signature.{Signature}
use Rattle.fa_core.specs.Canonical.{LeadsBack, RefersTo, var_roots}
use Rattle.fa_core.specs.Ways.{Way, ways, to_root, mark}
use Rattle.fa_back.specs.Reached.{RootReached, by_var, by_tree, by_way, IsMarkAt, SignReached, from_there, down_to}
use Rattle.fa_back.specs.Reached.{back_to, reach_to, IsSignedBy}
use Rattle.fa_back.proofs.Pairs.{paired_at, paired_back}
use Rattle.fa_back.proofs.RootMarks.{in_to_root, to_root_in, back_any, any_of_back, mark_in, in_mark, way_led, led_way}
use Rattle.fa_back.proofs.RootMarks.{reach_in_mark, mark_in_reach}

-- Variables.

abbrev IsNone : Target → Type 0
IsNone NullTarget = Unit {0}
IsNone UninitTarget = Unit {0}
IsNone DanglingTarget = Unit {0}
IsNone (At r) = ⊥

abbrev root_of : Target → ℕ
root_of (At r) = r
root_of v = 0

pub in_var_roots : (vs : List Target) (r : ℕ) → IsIn (At r) vs → IsIn r (var_roots vs)
in_var_roots [] r h = absurd h
in_var_roots (NullTarget ∷ vs) r (inl e) = absurd (subst IsNone (sym e) tt)
in_var_roots (NullTarget ∷ vs) r (inr h) = in_var_roots vs r h
in_var_roots (UninitTarget ∷ vs) r (inl e) = absurd (subst IsNone (sym e) tt)
in_var_roots (UninitTarget ∷ vs) r (inr h) = in_var_roots vs r h
in_var_roots (DanglingTarget ∷ vs) r (inl e) = absurd (subst IsNone (sym e) tt)
in_var_roots (DanglingTarget ∷ vs) r (inr h) = in_var_roots vs r h
in_var_roots (At k ∷ vs) r (inl e) = inl (ap root_of e)
in_var_roots (At k ∷ vs) r (inr h) = inr (in_var_roots vs r h)

pub var_roots_in : (vs : List Target) (r : ℕ) → IsIn r (var_roots vs) → IsIn (At r) vs
var_roots_in [] r h = absurd h
var_roots_in (NullTarget ∷ vs) r h = inr (var_roots_in vs r h)
var_roots_in (UninitTarget ∷ vs) r h = inr (var_roots_in vs r h)
var_roots_in (DanglingTarget ∷ vs) r h = inr (var_roots_in vs r h)
var_roots_in (At k ∷ vs) r (inl e) = inl (ap At e)
var_roots_in (At k ∷ vs) r (inr h) = inr (var_roots_in vs r h)

-- Trees and their signatures.

module _ (bs : List BoxFace) where
  module _ (vs : List Target) (ts : List Tree) (ss : List Signature) (signed : Paired (IsSignedBy bs) ts ss) where
    abbrev Signed : ℕ → Type 0
    Signed = SignReached ss (var_roots vs)

    abbrev Met : ℕ → Type 0
    Met = RootReached bs vs ts

    -- the mark of a root to which the tree of component j refers
    mark_at : (j : ℕ) (t : Tree) (k : ℕ) → slice_get ts j ≡ Some t → RefersTo t k → IsMarkAt ss j (mark bs (ways t) k)
    mark_at j t k e h =
        let s = paired_at (IsSignedBy bs) ts ss j t signed e in
        (s.0, s.1, subst (λ (ms : List RefMark). IsIn (mark bs (ways t) k) ms) s.2 (mark_in bs t k h))

    -- and a mark is one of a root to which the tree refers
    of_mark : (j : ℕ) (m : RefMark) → IsMarkAt ss j m → (t : Tree) × (k : ℕ) × (slice_get ts j ≡ Some t) × RefersTo t k
        × (m ≡ mark bs (ways t) k)
    of_mark j m h =
        let t = paired_back (IsSignedBy bs) ts ss j h.0 signed h.1 in
        let k = in_mark bs t.0 m (subst (λ (ms : List RefMark). IsIn m ms) (sym t.2) h.2) in
        (t.0, k.0, t.1, k.1, k.2)

    by_back : (i j r : ℕ) → Signed i → LeadsBack bs ts i j r → Signed r
    by_back i j r from (t, e, (w, h, q, z)) =
        let refers : RefersTo t i = subst (λ (k : ℕ). RefersTo t k) q (in_map (λ (v : Way). v.root) w (ways t) h) in
        elim z [
          | inl l ↦ subst (SignReached ss (var_roots vs)) (sym l.0)
              (back_to (mark bs (ways t) i) from (mark_at j t i e refers)
              (back_any bs (to_root i (ways t)) w (in_to_root i (ways t) w h q) l.1))
          | inr l ↦ reach_to j (mark bs (ways t) i) from (mark_at j t i e refers)
              (reach_in_mark bs t i r (way_led bs t i r w h q l))
        ]

    pub met_signed : (r : ℕ) → RootReached bs vs ts r → SignReached ss (var_roots vs) r
    met_signed r (by_var h) = from_there (in_var_roots vs r h)
    met_signed r (by_tree i t h e k) = down_to i (mark bs (ways t) r) (met_signed i h) (mark_at i t r e k) refl
    met_signed r (by_way i j h l) = by_back i j r (met_signed i h) l

    pub signed_met : (r : ℕ) → SignReached ss (var_roots vs) r → RootReached bs vs ts r
    signed_met r (from_there i) = by_var (var_roots_in vs r i)
    signed_met r (down_to j m h i e) =
        let o = of_mark j m i in
        by_tree j o.0 (signed_met j h) o.2
        (subst (λ (n : ℕ). RefersTo o.0 n) (sym (ap (λ (x : RefMark). x.root) o.4) ∙ e) o.3)
    signed_met r (back_to m h i b) =
        let o = of_mark r m i in
        let w = any_of_back bs (to_root o.1 (ways o.0)) (sym (ap (λ (x : RefMark). x.back) o.4) ∙ b) in
        let j = to_root_in o.1 (ways o.0) w.0 w.1 in
        by_way m.root r (signed_met m.root h)
        (o.0, o.2, (w.0, j.0, j.1 ∙ sym (ap (λ (x : RefMark). x.root) o.4), inl (refl, w.2)))
    signed_met r (reach_to j m h i k) =
        let o = of_mark j m i in
        let w = led_way bs o.0 o.1 r (mark_in_reach bs o.0 o.1 r (subst (λ (x : RefMark). IsIn r x.reach) o.4 k)) in
        by_way m.root j (signed_met m.root h)
        (o.0, o.2, (w.0, w.1, w.2 ∙ sym (ap (λ (x : RefMark). x.root) o.4), inr w.3))
