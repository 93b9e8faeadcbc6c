-- Without box edges, signatures are uniform where what runs to one state refers alike: the form that an operation owes.
use Rattle.std.proofs.Common.{◌≡◌, ℕ, List, [], ◌∷◌, flat_map, sym, subst, ◌∙◌}
use Rattle.fore_base.specs.Lists.{IsIn, Every}
use Rattle.ta_core.specs.Auto.{Automaton, IsRanked}
use Rattle.ta_core.specs.Language.{RunOf, RunEach, run_none, run_more}
use Rattle.ta_core.specs.declared.auto.Rule.{Rule}
use Rattle.ta_core.specs.declared.tree.Tree.{Tree}
use Rattle.fa_core.specs.declared.faces.BoxFace.{BoxFace}
use Rattle.fa_core.specs.Boxless.{HasNoBoxes}
use Rattle.fa_core.specs.Dressed.{Parts, End, no_parts, field, link, hook, refs_of, end_refs}
use Rattle.fa_core.specs.Filled.{HasSignatures}
use Rattle.fa_core.specs.Member.{bare_end}
use Rattle.fa_core.specs.References.{tree_refs, AreAlike, StateAlike, RefersAlike}
use Rattle.fa_core.proofs.Alike.{alike_marks, marks_alike, alike_same, alike_both}
use Rattle.fa_core.proofs.Dressing.{dress, rules_have_insides}
use Rattle.fa_core.proofs.NodeRuns.{PartsRun, EndRun, end_bare, bare_of_end}
use Rattle.fa_core.proofs.PlainWays.{signature_is}
use Rattle.fa_core.proofs.WaysOf.{end_roots}

-- uniform signatures are references that are alike
pub signed_alike : (bs : List BoxFace) (a : Automaton) → HasNoBoxes a → HasSignatures bs a → RefersAlike a
signed_alike bs a b h = record {
  states = λ q t u x y. marks_alike (tree_refs t) (tree_refs u)
      (sym (signature_is bs a.rules b x) ∙ h.states q t u x y ∙ signature_is bs a.rules b y);
  component = λ t u x y. marks_alike (tree_refs t) (tree_refs u)
      (sym (signature_is bs a.rules b x.2) ∙ h.component t u x y ∙ signature_is bs a.rules b y.2);
}

pub alike_signed : (bs : List BoxFace) (a : Automaton) → HasNoBoxes a → RefersAlike a → HasSignatures bs a
alike_signed bs a b h = record {
  states = λ q t u x y. signature_is bs a.rules b x ∙ alike_marks (tree_refs t) (tree_refs u) (h.states q t u x y)
      ∙ sym (signature_is bs a.rules b y);
  component = λ t u x y. signature_is bs a.rules b x.2 ∙ alike_marks (tree_refs t) (tree_refs u) (h.component t u x y)
      ∙ sym (signature_is bs a.rules b y.2);
}

-- trees that run to the same states refer alike, one after the other
pub each_alike : (rules : List Rule) {qs : List ℕ} {ts us : List Tree} → Every (StateAlike rules) qs
    → RunEach rules qs ts → RunEach rules qs us → AreAlike (flat_map tree_refs ts) (flat_map tree_refs us)
each_alike rules h run_none run_none = alike_same []
each_alike rules h (run_more {t = t} {ts = ts} a b) (run_more {t = u} {ts = us} c d) =
    alike_both (tree_refs t) (tree_refs u) (flat_map tree_refs ts) (flat_map tree_refs us) (h.0 t u a c)
    (each_alike rules h.1 b d)

-- The same on dressed trees.

-- what runs to state q refers alike
abbrev pub EndsAlike : List Rule → ℕ → Type 0
EndsAlike rules q = (e u : End) → EndRun rules q e → EndRun rules q u → AreAlike (end_refs e) (end_refs u)

-- what runs to root states refers alike
abbrev pub TopsAlike : Automaton → Type 0
TopsAlike a = (y z : ℕ) (e u : End) → IsIn y a.roots → IsIn z a.roots → EndRun a.rules y e → EndRun a.rules z u
    → AreAlike (end_refs e) (end_refs u)

ends_alike : (t u : End) → AreAlike (tree_refs (bare_end t)) (tree_refs (bare_end u))
    → AreAlike (end_refs t) (end_refs u)
ends_alike t u h = subst (λ (xs : List ℕ). AreAlike (end_refs t) xs) (end_roots u)
    (subst (λ (xs : List ℕ). AreAlike xs (tree_refs (bare_end u))) (end_roots t) h)

trees_alike : (t u : End) → AreAlike (end_refs t) (end_refs u)
    → AreAlike (tree_refs (bare_end t)) (tree_refs (bare_end u))
trees_alike t u h = subst (λ (xs : List ℕ). AreAlike (tree_refs (bare_end t)) xs) (sym (end_roots u))
    (subst (λ (xs : List ℕ). AreAlike xs (end_refs u)) (sym (end_roots t)) h)

pub state_ends : (rules : List Rule) (q : ℕ) → StateAlike rules q → EndsAlike rules q
state_ends rules q h e u x y =
    ends_alike e u (h (bare_end e) (bare_end u) (end_bare rules q e x) (end_bare rules q u y))

-- the uniform states and the uniform component of an automaton whose trees refer alike
pub alike_ends : (a : Automaton) → RefersAlike a → (q : ℕ) → EndsAlike a.rules q
alike_ends a h q = state_ends a.rules q (h.states q)

pub alike_tops : (a : Automaton) → RefersAlike a → TopsAlike a
alike_tops a h y z e u i j k l =
    ends_alike e u (h.component (bare_end e) (bare_end u) (y, i, end_bare a.rules y e k) (z, j, end_bare a.rules z u l))

module _ (a : Automaton) (ranked : IsRanked a) (boxless : HasNoBoxes a) where
  -- a tree that runs, as an end
  as_end : (q : ℕ) (t : Tree) → RunOf a.rules q t → (e : End) × (bare_end e ≡ t) × EndRun a.rules q e
  as_end q t h =
      let d = dress [] a.states a.rules ranked.1 (rules_have_insides [] a.rules boxless) 0 h in
      (d.end, d.tree, bare_of_end a.rules q d.end (subst (λ (z : Tree). RunOf a.rules q z) (sym d.tree) h))

  by_ends : (t u : Tree) (e f : End) → bare_end e ≡ t → bare_end f ≡ u → AreAlike (end_refs e) (end_refs f)
      → AreAlike (tree_refs t) (tree_refs u)
  by_ends t u e f x y h = subst (λ (z : Tree). AreAlike (tree_refs t) (tree_refs z)) y
      (subst (λ (z : Tree). AreAlike (tree_refs z) (tree_refs (bare_end f))) x (trees_alike e f h))

  -- the form that an operation owes
  pub ends_refer_alike : ((q : ℕ) → EndsAlike a.rules q) → TopsAlike a → RefersAlike a
  ends_refer_alike h k = record {
    states =
        λ q t u x y.
        (let e = as_end q t x in let f = as_end q u y in by_ends t u e.0 f.0 e.1 f.1 (h q e.0 f.0 e.2 f.2));
    component =
        λ t u x y.
        (let e = as_end x.0 t x.2 in let f = as_end y.0 u y.2 in
        by_ends t u e.0 f.0 e.1 f.1 (k x.0 y.0 e.0 f.0 x.1 y.1 e.2 f.2));
  }

-- slots whose children run to the same states refer alike, whatever the slots are
pub parts_alike : (rules : List Rule) (qs : List ℕ) (ps us : Parts) → Every (EndsAlike rules) qs → PartsRun rules qs ps
    → PartsRun rules qs us → AreAlike (refs_of ps) (refs_of us)
parts_alike rules qs (hook b i ps) us w h k = parts_alike rules qs ps us w h k
parts_alike rules qs no_parts (hook b i us) w h k = parts_alike rules qs no_parts us w h k
parts_alike rules qs (field f e ps) (hook b i us) w h k = parts_alike rules qs (field f e ps) us w h k
parts_alike rules qs (link c j e ps) (hook b i us) w h k = parts_alike rules qs (link c j e ps) us w h k
parts_alike rules [] no_parts no_parts w h k = alike_same []
parts_alike rules (q ∷ qs) no_parts no_parts w h k = absurd h
parts_alike rules [] no_parts (field f e us) w h k = absurd k
parts_alike rules (q ∷ qs) no_parts (field f e us) w h k = absurd h
parts_alike rules [] no_parts (link b i e us) w h k = absurd k
parts_alike rules (q ∷ qs) no_parts (link b i e us) w h k = absurd h
parts_alike rules [] (field f e ps) us w h k = absurd h
parts_alike rules [] (link b i e ps) us w h k = absurd h
parts_alike rules (q ∷ qs) (field f e ps) no_parts w h k = absurd k
parts_alike rules (q ∷ qs) (link b i e ps) no_parts w h k = absurd k
parts_alike rules (q ∷ qs) (field f e ps) (field g u us) w h k =
    alike_both (end_refs e) (end_refs u) (refs_of ps) (refs_of us) (w.0 e u h.0 k.0)
    (parts_alike rules qs ps us w.1 h.1 k.1)
parts_alike rules (q ∷ qs) (field f e ps) (link b i u us) w h k =
    alike_both (end_refs e) (end_refs u) (refs_of ps) (refs_of us) (w.0 e u h.0 k.0)
    (parts_alike rules qs ps us w.1 h.1 k.1)
parts_alike rules (q ∷ qs) (link b i e ps) (field g u us) w h k =
    alike_both (end_refs e) (end_refs u) (refs_of ps) (refs_of us) (w.0 e u h.0 k.0)
    (parts_alike rules qs ps us w.1 h.1 k.1)
parts_alike rules (q ∷ qs) (link b i e ps) (link c j u us) w h k =
    alike_both (end_refs e) (end_refs u) (refs_of ps) (refs_of us) (w.0 e u h.0 k.0)
    (parts_alike rules qs ps us w.1 h.1 k.1)
