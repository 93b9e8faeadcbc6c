-- Forests are filled exactly where their variables name roots, no component has a leaf, and each part is filled.
use Rattle.std.proofs.Common.{◌≡◌, inl, inr, ℕ, zero, suc, ◌<◌, ◌≤◌, ◌+◌, false, true≢false, List, [], ◌∷◌, ◌++◌}
use Rattle.std.proofs.Common.{length}
use Rattle.std.proofs.Common.{take, drop, set, refl, sym, ap, subst, ◌∙◌, arith, get_or}
use Rattle.std.proofs.lemmas.List.{length-set, set-set}
use Rattle.fore_base.specs.Lists.{IsIn, Every}
use Rattle.ta_core.specs.declared.tree.Tree.{Tree, out-Tree}
use Rattle.ta_core.specs.Auto.{Automaton}
use Rattle.ta_core.specs.Language.{InLanguage}
use Rattle.fore_base.proofs.ListLemmas.{in_every}
use Rattle.fa_core.specs.declared.faces.Face.{Face}
use Rattle.fa_core.specs.declared.forest.Forest.{Forest}
use Rattle.fa_filling.specs.declared.parts.Part.{Part}
use Rattle.fa_core.specs.Cells.{is_leaf}
use Rattle.fa_core.specs.Filled.{Choice, TopsAre, ChoiceFilled, IsRoot, HasSome}
use Rattle.fa_filling.specs.Parted.{HasLeafIn, AreParts, AreReady, ArePartsFilled, AreTopsBut, tops_of, all_tops}
use Rattle.fa_filling.specs.Parted.{tops_but}
use Rattle.fa_filling.proofs.Choices.{choices_fill, fill_choices, trees_filled, filled_trees}
use Rattle.fa_filling.specs.Given.{IsGivenAt}

-- a choice with a given tree
pub choice_through : (autos : List Automaton) (a : Automaton) (t : Tree) → Every HasSome autos → IsIn a autos
    → InLanguage a t → (ts : List Tree) × Choice autos ts × IsIn t ts
choice_through [] a t f i l = absurd i
choice_through (b ∷ autos) a t f (inl e) l = let r = choice_any autos f.1 in
    (t ∷ r.0, (subst (λ (x : Automaton). InLanguage x t) e l, r.1), inl refl)
  where
    choice_any : (autos : List Automaton) → Every HasSome autos → (ts : List Tree) × Choice autos ts
    choice_any [] f = ([], tt)
    choice_any (x ∷ xs) f = let r = choice_any xs f.1 in (f.0.0 ∷ r.0, (f.0.1, r.1))
choice_through (b ∷ autos) a t f (inr i) l = let r = choice_through autos a t f.1 i l in
    (f.0.0 ∷ r.0, (f.0.1, r.1), inr r.2)

pub some_choice : (autos : List Automaton) → Every HasSome autos → (ts : List Tree) × Choice autos ts
some_choice [] f = ([], tt)
some_choice (x ∷ xs) f = let r = some_choice xs f.1 in (f.0.0 ∷ r.0, (f.0.1, r.1))

pub choice_long : (autos : List Automaton) (ts : List Tree) → Choice autos ts → length autos ≡ length ts
choice_long [] [] c = refl
choice_long [] (t ∷ ts) c = absurd c
choice_long (a ∷ autos) [] c = absurd c
choice_long (a ∷ autos) (t ∷ ts) c = ap suc (choice_long autos ts c.1)

top_cell : (ts : List Tree) (tops : List ℕ) (t : Tree) → TopsAre ts tops → IsIn t ts → is_leaf (out-Tree t).symbol
    ≡ false
top_cell [] tops t a i = absurd i
top_cell (u ∷ ts) [] t a i = absurd a
top_cell (u ∷ ts) (s ∷ tops) t a (inl e) = ap (λ (x : Tree). is_leaf (out-Tree x).symbol) e ∙ ap is_leaf a.0.2
top_cell (u ∷ ts) (s ∷ tops) t a (inr i) = top_cell ts tops t a.1 i

-- the parts of automata, each with a tree, are ready
pub parts_ready : (autos : List Automaton) (pss : List (List Part)) → Every HasSome autos → AreParts autos pss
    → Every AreReady pss
parts_ready [] [] f h = tt
parts_ready [] (ps ∷ pss) f h = absurd h
parts_ready (a ∷ autos) [] f h = absurd h
parts_ready (a ∷ autos) (ps ∷ pss) f h = (
  ((let w = h.0.some f.0.0 f.0.1 in (w.0, w.1)), in_every _ ps (λ x i. h.0.trim x i)),
  parts_ready autos pss f.1 h.1,
)

module _ (face : Face) (F : Forest) (full : Every HasSome F.autos) where
  abbrev pub AreAll : Type 0
  AreAll = (ts : List Tree) → Choice F.autos ts → ChoiceFilled face F ts

  module _ (above : ℕ → List ℕ) (given : IsGivenAt face.boxes F.autos above) where
    within : (ts : List Tree) → Choice F.autos ts → 0 + length ts ≤ length F.autos
    within ts c = let e = choice_long F.autos ts c in omega (arith, e)

    pub by_parts : (pss : List (List Part)) → AreParts F.autos pss → Every (IsRoot (length F.autos)) F.vars
        → ArePartsFilled face above 0 [] pss → AreAll
    by_parts pss h v k ts c =
        let w = choices_fill face above F.autos pss h k ts c in
        record {
          tops = w.0;
          are = w.1;
          vars = subst (λ (n : ℕ). Every (IsRoot n) F.vars) (choice_long F.autos ts c) v;
          cells = trees_filled face above ts (length F.autos) (given ts c) w.0 0 ts (within ts c) w.2;
        }

    pub all_parts : (pss : List (List Part)) → AreParts F.autos pss → AreAll → ArePartsFilled face above 0 [] pss
    all_parts pss h g = fill_choices face above F.autos pss h
        (λ ts c.
        (let f = g ts c in
        (f.tops, f.are, filled_trees face above ts (length F.autos) (given ts c) f.tops 0 ts (within ts c) f.cells)))

  pub all_vars : AreAll → Every (IsRoot (length F.autos)) F.vars
  all_vars g = let w = some_choice F.autos full in let f = g w.0 w.1 in
      subst (λ (n : ℕ). Every (IsRoot n) F.vars) (sym (choice_long F.autos w.0 w.1)) f.vars

  pub no_leaf : HasLeafIn F.autos → AreAll → ⊥
  no_leaf (a, i, (t, l, e)) g =
      let w = choice_through F.autos a t full i l in
      let f = g w.0 w.1 in
      true≢false (sym e ∙ top_cell w.0 f.tops t f.are w.2)

-- THE LOOPS

pub set_tops : (pss : List (List Part)) (i s : ℕ) → i < length pss → set (all_tops pss) i (s ∷ [])
    ≡ tops_but (all_tops (take i pss)) s (drop (i + 1) pss)
set_tops [] i s h = absurd (omega (arith, h))
set_tops (ps ∷ pss) zero s h = refl
set_tops (ps ∷ pss) (suc i) s h =
    let e : suc (i + 1) ≡ suc i + 1 = omega arith in
    subst (λ (n : ℕ). set (all_tops (ps ∷ pss)) (suc i) (s ∷ [])
    ≡ tops_but (all_tops (take (suc i) (ps ∷ pss))) s (drop n (ps ∷ pss))) e
    (ap (λ (l : List (List ℕ)). tops_of ps ∷ l) (set_tops pss i s (omega (arith, h))))

pub tops_set : (pss : List (List Part)) (i : ℕ) (tops : List (List ℕ)) (own : List ℕ) → AreTopsBut pss i tops
    → AreTopsBut pss i (set tops i own)
tops_set pss i tops own h =
    record { long = length-set tops i own ∙ h.long; others = λ ts. set-set tops i own ts ∙ h.others ts }

pub tops_whole : (pss : List (List Part)) (i : ℕ) (ps : List Part) → ps ≡ get_or pss i ps
    → set (all_tops pss) i (tops_of ps) ≡ all_tops pss
tops_whole [] i ps e = refl
tops_whole (qs ∷ pss) zero ps e = ap (λ (w : List Part). tops_of w ∷ all_tops pss) e
tops_whole (qs ∷ pss) (suc i) ps e = ap (λ (l : List (List ℕ)). tops_of qs ∷ l) (tops_whole pss i ps e)

pub tops_step : (pss : List (List Part)) (ps : List Part) → all_tops (pss ++ ps ∷ []) ≡ all_tops pss ++ tops_of ps ∷ []
tops_step [] ps = refl
tops_step (qs ∷ pss) ps = ap (λ (l : List (List ℕ)). tops_of qs ∷ l) (tops_step pss ps)

some_top : (ps : List Part) (p : Part) → IsIn p ps → IsIn p.top (tops_of ps)
some_top (q ∷ ps) p (inl e) = inl (ap (λ (x : Part). x.top) e)
some_top (q ∷ ps) p (inr i) = inr (some_top ps p i)
some_top [] p i = absurd i

-- each component has a top
pub tops_full : (pss : List (List Part)) (i s : ℕ) → Every AreReady pss
    → Every (λ (ts : List ℕ). (t : ℕ) × IsIn t ts) (set (all_tops pss) i (s ∷ []))
tops_full [] i s h = tt
tops_full (ps ∷ pss) zero s h = ((s, inl refl), rest pss h.1)
  where
    rest : (pss : List (List Part)) → Every AreReady pss → Every (λ (ts : List ℕ). (t : ℕ) × IsIn t ts) (all_tops pss)
    rest [] h = tt
    rest (qs ∷ pss) h = ((h.0.0.0.top, some_top qs h.0.0.0 h.0.0.1), rest pss h.1)
tops_full (ps ∷ pss) (suc i) s h = ((h.0.0.0.top, some_top ps h.0.0.0 h.0.0.1), tops_full pss i s h.1)
