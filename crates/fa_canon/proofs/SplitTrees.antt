-- What choices of trees of a forest with a rule chosen, or with a child split, are of the forest before.
use Rattle.std.proofs.Common.{false, ◌≡◌, ℕ, zero, suc, ◌<◌, length, List, [], ◌∷◌, ◌++◌, refl, sym, ap, ap₂, subst}
use Rattle.std.proofs.Common.{◌∙◌, slice_get, slice_set, Some, length-set, arith}
use Rattle.std.proofs.lemmas.Option.{same_Some}
use Rattle.fore_base.specs.Lists.{IsIn, Every, Paired}
use Rattle.fore_base.proofs.ListLemmas.{paired_same}
use Rattle.ta_core.specs.Auto.{Automaton, IsRanked}
use Rattle.ta_core.specs.Language.{InLanguage, IsWithin, RunOf, run}
use Rattle.ta_core.specs.Single.{HasOneTop}
use Rattle.ta_core.specs.declared.auto.Rule.{Rule}
use Rattle.ta_core.specs.declared.symbol.Symbol.{Symbol}
use Rattle.ta_core.specs.declared.tree.Tree.{Tree, out-Tree, roll-Tree, roll-out-Tree}
use Rattle.fa_core.specs.Cells.{is_leaf}
use Rattle.fa_core.specs.Covering.{Covers}
use Rattle.fa_core.specs.Dressed.{leaf}
use Rattle.fa_core.specs.Filled.{Choice}
use Rattle.fa_core.specs.Member.{bare_end}
use Rattle.fa_core.specs.declared.forest.Forest.{Forest}
use Rattle.fa_core.specs.declared.forest.Target.{Target}
use Rattle.fa_core.specs.declared.forest.Target.TheVariants.{At}
use Rattle.fa_core.proofs.Dressing.{choice_length}
use Rattle.fa_sound.specs.Components.{component_at}
use Rattle.fa_merge.proofs.LoneFound.{choice_at}
use Rattle.fa_merge.proofs.PlacedForests.{component_has}
use Rattle.fa_split.specs.Chosen.{IsBy, chosen, chosen_at}
use Rattle.fa_split.specs.Split.{CanSplit, child_state, fixed, lifted, split_cells, split_leaf}
use Rattle.fa_split.proofs.ChosenTrees.{chosen_of, chosen_one}
use Rattle.fa_split.proofs.FixedTrees.{child_run, fixed_leaf, fixed_with, fixed_within}
use Rattle.fa_split.proofs.LiftedTrees.{lifted_of}
use Rattle.fa_split.proofs.OtherComponent.{choice_within, component_other, component_set}
use Rattle.fa_split.proofs.RunPlaces.{set_again, set_same}
use Rattle.fa_canon.specs.inner.Cutting.{IsCutOff, child_at, ref_leaf, with_child}
use Rattle.fa_canon.specs.inner.Steps.{IsChosenAt}
use Rattle.fa_canon.proofs.ListPlaces.{set_here}
use Rattle.fa_canon.proofs.TopCells.{put_children, put_symbol}

-- Fewer trees.

pub within_set : (autos : List Automaton) (r : ℕ) (b : Automaton) → IsWithin b (component_at autos r)
    → Paired IsWithin (slice_set autos r b) autos
within_set [] r b w = tt
within_set (a ∷ autos) zero b w = (w, paired_same IsWithin (λ x t h. h) autos)
within_set (a ∷ autos) (suc r) b w = ((λ t h. h), within_set autos r b w)

pub within_choice : (bs autos : List Automaton) → Paired IsWithin bs autos → (ts : List Tree) → Choice bs ts
    → Choice autos ts
within_choice [] [] w [] c = c
within_choice [] [] w (t ∷ ts) c = absurd c
within_choice [] (a ∷ autos) w ts c = absurd w
within_choice (b ∷ bs) [] w ts c = absurd w
within_choice (b ∷ bs) (a ∷ autos) w [] c = absurd c
within_choice (b ∷ bs) (a ∷ autos) w (t ∷ ts) c = (w.0 t c.0, within_choice bs autos w.1 ts c.1)

pub covers_choice : (F G : Forest) → Covers F G → (ts : List Tree) → Choice G.autos ts → Choice F.autos ts
covers_choice F G h ts c = within_choice G.autos F.autos h.within ts c

-- the trees by a rule of a root state are trees of the automaton
by_rule : (a : Automaton) (x : Rule) → IsIn x a.rules → IsIn x.state a.roots → (t : Tree) → IsBy a.rules x t
    → InLanguage a t
by_rule a x i j t k = (x.state, j, run x i refl k.0 k.1)

-- a rule chosen
pub chosen_is : (F : Forest) (r : ℕ) (x : Rule) → r < length F.autos → Every IsRanked F.autos
    → IsIn x (component_at F.autos r).rules → IsIn x.state (component_at F.autos r).roots
    → IsChosenAt r F (chosen_at F r x)
chosen_is F r x l ranked i j =
    let a = component_at F.autos r in
    let right = component_has IsRanked F.autos r ranked l in
    record {
      covers =
          record {
            vars = refl;
            data_vars = refl;
            within = within_set F.autos r (chosen a x) (λ t h. by_rule a x i j t (chosen_of a x right i t h));
          };
      top = subst HasOneTop (sym (component_set F.autos r (chosen a x) l)) (chosen_one a x right i);
      others = λ k d. component_other F.autos r k (chosen a x) d;
    }

-- Lists of trees with one more behind them.

split_last : (autos : List Automaton) (b : Automaton) (us : List Tree) → Choice (autos ++ b ∷ []) us → (vs : List Tree)
    × (c : Tree) × (us ≡ vs ++ c ∷ []) × Choice autos vs × InLanguage b c
split_last [] b [] h = absurd h
split_last [] b (u ∷ []) h = ([], u, refl, tt, h.0)
split_last [] b (u ∷ v ∷ us) h = absurd h.1
split_last (a ∷ autos) b [] h = absurd h
split_last (a ∷ autos) b (u ∷ us) h = let k = split_last autos b us h.1 in
    (u ∷ k.0, k.1, ap (λ (z : List Tree). u ∷ z) k.2, (h.0, k.3), k.4)

set_choice : (autos : List Automaton) (r : ℕ) (b : Automaton) (vs : List Tree) (u : Tree)
    → Choice (slice_set autos r b) vs → InLanguage (component_at autos r) u → Choice autos (slice_set vs r u)
set_choice [] r b [] u c h = c
set_choice [] r b (v ∷ vs) u c h = absurd c
set_choice (a ∷ autos) zero b [] u c h = absurd c
set_choice (a ∷ autos) (suc r) b [] u c h = absurd c
set_choice (a ∷ autos) zero b (v ∷ vs) u c h = (h, c.1)
set_choice (a ∷ autos) (suc r) b (v ∷ vs) u c h = (c.0, set_choice autos r b vs u c.1 h)

-- A child split.

module _ (F : Forest) (r p : ℕ) (ranked : Every IsRanked F.autos) (can : CanSplit F r p) where
  abbrev a : Automaton
  a = component_at F.autos r

  abbrev q : ℕ
  q = child_state a p

  right : IsRanked a
  right = component_has IsRanked F.autos r ranked can.root

  -- the tree at the root of the other automaton
  tree_of_set : (b : Automaton) (vs : List Tree) → Choice (slice_set F.autos r b) vs → (t : Tree)
      × (slice_get vs r ≡ Some t) × InLanguage b t
  tree_of_set b vs c =
      let k = choice_at (slice_set F.autos r b) vs r c
      (let l = can.root in let s = length-set F.autos r b in omega (arith, l, s)) in
      (k.0, k.1, subst (λ (z : Automaton). InLanguage z k.0) (component_set F.autos r b can.root) k.2)

  -- the child of each tree has a run to its state
  pub child_runs : (ts : List Tree) (t u : Tree) → Choice F.autos ts → slice_get ts r ≡ Some t → child_at t p ≡ Some u
      → RunOf a.rules q u
  child_runs ts t u c e f =
      let k = choice_at F.autos ts r c can.root in
      child_run a p (At 0) right can.top can.place t u
      (subst (λ (z : Tree). InLanguage a z) (same_Some k.0 t (sym k.1 ∙ e)) k.2) f

  -- where the child is a leaf
  pub leaf_choice : (y : Target) → RunOf a.rules q (bare_end (leaf y)) → (us : List Tree)
      → Choice (split_leaf F r p y).autos us → Choice F.autos us
      × ((t : Tree) → slice_get us r ≡ Some t → child_at t p ≡ Some (bare_end (leaf y)))
  leaf_choice y h us c = (
    choice_within F.autos r (fixed a p y) (fixed_within a p y right can.top can.place h) us c,
    λ t e.
        (let k = tree_of_set (fixed a p y) us c in
        fixed_leaf a p y right can.top can.place t
        (subst (λ (z : Tree). InLanguage (fixed a p y) z) (same_Some k.0 t (sym k.1 ∙ e)) k.2)),
  )

  -- where it is a cell
  pub cells_choice : (us : List Tree) → Choice (split_cells F r p).autos us → (ts : List Tree) × Choice F.autos ts
      × ((k : IsCutOff r p ts us) × (is_leaf (out-Tree k.child).symbol ≡ false) × RunOf a.rules q k.child)
  cells_choice us c =
      let N = length F.autos in
      let b : Automaton = fixed a p (At N) in
      let s = split_last (slice_set F.autos r b) (lifted a q) us c in
      let vs = s.0 in
      let child = s.1 in
      let down = lifted_of a q right child s.4 in
      let k = tree_of_set b vs s.3 in
      let t = k.0 in
      let above : Tree = with_child t p child in
      let there : child_at t p ≡ Some (ref_leaf N) = fixed_leaf a p (At N) right can.top can.place t k.2 in
      let old : InLanguage a above =
      fixed_with a p (At N) right can.top can.place t above child k.2 down.0 (put_symbol t p child)
      (put_children t p child) in
      let ts : List Tree = slice_set vs r above in
      let choice : Choice F.autos ts = set_choice F.autos r b vs above s.3 old in
      let long : length ts ≡ N = choice_length F.autos ts choice in
      let again : with_child above p (ref_leaf N) ≡ t =
      ap₂ (λ (y : Symbol) (cs : List Tree). roll-Tree (record { symbol = y; children = cs })) (put_symbol t p child)
      (ap (λ (cs : List Tree). slice_set cs p (ref_leaf N)) (put_children t p child)
      ∙ set_again (out-Tree t).children p (ref_leaf N) child ∙ set_same (out-Tree t).children p (ref_leaf N) there)
      ∙ roll-out-Tree t in
      let same : slice_set ts r (with_child above p (ref_leaf (length ts))) ≡ vs =
      ap (λ (n : ℕ). slice_set ts r (with_child above p (ref_leaf n))) long ∙ ap (λ (z : Tree). slice_set ts r z) again
      ∙ set_again vs r t above ∙ set_same vs r t k.1 in (
        ts,
        choice,
        (
          record {
            above = above;
            child = child;
            is_above = set_here vs r t above k.1;
            is_child = ap (λ (cs : List Tree). slice_get cs p) (put_children t p child)
                ∙ set_here (out-Tree t).children p (ref_leaf N) child there;
            cut = s.2 ∙ ap (λ (z : List Tree). z ++ child ∷ []) (sym same);
          },
          down.1,
          down.0,
        ),
      )
