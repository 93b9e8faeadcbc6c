-- The automaton of the trees by a rule that owns the edge, in which the leaf stands at its end.
use Rattle.std.proofs.Common.{◌≡◌, ℕ, zero, suc, ◌<◌, ◌≤◌, true, false, true≢false, length, List, [], ◌∷◌, refl}
use Rattle.std.proofs.Common.{sym, ap, subst, ◌∙◌, slice_get, slice_index_or, Some, arith}
use Rattle.std.proofs.lemmas.Option.{none-some, same_Some, slice_get_within}
use Rattle.fore_base.specs.Lists.{IsIn, Every}
use Rattle.ta_core.specs.Auto.{Automaton, IsRanked}
use Rattle.ta_core.specs.Language.{RunOf, run, RunEach, InLanguage}
use Rattle.ta_core.specs.Single.{HasOneTop}
use Rattle.ta_core.specs.declared.auto.Rule.{Rule}
use Rattle.ta_core.specs.declared.symbol.Symbol.{Symbol}
use Rattle.ta_core.specs.declared.symbol.Symbol.TheVariants.{Null, Uninit, Dangling, Ref, Cell}
use Rattle.ta_core.specs.declared.tree.Tree.{Tree, out-Tree}
use Rattle.fa_core.specs.declared.faces.BoxFace.{BoxFace}
use Rattle.fa_core.specs.declared.forest.Target.TheVariants.{At}
use Rattle.fa_core.specs.Cells.{is_leaf}
use Rattle.fa_core.specs.Dressed.{Node, Parts, End, node, no_parts, field, link, hook, leaf}
use Rattle.fa_core.specs.Filled.{HasSignatures}
use Rattle.fa_core.specs.Folding.{symbol_slots}
use Rattle.fa_core.specs.Member.{bare, bare_end}
use Rattle.fa_core.proofs.Dressing.{cell_top}
use Rattle.fa_core.proofs.NodeRuns.{PartsRun, EndRun, parts_bare, end_bare}
use Rattle.fa_split.specs.Chosen.{IsBy, chosen}
use Rattle.fa_split.specs.Split.{top_rule, child_state, end_at}
use Rattle.fa_split.proofs.ChosenForests.{fresh_signed}
use Rattle.fa_split.proofs.ChosenTrees.{one_item, chosen_back, chosen_of, to_chosen, chosen_one, chosen_ranked}
use Rattle.fa_split.proofs.ChosenTrees.{chosen_stay, chosen_roots, chosen_symbols, chosen_top}
use Rattle.fa_split.proofs.FixedSigned.{tops_signed}
use Rattle.fa_split.proofs.FixedTrees.{
  to_fixed,
  fixed_leaf,
  fixed_within,
  fixed_one,
  fixed_ranked,
  fixed_symbols,
  fixed_top,
}
use Rattle.fa_split.proofs.FreshStates.{widen}
use Rattle.fa_split.proofs.Places.{cell_children, child_of_top}
use Rattle.fa_split.proofs.RunPlaces.{at_index, set_same}
use Rattle.fa_split.proofs.TopRules.{tree_by_top}
use Rattle.fa_lift.specs.Lift.{child_gives, Owns, owner}
use Rattle.fa_lift.proofs.LiftHats.{ByOwner}

-- a symbol with slots is a cell's
cell_gives : (bs : List BoxFace) (f p : ℕ) (y : Symbol) → child_gives bs f (symbol_slots y) p ≡ true → is_leaf y ≡ false
cell_gives bs f p Null e = absurd (true≢false (sym e))
cell_gives bs f p Uninit e = absurd (true≢false (sym e))
cell_gives bs f p Dangling e = absurd (true≢false (sym e))
cell_gives bs f p (Ref k) e = absurd (true≢false (sym e))
cell_gives bs f p (Cell s ds ss) e = refl

-- the child at place p has a run to its state
child_at : (rules : List Rule) (p : ℕ) (qs : List ℕ) (ps : Parts) (e : End) → end_at p ps ≡ Some e
    → PartsRun rules qs ps
    → (q : ℕ) × (slice_get qs p ≡ Some q) × EndRun rules q e
child_at rules p [] no_parts e i h = absurd (none-some e i)
child_at rules p (q ∷ qs) no_parts e i h = absurd h
child_at rules p [] (field f x ps) e i h = absurd h
child_at rules zero (q ∷ qs) (field f x ps) e i h =
    (q, refl, subst (λ (v : End). EndRun rules q v) (same_Some x e i) h.0)
child_at rules (suc p) (q ∷ qs) (field f x ps) e i h = child_at rules p qs ps e i h.1
child_at rules p [] (link b n x ps) e i h = absurd h
child_at rules zero (q ∷ qs) (link b n x ps) e i h =
    (q, refl, subst (λ (v : End). EndRun rules q v) (same_Some x e i) h.0)
child_at rules (suc p) (q ∷ qs) (link b n x ps) e i h = child_at rules p qs ps e i h.1
child_at rules p qs (hook b n ps) e i h = child_at rules p qs ps e i h

module _ (bs : List BoxFace) (r f : ℕ) (a : Automaton) (ranked : IsRanked a) (x : Rule) (p : ℕ)
    (own : Owns bs r f a x p) where
  abbrev one : Automaton
  one = chosen a x

  one_ranked : IsRanked one
  one_ranked = chosen_ranked a x ranked own.rule

  one_top : HasOneTop one
  one_top = chosen_one a x ranked own.rule

  top_is : top_rule one ≡ record { state = a.states; symbol = x.symbol; children = x.children }
  top_is = chosen_top a x ranked own.rule

  one_place : p < length (top_rule one).children
  one_place = subst (λ (o : Rule). p < length o.children) (sym top_is) own.place

  above : (o : Rule) → IsIn o (record { state = a.states; symbol = x.symbol; children = x.children } ∷ [])
      → a.states ≤ o.state
  above o i =
      let s : o.state ≡ a.states =
      ap (λ (z : Rule). z.state) (one_item o (record { state = a.states; symbol = x.symbol; children = x.children }) i)
      in
      omega (arith, s)

  leaf_run : RunOf one.rules (child_state one p) (bare_end (leaf (At r)))
  leaf_run = subst (λ (o : Rule). RunOf one.rules (slice_index_or o.children p 0) (bare_end (leaf (At r)))) (sym top_is)
      (widen a (record { state = a.states; symbol = x.symbol; children = x.children } ∷ []) ranked above
      (slice_index_or x.children p 0) (bare_end (leaf (At r))) own.ends)

  owner_chosen : (t : Tree) → InLanguage (owner a x p r) t → InLanguage one t
  owner_chosen = fixed_within one p (At r) one_ranked one_top one_place leaf_run

  -- its trees are those by the rule with the leaf in the place
  pub owner_by : (t : Tree) → InLanguage (owner a x p r) t → IsBy a.rules x t
  owner_by t l = chosen_of a x ranked own.rule t (owner_chosen t l)

  pub owner_run : (t : Tree) → InLanguage (owner a x p r) t → RunOf a.rules x.state t
  owner_run t l = let k = owner_by t l in run x own.rule refl k.0 k.1

  pub owner_leaf : (t : Tree) → InLanguage (owner a x p r) t → slice_get (out-Tree t).children p
      ≡ Some (bare_end (leaf (At r)))
  owner_leaf = fixed_leaf one p (At r) one_ranked one_top one_place

  pub to_owner : (t : Tree) → IsBy a.rules x t → slice_get (out-Tree t).children p ≡ Some (bare_end (leaf (At r)))
      → InLanguage (owner a x p r) t
  to_owner t k e = to_fixed one p (At r) one_ranked one_top one_place t t
      (tree_by_top one one_top t (to_chosen a x ranked own.rule t k)) refl
      (sym (set_same (out-Tree t).children p (bare_end (leaf (At r))) e))

  pub owner_one : HasOneTop (owner a x p r)
  owner_one = fixed_one one p (At r) one_ranked one_top one_place

  pub owner_ranked : IsRanked (owner a x p r)
  owner_ranked = fixed_ranked one p (At r) one_ranked one_top one_place

  pub owner_symbols : (P : Symbol → Type 0) → P (Ref r) → Every (λ (o : Rule). P o.symbol) a.rules
      → Every (λ (o : Rule). P o.symbol) (owner a x p r).rules
  owner_symbols P k h = fixed_symbols one p (At r) one_ranked one_top one_place P k
      (chosen_symbols a x ranked own.rule P h)

  -- its rule at the top
  pub owner_gives : child_gives bs f (symbol_slots (top_rule (owner a x p r)).symbol) p ≡ true
  owner_gives =
      ap (λ (o : Rule). child_gives bs f (symbol_slots o.symbol) p)
      (fixed_top one p (At r) one_ranked one_top one_place)
      ∙ ap (λ (o : Rule). child_gives bs f (symbol_slots o.symbol) p) top_is
      ∙ own.gives

  -- they are cells
  pub owner_cell : (t : Tree) → InLanguage (owner a x p r) t → is_leaf (out-Tree t).symbol ≡ false
  owner_cell t l = ap is_leaf (sym (owner_by t l).0) ∙ cell_gives bs f p x.symbol own.gives

  -- and have the signature of the rule's state
  pub owner_signed : HasSignatures bs a → HasSignatures bs (owner a x p r)
  owner_signed h = tops_signed one p (At r) one_ranked one_top one_place bs chosen_signed
      (λ t u v w. h.states x.state t u (owner_run t v) (owner_run u w))
    where
      by_rule : (t : Tree) → IsBy a.rules x t → RunOf a.rules x.state t
      by_rule t k = run x own.rule refl k.0 k.1

      chosen_signed : HasSignatures bs one
      chosen_signed = fresh_signed bs a one x.state (λ q u l w. chosen_stay a x ranked own.rule q u l w)
          (λ q u w l. by_rule u (chosen_back a x ranked own.rule q u l w))
          (λ q i. chosen_roots a x ranked own.rule q i) h

-- the cell of an owner is one of its trees
module _ (bs : List BoxFace) (r f : ℕ) (a : Automaton) (ranked : IsRanked a) (x : Rule) (p : ℕ) (rule : IsIn x a.rules)
    (m : Node) (by : ByOwner bs f r a.rules x p m) where
  pub owner_of : Owns bs r f a x p
  owner_of =
      let c = child_at a.rules p x.children by.parts (leaf (At r)) by.ends by.runs in
      let l = slice_get_within x.children p c.0 c.1 in
      let q : c.0 ≡ slice_index_or x.children p 0 =
      same_Some c.0 (slice_index_or x.children p 0) (sym c.1 ∙ at_index x.children p l) in record {
        rule = rule;
        place = l;
        gives = ap (λ (y : Symbol). child_gives bs f (symbol_slots y) p) by.symbol ∙ by.gives;
        ends = subst (λ (q : ℕ). RunOf a.rules q (bare_end (leaf (At r)))) q (end_bare a.rules c.0 (leaf (At r)) c.2);
      }

  pub by_owner : InLanguage (owner a x p r) (bare m)
  by_owner = subst (λ (n : Node). InLanguage (owner a x p r) (bare n)) (sym by.is)
      (to_owner bs r f a ranked x p owner_of (bare n) by_rule (child_of_top p n (leaf (At r)) by.ends))
    where
      n : Node
      n = node by.cell by.shape by.datums by.parts

      by_rule : IsBy a.rules x (bare n)
      by_rule = (
        by.symbol ∙ sym (cell_top by.cell by.shape by.datums by.parts),
        subst (λ (ts : List Tree). RunEach a.rules x.children ts)
            (sym (cell_children by.cell by.shape by.datums by.parts))
            (parts_bare a.rules x.children by.parts by.runs),
      )
