-- Automata with one tree, for rows of parts and folds: a cell over references to one root and null pointers.
use Rattle.std.proofs.Common.{◌≡◌, inl, inr, ℕ, zero, suc, List, [], ◌∷◌, ◌++◌, map, refl, sym, ap, ap₂, subst, ◌∙◌}
use Rattle.std.proofs.Common.{Some, slice_get, arith}
use Rattle.std.proofs.lemmas.Option.{none-some, same_Some}
use Rattle.fore_base.specs.Lists.{IsIn}
use Rattle.fore_base.specs.declared.store.Datum.{Datum}
use Rattle.ta_core.specs.Auto.{Automaton}
use Rattle.ta_core.specs.Language.{InLanguage}
use Rattle.ta_core.specs.Single.{HasOneTop}
use Rattle.ta_core.specs.declared.auto.Rule.{Rule}
use Rattle.ta_core.specs.declared.symbol.Slot.{Slot}
use Rattle.ta_core.specs.declared.symbol.Symbol.{Symbol}
use Rattle.ta_core.specs.declared.symbol.Symbol.TheVariants.{Null, Ref, Cell}
use Rattle.ta_core.specs.declared.tree.Tree.{Tree, Tree-F, roll-Tree, out-Tree, fold-roll-Tree}
use Rattle.fa_core.specs.declared.faces.BoxFace.{BoxFace}
use Rattle.fa_core.specs.declared.forest.Target.TheVariants.{Null as NullTarget, At}
use Rattle.fa_core.specs.Dressed.{Node, Parts, node, leaf}
use Rattle.fa_core.specs.Filled.{covers, least, IsInOrder}
use Rattle.fa_core.specs.Folding.{covered_fields, top_places, cell_of, left, moved_symbol, moved_tree, moved_places}
use Rattle.fa_core.specs.Folding.{ArePortFields, IsFoldedTree, IsFoldedAuto}
use Rattle.fa_core.specs.Member.{bare, slots_of}
use Rattle.fa_core.specs.Rearranged.{Rearranged, chain, IsRising}
use Rattle.fa_core.proofs.NodeRuns.{PartsRun, EndRun, node_bare}
use Rattle.fa_core.proofs.Rearranging.{back as turned}
use Rattle.fa_core.proofs.RowsCanonical.{rule}
use Rattle.fa_core.proofs.SameKeys.{same_by_keys}
use Rattle.fa_core.proofs.SingleTrees.{IsSingle, single_tree}

-- The automata: the top's children are states 1, a reference to root r, and 2, a null pointer.

abbrev pub over : Symbol → List ℕ → ℕ → Automaton
over y qs r = record { states = 3; roots = 0 ∷ []; rules = rule 0 y qs ∷ rule 1 (Ref r) [] ∷ rule 2 Null [] ∷ [] }

pub over_single : (y : Symbol) (qs : List ℕ) (r : ℕ) → IsSingle (over y qs r)
over_single y qs r = ((refl, (refl, (refl, tt))), (0, refl))

pub top_alone : (y : Symbol) (qs : List ℕ) (r i : ℕ) (x : Rule) → slice_get (over y qs r).rules i ≡ Some x
    → x.state ≡ 0 → i ≡ 0
top_alone y qs r zero x e s = refl
top_alone y qs r (suc zero) x e s =
    let z : 1 ≡ 0 = ap (λ (o : Rule). o.state) (same_Some (rule 1 (Ref r) []) x e) ∙ s in
    absurd (omega (arith, z))
top_alone y qs r (suc (suc zero)) x e s =
    let z : 2 ≡ 0 = ap (λ (o : Rule). o.state) (same_Some (rule 2 Null []) x e) ∙ s in
    absurd (omega (arith, z))
top_alone y qs r (suc (suc (suc i))) x e s = absurd (none-some x e)

abbrev pub over_top : (y : Symbol) (qs : List ℕ) (r : ℕ) → HasOneTop (over y qs r)
over_top y qs r = record {
  root = 0;
  alone = refl;
  place = 0;
  rule = rule 0 y qs;
  there = refl;
  top = refl;
  only = top_alone y qs r;
}

module _ (y : Symbol) (qs : List ℕ) (r : ℕ) where
  pub to_ref : EndRun (over y qs r).rules 1 (leaf (At r))
  to_ref = (rule 1 (Ref r) [], inr (inl refl), refl, refl, refl)

  pub to_null : EndRun (over y qs r).rules 2 (leaf NullTarget)
  to_null = (rule 2 Null [], inr (inr (inl refl)), refl, refl, refl)

pub over_runs : (c s : ℕ) (ds : List Datum) (ps : Parts) (qs : List ℕ) (r : ℕ)
    → PartsRun (over (Cell s ds (slots_of ps)) qs r).rules qs ps
    → InLanguage (over (Cell s ds (slots_of ps)) qs r) (bare (node c s ds ps))
over_runs c s ds ps qs r h =
    let y = Cell s ds (slots_of ps) in
    (0, inl refl, node_bare (over y qs r).rules 0 (node c s ds ps) (rule 0 y qs, inl refl, refl, refl, h))

-- Moved trees, layer by layer.

pub moved_rolled : (f : ℕ → ℕ) (x : Tree-F Tree)
    → moved_tree f (roll-Tree x) ≡ roll-Tree
    (record { symbol = moved_symbol f x.symbol; children = map (moved_tree f) x.children })
moved_rolled f x = fold-roll-Tree Tree
    (λ t. roll-Tree (record { symbol = moved_symbol f t.symbol; children = t.children })) x

-- Languages of one tree.

-- the fields that the one tree covers are those of the port
pub single_fields : (bs : List BoxFace) (a : Automaton) (t : Tree) (fs : List ℕ) → IsSingle a → InLanguage a t
    → covered_fields bs t ≡ fs
    → IsRising fs → ArePortFields bs a fs
single_fields bs a t fs s h e r = record {
  rising = r;
  are = λ f. (
    (λ i. (t, h, rw e i)),
    (λ w. rw e at (subst (λ (x : Tree). IsIn f (covered_fields bs x)) (single_tree a w.0 t s w.1 h) w.2)),
  );
}

-- Folds.

abbrev Place : Type 0
Place = Slot × List Tree

abbrev key : List BoxFace → Place → ℕ
key bs p = least (covers bs p.0)

slot_keys : (bs : List BoxFace) (ps : List Place)
    → map (λ s. least (covers bs s)) (map (λ (p : Place). p.0) ps) ≡ map (key bs) ps
slot_keys bs [] = refl
slot_keys bs (p ∷ ps) = ap (λ (l : List ℕ). key bs p ∷ l) (slot_keys bs ps)

abbrev symbol_struct : Symbol → ℕ
symbol_struct (Cell s ds ss) = s
symbol_struct y = 9

abbrev symbol_data : Symbol → List Datum
symbol_data (Cell s ds ss) = ds
symbol_data y = []

module _ (bs : List BoxFace) (f : ℕ → ℕ) (more : List Place) (fs : List ℕ) (a c : Automaton) (n m : Node) where
  -- a fold of an automaton with one tree into another
  pub single_folded : (s : ℕ) (ds : List Datum) (ss : List Slot) (made : List Place) → IsSingle a → IsSingle c
      → InLanguage a (bare n) → InLanguage c (bare m) → (out-Tree (bare n)).symbol ≡ Cell s ds ss
      → Rearranged made (more ++ moved_places f (left fs (top_places (bare n))))
      → IsInOrder bs (map (λ (p : Place). p.0) made) → bare m ≡ cell_of s ds made → IsFoldedAuto bs f more fs a c
  single_folded s ds ss made sa sc ha hc y r o e u = (
    (λ w. (
      bare n,
      ha,
      record {
        shape = s;
        datums = ds;
        slots = ss;
        symbol = y;
        made = made;
        same = r;
        order = o;
        is = single_tree c u (bare m) sc w hc ∙ e;
      },
    )),
    (λ w. from (subst (λ (v : Tree). IsFoldedTree bs f more fs v u) (single_tree a w.0 (bare n) sa w.1 ha) w.2)),
  )
    where
      from : IsFoldedTree bs f more fs (bare n) u → InLanguage c u
      from x =
          let z : Cell x.shape x.datums x.slots ≡ Cell s ds ss = sym x.symbol ∙ y in
          let rises = subst (λ (l : List ℕ). IsRising l) (slot_keys bs x.made) x.order.1 in
          let rose = subst (λ (l : List ℕ). IsRising l) (slot_keys bs made) o.1 in
          let k : x.made ≡ made = same_by_keys (key bs) x.made made (chain x.same (turned r)) rises rose in
          let i : u ≡ bare m =
          x.is ∙ ap₂ (λ (t : ℕ) (es : List Datum). cell_of t es x.made) (ap symbol_struct z) (ap symbol_data z)
          ∙ ap (λ (l : List Place). cell_of s ds l) k ∙ sym e in
          subst (λ (v : Tree). InLanguage c v) (sym i) hc

-- one symbol stands at the top
pub top_is : (y : Symbol) (qs : List ℕ) (r : ℕ) (a : Automaton) → a ≡ over y qs r → (one : HasOneTop a)
    → one.rule.symbol ≡ y
top_is y qs r a e one =
    let first : List ℕ → ℕ = λ l. (elim l [ [] ↦ 9 | q ∷ rest ↦ q ]) in
    let z : one.rule.state ≡ 0 = one.top ∙ sym (ap first one.alone) ∙ ap (λ (b : Automaton). first b.roots) e in
    let there : slice_get (over y qs r).rules one.place ≡ Some one.rule =
    subst (λ (b : Automaton). slice_get b.rules one.place ≡ Some one.rule) e one.there in
    let p : one.place ≡ 0 = top_alone y qs r one.place one.rule there z in
    let k : Some (rule 0 y qs) ≡ Some one.rule =
    subst (λ (i : ℕ). slice_get (over y qs r).rules i ≡ Some one.rule) p there in
    sym (ap (λ (x : Rule). x.symbol) (same_Some (rule 0 y qs) one.rule k))
