-- Each choice of trees of an inside over a table is that of a dressed inside no two of whose cells are one.
use Rattle.std.proofs.Common.{
  ◌≡◌,
  ◌⊎◌,
  inl,
  inr,
  ℕ,
  zero,
  suc,
  ◌<◌,
  ◌≤◌,
  ◌+◌,
  length,
  List,
  [],
  ◌∷◌,
  ◌++◌,
  refl,
  sym,
  ap,
}
use Rattle.std.proofs.Common.{subst, ◌∙◌, Some, arith, append_assoc}
use Rattle.std.proofs.lemmas.Option.{none-some}
use Rattle.fore_base.specs.Lists.{IsIn, Every, IsDistinct}
use Rattle.fore_base.specs.declared.shape.Shapes.{Shapes}
use Rattle.fore_base.specs.declared.store.Value.{Value}
use Rattle.fore_base.proofs.ListLemmas.{every_weaker, every_in}
use Rattle.ta_core.specs.Auto.{Automaton, IsRanked}
use Rattle.ta_core.specs.declared.auto.Rule.{Rule}
use Rattle.ta_core.specs.declared.symbol.Slot.{Slot}
use Rattle.ta_core.specs.declared.symbol.Slot.TheVariants.{Field, Link, Hook}
use Rattle.ta_core.specs.declared.symbol.Symbol.{Symbol}
use Rattle.ta_core.specs.declared.symbol.Symbol.TheVariants.{Null, Uninit, Dangling, Ref, Cell}
use Rattle.ta_core.specs.declared.tree.Tree.{Tree}
use Rattle.fa_core.specs.declared.boxes.BoxDef.{BoxDef}
use Rattle.fa_core.specs.Boxes.{AreSoundOver, heads}
use Rattle.fa_core.specs.Choices.{bares, HasInside, HasInsides, SlotHasInside, SymbolHasInsides}
use Rattle.fa_core.specs.Dressed.{Nodes, inside_facts}
use Rattle.fa_core.specs.Filled.{Choice, TopsAre, HasSome}
use Rattle.fa_core.specs.Member.{TreesOf, inside_of}
use Rattle.fa_core.proofs.Dressing.{dress_all}
use Rattle.fa_back.specs.Insides.{AreRankedInsides}
use Rattle.fa_back.proofs.Fresh.{fresh_all, bares_stay, trees_stay, inside_fresh, all_size, IsBetween}
use Rattle.fa_back.proofs.TablesKnown.{SlotUses, SymbolUses, RulesUse, AllUse, box_uses, grow_trees, length_next}

pub some_choice : (autos : List Automaton) → Every HasSome autos → (ts : List Tree) × Choice autos ts
some_choice [] h = ([], tt)
some_choice (a ∷ autos) h = let r = some_choice autos h.1 in (h.0.0 ∷ r.0, (h.0.1, r.1))

-- Boxes that are used have insides.

module _ (T : List BoxDef) (n : ℕ) (there : (b : ℕ) → b < n → HasInside T b) where
  slot_inside : (s : Slot) → SlotUses n s → SlotHasInside T s
  slot_inside (Field f) h = tt
  slot_inside (Link b) h = there b h
  slot_inside (Hook b) h = there b h

  symbol_inside : (y : Symbol) → SymbolUses n y → SymbolHasInsides T y
  symbol_inside Null h = tt
  symbol_inside Uninit h = tt
  symbol_inside Dangling h = tt
  symbol_inside (Ref r) h = tt
  symbol_inside (Cell s ds ss) h = every_weaker (SlotUses n) (SlotHasInside T) ss slot_inside h

  pub insides_there : (autos : List Automaton) → AllUse n autos → Every (HasInsides T) autos
  insides_there autos h = every_weaker (RulesUse n) (HasInsides T) autos
      (λ a k. every_weaker (λ (r : Rule). SymbolUses n r.symbol) (λ (r : Rule). SymbolHasInsides T r.symbol) a.rules
      (λ r i. symbol_inside r.symbol i) k) h

inside_last : (xs : List BoxDef) (x : BoxDef) → inside_of (xs ++ x ∷ []) (length xs) ≡ Some x.inside.autos
inside_last [] x = refl
inside_last (y ∷ xs) x = inside_last xs x

inside_kept : (xs : List BoxDef) (x : BoxDef) (b : ℕ) (autos : List Automaton) → inside_of xs b ≡ Some autos
    → inside_of (xs ++ x ∷ []) b ≡ Some autos
inside_kept [] x b autos e = absurd (none-some autos e)
inside_kept (y ∷ xs) x zero autos e = e
inside_kept (y ∷ xs) x (suc b) autos e = inside_kept xs x b autos e

module _ (shapes : Shapes) where
  all_inside : (before defs : List BoxDef) → AreSoundOver shapes before defs → AreRankedInsides defs
      → ((b : ℕ) → b < length before → HasInside before b) → (b : ℕ) → b < length (before ++ defs)
      → HasInside (before ++ defs) b
  all_inside before [] s r there b l =
      let e = append-nil before in
      subst (λ (z : List BoxDef). HasInside z b) (sym e) (there b (subst (λ (z : List BoxDef). b < length z) e l))
    where
      append-nil : (xs : List BoxDef) → (xs ++ []) ≡ xs
      append-nil [] = refl
      append-nil (x ∷ xs) = ap (λ (z : List BoxDef). x ∷ z) (append-nil xs)
  all_inside before (x ∷ defs) s r there b l =
      let e = append_assoc before (x ∷ []) defs in
      subst (λ (z : List BoxDef). HasInside z b) e
      (all_inside (before ++ x ∷ []) defs s.1 r.1 next b
      (subst (λ (z : List BoxDef). b < length z) (sym e) l))
    where
      own : HasInside (before ++ x ∷ []) (length before)
      own =
          let c = some_choice x.inside.autos s.0.full in
          let fit = s.0.fits c.0 c.1 in
          let d = dress_all before 0 x.inside.autos c.0 fit.tops r.0
          (insides_there before (length before) there x.inside.autos (box_uses shapes before x s.0)) c.1 fit.are in
          (d.nodes, x.inside.autos, inside_last before x, grow_trees before (x ∷ []) x.inside.autos d.nodes d.of)

      less_or_same : (b n : ℕ) → b < suc n → (b < n) ⊎ (b ≡ n)
      less_or_same zero zero l = inr refl
      less_or_same zero (suc n) l = inl (omega arith)
      less_or_same (suc b) zero l = absurd (let z : suc b < 1 = l in omega (arith, z))
      less_or_same (suc b) (suc n) l = elim (less_or_same b n (omega (arith, l))) [
        | inl k ↦ inl (omega (arith, k))
        | inr k ↦ inr (ap suc k)
      ]

      next : (b : ℕ) → b < length (before ++ x ∷ []) → HasInside (before ++ x ∷ []) b
      next b l = elim (less_or_same b (length before) (subst (λ (n : ℕ). b < n) (length_next before x) l)) [
        | inl k ↦ (let h = there b k in
            (h.0, h.1, inside_kept before x b h.1 h.2, grow_trees before (x ∷ []) h.1 h.0 h.3))
        | inr k ↦ subst (λ (n : ℕ). HasInside (before ++ x ∷ []) n) (sym k) own
      ]

  -- each box of the table has a dressed inside
  pub tables_dressed : (T : List BoxDef) → AreSoundOver shapes [] T → AreRankedInsides T → (b : ℕ) → b < length T
      → HasInside T b
  tables_dressed T s r b l = all_inside [] T s r (λ c k. absurd (none c k)) b l
    where
      none : (c : ℕ) → c < 0 → ⊥
      none c k = omega (arith, k)

-- a dressed inside of the trees, whose cells have different numbers, none of them below 2
pub record IsDressedApart (T : List BoxDef) (autos : List Automaton) (ts : List Tree) : Type 0 where
  pub nodes : Nodes
  pub trees : bares nodes ≡ ts
  pub of : TreesOf T autos nodes
  pub least : (ports : List Value) (n : ℕ) → IsIn n (heads (inside_facts ports nodes)) → 2 ≤ n
  pub differ : (ports : List Value) → IsDistinct (heads (inside_facts ports nodes))

pub dressed_apart : (shapes : Shapes) (T : List BoxDef) → AreSoundOver shapes [] T → AreRankedInsides T
    → (autos : List Automaton) (ts : List Tree) (tops : List ℕ) → AllUse (length T) autos → Every IsRanked autos
    → Choice autos ts → TopsAre ts tops → IsDressedApart T autos ts
dressed_apart shapes T s r autos ts tops uses ranked choice are =
    let d = dress_all T 0 autos ts tops ranked
    (insides_there T (length T) (tables_dressed shapes T s r) autos uses) choice are in
    record {
      nodes = fresh_all 2 d.nodes;
      trees = bares_stay 2 d.nodes ∙ d.trees;
      of = trees_stay T autos 2 d.nodes d.of;
      least = λ ports n i. (every_in (IsBetween 2 (2 + all_size d.nodes))
          (heads (inside_facts ports (fresh_all 2 d.nodes))) n (inside_fresh ports 2 d.nodes).0 i).0;
      differ = λ ports. (inside_fresh ports 2 d.nodes).1;
    }
