-- The forests into which a child is split: one leaf stands in its place, and what other places show stays.
use Rattle.std.proofs.Common.{◌≡◌, ◌≢◌, ◌⊎◌, inl, inr, ℕ, ◌+◌, ◌<◌, ◌≤◌, List, [], ◌∷◌, length, refl, sym, ap, subst}
use Rattle.std.proofs.Common.{◌∙◌, slice_index_or, slice_set, length-set, arith}
use Rattle.std.proofs.lemmas.List.{get_or-set_same, get_or-set_other, length-append}
use Rattle.fore_base.specs.Lists.{IsIn, Every}
use Rattle.fore_base.proofs.ListLemmas.{in_left, in_right, in_append, every_in, every_get}
use Rattle.ta_core.specs.Auto.{Automaton, IsRanked, IsRankedRule}
use Rattle.ta_core.specs.Single.{HasOneTop}
use Rattle.ta_core.specs.declared.auto.Rule.{Rule}
use Rattle.fa_core.specs.declared.forest.Forest.{Forest}
use Rattle.fa_core.specs.declared.forest.Target.{Target}
use Rattle.fa_core.specs.declared.forest.Target.TheVariants.{At}
use Rattle.fa_merge.specs.Reordered.{component_at}
use Rattle.fa_merge.proofs.MergedAnywhere.{nat_cases}
use Rattle.fa_merge.proofs.PlacedForests.{component_has}
use Rattle.fa_split.specs.Split.{CanSplit, top_rule, child_state, fresh_leaf, fixed, lifted, split_leaf, split_cells}
use Rattle.fa_split.proofs.FixedTrees.{both, two_cases, fixed_one, fixed_top}
use Rattle.fa_split.proofs.OtherComponent.{component_set, component_other, component_first, set_less}
use Rattle.fa_split.proofs.TopRules.{top_in}
use Rattle.fa_edit.specs.Plain.{IsOnlyLeaf, IsLeafPlace}
use Rattle.sym_step.specs.inner.Opening.{width}

-- An automaton with a leaf fixed at place p.
module _ (a : Automaton) (p : ℕ) (y : Target) (ranked : IsRanked a) (one : HasOneTop a)
    (place : p < length (top_rule a).children) where
  abbrev b : Automaton
  b = fixed a p y

  low : (x : Rule) → IsIn x a.rules → IsRankedRule a.states x
  low x i = every_in (IsRankedRule a.states) a.rules x ranked.1 i

  children_set : (top_rule b).children ≡ slice_set (top_rule a).children p (a.states + 1)
  children_set = ap (λ (x : Rule). x.children) (fixed_top a p y ranked one place)

  child_here : child_state b p ≡ a.states + 1
  child_here = ap (λ (qs : List ℕ). slice_index_or qs p 0) children_set
      ∙ get_or-set_same (top_rule a).children p (a.states + 1) 0 place

  child_other : (k : ℕ) → k ≢ p → child_state b k ≡ child_state a k
  child_other k d = ap (λ (qs : List ℕ). slice_index_or qs k 0) children_set
      ∙ get_or-set_other (top_rule a).children p k (a.states + 1) 0 d

  pub symbol_stays : (top_rule b).symbol ≡ (top_rule a).symbol
  symbol_stays = ap (λ (x : Rule). x.symbol) (fixed_top a p y ranked one place)

  pub width_stays : length (top_rule b).children ≡ length (top_rule a).children
  width_stays = ap (λ (qs : List ℕ). length qs) children_set ∙ length-set (top_rule a).children p (a.states + 1)

  -- the leaf stands there alone
  pub leaf_here : IsOnlyLeaf b.rules (child_state b p) y
  leaf_here = subst (λ (q : ℕ). IsOnlyLeaf b.rules q y) (sym child_here) (record {
    there = (fresh_leaf a y, in_right (fresh_leaf a y) a.rules (both a p y ranked one place) (inr (inl refl)), refl);
    only = λ x i s. elim (in_append x a.rules (both a p y ranked one place) i) [
      | inl j ↦ (let l = (low x j).0 in absurd (omega (arith, l, s)))
      | inr j ↦ elim (two_cases a p y ranked one place x j) [
        | inl e ↦ (let w : x.state ≡ a.states = ap (λ (z : Rule). z.state) e in absurd (omega (arith, w, s)))
        | inr e ↦ ap (λ (z : Rule). z.symbol) e
      ]
    ];
  })

  -- and what stands at another place stays
  pub leaf_other : (k : ℕ) (t : Target) → k ≢ p → k < length (top_rule a).children
      → IsOnlyLeaf a.rules (child_state a k) t → IsOnlyLeaf b.rules (child_state b k) t
  leaf_other k t d l h =
      let c : child_state a k < a.states =
      every_get (λ (q : ℕ). q < a.states) (top_rule a).children k 0 (low (top_rule a) (top_in a one)).1 l in
      subst (λ (q : ℕ). IsOnlyLeaf b.rules q t) (sym (child_other k d)) (record {
        there = (h.there.0, in_left h.there.0 a.rules (both a p y ranked one place) h.there.1, h.there.2);
        only = λ x i s. elim (in_append x a.rules (both a p y ranked one place) i) [
          | inl j ↦ h.only x j s
          | inr j ↦ elim (two_cases a p y ranked one place x j) [
            | inl e ↦ (let w : x.state ≡ a.states = ap (λ (z : Rule). z.state) e in absurd (omega (arith, w, s, c)))
            | inr e ↦ (let w : x.state ≡ a.states + 1 = ap (λ (z : Rule). z.state) e in absurd (omega (arith, w, s, c)))
          ]
        ];
      })

-- G has the targets of F, and its components but for root r, where the leaf y is fixed at place p
pub record IsPiece (F : Forest) (r p : ℕ) (y : Target) (G : Forest) : Type 0 where
  pub vars : G.vars ≡ F.vars
  pub few : length F.autos ≤ length G.autos
  pub here : component_at G.autos r ≡ fixed (component_at F.autos r) p y
  pub others : (k : ℕ) → k < length F.autos → k ≢ r → component_at G.autos k ≡ component_at F.autos k

pub same_or_other : (m n : ℕ) → (m ≡ n) ⊎ (m ≢ n)
same_or_other m n = elim (nat_cases m n) [
  | inl l ↦ inr (λ e. omega (arith, l, e))
  | inr l ↦ elim (nat_cases n m) [
    | inl k ↦ inr (λ e. omega (arith, k, e))
    | inr k ↦ inl (omega (arith, l, k))
  ]
]

module _ (F : Forest) (r p : ℕ) (ranked : Every IsRanked F.autos) (can : CanSplit F r p) where
  abbrev a : Automaton
  a = component_at F.autos r

  a_ranked : IsRanked a
  a_ranked = component_has IsRanked F.autos r ranked can.root

  pub leaf_piece : (y : Target) → IsPiece F r p y (split_leaf F r p y)
  leaf_piece y = record {
    vars = refl;
    few = let w = length-set F.autos r (fixed a p y) in omega (arith, w);
    here = component_set F.autos r (fixed a p y) can.root;
    others = λ k l d. component_other F.autos r k (fixed a p y) d;
  }

  pub leaf_count : (y : Target) → length (split_leaf F r p y).autos ≡ length F.autos
  leaf_count y = length-set F.autos r (fixed a p y)

  abbrev others_of : List Automaton
  others_of = slice_set F.autos r (fixed a p (At (length F.autos)))

  pub cells_count : length (split_cells F r p).autos ≡ length F.autos + 1
  cells_count = length-append others_of (lifted a (child_state a p) ∷ [])
      ∙ ap (λ (n : ℕ). n + 1) (length-set F.autos r (fixed a p (At (length F.autos))))

  pub cells_piece : IsPiece F r p (At (length F.autos)) (split_cells F r p)
  cells_piece = record {
    vars = refl;
    few = let w = cells_count in omega (arith, w);
    here = component_first others_of (lifted a (child_state a p)) r
        (set_less F.autos r (fixed a p (At (length F.autos))) can.root)
        ∙ component_set F.autos r (fixed a p (At (length F.autos))) can.root;
    others = λ k l d. component_first others_of (lifted a (child_state a p)) k
        (let w = length-set F.autos r (fixed a p (At (length F.autos))) in omega (arith, w, l))
        ∙ component_other F.autos r k (fixed a p (At (length F.autos))) d;
  }

  module _ (y : Target) (G : Forest) (piece : IsPiece F r p y G) where
    -- the root has one rule
    pub top_there : HasOneTop (component_at G.autos r)
    top_there = subst HasOneTop (sym piece.here) (fixed_one a p y a_ranked can.top can.place)

    pub symbol_there : (top_rule (component_at G.autos r)).symbol ≡ (top_rule a).symbol
    symbol_there = ap (λ (c : Automaton). (top_rule c).symbol) piece.here
        ∙ symbol_stays a p y a_ranked can.top can.place

    pub width_there : width G r ≡ width F r
    width_there = ap (λ (c : Automaton). length (top_rule c).children) piece.here
        ∙ width_stays a p y a_ranked can.top can.place

    pub leaf_there : IsLeafPlace G r p y
    leaf_there = subst (λ (c : Automaton). IsOnlyLeaf c.rules (child_state c p) y) (sym piece.here)
        (leaf_here a p y a_ranked can.top can.place)

    pub leaf_kept : (k : ℕ) (t : Target) → k ≢ p → k < width F r → IsLeafPlace F r k t → IsLeafPlace G r k t
    leaf_kept k t d l h = subst (λ (c : Automaton). IsOnlyLeaf c.rules (child_state c k) t) (sym piece.here)
        (leaf_other a p y a_ranked can.top can.place k t d l h)
