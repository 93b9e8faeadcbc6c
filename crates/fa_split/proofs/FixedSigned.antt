-- Signatures stay uniform where a leaf stands alone at a place below the top.
use Rattle.std.proofs.Common.{◌≡◌, inl, inr, ℕ, ◌<◌, ◌+◌, length, List, map, refl, sym, ap, subst, ◌∙◌, slice_set}
use Rattle.std.proofs.Common.{arith}
use Rattle.std.proofs.lemmas.List.{map-set}
use Rattle.ta_core.specs.Auto.{Automaton, IsRanked}
use Rattle.ta_core.specs.Language.{RunOf, RunEach, InLanguage}
use Rattle.ta_core.specs.Single.{HasOneTop}
use Rattle.ta_core.specs.declared.symbol.Symbol.{Symbol}
use Rattle.ta_core.specs.declared.tree.Tree.{Tree, roll-Tree, out-Tree, out-roll-Tree}
use Rattle.fa_core.specs.declared.faces.BoxFace.{BoxFace}
use Rattle.fa_core.specs.declared.forest.Target.{Target}
use Rattle.fa_core.specs.declared.forest.Target.TheVariants.{Null, Uninit, Dangling, At}
use Rattle.fa_core.specs.Boxless.{IsPlain, HasNoBoxes}
use Rattle.fa_core.specs.Cells.{below_of, marks_by}
use Rattle.fa_core.specs.Dressed.{leaf}
use Rattle.fa_core.specs.Filled.{HasSignatures}
use Rattle.fa_core.specs.Member.{bare_end, leaf_symbol}
use Rattle.fa_core.specs.Ways.{signature}
use Rattle.fa_core.proofs.CellMarks.{tree_signature}
use Rattle.fa_merge.proofs.MergedAnywhere.{nat_cases}
use Rattle.fa_split.specs.Chosen.{IsBy}
use Rattle.fa_split.specs.Giving.{SymbolGives}
use Rattle.fa_split.specs.Split.{top_rule, child_state, fixed}
use Rattle.fa_split.proofs.FixedTrees.{fixed_stay, fixed_leaf, fixed_symbol, fixed_with, fixed_symbols, leaf_back}
use Rattle.fa_split.proofs.RunMarks.{marks_with}
use Rattle.fa_split.proofs.RunPlaces.{set_again, set_same}
use Rattle.fa_split.proofs.TopRules.{tree_by_top, top_by_tree}

pub plain_leaf : (y : Target) → IsPlain (leaf_symbol y)
plain_leaf Null = tt
plain_leaf Uninit = tt
plain_leaf Dangling = tt
plain_leaf (At k) = tt

module _ (a : Automaton) (p : ℕ) (y : Target) (ranked : IsRanked a) (one : HasOneTop a)
    (place : p < length (top_rule a).children) where
  abbrev b : Automaton
  b = fixed a p y

  pub fixed_plain : HasNoBoxes a → HasNoBoxes b
  fixed_plain plain = fixed_symbols a p y ranked one place IsPlain (plain_leaf y) plain

  -- Each new state has one signature where the root's has.
  pub tops_signed : (bs : List BoxFace) → HasSignatures bs a
      → ((t u : Tree) → InLanguage b t → InLanguage b u → signature bs t ≡ signature bs u) → HasSignatures bs b
  tops_signed bs h tops = record { states = each; component = tops }
    where
      top_lang : (q : ℕ) (t : Tree) → q ≡ a.states → RunOf b.rules q t → InLanguage b t
      top_lang q t e w = (a.states, inl refl, subst (λ (z : ℕ). RunOf b.rules z t) e w)

      each : (q : ℕ) (t u : Tree) → RunOf b.rules q t → RunOf b.rules q u → signature bs t ≡ signature bs u
      each q t u v w = elim (nat_cases q a.states) [
        | inl l ↦ h.states q t u (fixed_stay a p y ranked one place q t l v) (fixed_stay a p y ranked one place q u l w)
        | inr l ↦ elim (nat_cases q (a.states + 1)) [
          | inl m ↦ tops t u (top_lang q t (omega (arith, l, m)) v) (top_lang q u (omega (arith, l, m)) w)
          | inr m ↦ ap (signature bs)
              (leaf_back a p y ranked one place q t m v ∙ sym (leaf_back a p y ranked one place q u m w))
        ]
      ]

  module _ (bs : List BoxFace) (signed : HasSignatures bs a) (gives : SymbolGives bs (top_rule a).symbol) (w : Tree)
      (child : RunOf a.rules (child_state a p) w) where
    abbrev rolled : List Tree → Tree
    rolled ts = roll-Tree (record { symbol = (top_rule a).symbol; children = ts })

    rolled_marks : (ts : List Tree) → signature bs (rolled ts) ≡ marks_by bs (top_rule a).symbol (map (below_of bs) ts)
    rolled_marks ts = tree_signature bs (rolled ts) ∙ out
      where
        out : marks_by bs (out-Tree (rolled ts)).symbol (map (below_of bs) (out-Tree (rolled ts)).children)
            ≡ marks_by bs (top_rule a).symbol (map (below_of bs) ts)
        out = rw (out-roll-Tree (record { symbol = (top_rule a).symbol; children = ts })) refl

    rolled_in : (ts : List Tree) → RunEach a.rules (top_rule a).children ts → InLanguage a (rolled ts)
    rolled_in ts k = top_by_tree a one (rolled ts) by
      where
        by : IsBy a.rules (top_rule a) (rolled ts)
        by = rw (out-roll-Tree (record { symbol = (top_rule a).symbol; children = ts })) (refl, k)

    -- the trees of the old component make the same marks
    old_same : (vs ws : List Tree) → RunEach a.rules (top_rule a).children vs → RunEach a.rules (top_rule a).children ws
        → marks_by bs (top_rule a).symbol (map (below_of bs) vs)
        ≡ marks_by bs (top_rule a).symbol (map (below_of bs) ws)
    old_same vs ws k l =
        sym (rolled_marks vs) ∙ signed.component (rolled vs) (rolled ws) (rolled_in vs k) (rolled_in ws l)
        ∙ rolled_marks ws

    -- the children, with a tree of the old state in the place
    abbrev old_children : Tree → List Tree
    old_children t = slice_set (out-Tree t).children p w

    old_run : (t : Tree) → InLanguage b t → RunEach a.rules (top_rule a).children (old_children t)
    old_run t l =
        let u : Tree = roll-Tree (record { symbol = (out-Tree t).symbol; children = old_children t }) in
        let s : (out-Tree u).symbol ≡ (out-Tree t).symbol =
        rw (out-roll-Tree (record { symbol = (out-Tree t).symbol; children = old_children t })) refl in
        let c : (out-Tree u).children ≡ old_children t =
        rw (out-roll-Tree (record { symbol = (out-Tree t).symbol; children = old_children t })) refl in
        subst (λ (ts : List Tree). RunEach a.rules (top_rule a).children ts) c
        (tree_by_top a one u (fixed_with a p y ranked one place t u w l child s c)).1

    new_marks : (t : Tree) → InLanguage b t → signature bs t
        ≡ marks_by bs (top_rule a).symbol
        (slice_set (map (below_of bs) (old_children t)) p (below_of bs (bare_end (leaf y))))
    new_marks t l =
        tree_signature bs t
        ∙ ap (λ (z : Symbol). marks_by bs z (map (below_of bs) (out-Tree t).children))
        (sym (fixed_symbol a p y ranked one place t l))
        ∙ ap (λ (ts : List Tree). marks_by bs (top_rule a).symbol (map (below_of bs) ts))
        (sym
        (set_again (out-Tree t).children p (bare_end (leaf y)) w
        ∙ set_same (out-Tree t).children p (bare_end (leaf y)) (fixed_leaf a p y ranked one place t l)))
        ∙ ap (marks_by bs (top_rule a).symbol) (map-set (below_of bs) (old_children t) p (bare_end (leaf y)))

    fixed_same : (t u : Tree) → InLanguage b t → InLanguage b u → signature bs t ≡ signature bs u
    fixed_same t u l m =
        new_marks t l
        ∙ marks_with bs a.rules signed.states (top_rule a).symbol gives p (below_of bs (bare_end (leaf y))) old_same
        (old_run t l) (old_run u m)
        ∙ sym (new_marks u m)

    pub fixed_signed : HasSignatures bs b
    fixed_signed = tops_signed bs signed fixed_same
