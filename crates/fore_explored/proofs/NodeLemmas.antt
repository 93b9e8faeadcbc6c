-- Nodes are printed one by one: which of their forests can be printed, and what is printed so far.
use Rattle.std.proofs.Common.{◌≡◌, ℕ, ◌+◌, List, [], ◌∷◌, ◌++◌, None, Some, slice_get, drop, flat_map, codes, sym, ap}
use Rattle.std.proofs.Common.{add-one, append_assoc, append-nil, subst, ◌∙◌}
use Rattle.c_types.specs.Program.{Program}
use Rattle.c_cfg.specs.declared.graph.Edge.{Edge}
use Rattle.fa_core.specs.Boxes.{Boxes}
use Rattle.fa_core.specs.declared.boxes.BoxDef.{BoxDef}
use Rattle.fa_core.specs.declared.forest.Forest.{Forest}
use Rattle.fa_sound.specs.Soundness.{SoundForest}
use Rattle.fa_print.specs.Conditions.{IsForestOf}
use Rattle.fa_print.specs.Lines.{line}
use Rattle.fa_print.specs.Texts.{box_text, forest_text}
use Rattle.fix_core.specs.Explorations.{IsNode}
use Rattle.fix_core.specs.States.{AbstractState}
use Rattle.fix_core.specs.declared.nodes.Node.{Node}
use Rattle.fix_core.proofs.Lists.{drop_at}
use Rattle.fore_explored.specs.Texts.{fold_line, middle_text, node_text, nodes_text}
use Rattle.fore_explored.specs.inner.States.{HasTemporaries, IsStateOf}

-- the forest of a state, and the one before it was folded and abstracted, can be printed
pub forest_printed : (T : Boxes) (p : Program) (a : AbstractState) (F : SoundForest) → IsStateOf T p a
    → F.forest ≡ a.forest → F.face ≡ a.face → IsForestOf T p F
forest_printed T p a F s is over = record {
  face = over ∙ s.face;
  structs = s.structs;
  vars = subst (λ (G : Forest). HasTemporaries p G) (sym is) s.forest;
}

pub middle_printed : (T : Boxes) (p : Program) (a : AbstractState) (F : SoundForest) → IsStateOf T p a
    → a.middle ≡ Some F.forest → F.face ≡ a.face → IsForestOf T p F
middle_printed T p a F s is over = record {
  face = over ∙ s.face;
  structs = s.structs;
  vars = s.middle F.forest is;
}

-- what a state was before, where it was not abstracted, and where it was
pub no_middle : (T : Boxes) (p : Program) (a : AbstractState) (t : List ℕ) → a.middle ≡ None
    → t ≡ t ++ middle_text T p a.folds a.middle
no_middle T p a t e = sym (append-nil t) ∙ ap (λ m. t ++ middle_text T p a.folds m) (sym e)

pub with_middle : (T : Boxes) (p : Program) (a : AbstractState) (F : Forest) (before after : List ℕ)
    → a.middle ≡ Some F
    → after ≡ before ++ (flat_map (fold_line T) a.folds ++ (line (codes "middle" ∷ []) ++ forest_text T p F))
    → after ≡ before ++ middle_text T p a.folds a.middle
with_middle T p a F before after e put = put ∙ ap (λ m. before ++ middle_text T p a.folds m) (sym e)

-- three texts that are put one after another
pub three_put : (t u v w a b c : List ℕ) → u ≡ t ++ a → v ≡ u ++ b → w ≡ v ++ c → w ≡ t ++ (a ++ (b ++ c))
three_put t u v w a b c e f g =
    g ∙ ap (λ x. x ++ c) (f ∙ ap (λ x. x ++ b) e) ∙ append_assoc (t ++ a) b c ∙ append_assoc t a (b ++ c)

-- one more node, and one more box
pub node_more : (T : Boxes) (p : Program) (edges : List Edge) (nodes : List Node) (k : ℕ) (n : Node)
    (before after all : List ℕ) → IsNode nodes k n → after ≡ before ++ node_text T p edges k n
    → before ++ nodes_text T p edges k (drop k nodes) ≡ all
    → after ++ nodes_text T p edges (k + 1) (drop (k + 1) nodes) ≡ all
node_more T p edges nodes k n before after all is put so_far =
    ap (λ t. t ++ nodes_text T p edges (k + 1) (drop (k + 1) nodes)) put
    ∙ append_assoc before (node_text T p edges k n) (nodes_text T p edges (k + 1) (drop (k + 1) nodes))
    ∙ ap (λ j. before ++ (node_text T p edges k n ++ nodes_text T p edges j (drop (k + 1) nodes))) (add-one k)
    ∙ ap (λ ns. before ++ nodes_text T p edges k ns) (sym (drop_at nodes k n is))
    ∙ so_far

pub box_more : (T : Boxes) (k : ℕ) (def : BoxDef) (before after all : List ℕ) → slice_get T.defs k ≡ Some def
    → after ≡ before ++ box_text T def → before ++ flat_map (box_text T) (drop k T.defs) ≡ all
    → after ++ flat_map (box_text T) (drop (k + 1) T.defs) ≡ all
box_more T k def before after all is put so_far =
    ap (λ t. t ++ flat_map (box_text T) (drop (k + 1) T.defs)) put
    ∙ append_assoc before (box_text T def) (flat_map (box_text T) (drop (k + 1) T.defs))
    ∙ ap (λ ds. before ++ flat_map (box_text T) ds) (sym (drop_at T.defs k def is))
    ∙ so_far
