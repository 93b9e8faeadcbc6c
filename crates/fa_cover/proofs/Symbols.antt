-- The symbols at the tops of trees, where each tree of one automaton is one of another.
use Rattle.std.proofs.Common.{ℕ, ap, subst}
use Rattle.fore_base.specs.Lists.{IsIn}
use Rattle.fore_base.proofs.ListLemmas.{in_every}
use Rattle.ta_core.specs.Auto.{Automaton}
use Rattle.ta_core.specs.Language.{RunOf, run, IsWithin}
use Rattle.ta_core.specs.declared.tree.Tree.{Tree, Tree-F, out-Tree, out-roll-Tree}
use Rattle.ta_core.proofs.Runs.{tree_of, run_tree, trees_of}
use Rattle.fa_cover.specs.inner.Tops.{HasRootRule, KeepsTop, KeepsTops}

-- a tree with a run to a root state has its symbol at a rule of one
top_of : (b : Automaton) {q : ℕ} {t : Tree} → IsIn q b.roots → RunOf b.rules q t → HasRootRule b (out-Tree t).symbol
top_of b root (run s i e y k) = (s, i, (rw e root, y))

pub within_keeps : (a b : Automaton) → IsWithin a b → KeepsTops a b
within_keeps a b w = in_every (KeepsTop a b) a.rules (λ r i trees root.
    let ts = trees_of a.rules r.children trees in
    let l = w (tree_of r.symbol ts.0) (r.state, root, run_tree a.rules r ts.0 i ts.1) in
    let e = ap (λ (x : Tree-F Tree). x.symbol) (out-roll-Tree (record { symbol = r.symbol; children = ts.0 })) in
    subst (HasRootRule b) e (top_of b l.1 l.2))
