-- Automata with one rule for each state have one tree for each state: forests of these are judged by one dressed
-- forest.
use Rattle.std.proofs.Common.{◌≡◌, inl, inr, ℕ, length, List, [], ◌∷◌, refl, sym, ap, ap₂, subst, ◌∙◌, slice_index_or}
use Rattle.fore_base.specs.Lists.{IsIn, Every, IsDistinct}
use Rattle.fore_base.proofs.ListLemmas.{every_in}
use Rattle.ta_core.specs.Auto.{Automaton}
use Rattle.ta_core.specs.Language.{RunOf, run, RunEach, run_none, run_more, InLanguage}
use Rattle.ta_core.specs.declared.auto.Rule.{Rule}
use Rattle.ta_core.specs.declared.symbol.Symbol.{Symbol}
use Rattle.ta_core.specs.declared.symbol.Symbol.TheVariants.{Null}
use Rattle.ta_core.specs.declared.tree.Tree.{Tree, roll-Tree, out-Tree, roll-out-Tree}
use Rattle.fa_core.specs.declared.faces.BoxFace.{BoxFace}
use Rattle.fa_core.specs.declared.faces.Face.{Face}
use Rattle.fa_core.specs.declared.forest.Forest.{Forest}
use Rattle.fa_core.specs.Choices.{bares, count, all_numbers}
use Rattle.fa_core.specs.Dressed.{Nodes, cells, all_refs}
use Rattle.fa_core.specs.Filled.{Choice, DatumFits, RulesFit, IsRoot, ChoiceFilled, HasSignatures, IsWellFormed}
use Rattle.fa_core.specs.References.{AllBelow}
use Rattle.fa_core.specs.Ways.{signature}
use Rattle.fa_core.proofs.FilledCells.{trees_filled}
use Rattle.fa_core.proofs.FilledKept.{apart_by}
use Rattle.fa_core.proofs.SeenCells.{IsFilledCell, node_structs, structs_tops}

abbrev no_rule : Rule
no_rule = record { state = 0; symbol = Null; children = [] }

-- each rule stands at the place of its state, and there is one root state
abbrev pub IsSingle : Automaton → Type 0
IsSingle a = Every (λ (r : Rule). slice_index_or a.rules r.state no_rule ≡ r) a.rules × ((q : ℕ) × (a.roots ≡ q ∷ []))

module _ (rules : List Rule) (single : Every (λ (r : Rule). slice_index_or rules r.state no_rule ≡ r) rules) where
  one_rule : (r o : Rule) → IsIn r rules → IsIn o rules → r.state ≡ o.state → r ≡ o
  one_rule r o i j e = sym (every_in (λ (r : Rule). slice_index_or rules r.state no_rule ≡ r) rules r single i)
      ∙ ap (λ (q : ℕ). slice_index_or rules q no_rule) e
      ∙ every_in (λ (r : Rule). slice_index_or rules r.state no_rule ≡ r) rules o single j

  mutual
    pub same_tree : (q : ℕ) (t u : Tree) → RunOf rules q t → RunOf rules q u → t ≡ u
    same_tree q t u (run r i e s k) (run o j f w l) =
        let x : r ≡ o = one_rule r o i j (e ∙ sym f) in
        let y : (out-Tree t).symbol ≡ (out-Tree u).symbol = sym s ∙ ap (λ (v : Rule). v.symbol) x ∙ w in
        let z : (out-Tree t).children ≡ (out-Tree u).children =
        same_trees k (subst (λ (v : Rule). RunEach rules v.children (out-Tree u).children) (sym x) l) in
        sym (roll-out-Tree t) ∙ ap₂ (λ (a : Symbol) (b : List Tree). roll-Tree (record { symbol = a; children = b })) y
        z ∙ roll-out-Tree u

    same_trees : {qs : List ℕ} {ts us : List Tree} → RunEach rules qs ts → RunEach rules qs us → ts ≡ us
    same_trees run_none run_none = refl
    same_trees (run_more {t = t} {ts = ts} a b) (run_more {t = u} {ts = us} c d) =
        ap₂ (λ (x : Tree) (xs : List Tree). x ∷ xs) (same_tree _ t u a c) (same_trees b d)

-- a single automaton has at most one tree
pub single_tree : (a : Automaton) (t u : Tree) → IsSingle a → InLanguage a t → InLanguage a u → t ≡ u
single_tree a t u s h k =
    let i : h.0 ≡ k.0 = same_root s.1.0 (subst (λ (qs : List ℕ). IsIn h.0 qs) s.1.1 h.1)
    (subst (λ (qs : List ℕ). IsIn k.0 qs) s.1.1 k.1) in
    same_tree a.rules s.0 k.0 t u (subst (λ (q : ℕ). RunOf a.rules q t) i h.2) k.2
  where
    same_root : (q : ℕ) → IsIn h.0 (q ∷ []) → IsIn k.0 (q ∷ []) → h.0 ≡ k.0
    same_root q (inl e) (inl f) = e ∙ sym f
    same_root q (inl e) (inr f) = absurd f
    same_root q (inr e) f = absurd e

pub single_choice : (autos : List Automaton) (ts us : List Tree) → Every IsSingle autos → Choice autos ts
    → Choice autos us → ts ≡ us
single_choice [] [] [] s c d = refl
single_choice [] [] (u ∷ us) s c d = absurd d
single_choice [] (t ∷ ts) us s c d = absurd c
single_choice (a ∷ autos) [] us s c d = absurd c
single_choice (a ∷ autos) (t ∷ ts) [] s c d = absurd d
single_choice (a ∷ autos) (t ∷ ts) (u ∷ us) s c d =
    ap₂ (λ (x : Tree) (xs : List Tree). x ∷ xs) (single_tree a t u s.0 c.0 d.0) (single_choice autos ts us s.1 c.1 d.1)

pub single_signed : (bs : List BoxFace) (autos : List Automaton) → Every IsSingle autos → Every (HasSignatures bs) autos
single_signed bs [] s = tt
single_signed bs (a ∷ autos) s = (
  record {
    states = λ q t u x y. ap (signature bs) (same_tree a.rules s.0.0 q t u x y);
    component = λ t u x y. ap (signature bs) (single_tree a t u s.0 x y);
  },
  single_signed bs autos s.1,
)

-- a forest of single automata whose one dressed forest is filled cell by cell
pub record IsWorked (face : Face) (F : Forest) (d : Nodes) : Type 0 where
  pub single : Every IsSingle F.autos
  pub choice : Choice F.autos (bares d)
  pub differ : IsDistinct (all_numbers d)
  pub refers : AllBelow (count d) (all_refs d)
  pub vars : Every (IsRoot (length (bares d))) F.vars
  pub data_vars : Every DatumFits F.data_vars
  pub rules : Every (RulesFit face) F.autos
  pub cells : Every (IsFilledCell face (cells d)) (cells d)

pub worked_well_formed : (face : Face) (F : Forest) (d : Nodes) → IsWorked face F d → IsWellFormed face F
worked_well_formed face F d w = record {
  filled = record {
    data_vars = w.data_vars;
    rules = w.rules;
    trees = λ ts c. subst (λ (us : List Tree). ChoiceFilled face F us)
        (single_choice F.autos (bares d) ts w.single w.choice c)
        (record {
          tops = node_structs d;
          are = structs_tops d;
          vars = w.vars;
          cells = trees_filled face d (apart_by face.boxes d w.differ) w.refers w.cells;
        });
  };
  signatures = single_signed face.boxes F.autos w.single;
}
