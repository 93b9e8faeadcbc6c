-- The cells of a quotient are filled where those of the component are.
use Rattle.std.proofs.Common.{◌≡◌, inl, inr, ℕ, suc, ◌<◌, List, [], ◌∷◌, map, refl, sym, ap, subst, ◌∙◌}
use Rattle.fore_base.specs.Lists.{IsIn, Every}
use Rattle.fore_base.proofs.ListLemmas.{every_in, in_every}
use Rattle.ta_core.specs.Auto.{Automaton, IsRanked, IsRankedRule}
use Rattle.ta_core.specs.Language.{InLanguage, IsTrim}
use Rattle.ta_core.specs.declared.auto.Rule.{Rule}
use Rattle.ta_core.specs.declared.symbol.Slot.{Slot}
use Rattle.ta_core.specs.declared.symbol.Slot.TheVariants.{Field, Link, Hook}
use Rattle.ta_core.specs.declared.symbol.Symbol.{Symbol}
use Rattle.ta_core.specs.declared.symbol.Symbol.TheVariants.{Null, Uninit, Dangling, Ref, Cell}
use Rattle.ta_core.specs.declared.tree.Tree.{Tree}
use Rattle.fa_core.specs.Boxless.{IsPlain, HasNoBoxes}
use Rattle.fa_core.specs.Cells.{edges}
use Rattle.fa_core.specs.Ways.{given_by}
use Rattle.fa_core.specs.Filled.{IsTopped, SymbolFits, RulesFit}
use Rattle.fa_core.specs.declared.faces.Face.{Face}
use Rattle.fa_filling.specs.declared.parts.Part.{Part}
use Rattle.fa_filling.specs.Parted.{IsPartOf}
use Rattle.fa_filling.specs.Ruled.{EndAlways, EdgeAlways, ShapedBy, OnceBy, RootOnce, EdgeOnce, OnceBelow}
use Rattle.fa_filling.specs.Ruled.{IsFilledPart}
use Rattle.fa_filling.proofs.FilledRules.{AreFull, part_fills, fills_part}
use Rattle.fa_height.specs.Quotients.{IsQuotient}
use Rattle.fa_height.proofs.Images.{rule_of, root_of, same_symbol, outlined}

-- One component.

module _ (face : Face) (k : ℕ) (a b : Automaton) (ranked : IsRanked a) (trim : IsTrim a)
    (h : IsQuotient face.boxes (suc k) a b) where
  -- what holds of each symbol of the component
  pub symbols_kept : (P : Symbol → Type 0) → Every (λ (r : Rule). P r.symbol) a.rules
      → Every (λ (r : Rule). P r.symbol) b.rules
  symbols_kept P p = in_every (λ (r : Rule). P r.symbol) b.rules (λ r i. (
      let o = rule_of face.boxes k a b ranked trim h r i in
      subst (λ (x : Rule). P x.symbol) (sym o.2) (every_in (λ (x : Rule). P x.symbol) a.rules o.0 p o.1)))

  pub plain_kept : HasNoBoxes a → HasNoBoxes b
  plain_kept = symbols_kept IsPlain

  pub rules_fit : RulesFit face a → RulesFit face b
  rules_fit = symbols_kept (SymbolFits face)

  -- what holds of the symbols of a state
  state_kept : (P : Symbol → Type 0) (q : ℕ) → q < a.states → Every (λ (r : Rule). r.state ≡ q → P r.symbol) a.rules
      → Every (λ (r : Rule). r.state ≡ h.to q → P r.symbol) b.rules
  state_kept P q l f = in_every (λ (r : Rule). r.state ≡ h.to q → P r.symbol) b.rules (λ r i e. (
      let o = rule_of face.boxes k a b ranked trim h r i in
      let m = same_symbol face.boxes k a b ranked trim h o.0 q o.1 l (sym (ap (λ (y : Rule). y.state) o.2) ∙ e) in
      subst P (m.3 ∙ sym (ap (λ (y : Rule). y.symbol) o.2))
      (every_in (λ (x : Rule). x.state ≡ q → P x.symbol) a.rules m.0 f m.1 m.2)))

  -- what holds of the edges of a cell
  edges_kept : (P Q : Slot × ℕ → Type 0) → ((x : Slot) (q : ℕ) → q < a.states → P (x, q) → Q (x, h.to q))
      → (ss : List Slot) (qs : List ℕ) → Every (λ q. q < a.states) qs → Every P (edges ss qs)
      → Every Q (edges ss (map h.to qs))
  edges_kept P Q g [] qs l f = tt
  edges_kept P Q g (Hook x ∷ ss) qs l f = edges_kept P Q g ss qs l f
  edges_kept P Q g (Field x ∷ ss) [] l f = tt
  edges_kept P Q g (Field x ∷ ss) (q ∷ qs) l f = (g (Field x) q l.0 f.0, edges_kept P Q g ss qs l.1 f.1)
  edges_kept P Q g (Link x ∷ ss) [] l f = tt
  edges_kept P Q g (Link x ∷ ss) (q ∷ qs) l f = (g (Link x) q l.0 f.0, edges_kept P Q g ss qs l.1 f.1)

  -- what holds of the rules, each with its children
  rules_kept : (P Q : Symbol → List ℕ → Type 0)
      → ((y : Symbol) (qs : List ℕ) → Every (λ q. q < a.states) qs → P y qs → Q y (map h.to qs))
      → Every (λ (r : Rule). P r.symbol r.children) a.rules → Every (λ (r : Rule). Q r.symbol r.children) b.rules
  rules_kept P Q g f = in_every (λ (r : Rule). Q r.symbol r.children) b.rules (λ r i. (
      let o = rule_of face.boxes k a b ranked trim h r i in
      subst (λ (x : Rule). Q x.symbol x.children) (sym o.2)
      (g o.0.symbol o.0.children (every_in (IsRankedRule a.states) a.rules o.0 ranked.1 o.1).1
      (every_in (λ (x : Rule). P x.symbol x.children) a.rules o.0 f o.1))))

  module _ (topss : List (List ℕ)) where
    shape_kept : (y : Symbol) (qs : List ℕ) → Every (λ q. q < a.states) qs → ShapedBy face topss a.rules y qs
        → ShapedBy face topss b.rules y (map h.to qs)
    shape_kept Null qs l f = tt
    shape_kept Uninit qs l f = tt
    shape_kept Dangling qs l f = tt
    shape_kept (Ref r) qs l f = tt
    shape_kept (Cell s ds ss) qs l f = record {
      ends = edges_kept (EdgeAlways face topss a.rules s) (EdgeAlways face topss b.rules s)
          (λ x q m e. state_kept (EndAlways face topss s x) q m e) ss qs l f.ends;
      hooks = f.hooks;
      order = f.order;
    }

    once_kept : (y : Symbol) (qs : List ℕ) → Every (λ q. q < a.states) qs → OnceBelow face a.rules y qs
        → OnceBelow face b.rules y (map h.to qs)
    once_kept Null qs l f = tt
    once_kept Uninit qs l f = tt
    once_kept Dangling qs l f = tt
    once_kept (Ref r) qs l f = tt
    once_kept (Cell s ds ss) qs l f = edges_kept (EdgeOnce face a.rules) (EdgeOnce face b.rules)
        (λ x q m e. state_kept (OnceBy face (given_by face.boxes x)) q m e) ss qs l f

    roots_kept : (above : List ℕ) → Every (RootOnce face above a.roots) a.rules
        → Every (RootOnce face above b.roots) b.rules
    roots_kept above f = in_every (RootOnce face above b.roots) b.rules (λ r i j. (
        let o = rule_of face.boxes k a b ranked trim h r i in
        let p = root_of face.boxes k a b ranked trim h r.state j in
        let l = (every_in (IsRankedRule a.states) a.rules o.0 ranked.1 o.1).0 in
        let e = h.lone p.0 o.0.state p.1 l (sym p.2 ∙ ap (λ (y : Rule). y.state) o.2) in
        subst (OnceBy face above) (sym (ap (λ (y : Rule). y.symbol) o.2))
        (every_in (RootOnce face above a.roots) a.rules o.0 f o.1 (subst (λ (q : ℕ). IsIn q a.roots) e p.1))))

    pub part_kept : (above : List ℕ) → IsRanked b → AreFull topss → IsFilledPart face topss a above
        → IsFilledPart face topss b above
    part_kept above right full f =
        let w = fills_part face topss a above ranked trim full f in
        part_fills face topss b above right (record {
          shapes = rules_kept (ShapedBy face topss a.rules) (ShapedBy face topss b.rules) shape_kept w.shapes;
          roots = roots_kept above w.roots;
          edges = rules_kept (OnceBelow face a.rules) (OnceBelow face b.rules) once_kept w.edges;
        })

  -- the tops keep their structs
  pub topped : (s : ℕ) → ((t : Tree) → InLanguage a t → IsTopped s t) → (t : Tree) → InLanguage b t → IsTopped s t
  topped s f t l =
      let u = outlined face.boxes k a b ranked trim h t l in
      let g = f u.0 u.1 in
      (g.0, g.1, u.2.0 ∙ g.2)

-- the component as the one part of itself
abbrev pub lone_part : Automaton → ℕ → Part
lone_part a s = record { top = s; auto = a }

pub is_lone : (a : Automaton) (s : ℕ) → IsTrim a → ((t : Tree) → InLanguage a t → IsTopped s t)
    → ((t : Tree) × InLanguage a t) → IsPartOf a (lone_part a s ∷ [])
is_lone a s trim top full = record {
  each = λ p t i l. elim i [ inl e ↦ subst (λ (x : Part). InLanguage x.auto t) e l | inr n ↦ absurd n ];
  some = λ t l. (lone_part a s, inl refl, l);
  top =
      λ p t i l.
      elim i [
        | inl e ↦ subst (λ (x : Part). IsTopped x.top t) (sym e) (top t (subst (λ (x : Part). InLanguage x.auto t) e l))
        | inr n ↦ absurd n
      ];
  full =
      λ p i. elim i [ inl e ↦ subst (λ (x : Part). (t : Tree) × InLanguage x.auto t) (sym e) full | inr n ↦ absurd n ];
  trim = λ p i. elim i [ inl e ↦ subst (λ (x : Part). IsTrim x.auto) (sym e) trim | inr n ↦ absurd n ];
}
