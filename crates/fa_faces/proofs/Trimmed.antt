-- What is carried from trimmed automata to those that are written, and back.
use Rattle.std.proofs.Common.{◌≡◌, ◌↔◌, ◌⊎◌, inl, inr, ℕ, zero, suc, ◌<◌, List, [], ◌∷◌, map, length, Some}
use Rattle.std.proofs.Common.{slice_get, refl, sym, ap, subst, ◌∙◌}
use Rattle.std.proofs.lemmas.Option.{none-some, same_Some}
use Rattle.fore_base.specs.Lists.{IsIn, Every}
use Rattle.fore_base.proofs.ListLemmas.{every_in, in_every, in_map, in_mapped, paired_long}
use Rattle.ta_core.specs.Auto.{Automaton, IsRanked, IsRankedRule}
use Rattle.ta_core.specs.Language.{RunOf, RunEach, run_none, run_more, HasTree, PassesBy, at_top, below}
use Rattle.ta_core.specs.Language.{OnePasses, this_one, later_one, TakesPart, IsTrim}
use Rattle.ta_core.specs.Renumbered.{renumbered}
use Rattle.ta_core.specs.declared.auto.Rule.{Rule}
use Rattle.ta_core.specs.declared.tree.Tree.{Tree, out-Tree}
use Rattle.ta_core.proofs.Descending.{passing_each, passing_run}
use Rattle.ta_core.proofs.Runs.{passed_tree}
use Rattle.ta_core.proofs.Shifting.{in_sub}
use Rattle.fa_core.specs.declared.boxes.BoxDef.{BoxDef}
use Rattle.fa_core.specs.declared.faces.Face.{Face}
use Rattle.fa_core.specs.Boxes.{PortSymbolFits, IsChild, PortRulesFit, InsideRulesFit}
use Rattle.fa_core.specs.Dressed.{Nodes, no_nodes, more}
use Rattle.fa_core.specs.Filled.{Choice, HasSome, SymbolFits, RulesFit}
use Rattle.fa_core.specs.Member.{TreesOf, bare}
use Rattle.fa_faces.specs.inner.Trimmed.{IsTrimOf, AreTrimOf}

-- One automaton.

module _ (a b : Automaton) (h : IsTrimOf a b) where
  abbrev of : ℕ → ℕ
  of = h.stands.of

  pub rule_of : (r : Rule) → IsIn r b.rules → IsIn (renumbered of r) a.rules
  rule_of r i = in_sub (renumbered of r) h.stands.rules (in_map (renumbered of) r b.rules i)

  root_of : (q : ℕ) → IsIn q b.roots → IsIn (of q) a.roots
  root_of q i = in_sub (of q) h.stands.roots (in_map of q b.roots i)

  root_low : (q : ℕ) → IsIn q b.roots → q < b.states
  root_low q i = every_in (λ (x : ℕ). x < b.states) b.roots q h.ranked.0 i

  rule_low : (r : Rule) → IsIn r b.rules → r.state < b.states
  rule_low r i = (every_in (IsRankedRule b.states) b.rules r h.ranked.1 i).0

  children_low : (r : Rule) → IsIn r b.rules → Every (λ (x : ℕ). x < b.states) r.children
  children_low r i = (every_in (IsRankedRule b.states) b.rules r h.ranked.1 i).1

  has_tree : (q : ℕ) → q < b.states → HasTree a.rules (of q)
  has_tree q l = let p = h.trim q l in let t = passed_tree p.3 in (t.0, (h.stands.runs q t.0 l).0 t.1)

  -- a state whose number in a is a root state is one in b
  root_from : (q : ℕ) → q < b.states → IsIn (of q) a.roots → IsIn q b.roots
  root_from q l i =
      let w = h.stands.whole (of q) i (has_tree q l) in
      let e : w.0 ≡ q = h.stands.apart w.0 q (root_low w.0 w.1) l w.2 in
      subst (λ (x : ℕ). IsIn x b.roots) e w.1

  -- The parts of runs.

  runs_each : (qs : List ℕ) → Every (λ (x : ℕ). x < b.states) qs → (ts : List Tree) → RunEach b.rules qs ts
      → RunEach a.rules (map of qs) ts
  runs_each [] l ts run_none = run_none
  runs_each (q ∷ qs) l ts (run_more {t = t} {ts = us} r rs) =
      run_more ((h.stands.runs q t l.0).0 r) (runs_each qs l.1 us rs)

  mutual
    passes_of : (q p : ℕ) (t : Tree) → p < b.states → PassesBy b.rules q p t → PassesBy a.rules (of q) (of p) t
    passes_of q p t l (at_top e r) = at_top (ap of e) ((h.stands.runs p t l).0 r)
    passes_of q p t l (below r i e s o) =
        below (renumbered of r) (rule_of r i) (ap of e) s
        (one_passes q r.children (out-Tree t).children (children_low r i) o)

    one_passes : (q : ℕ) (ps : List ℕ) (ts : List Tree) → Every (λ (x : ℕ). x < b.states) ps
        → OnePasses b.rules q ps ts → OnePasses a.rules (of q) (map of ps) ts
    one_passes q (p ∷ ps) (t ∷ ts) l (this_one w rs) = this_one (passes_of q p t l.0 w) (runs_each ps l.1 ts rs)
    one_passes q (p ∷ ps) (t ∷ ts) l (later_one r o) =
        later_one ((h.stands.runs p t l.0).0 r) (one_passes q ps ts l.1 o)

  -- a state that takes part stands for one that does
  pub part_of : (q : ℕ) → TakesPart b q → TakesPart a (of q)
  part_of q w = (of w.0, w.1, root_of w.0 w.2, passes_of q w.0 w.1 (root_low w.0 w.2) w.3)

  mutual
    passes_low : (q p : ℕ) (t : Tree) → p < b.states → PassesBy b.rules q p t → q < b.states
    passes_low q p t l (at_top e r) = subst (λ (x : ℕ). x < b.states) e l
    passes_low q p t l (below r i e s o) = one_low q r.children (out-Tree t).children (children_low r i) o

    one_low : (q : ℕ) (ps : List ℕ) (ts : List Tree) → Every (λ (x : ℕ). x < b.states) ps → OnePasses b.rules q ps ts
        → q < b.states
    one_low q (p ∷ ps) (t ∷ ts) l (this_one w rs) = passes_low q p t l.0 w
    one_low q (p ∷ ps) (t ∷ ts) l (later_one r o) = one_low q ps ts l.1 o

  part_low : (q : ℕ) → TakesPart b q → q < b.states
  part_low q w = passes_low q w.0 w.1 (root_low w.0 w.2) w.3

  -- the trees of a state are those of the one that it stands for
  pub part_run : (q : ℕ) → TakesPart b q → (t : Tree) → RunOf b.rules q t → RunOf a.rules (of q) t
  part_run q w t r = (h.stands.runs q t (part_low q w)).0 r

  abbrev Stood : ℕ → Type 0
  Stood q = (p : ℕ) × (p < b.states) × (of p ≡ q)

  stood_children : (qs : List ℕ) → Every (λ (x : ℕ). x < b.states) qs → Every Stood (map of qs)
  stood_children [] l = tt
  stood_children (q ∷ qs) l = ((q, l.0, refl), stood_children qs l.1)

  mutual
    stood_below : (q p : ℕ) (t : Tree) → Stood p → PassesBy a.rules q p t → Stood q
    stood_below q p t s (at_top e r) = subst Stood e s
    stood_below q p t s (below r i e y o) =
        let u = h.stands.used s.0 r (out-Tree t).children s.1 i (e ∙ sym s.2) (passing_each a.rules o) in
        let m = in_mapped (renumbered of) r b.rules u in
        let c : map of m.0.children ≡ r.children = sym (ap (λ (x : Rule). x.children) m.2) in
        stood_one q r.children (out-Tree t).children
        (subst (λ (l : List ℕ). Every Stood l) c (stood_children m.0.children (children_low m.0 m.1))) o

    stood_one : (q : ℕ) (ps : List ℕ) (ts : List Tree) → Every Stood ps → OnePasses a.rules q ps ts → Stood q
    stood_one q (p ∷ ps) (t ∷ ts) s (this_one w rs) = stood_below q p t s.0 w
    stood_one q (p ∷ ps) (t ∷ ts) s (later_one r o) = stood_one q ps ts s.1 o

  -- each state that takes part is stood for
  pub stood : (q : ℕ) → TakesPart a q → Stood q
  stood q w =
      let v = h.stands.whole w.0 w.2 (w.1, passing_run a.rules w.3) in
      stood_below q w.0 w.1 (v.0, root_low v.0 v.1, v.2) w.3

  pub stood_part : (q : ℕ) (s : Stood q) → TakesPart b s.0
  stood_part q s = h.trim s.0 s.1

  pub stood_run : (q : ℕ) (s : Stood q) → (t : Tree) → RunOf a.rules q t → RunOf b.rules s.0 t
  stood_run q s t r = (h.stands.runs s.0 t s.1).1 (subst (λ (x : ℕ). RunOf a.rules x t) (sym s.2) r)

  -- The rules.

  child_of : (q : ℕ) → IsChild b q → IsChild a (of q)
  child_of q c = (renumbered of c.0, rule_of c.0 c.1, in_map of q c.0.children c.2)

  module _ (face : Face) where
    rules_fit : RulesFit face a → RulesFit face b
    rules_fit f = in_every (λ (r : Rule). SymbolFits face r.symbol) b.rules
        (λ r i. every_in (λ (x : Rule). SymbolFits face x.symbol) a.rules (renumbered of r) f (rule_of r i))

    port_rules_fit : PortRulesFit face a → PortRulesFit face b
    port_rules_fit f = record {
      tops = in_every (λ (r : Rule). IsIn r.state b.roots → PortSymbolFits face r.symbol) b.rules
          (λ r i j. every_in (λ (x : Rule). IsIn x.state a.roots → PortSymbolFits face x.symbol) a.rules
          (renumbered of r) f.tops (rule_of r i) (root_of r.state j));
      inner = in_every
          (λ (r : Rule). (IsIn r.state b.roots → ⊥) ⊎ IsChild b r.state → SymbolFits face r.symbol) b.rules
          (λ r i k. every_in
          (λ (x : Rule). (IsIn x.state a.roots → ⊥) ⊎ IsChild a x.state → SymbolFits face x.symbol) a.rules
          (renumbered of r) f.inner (rule_of r i) (inner_state r i k));
    }
      where
        inner_state : (r : Rule) → IsIn r b.rules → (IsIn r.state b.roots → ⊥) ⊎ IsChild b r.state
            → (IsIn (of r.state) a.roots → ⊥) ⊎ IsChild a (of r.state)
        inner_state r i (inl n) = inl (λ j. n (root_from r.state (rule_low r i) j))
        inner_state r i (inr c) = inr (child_of r.state c)

-- All of them.

pub rules_trimmed : (face : Face) (ports : List (List ℕ)) (autos mades : List Automaton) → AreTrimOf autos mades
    → InsideRulesFit face ports autos → InsideRulesFit face ports mades
rules_trimmed face ports [] [] h f = tt
rules_trimmed face ports [] (b ∷ mades) h f = absurd h
rules_trimmed face ports (a ∷ autos) [] h f = absurd h
rules_trimmed face [] (a ∷ autos) (b ∷ mades) h f =
    (rules_fit a b h.0 face f.0, rules_trimmed face [] autos mades h.1 f.1)
rules_trimmed face (p ∷ ports) (a ∷ autos) (b ∷ mades) h f =
    (port_rules_fit a b h.0 face f.0, rules_trimmed face ports autos mades h.1 f.1)

-- choices, and trees with their insides, are of the components as they are written and of the trimmed ones alike
pub choice_alike : (autos mades : List Automaton) → AreTrimOf autos mades → (ts : List Tree)
    → Choice autos ts ↔ Choice mades ts
choice_alike [] [] h [] = (λ c. tt, λ c. tt)
choice_alike [] [] h (t ∷ ts) = (λ c. c, λ c. c)
choice_alike [] (b ∷ mades) h ts = absurd h
choice_alike (a ∷ autos) [] h ts = absurd h
choice_alike (a ∷ autos) (b ∷ mades) h [] = (λ c. c, λ c. c)
choice_alike (a ∷ autos) (b ∷ mades) h (t ∷ ts) =
    let e = h.0.language t in
    let k = choice_alike autos mades h.1 ts in (λ c. (e.0 c.0, k.0 c.1), λ c. (e.1 c.0, k.1 c.1))

pub trees_alike : (T : List BoxDef) (autos mades : List Automaton) → AreTrimOf autos mades → (d : Nodes)
    → TreesOf T autos d ↔ TreesOf T mades d
trees_alike T [] [] h no_nodes = (λ c. tt, λ c. tt)
trees_alike T [] [] h (more n ns) = (λ c. c, λ c. c)
trees_alike T [] (b ∷ mades) h d = absurd h
trees_alike T (a ∷ autos) [] h d = absurd h
trees_alike T (a ∷ autos) (b ∷ mades) h no_nodes = (λ c. c, λ c. c)
trees_alike T (a ∷ autos) (b ∷ mades) h (more n ns) =
    let e = h.0.language (bare n) in
    let k = trees_alike T autos mades h.1 ns in (λ c. (e.0 c.0, c.1, k.0 c.2), λ c. (e.1 c.0, c.1, k.1 c.2))

pub full_trimmed : (autos mades : List Automaton) → AreTrimOf autos mades → Every HasSome autos → Every HasSome mades
full_trimmed [] [] h f = tt
full_trimmed [] (b ∷ mades) h f = absurd h
full_trimmed (a ∷ autos) [] h f = absurd h
full_trimmed (a ∷ autos) (b ∷ mades) h f =
    ((f.0.0, (h.0.language f.0.0).0 f.0.1), full_trimmed autos mades h.1 f.1)

pub all_trim : (autos mades : List Automaton) → AreTrimOf autos mades → Every IsTrim mades
all_trim [] [] h = tt
all_trim [] (b ∷ mades) h = absurd h
all_trim (a ∷ autos) [] h = absurd h
all_trim (a ∷ autos) (b ∷ mades) h = (h.0.trim, all_trim autos mades h.1)

pub all_ranked : (autos mades : List Automaton) → AreTrimOf autos mades → Every IsRanked mades
all_ranked [] [] h = tt
all_ranked [] (b ∷ mades) h = absurd h
all_ranked (a ∷ autos) [] h = absurd h
all_ranked (a ∷ autos) (b ∷ mades) h = (h.0.ranked, all_ranked autos mades h.1)

-- what stands at a place
pub written_at : (autos mades : List Automaton) → AreTrimOf autos mades → (r : ℕ) (b : Automaton)
    → slice_get mades r ≡ Some b → (a : Automaton) × (slice_get autos r ≡ Some a) × IsTrimOf a b
written_at [] [] h r b e = absurd (none-some b e)
written_at [] (c ∷ mades) h r b e = absurd h
written_at (a ∷ autos) [] h r b e = absurd h
written_at (a ∷ autos) (c ∷ mades) h zero b e = (a, refl, subst (IsTrimOf a) (same_Some c b e) h.0)
written_at (a ∷ autos) (c ∷ mades) h (suc r) b e = written_at autos mades h.1 r b e

pub trimmed_at : (autos mades : List Automaton) → AreTrimOf autos mades → (r : ℕ) (a : Automaton)
    → slice_get autos r ≡ Some a → (b : Automaton) × (slice_get mades r ≡ Some b) × IsTrimOf a b
trimmed_at [] [] h r a e = absurd (none-some a e)
trimmed_at [] (c ∷ mades) h r a e = absurd h
trimmed_at (c ∷ autos) [] h r a e = absurd h
trimmed_at (c ∷ autos) (b ∷ mades) h zero a e =
    (b, refl, subst (λ (x : Automaton). IsTrimOf x b) (same_Some c a e) h.0)
trimmed_at (c ∷ autos) (b ∷ mades) h (suc r) a e = trimmed_at autos mades h.1 r a e

-- what holds of the count of components
pub long_trimmed : (autos mades : List Automaton) → AreTrimOf autos mades → (P : ℕ → Type 0) → P (length autos)
    → P (length mades)
long_trimmed autos mades h P k = subst P (paired_long IsTrimOf autos mades h) k
