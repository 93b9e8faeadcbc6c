-- A box that breaks none of B1, B2 and B3 is well named over the faces of those before it.
use Rattle.std.proofs.Common.{arith, ◌≡◌, ◌<◌, ◌≤◌, ℕ, suc, Bool, true, false, true≢false, cond, not, ◌&&◌, ◌||◌}
use Rattle.std.proofs.Common.{List, [], ◌∷◌, map, length, Option, Some, None, refl, sym, subst}
use Rattle.std.proofs.Common.{nat_lt, nat_le, nat_eq, ◌⊎◌, inl, inr}
use Rattle.std.proofs.lemmas.Bool.{and_parts, or_cases, or_right, ltb-true, leb-false, le-ltb, eqb-true, eq-eqb}
use Rattle.fore_base.specs.Lists.{IsIn, Every}
use Rattle.fore_base.specs.declared.shape.Shape.{Shape}
use Rattle.fore_base.specs.declared.shape.Shapes.{Shapes}
use Rattle.fore_base.proofs.ListLemmas.{in_left, in_right}
use Rattle.ta_core.specs.Auto.{Automaton, IsRanked}
use Rattle.ta_core.specs.declared.auto.Rule.{Rule}
use Rattle.ta_core.specs.declared.symbol.Symbol.{Symbol}
use Rattle.ta_core.specs.declared.symbol.Symbol.TheVariants.{Null as IsNull, Uninit as IsUninit, Dangling as IsDangling}
use Rattle.ta_core.specs.declared.symbol.Symbol.TheVariants.{Ref as IsRef, Cell as IsCell}
use Rattle.fa_core.specs.Boxes.{PortSymbolFits, IsChild, PortRulesFit, InsideRulesFit}
use Rattle.fa_core.specs.Filled.{SymbolFits, RulesFit}
use Rattle.fa_core.specs.Ways.{has}
use Rattle.fa_core.specs.declared.faces.BoxFace.{BoxFace}
use Rattle.fa_core.specs.declared.faces.Face.{Face}
use Rattle.fa_box_rules.specs.Rules.{IsWellNamed, AreRefsBelow, port_count, structs_of}
use Rattle.fa_lines.specs.Spelling.{IsTerm}
use Rattle.fa_lines.specs.declared.line.Term.{Term}
use Rattle.fa_lines.specs.declared.line.Term.TheVariants.{Null, Uninit, Dangling, Ref, Cell}
use Rattle.fa_written.specs.Drafts.{missing_in, missing_rules, missing_parts, RefersWithin}
use Rattle.fa_written.specs.Forms.{HasPorts, port_count as ports_of}
use Rattle.fa_written.specs.declared.draft.RuleDraft.{RuleDraft}
use Rattle.fa_written.specs.declared.draft.PartDraft.{PartDraft}
use Rattle.fa_written.specs.declared.draft.Head.{Head}
use Rattle.fa_written.specs.declared.draft.BoxDraft.{BoxDraft}
use Rattle.fa_named.specs.Breaks.{term_faults, rules_faults, part_faults, parts_faults, head_faults, box_faults}
use Rattle.fa_named.specs.Breaks.{is_output}
use Rattle.fa_named.specs.Insides.{below_term, below_rules, symbol_of, rule_of, auto_of}
use Rattle.fa_named.specs.Named.{output_of, box_of}
use Rattle.fa_named.specs.Places.{Texts, place, is_there}
use Rattle.fa_named.specs.Structs.{struct_names, known_of}
use Rattle.fa_named.specs.declared.fault.NameFault.TheVariants.{B2, B3}
use Rattle.fa_named.specs.declared.named.Boxes.{Boxes}
use Rattle.fa_named.specs.declared.named.Known.{Known}
use Rattle.fa_named.proofs.Ranked.{ranked}
use Rattle.fa_text.specs.Files.{bare}
use Rattle.fa_text.proofs.Fits.{none_in, holds, fails, Shows, term_fits, map_long}

-- States in lists

in_has : (q : ℕ) (qs : List ℕ) → IsIn q qs → has q qs ≡ true
in_has q [] i = absurd i
in_has q (p ∷ qs) (inl e) = rw (eq-eqb q p e) refl
in_has q (p ∷ qs) (inr i) = or_right (nat_eq q p) (has q qs) (in_has q qs i)

has_in : (q : ℕ) (qs : List ℕ) → has q qs ≡ true → IsIn q qs
has_in q [] e = true≢false (sym e)
has_in q (p ∷ qs) e =
    elim (or_cases (nat_eq q p) (has q qs) e) [ inl h ↦ inl (eqb-true q p h) | inr h ↦ inr (has_in q qs h) ]

not_in : (q : ℕ) (qs : List ℕ) → (IsIn q qs → ⊥) → has q qs ≡ false
not_in q qs out = by (has q qs) refl
  where
    by : (b : Bool) → has q qs ≡ b → b ≡ false
    by true e = absurd (out (has_in q qs e))
    by false e = refl

-- Rules

-- each rule that is written has a term that may be written
abbrev pub AreTerms : List RuleDraft → Type 0
AreTerms rs = Every (λ (r : RuleDraft). IsTerm r.term) rs

-- a state below a rule that is made stands below a rule that is written
child_below : (known : Known) (names : Texts) (rs : List RuleDraft) (r : Rule) (q : ℕ)
    → IsIn r (map (rule_of known names) rs) → IsIn q r.children → IsIn q (below_rules rs)
child_below known names [] r q i j = absurd i
child_below known names (d ∷ rs) r q (inl e) j =
    in_left q (below_term d.term) (below_rules rs) (subst (λ (s : Rule). IsIn q s.children) e j)
child_below known names (d ∷ rs) r q (inr i) j =
    in_right q (below_term d.term) (below_rules rs) (child_below known names rs r q i j)

module _ (shapes : Shapes) (boxes : Boxes) (xs : List BoxFace) (shows : Shows boxes xs) where
  abbrev face : Face
  face = record { shapes = shapes; boxes = xs }

  abbrev made : List RuleDraft → List Rule
  made rs = map (rule_of (known_of shapes) boxes.names) rs

  -- the rules of a component that is no port
  inner_rules : (is_below : ℕ → Bool) (rs : List RuleDraft) → AreTerms rs
      → rules_faults (known_of shapes) boxes (λ q. false) is_below rs ≡ []
      → Every (λ (r : Rule). SymbolFits face r.symbol) (made rs)
  inner_rules is_below [] terms none = tt
  inner_rules is_below (r ∷ rs) terms none =
      let n = none_in (term_faults r.line (known_of shapes) boxes false true r.term)
      (rules_faults (known_of shapes) boxes (λ q. false) is_below rs) none in
      let fits = term_fits shapes boxes xs false true r.line r.term shows terms.0 n.0 in
      (fits.inners refl, inner_rules is_below rs terms.1 n.1)

  -- the rules of a port
  top_rules : (roots : List ℕ) (is_below : ℕ → Bool) (rs : List RuleDraft) → AreTerms rs
      → rules_faults (known_of shapes) boxes (λ q. has q roots) is_below rs ≡ []
      → Every (λ (r : Rule). IsIn r.state roots → PortSymbolFits face r.symbol) (made rs)
  top_rules roots is_below [] terms none = tt
  top_rules roots is_below (r ∷ rs) terms none =
      let top = has r.state roots in
      let inner = not top || is_below r.state in
      let n = none_in (term_faults r.line (known_of shapes) boxes top inner r.term)
      (rules_faults (known_of shapes) boxes (λ q. has q roots) is_below rs) none in
      let fits = term_fits shapes boxes xs top inner r.line r.term shows terms.0 n.0 in
      (λ i. fits.tops (in_has r.state roots i), top_rules roots is_below rs terms.1 n.1)

  is_inner : (roots : List ℕ) (is_below : ℕ → Bool) (q : ℕ) → (IsIn q roots → ⊥) ⊎ (is_below q ≡ true)
      → (not (has q roots) || is_below q) ≡ true
  is_inner roots is_below q (inl out) = rw (not_in q roots out) refl
  is_inner roots is_below q (inr e) = by (not (has q roots))
    where
      by : (b : Bool) → (b || is_below q) ≡ true
      by true = refl
      by false = e

  below_top_rules : (roots : List ℕ) (is_below : ℕ → Bool) (rs : List RuleDraft) → AreTerms rs
      → rules_faults (known_of shapes) boxes (λ q. has q roots) is_below rs ≡ []
      → Every (λ (r : Rule). (IsIn r.state roots → ⊥) ⊎ (is_below r.state ≡ true) → SymbolFits face r.symbol) (made rs)
  below_top_rules roots is_below [] terms none = tt
  below_top_rules roots is_below (r ∷ rs) terms none =
      let top = has r.state roots in
      let inner = not top || is_below r.state in
      let n = none_in (term_faults r.line (known_of shapes) boxes top inner r.term)
      (rules_faults (known_of shapes) boxes (λ q. has q roots) is_below rs) none in
      let fits = term_fits shapes boxes xs top inner r.line r.term shows terms.0 n.0 in
      (λ i. fits.inners (is_inner roots is_below r.state i), below_top_rules roots is_below rs terms.1 n.1)

  abbrev auto : PartDraft → Automaton
  auto p = auto_of (known_of shapes) boxes.names p

  -- Components

  inner_part : (p : PartDraft) → AreTerms p.rules → part_faults (known_of shapes) boxes false p ≡ []
      → RulesFit face (auto p)
  inner_part p terms none = inner_rules (λ q. has q (below_rules p.rules)) p.rules terms none

  every_weaker_rule : (P Q : Rule → Type 0) (rs : List Rule) → ((r : Rule) → P r → Q r) → Every P rs → Every Q rs
  every_weaker_rule P Q [] f h = tt
  every_weaker_rule P Q (r ∷ rs) f h = (f r h.0, every_weaker_rule P Q rs f h.1)

  port_part : (p : PartDraft) → AreTerms p.rules → part_faults (known_of shapes) boxes true p ≡ []
      → PortRulesFit face (auto p)
  port_part p terms none =
      let is_below : ℕ → Bool = λ q. has q (below_rules p.rules) in
      record {
        tops = top_rules p.roots is_below p.rules terms none;
        inner = every_weaker_rule
            (λ (r : Rule). (IsIn r.state p.roots → ⊥) ⊎ (is_below r.state ≡ true) → SymbolFits face r.symbol)
            (λ (r : Rule). (IsIn r.state p.roots → ⊥) ⊎ IsChild (auto p) r.state → SymbolFits face r.symbol)
            (made p.rules) (λ r f i. f (weaken r i)) (below_top_rules p.roots is_below p.rules terms none);
      }
    where
      weaken : (r : Rule) → (IsIn r.state p.roots → ⊥) ⊎ IsChild (auto p) r.state
          → (IsIn r.state p.roots → ⊥) ⊎ (has r.state (below_rules p.rules) ≡ true)
      weaken r (inl out) = inl out
      weaken r (inr child) =
          inr (in_has r.state (below_rules p.rules)
          (child_below (known_of shapes) boxes.names p.rules child.0 r.state child.1 child.2))

  -- the components behind the ports
  inner_parts : (n k : ℕ) (ps : List PartDraft) → n ≤ k → Every (λ (p : PartDraft). AreTerms p.rules) ps
      → parts_faults (known_of shapes) boxes n k ps ≡ [] → InsideRulesFit face [] (map auto ps)
  inner_parts n k [] le terms none = tt
  inner_parts n k (p ∷ ps) le terms none =
      let h = none_in (part_faults (known_of shapes) boxes (nat_lt k n) p)
      (parts_faults (known_of shapes) boxes n (suc k) ps) none in
      let first = subst (λ b. part_faults (known_of shapes) boxes b p ≡ []) (le-ltb k n le) h.0 in
      (inner_part p terms.0 first, inner_parts n (suc k) ps (omega (arith, le)) terms.1 h.1)

  -- the components of a box with this many ports
  all_parts : (o : Option (List ℕ)) (ps : List PartDraft) (names : Texts)
      → Every (λ (p : PartDraft). AreTerms p.rules) ps → parts_faults (known_of shapes) boxes (ports_of o) 0 ps ≡ []
      → (s : ℕ) → InsideRulesFit face (map (λ (t : ℕ). []) (structs_of s (output_of names o))) (map auto ps)
  all_parts o [] names terms none s = tt
  all_parts None (p ∷ ps) names terms none s =
      let h = none_in (part_faults (known_of shapes) boxes true p) (parts_faults (known_of shapes) boxes 1 1 ps) none in
      (port_part p terms.0 h.0, inner_parts 1 1 ps (omega arith) terms.1 h.1)
  all_parts (Some name) (p ∷ []) names terms none s =
      let h = none_in (part_faults (known_of shapes) boxes true p) [] none in
      (port_part p terms.0 h.0, tt)
  all_parts (Some name) (p ∷ (r ∷ ps)) names terms none s =
      let h = none_in (part_faults (known_of shapes) boxes true p) (parts_faults (known_of shapes) boxes 2 1 (r ∷ ps))
      none in
      let k = none_in (part_faults (known_of shapes) boxes true r) (parts_faults (known_of shapes) boxes 2 2 ps) h.1 in
      (port_part p terms.0 h.0, (port_part r terms.1.0 k.0, inner_parts 2 2 ps (omega arith) terms.1.1 k.1))

-- References

abbrev RefBelow : ℕ → Symbol → Type 0
RefBelow n IsNull = Unit {0}
RefBelow n IsUninit = Unit {0}
RefBelow n IsDangling = Unit {0}
RefBelow n (IsRef r) = r < n
RefBelow n (IsCell s ds ss) = Unit {0}

ref_below : (known : Known) (names : Texts) (n line : ℕ) (t : Term) → missing_in n line t ≡ []
    → RefBelow n (symbol_of known names t)
ref_below known names n line Null none = tt
ref_below known names n line Uninit none = tt
ref_below known names n line Dangling none = tt
ref_below known names n line (Ref r) none = leb-false n r (fails (nat_le n r) line none)
ref_below known names n line (Cell shape ds slots) none = tt

refs_below : (known : Known) (names : Texts) (n : ℕ) (rs : List RuleDraft) → missing_rules n rs ≡ [] → (r : Rule)
    → IsIn r (map (rule_of known names) rs) → RefBelow n r.symbol
refs_below known names n [] none r i = absurd i
refs_below known names n (d ∷ rs) none r (inl e) =
    let h = none_in (missing_in n d.line d.term) (missing_rules n rs) none in
    subst (λ (s : Rule). RefBelow n s.symbol) (sym e) (ref_below known names n d.line d.term h.0)
refs_below known names n (d ∷ rs) none r (inr i) =
    let h = none_in (missing_in n d.line d.term) (missing_rules n rs) none in
    refs_below known names n rs h.1 r i

all_refs : (known : Known) (names : Texts) (n : ℕ) (ps : List PartDraft) → missing_parts n ps ≡ []
    → Every (AreRefsBelow n) (map (auto_of known names) ps)
all_refs known names n [] none = tt
all_refs known names n (p ∷ ps) none =
    let h = none_in (missing_rules n p.rules) (missing_parts n ps) none in (
      λ r k i e. subst (RefBelow n) e (refs_below known names n p.rules h.0 r i),
      all_refs known names n ps h.1,
    )

all_ranked : (known : Known) (names : Texts) (ps : List PartDraft) → Every IsRanked (map (auto_of known names) ps)
all_ranked known names [] = tt
all_ranked known names (p ∷ ps) = (ranked known names p, all_ranked known names ps)

-- Ports

same_ports : (names : Texts) (o : Option (List ℕ)) → port_count (output_of names o) ≡ ports_of o
same_ports names None = refl
same_ports names (Some name) = refl

there_below : (hs : List Shape) (name : List ℕ) → is_there name (struct_names hs) ≡ true
    → place name (struct_names hs) < length hs
there_below hs name e =
    let lt = ltb-true (place name (struct_names hs)) (length (struct_names hs)) e in
    let same = map_long (λ (s : Shape). s.name) hs in
    omega (arith, lt, same)

structs_there : (hs : List Shape) (input : List ℕ) (o : Option (List ℕ)) → is_there input (struct_names hs) ≡ true
    → is_output (struct_names hs) o ≡ true
    → Every (λ (s : ℕ). s < length hs) (structs_of (place input (struct_names hs)) (output_of (struct_names hs) o))
structs_there hs input None e f = (there_below hs input e, tt)
structs_there hs input (Some name) e f = (there_below hs input e, (there_below hs name f, tt))

-- what a head that breaks neither B2 nor B3 says
pub record HeadFits (hs : List Shape) (boxes : Boxes) (h : Head) : Type 0 where
  pub structs : Every (λ (s : ℕ). s < length hs)
      (structs_of (place h.input (struct_names hs)) (output_of (struct_names hs) h.output))
  pub new : is_there h.name boxes.names ≡ false

pub head_fits : (shapes : Shapes) (boxes : Boxes) (h : Head) → head_faults (known_of shapes) boxes h ≡ []
    → HeadFits shapes.structs boxes h
head_fits shapes boxes h none =
    let names = struct_names shapes.structs in
    let outer = holds (is_there h.input names && is_output names h.output)
    (cond (is_there h.name boxes.names) (B3 h.line ∷ []) []) (B2 h.line) none in
    let parts = and_parts (is_there h.input names) (is_output names h.output) outer.0 in
    record {
      structs = structs_there shapes.structs h.input h.output parts.0 parts.1;
      new = fails (is_there h.name boxes.names) (B3 h.line) outer.1;
    }

-- Boxes

pub well_named : (shapes : Shapes) (boxes : Boxes) (xs : List BoxFace) (b : BoxDraft) → Shows boxes xs
    → Every (λ (p : PartDraft). AreTerms p.rules) b.parts → HasPorts b → RefersWithin b
    → box_faults (known_of shapes) boxes b ≡ []
    → IsWellNamed (record { shapes = shapes; boxes = xs }) (bare (box_of (known_of shapes) boxes b))
well_named shapes boxes xs b shows terms ports refs none =
    let known = known_of shapes in
    let h = none_in (head_faults known boxes b.head) (parts_faults known boxes (ports_of b.head.output) 0 b.parts)
    none in
    let head = head_fits shapes boxes b.head h.0 in
    let count : length (map (auto_of known boxes.names) b.parts) ≡ length b.parts =
    map_long (auto_of known boxes.names) b.parts in
    record {
      rules = all_parts shapes boxes xs shows b.head.output b.parts known.names terms h.1
          (place b.head.input known.names);
      refs = rw count (all_refs known boxes.names (length b.parts) b.parts refs);
      ranked = all_ranked known boxes.names b.parts;
      ports = let p : ports_of b.head.output ≤ length b.parts = ports in
          let same = same_ports known.names b.head.output in omega (arith, p, same, count);
      structs = head.structs;
    }
