-- What is known of the boxes of a list each of which is sound over those before it: each uses boxes before it alone, so
-- that what it says of insides over those holds over the whole list.
use Rattle.std.proofs.Common.{◌≡◌, ◌≢◌, ◌⊎◌, inl, inr, ℕ, zero, suc, ◌<◌, ◌≤◌, ◌+◌, length, List, [], ◌∷◌, ◌++◌}
use Rattle.std.proofs.Common.{Option, Some, None, refl, sym, ap, subst, ◌∙◌, arith, true, false, true≢false}
use Rattle.std.proofs.Common.{append_assoc}
use Rattle.std.proofs.lemmas.Option.{none-some, same_Some, slice_get_within}
use Rattle.fore_base.specs.Lists.{IsIn, Every}
use Rattle.fore_base.specs.declared.shape.Shapes.{Shapes}
use Rattle.fore_base.specs.declared.store.Datum.{Datum}
use Rattle.fore_base.proofs.ListLemmas.{in_every, every_in, every_weaker}
use Rattle.ta_core.specs.Auto.{Automaton}
use Rattle.ta_core.specs.declared.auto.Rule.{Rule}
use Rattle.ta_core.specs.declared.symbol.Slot.{Slot}
use Rattle.ta_core.specs.declared.symbol.Slot.TheVariants.{Field, Link, Hook}
use Rattle.ta_core.specs.declared.symbol.Symbol.{Symbol}
use Rattle.ta_core.specs.declared.symbol.Symbol.TheVariants.{Null, Uninit, Dangling, Ref, Cell}
use Rattle.fa_core.specs.declared.boxes.BoxDef.{BoxDef}
use Rattle.fa_core.specs.declared.faces.BoxFace.{BoxFace}
use Rattle.fa_core.specs.declared.faces.Face.{Face}
use Rattle.fa_core.specs.Boxes.{SoundBox, AreSoundOver, faces_of, InsideRulesFit, PortRulesFit, PortSymbolFits}
use Rattle.fa_core.specs.Boxes.{LeadsUp, LeadsNowhere, BackHolds, port_fields}
use Rattle.fa_core.specs.Dressed.{Node, Parts, End, Nodes, node, no_parts, field, link, hook, under, leaf, no_nodes}
use Rattle.fa_core.specs.Dressed.{more}
use Rattle.fa_core.specs.Filled.{face_of, HasOutput, HasNoOutput, SlotFits, SymbolFits, RulesFit}
use Rattle.fa_core.specs.Member.{slots_of, InsidesOf, InsidesOfParts, InsidesOfEnd, TreesOf, inside_of}
use Rattle.fa_core.proofs.NodeRuns.{NodeRun, PartsRun, EndRun, bare_node}
use Rattle.fa_back.proofs.EdgesWorth.{BoxKnown, TableKnown}
use Rattle.fa_back.proofs.FactParts.{in_or_not}

-- Which boxes are used.

-- the slot's box, if it has one, is below n
abbrev pub SlotUses : ℕ → Slot → Type 0
SlotUses n (Field f) = Unit {0}
SlotUses n (Link b) = b < n
SlotUses n (Hook b) = b < n

abbrev pub SymbolUses : ℕ → Symbol → Type 0
SymbolUses n Null = Unit {0}
SymbolUses n Uninit = Unit {0}
SymbolUses n Dangling = Unit {0}
SymbolUses n (Ref r) = Unit {0}
SymbolUses n (Cell s ds ss) = Every (SlotUses n) ss

abbrev pub RulesUse : ℕ → Automaton → Type 0
RulesUse n a = Every (λ (r : Rule). SymbolUses n r.symbol) a.rules

abbrev pub AllUse : ℕ → List Automaton → Type 0
AllUse n autos = Every (RulesUse n) autos

module _ (m n : ℕ) (less : m ≤ n) where
  slot_more : (s : Slot) → SlotUses m s → SlotUses n s
  slot_more (Field f) h = tt
  slot_more (Link b) h = omega (arith, h, less)
  slot_more (Hook b) h = omega (arith, h, less)

  symbol_more : (y : Symbol) → SymbolUses m y → SymbolUses n y
  symbol_more Null h = tt
  symbol_more Uninit h = tt
  symbol_more Dangling h = tt
  symbol_more (Ref r) h = tt
  symbol_more (Cell s ds ss) h = every_weaker (SlotUses m) (SlotUses n) ss slot_more h

  pub use_more : (autos : List Automaton) → AllUse m autos → AllUse n autos
  use_more autos h = every_weaker (RulesUse m) (RulesUse n) autos
      (λ a k. every_weaker (λ (r : Rule). SymbolUses m r.symbol) (λ (r : Rule). SymbolUses n r.symbol) a.rules
      (λ r i. symbol_more r.symbol i) k) h

module _ (face : Face) where
  -- a box that has some face is one of the face's boxes
  box_there : (P : Option BoxFace → Type 0) → (P None → ⊥) → (b : ℕ) → P (face_of face.boxes b) → b < length face.boxes
  box_there P none b h = go (face_of face.boxes b) refl h
    where
      go : (o : Option BoxFace) → face_of face.boxes b ≡ o → P o → b < length face.boxes
      go None e k = absurd (none k)
      go (Some x) e k = slice_get_within face.boxes b x e

  slot_uses : (s : ℕ) (y : Slot) → SlotFits face s y → SlotUses (length face.boxes) y
  slot_uses s (Field f) h = tt
  slot_uses s (Link b) h = box_there HasOutput (λ n. n) b h
  slot_uses s (Hook b) h = box_there HasNoOutput (λ n. n) b h

  port_uses : (y : Symbol) → PortSymbolFits face y → SymbolUses (length face.boxes) y
  port_uses Null h = tt
  port_uses Uninit h = tt
  port_uses Dangling h = tt
  port_uses (Ref r) h = tt
  port_uses (Cell s ds ss) h =
      every_weaker (SlotFits face s) (SlotUses (length face.boxes)) ss (slot_uses s) h.2

  symbol_uses : (y : Symbol) → SymbolFits face y → SymbolUses (length face.boxes) y
  symbol_uses Null h = tt
  symbol_uses Uninit h = tt
  symbol_uses Dangling h = tt
  symbol_uses (Ref r) h = tt
  symbol_uses (Cell s ds ss) h =
      every_weaker (SlotFits face s) (SlotUses (length face.boxes)) ss (slot_uses s) h.3

  rules_use : (a : Automaton) → RulesFit face a → RulesUse (length face.boxes) a
  rules_use a h = every_weaker (λ (r : Rule). SymbolFits face r.symbol)
      (λ (r : Rule). SymbolUses (length face.boxes) r.symbol) a.rules (λ r i. symbol_uses r.symbol i) h

  ports_use : (a : Automaton) → PortRulesFit face a → RulesUse (length face.boxes) a
  ports_use a h = in_every (λ (r : Rule). SymbolUses (length face.boxes) r.symbol) a.rules
      (λ r i. elim (in_or_not r.state a.roots) [
        | inl y ↦ port_uses r.symbol
            (every_in (λ (r : Rule). IsIn r.state a.roots → PortSymbolFits face r.symbol) a.rules r h.tops i y)
        | inr y ↦ symbol_uses r.symbol (inner r i y)
      ])
    where
      inner : (r : Rule) → IsIn r a.rules → (IsIn r.state a.roots → ⊥) → SymbolFits face r.symbol
      inner r i y = every_in (λ (r : Rule). (IsIn r.state a.roots → ⊥) ⊎ _ → SymbolFits face r.symbol) a.rules r h.inner
          i
          (inl y)

  -- an inside over the face uses the face's boxes alone
  pub inside_uses : (ports : List (List ℕ)) (autos : List Automaton) → InsideRulesFit face ports autos
      → AllUse (length face.boxes) autos
  inside_uses ports [] h = tt
  inside_uses [] (a ∷ autos) h = (rules_use a h.0, inside_uses [] autos h.1)
  inside_uses (p ∷ ports) (a ∷ autos) h = (ports_use a h.0, inside_uses ports autos h.1)

  pub forest_uses : (autos : List Automaton) → Every (RulesFit face) autos → AllUse (length face.boxes) autos
  forest_uses autos h = every_weaker (RulesFit face) (RulesUse (length face.boxes)) autos rules_use h

-- Insides over some boxes and over more.

inside_left : (xs ys : List BoxDef) (b : ℕ) → b < length xs → inside_of (xs ++ ys) b ≡ inside_of xs b
inside_left [] ys b l = absurd (none l)
  where
    none : b < 0 → ⊥
    none l = omega (arith, l)
inside_left (x ∷ xs) ys zero l = refl
inside_left (x ∷ xs) ys (suc b) l = inside_left xs ys b (omega (arith, l))

inside_stays : (xs ys : List BoxDef) (b : ℕ) (autos : List Automaton) → inside_of xs b ≡ Some autos
    → inside_of (xs ++ ys) b ≡ Some autos
inside_stays [] ys b autos e = absurd (none-some autos e)
inside_stays (x ∷ xs) ys zero autos e = e
inside_stays (x ∷ xs) ys (suc b) autos e = inside_stays xs ys b autos e

-- each box of the list uses boxes below n
abbrev pub AreLow : ℕ → List BoxDef → Type 0
AreLow n T = (b : ℕ) (autos : List Automaton) → inside_of T b ≡ Some autos → AllUse n autos

abbrev slots_use : ℕ → List Slot → Type 0
slots_use n ss = Every (SlotUses n) ss

module _ (xs ys : List BoxDef) (low : AreLow (length xs) xs) where
  abbrev N : ℕ
  N = length xs

  rule_slots : (rules : List Rule) → Every (λ (r : Rule). SymbolUses N r.symbol) rules → (r : Rule) → IsIn r rules
      → (s : ℕ) (ds : List Datum) (ss : List Slot) → r.symbol ≡ Cell s ds ss → Every (SlotUses N) ss
  rule_slots rules u r i s ds ss e =
      subst (λ (y : Symbol). SymbolUses N y) e (every_in (λ (r : Rule). SymbolUses N r.symbol) rules r u i)

  mutual
    cut_node : (rules : List Rule) (q : ℕ) (n : Node) → Every (λ (r : Rule). SymbolUses N r.symbol) rules
        → NodeRun rules q n → InsidesOf (xs ++ ys) n → InsidesOf xs n
    cut_node rules q (node c s ds ps) u k h =
        cut_parts rules k.0.children ps u (rule_slots rules u k.0 k.1 s ds (slots_of ps) k.3) k.4 h

    cut_parts : (rules : List Rule) (qs : List ℕ) (ps : Parts) → Every (λ (r : Rule). SymbolUses N r.symbol) rules
        → Every (SlotUses N) (slots_of ps) → PartsRun rules qs ps → InsidesOfParts (xs ++ ys) ps → InsidesOfParts xs ps
    cut_parts rules qs no_parts u w k h = tt
    cut_parts rules [] (field f e ps) u w k h = absurd k
    cut_parts rules (q ∷ qs) (field f e ps) u w k h =
        (cut_end rules q e u k.0 h.0, cut_parts rules qs ps u w.1 k.1 h.1)
    cut_parts rules [] (link b inside e ps) u w k h = absurd k
    cut_parts rules (q ∷ qs) (link b inside e ps) u w k h =
        let here : inside_of xs b ≡ Some h.0.0 = sym (inside_left xs ys b w.0) ∙ h.0.1 in (
          (h.0.0, here, cut_trees h.0.0 inside (low b h.0.0 here) h.0.2),
          cut_end rules q e u k.0 h.1,
          cut_parts rules qs ps u w.1 k.1 h.2,
        )
    cut_parts rules qs (hook b inside ps) u w k h =
        let here : inside_of xs b ≡ Some h.0.0 = sym (inside_left xs ys b w.0) ∙ h.0.1 in (
          (h.0.0, here, cut_trees h.0.0 inside (low b h.0.0 here) h.0.2),
          cut_parts rules qs ps u w.1 k h.1,
        )

    cut_end : (rules : List Rule) (q : ℕ) (e : End) → Every (λ (r : Rule). SymbolUses N r.symbol) rules
        → EndRun rules q e → InsidesOfEnd (xs ++ ys) e → InsidesOfEnd xs e
    cut_end rules q (under n) u k h = cut_node rules q n u k h
    cut_end rules q (leaf t) u k h = tt

    -- an inside that uses the first boxes alone is one over them
    pub cut_trees : (autos : List Automaton) (d : Nodes) → AllUse N autos → TreesOf (xs ++ ys) autos d
        → TreesOf xs autos d
    cut_trees [] no_nodes u h = tt
    cut_trees [] (more n ns) u h = absurd h
    cut_trees (a ∷ autos) no_nodes u h = absurd h
    cut_trees (a ∷ autos) (more n ns) u h = (
      h.0,
      cut_node a.rules h.0.0 n u.0 (bare_node a.rules h.0.0 n h.0.2) h.1,
      cut_trees autos ns u.1 h.2,
    )

module _ (xs ys : List BoxDef) where
  mutual
    grow_node : (n : Node) → InsidesOf xs n → InsidesOf (xs ++ ys) n
    grow_node (node c s ds ps) h = grow_parts ps h

    grow_parts : (ps : Parts) → InsidesOfParts xs ps → InsidesOfParts (xs ++ ys) ps
    grow_parts no_parts h = tt
    grow_parts (field f e ps) h = (grow_end e h.0, grow_parts ps h.1)
    grow_parts (link b inside e ps) h = (
      (h.0.0, inside_stays xs ys b h.0.0 h.0.1, grow_trees h.0.0 inside h.0.2),
      grow_end e h.1,
      grow_parts ps h.2,
    )
    grow_parts (hook b inside ps) h =
        ((h.0.0, inside_stays xs ys b h.0.0 h.0.1, grow_trees h.0.0 inside h.0.2), grow_parts ps h.1)

    grow_end : (e : End) → InsidesOfEnd xs e → InsidesOfEnd (xs ++ ys) e
    grow_end (under n) h = grow_node n h
    grow_end (leaf t) h = tt

    -- an inside over the first boxes is one over all
    pub grow_trees : (autos : List Automaton) (d : Nodes) → TreesOf xs autos d → TreesOf (xs ++ ys) autos d
    grow_trees [] no_nodes h = tt
    grow_trees [] (more n ns) h = absurd h
    grow_trees (a ∷ autos) no_nodes h = absurd h
    grow_trees (a ∷ autos) (more n ns) h = (h.0, grow_node n h.1, grow_trees autos ns h.2)

-- Boxes that are sound over those before them.

inside_next : (xs : List BoxDef) (x : BoxDef) (b : ℕ) (autos : List Automaton) → inside_of (xs ++ x ∷ []) b ≡ Some autos
    → (inside_of xs b ≡ Some autos) ⊎ (autos ≡ x.inside.autos)
inside_next [] x zero autos e = inr (sym (same_Some x.inside.autos autos e))
inside_next [] x (suc b) autos e = absurd (none-some autos e)
inside_next (y ∷ xs) x zero autos e = inl e
inside_next (y ∷ xs) x (suc b) autos e = inside_next xs x b autos e

pub length_next : (xs : List BoxDef) (x : BoxDef) → length (xs ++ x ∷ []) ≡ suc (length xs)
length_next [] x = refl
length_next (y ∷ xs) x = ap suc (length_next xs x)

pub faces_long : (xs : List BoxDef) → length (faces_of xs) ≡ length xs
faces_long [] = refl
faces_long (x ∷ xs) = ap suc (faces_long xs)

face_there : (xs ys : List BoxDef) (y : BoxDef) → face_of (faces_of (xs ++ y ∷ ys)) (length xs) ≡ Some y.face
face_there [] ys y = refl
face_there (x ∷ xs) ys y = face_there xs ys y

-- the box uses those before it
pub box_uses : (shapes : Shapes) (before : List BoxDef) (x : BoxDef)
    → SoundBox (record { shapes = shapes; boxes = faces_of before }) before x
    → AllUse (length before) x.inside.autos
box_uses shapes before x s =
    subst (λ (n : ℕ). AllUse n x.inside.autos) (faces_long before)
    (inside_uses (record { shapes = shapes; boxes = faces_of before }) (port_fields x.face x.face.output)
    x.inside.autos s.rules)

low_next : (before : List BoxDef) (x : BoxDef) → AreLow (length before) before
    → AllUse (length before) x.inside.autos → AreLow (length (before ++ x ∷ [])) (before ++ x ∷ [])
low_next before x low u b autos e =
    let more : length before ≤ length (before ++ x ∷ []) = rw (length_next before x) (omega arith) in
    use_more (length before) (length (before ++ x ∷ [])) more autos (elim (inside_next before x b autos e) [
      | inl i ↦ low b autos i
      | inr i ↦ subst (λ (z : List Automaton). AllUse (length before) z) (sym i) u
    ])

module _ (T : List BoxDef) (shapes : Shapes) where
  box_known : (before defs : List BoxDef) (x : BoxDef) → T ≡ before ++ x ∷ defs → AreLow (length before) before
      → SoundBox (record { shapes = shapes; boxes = faces_of before }) before x
      → BoxKnown (faces_of T) T (length before) x.inside.autos
  box_known before defs x e low s = record {
    face = x.face;
    is = subst (λ (z : List BoxDef). face_of (faces_of z) (length before) ≡ Some x.face) (sym e)
        (face_there before defs x);
    reached = λ d h c ports fit n i. s.reached d (cut d h) c ports fit n i;
    gives = λ b. (back_of x.face.output refl s.back b).0;
    up = λ b d h c m. (back_of x.face.output refl s.back b).1 d (cut d h) c m;
    never = λ t o b d h c m differ. nowhere t (subst (λ (z : Option ℕ). BackHolds before x.face z x.inside.autos) o
        s.back) b
        d (cut d h) c m differ;
  }
    where
      cut : (d : Nodes) → TreesOf T x.inside.autos d → TreesOf before x.inside.autos d
      cut d h = cut_trees before (x ∷ defs) low x.inside.autos d (box_uses shapes before x s)
          (subst (λ (z : List BoxDef). TreesOf z x.inside.autos d) e h)

      back_of : (o : Option ℕ) → x.face.output ≡ o → BackHolds before x.face o x.inside.autos → x.face.back ≡ true
          → (x.face.gives_out ≢ []) × LeadsUp before x.inside.autos
      back_of None q h b = absurd (true≢false (sym b ∙ h.1))
      back_of (Some t) q h b = h.0 b

      nowhere : (t : ℕ) → BackHolds before x.face (Some t) x.inside.autos → x.face.back ≡ false
          → LeadsNowhere before x.inside.autos
      nowhere t h b = h.1 b

  known_from : (before defs : List BoxDef) → T ≡ before ++ defs → AreLow (length before) before
      → AreSoundOver shapes before defs → (b : ℕ) (autos : List Automaton) → inside_of defs b ≡ Some autos
      → BoxKnown (faces_of T) T (length before + b) autos
  known_from before [] e low s b autos i = absurd (none-some autos i)
  known_from before (x ∷ defs) e low s zero autos i =
      let same : x.inside.autos ≡ autos = same_Some x.inside.autos autos i in
      let here : length before ≡ length before + 0 = omega arith in
      subst (λ (n : ℕ). BoxKnown (faces_of T) T n autos) here
      (subst (λ (z : List Automaton). BoxKnown (faces_of T) T (length before) z) same
      (box_known before defs x e low s.0))
  known_from before (x ∷ defs) e low s (suc b) autos i =
      let long = length_next before x in
      let here : length (before ++ x ∷ []) + b ≡ length before + suc b = omega (arith, long) in
      subst (λ (n : ℕ). BoxKnown (faces_of T) T n autos) here
      (known_from (before ++ x ∷ []) defs (e ∙ sym (append_assoc before (x ∷ []) defs))
      (low_next before x low (box_uses shapes before x s.0)) s.1 b autos i)

  -- each box of the list is known over the whole list
  pub table_known : AreSoundOver shapes [] T → TableKnown (faces_of T) T
  table_known s b autos i =
      let here : 0 + b ≡ b = omega arith in
      subst (λ (n : ℕ). BoxKnown (faces_of T) T n autos) here
      (known_from [] T refl (λ c z e. absurd (none-some z e)) s b autos i)
