-- From what lists of signatures say to what a box shows and what is reached in it.
use Rattle.std.proofs.Common.{◌≡◌, ◌≢◌, ℕ, zero, suc, ◌<◌, ◌≤◌, ◌^◌, ◌↔◌, Bool, true, false, true≢false, List, [], ◌∷◌}
use Rattle.std.proofs.Common.{length, Option, Some, None, slice_get, refl, sym, subst, arith}
use Rattle.std.proofs.lemmas.Option.{none-some, same_Some}
use Rattle.fore_base.specs.Lists.{Every}
use Rattle.fore_base.proofs.ListLemmas.{in_from_place}
use Rattle.ta_core.specs.Auto.{Automaton}
use Rattle.ta_core.specs.Language.{InLanguage}
use Rattle.ta_core.specs.declared.tree.Tree.{Tree}
use Rattle.fa_core.specs.declared.faces.BoxFace.{BoxFace}
use Rattle.fa_core.specs.declared.signature.Signature.{Signature}
use Rattle.fa_core.specs.Boxes.{Boxes, IsBoxTable, LeadsUp, LeadsNowhere}
use Rattle.fa_core.specs.Filled.{Choice, IsTopped}
use Rattle.fa_core.proofs.TablesGive.{tables_give}
use Rattle.fa_back.specs.Insides.{IsInside, AreRankedInsides, ReachesAll, AlwaysReaches, NeverReaches}
use Rattle.fa_back.specs.Reached.{AllNameBelow}
use Rattle.fa_back.proofs.InsideLaws.{closure_reached, closure_up, closure_nowhere, reached_closure, up_closure}
use Rattle.fa_back.proofs.InsideLaws.{nowhere_closure}
use Rattle.fa_boxes.specs.Ports.{GivesApart}
use Rattle.fa_box_rules.specs.Rules.{Inside, Breaks5, leads_apart, gives_apart, Breaks6, IsUnbroken, Gives, port_count}
use Rattle.fa_reach.specs.Choices.{AllReach, SomeMissed, AlwaysLeads, NeverLeads, MayLead, MayMiss, HasSign}
use Rattle.fa_faces.specs.Faults.{box_inside}
use Rattle.fa_faces.specs.inner.Parts.{IsReady, AllRight, AreTopsRight, AreSigned, IsGiven, IsShown}
use Rattle.fa_faces.proofs.Faced.{shown_inside, shown_unbroken, shown_six}
use Rattle.fa_reach.proofs.TreeLaws.{signs_full}
use Rattle.fa_faces.proofs.Reaching.{signs_low, signs_long}
use Rattle.fa_faces.proofs.Silent.{silent_port}

-- the tree at a place of a choice is one of the component's there
choice_at : (autos : List Automaton) (ts : List Tree) → Choice autos ts → (r : ℕ) (t : Tree) → slice_get ts r ≡ Some t
    → (a : Automaton) × (slice_get autos r ≡ Some a) × InLanguage a t
choice_at [] [] c r t e = absurd (none-some t e)
choice_at [] (u ∷ ts) c r t e = absurd c
choice_at (a ∷ autos) [] c r t e = absurd c
choice_at (a ∷ autos) (u ∷ ts) c zero t e = (a, refl, subst (InLanguage a) (same_Some u t e) c.0)
choice_at (a ∷ autos) (u ∷ ts) c (suc r) t e = choice_at autos ts c.1 r t e

module _ (t : Boxes) (input : ℕ) (output : Option ℕ) (autos : List Automaton) (lists : List (List Signature))
    (ready : IsReady t.face (box_inside input output autos)) (signed : AreSigned t.face.boxes autos lists) where
  long : length autos ≡ length lists
  long = signs_long t.face.boxes autos lists signed.0

  -- what is asked of the lists

  pub lists_count : length lists < 2 ^ 32
  lists_count = subst (λ (n : ℕ). n < 2 ^ 32) long ready.count

  pub lists_low : Every (AllNameBelow (length lists)) lists
  lists_low = subst (λ (n : ℕ). Every (AllNameBelow n) lists) long
      (signs_low t.face.boxes (length autos) autos lists signed.0 ready.named.refs)

  pub lists_some : Every HasSign lists
  lists_some = signs_full t.face.boxes autos lists signed.0 ready.full

  pub lists_ports : (n : ℕ) → n ≤ length autos → n ≤ length lists
  lists_ports n l = subst (λ (k : ℕ). n ≤ k) long l

  -- what is reached

  module _ (table : IsBoxTable t) (insides : AreRankedInsides t.defs)
      (law : AllReach lists 0 ↔ ReachesAll t.face.boxes autos 0) (x : BoxFace)
      (shown : IsShown t.face t.defs (box_inside input output autos) x) where
    inside : IsInside t.face x autos
    inside = shown_inside t.face (box_inside input output autos) x ready.named shown.right shown.tops shown.one.input
        shown.one.output shown.one.gives_in shown.one.gives_out

    pub all_reached : AllReach lists 0 → IsUnbroken t.face t.defs (box_inside input output autos) x
    all_reached h = shown_unbroken t.face t.defs (box_inside input output autos) x shown
        (closure_reached t table x autos inside (law.0 h))

    pub one_missed : SomeMissed lists 0 → Breaks6 t.face t.defs (box_inside input output autos)
    one_missed m = shown_six t.face t.defs (box_inside input output autos) x shown
        (λ r. m.4 (law.1 (reached_closure t table x autos inside ready.named.ranked insides r) m.0 m.1 m.2 m.3))

-- One port.

module _ (t : Boxes) (input : ℕ) (autos : List Automaton) (lists : List (List Signature))
    (ready : IsReady t.face (box_inside input None autos)) (signed : AreSigned t.face.boxes autos lists)
    (right : AllRight t.face (box_inside input None autos))
    (tops : AreTopsRight t.face.boxes (box_inside input None autos)) (gin : List ℕ)
    (ins : IsGiven t.face.boxes autos 0 gin) where
  pub shown_one : IsShown t.face t.defs (box_inside input None autos)
      (record { input = input; output = None; gives_in = gin; gives_out = []; back = false })
  shown_one = record {
    full = ready.full;
    right = right;
    tops = tops;
    signatures = signed.1;
    one = record {
      input = refl;
      output = refl;
      gives_in = ins.0;
      gives_out = refl;
      in_order = (ins.1, tt);
      back = (refl, refl);
    };
  }

-- Two ports.

module _ (t : Boxes) (input s : ℕ) (autos : List Automaton) (lists : List (List Signature))
    (ready : IsReady t.face (box_inside input (Some s) autos)) (signed : AreSigned t.face.boxes autos lists)
    (right : AllRight t.face (box_inside input (Some s) autos))
    (tops : AreTopsRight t.face.boxes (box_inside input (Some s) autos)) (gin gout : List ℕ)
    (ins : IsGiven t.face.boxes autos 0 gin) (outs : IsGiven t.face.boxes autos 1 gout) (table : IsBoxTable t)
    (insides : AreRankedInsides t.defs) (always : AlwaysLeads lists 1 0 ↔ AlwaysReaches t.face.boxes autos 1 0)
    (never : NeverLeads lists 1 0 ↔ NeverReaches t.face.boxes autos 1 0) where
  abbrev led_face : Bool → BoxFace
  led_face v = record { input = input; output = Some s; gives_in = gin; gives_out = gout; back = v }

  led_inside : (v : Bool) → IsInside t.face (led_face v) autos
  led_inside v = shown_inside t.face (box_inside input (Some s) autos) (led_face v) ready.named right tops refl refl
      ins.0 outs.0

  topped : (ts : List Tree) → Choice autos ts → (u : Tree) → slice_get ts 1 ≡ Some u → (k : ℕ) × IsTopped k u
  topped ts c u e = let a = choice_at autos ts c 1 u e in tops.tops a.0 u (in_from_place autos 1 a.0 a.1) a.2

  abbrev Back : Bool → Type 0
  Back v = (v ≡ true → (gout ≢ []) × LeadsUp t.defs autos) × (v ≡ false → LeadsNowhere t.defs autos)

  shown_two : (v : Bool) → Back v → IsShown t.face t.defs (box_inside input (Some s) autos) (led_face v)
  shown_two v b = record {
    full = ready.full;
    right = right;
    tops = tops;
    signatures = signed.1;
    one = record {
      input = refl;
      output = refl;
      gives_in = ins.0;
      gives_out = outs.0;
      in_order = (ins.1, outs.1);
      back = b;
    };
  }

  pub shown_always : AlwaysLeads lists 1 0 → IsShown t.face t.defs (box_inside input (Some s) autos) (led_face true)
  shown_always h =
      let a : AlwaysReaches t.face.boxes autos 1 0 = always.0 h in
      shown_two true (
        (λ e. (
          (λ n. silent_port t.face autos (tables_give t table) ready.full right topped
              (subst (λ (l : List ℕ). Gives t.face.boxes autos 1 l) n outs.0) a),
          closure_up t table (led_face true) autos (led_inside true) s refl a,
        )),
        (λ e. absurd (true≢false e)),
      )

  pub shown_never : NeverLeads lists 1 0 → IsShown t.face t.defs (box_inside input (Some s) autos) (led_face false)
  shown_never h =
      let a : NeverReaches t.face.boxes autos 1 0 = never.0 h in
      shown_two false (
        (λ e. absurd (true≢false (sym e))),
        (λ e. closure_nowhere t table (led_face false) autos (led_inside false) s refl a),
      )

  pub shown_apart : MayLead lists 1 0 → MayMiss lists 1 0 → Breaks5 t.face t.defs (box_inside input (Some s) autos)
  shown_apart l f = leads_apart s refl
      (λ u. f.2
      (always.1 (up_closure t table (led_face true) autos (led_inside true) ready.named.ranked insides s refl u)
      f.0 f.1))
      (λ n. never.1
      (nowhere_closure t table (led_face true) autos (led_inside true) ready.named.ranked insides s refl n)
      l.0 l.1 l.2)

-- Choices that give a port different fields.

pub fields_apart : (t : Boxes) (b : Inside) (r : ℕ) → r < port_count b.output → GivesApart t.face.boxes b.autos r
    → Breaks5 t.face t.defs b
fields_apart t b r l g = gives_apart g.0 g.1 r g.2 g.3 l g.4

pub first_port : (out : Option ℕ) → 0 < port_count out
first_port None = omega arith
first_port (Some s) = omega arith
