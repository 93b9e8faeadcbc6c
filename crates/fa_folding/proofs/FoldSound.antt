-- The forest after the fold is sound: its components fit, have one signature at each state, and are not empty.
use Rattle.std.proofs.Common.{true≢false, ◌+◌, ◌≡◌, ◌≢◌, ℕ, true, false}
use Rattle.std.proofs.Common.{not}
use Rattle.std.proofs.Common.{length, List, [], ◌∷◌, ◌++◌, map}
use Rattle.std.proofs.Common.{refl, sym, subst, ◌∙◌, Option, Some, None}
use Rattle.fore_base.specs.Lists.{IsIn, Every, Paired}
use Rattle.fore_base.specs.declared.shape.Shapes.{Shapes}
use Rattle.fore_base.specs.declared.store.Datum.{Datum}
use Rattle.fore_base.proofs.ListLemmas.{every_append, every_in, every_map}
use Rattle.ta_core.specs.Arity.{arity}
use Rattle.ta_core.specs.Auto.{Automaton, IsRanked}
use Rattle.ta_core.specs.Language.{RunOf}
use Rattle.ta_core.specs.Single.{HasOneTop}
use Rattle.ta_core.specs.declared.auto.Rule.{Rule}
use Rattle.ta_core.specs.declared.symbol.Slot.{Slot}
use Rattle.ta_core.specs.declared.symbol.Symbol.{Symbol}
use Rattle.ta_core.specs.declared.symbol.Symbol.TheVariants.{Cell as CellSymbol}
use Rattle.ta_core.specs.declared.tree.Tree.{Tree}
use Rattle.fa_core.specs.declared.boxes.BoxDef.{BoxDef}
use Rattle.fa_core.specs.declared.faces.BoxFace.{BoxFace}
use Rattle.fa_core.specs.declared.faces.Face.{Face}
use Rattle.fa_core.specs.Boxes.{AreSoundOver, BackHolds, faces_of}
use Rattle.fa_core.specs.Faces.{IsGiving}
use Rattle.fa_core.specs.Filled.{HasSignatures, HasSome, RulesFit, SlotFits, SymbolFits}
use Rattle.fa_core.specs.Folding.{is_one_of, symbol_slots}
use Rattle.fa_split.specs.Giving.{SlotGives, SymbolGives}
use Rattle.fa_split.specs.Split.{top_rule}
use Rattle.fa_split.proofs.LinksGive.{faces_give}
use Rattle.fa_split.proofs.TopRules.{top_in}
use Rattle.fa_unfold.specs.Slots.{Place, joined, place_key, rule_places, with_slots}
use Rattle.fa_unfold.proofs.FittingRules.{rule_slots}
use Rattle.fa_unfold.proofs.Joins.{joined_every}
use Rattle.fa_unfold.proofs.PlaceRuns.{IsPlace}
use Rattle.fa_folding.specs.Gaining.{gained_auto, left_places}
use Rattle.fa_folding.proofs.GainedSigned.{IsGrown, gained_signed}
use Rattle.fa_folding.proofs.GainedTrees.{gained_language, gained_tree}
use Rattle.fa_folding.proofs.SlotRuns.{Grown, SlotRuns}
use Rattle.fa_folding.proofs.Lists.{every_filter}

-- The boxes of a table that lead back give something.

back_gives : (T : List BoxDef) (x : BoxFace) (o : Option ℕ) (autos : List Automaton) → BackHolds T x o autos
    → IsGiving x
back_gives T x None autos h = λ e. absurd (no (sym e ∙ h.1))
  where
    no : true ≡ false → ⊥
    no q = true≢false q
back_gives T x (Some t) autos h = λ e. (h.0 e).0

pub table_gives : (shapes : Shapes) (before defs : List BoxDef) → AreSoundOver shapes before defs
    → Every IsGiving (faces_of defs)
table_gives shapes before [] h = tt
table_gives shapes before (b ∷ defs) h =
    (back_gives before b.face b.face.output b.inside.autos h.0.back, table_gives shapes (before ++ b ∷ []) defs h.1)

-- a component that is one of a sound forest's
pub record IsGood (face : Face) (a : Automaton) : Type 0 where
  pub fits : RulesFit face a
  pub signed : HasSignatures face.boxes a
  pub some : HasSome a

module _ (face : Face) (giving : Every IsGiving face.boxes) (a : Automaton) (ranked : IsRanked a) (one : HasOneTop a)
    (s : ℕ) (ds : List Datum) (ss : List Slot) (top : (top_rule a).symbol ≡ CellSymbol s ds ss) (fs : List ℕ)
    (good : IsGood face a) where
  abbrev bs : List BoxFace
  bs = face.boxes

  top_fits : SymbolFits face (CellSymbol s ds ss)
  top_fits = subst (SymbolFits face) top
      (every_in (λ (r : Rule). SymbolFits face r.symbol) a.rules (top_rule a) good.fits (top_in a one))

  module _ (xs : List Rule) (gain : List Place) (more : List Grown) (grown : Every IsGrown more)
      (above : (o : Rule) → IsIn o xs → (o.state ≡ a.states) × (o.children ≡ []) × (length o.children ≡ arity o.symbol))
      (gain_right : Every (IsPlace (a.states + 1)) gain) (runs : Paired (SlotRuns (a.rules ++ xs)) gain more)
      (only : (vs : List Grown) → Paired (SlotRuns (a.rules ++ xs)) gain vs → vs ≡ more)
      (one_tree : (t u : Tree) → RunOf (a.rules ++ xs) a.states t → RunOf (a.rules ++ xs) a.states u → t ≡ u)
      (rules_fit : Every (λ (r : Rule). SymbolFits face r.symbol) xs)
      (slots_fit : Every (λ (p : Place). SlotFits face s p.0) gain) where
    abbrev c : Automaton
    c = gained_auto bs fs xs gain a

    abbrev made : List Place
    made = joined (place_key bs) (left_places fs a) gain

    made_fits : Every (λ (p : Place). SlotFits face s p.0) made
    made_fits = joined_every (place_key bs) (λ (p : Place). SlotFits face s p.0) (left_places fs a) gain
        (every_filter (λ p. not (is_one_of fs p.0)) (λ (p : Place). SlotFits face s p.0) (rule_places (top_rule a))
        (rule_slots (SlotFits face s) (top_rule a)
        (subst (λ (y : Symbol). Every (SlotFits face s) (symbol_slots y)) (sym top) top_fits.3))) slots_fit

    fresh_fits : SymbolFits face (with_slots (top_rule a).symbol (map (λ p. p.0) made))
    fresh_fits = subst (λ (y : Symbol). SymbolFits face (with_slots y (map (λ p. p.0) made))) (sym top)
        (top_fits.0, top_fits.1, top_fits.2, every_map (λ p. p.0) (SlotFits face s) made made_fits)

    pub gained_good : IsGood face c
    gained_good = record {
      fits = every_append (λ (r : Rule). SymbolFits face r.symbol) (a.rules ++ xs) _
          (every_append (λ (r : Rule). SymbolFits face r.symbol) a.rules xs good.fits rules_fit) (fresh_fits, tt);
      signed = gained_signed bs a ranked one s ds ss top fs more grown good.signed gives xs gain above gain_right runs
          only
          good.some one_tree;
      some = (
        gained_tree bs a ranked one s ds ss top fs xs gain more good.some.0,
        (gained_language bs a ranked one s ds ss top fs xs gain more above gain_right runs only good.some
            (gained_tree bs a ranked one s ds ss top fs xs gain more good.some.0)).1 (good.some.0, good.some.1, refl),
      );
    }
      where
        gives : Every (SlotGives bs) ss
        gives = subst (λ (y : Symbol). SymbolGives bs y) top
            (every_in (λ (r : Rule). SymbolGives bs r.symbol) a.rules (top_rule a) (faces_give bs giving (a ∷ [])).0
            (top_in a one))
