-- Members of sound forests are stores of the program.
use Rattle.std.proofs.Common.{inr, List, [], ◌∷◌, length, ap, subst, ◌∙◌}
use Rattle.std.proofs.lemmas.List.{length-map}
use Rattle.fore_base.specs.Lists.{Every}
use Rattle.fore_base.specs.declared.shape.Shape.{Shape}
use Rattle.fore_base.specs.declared.shape.Shapes.{Shapes}
use Rattle.fore_base.specs.declared.store.CellRec.{CellRec}
use Rattle.fore_base.specs.declared.store.Store.{Store}
use Rattle.fore_base.proofs.ListLemmas.{every_parts}
use Rattle.c_types.specs.Program.{Program}
use Rattle.ta_core.specs.Auto.{Automaton}
use Rattle.fa_core.specs.declared.faces.BoxFace.{BoxFace}
use Rattle.fa_core.specs.declared.faces.Face.{Face}
use Rattle.fa_core.specs.Boxes.{Boxes, IsBoxTable, faces_of}
use Rattle.fa_core.specs.Dressed.{roots_of, value_in}
use Rattle.fa_core.specs.Filled.{RulesFit}
use Rattle.fa_core.specs.Member.{HasItsFields, store_facts, points}
use Rattle.fa_core.specs.Rearranged.{Rearranged, empty, keep, swap, chain}
use Rattle.fa_sound.specs.Soundness.{SoundForest}
use Rattle.fa_print.specs.Conditions.{HasStruct, IsPrintedStore}
use Rattle.fa_print.proofs.HeadLemmas.{HeadFits, HeadsFit, heads_fit}

every_moved : {X : Type 0} (P : X → Type 0) {xs ys : List X} → Rearranged xs ys → Every P xs → Every P ys
every_moved P empty h = tt
every_moved P (keep x r) h = (h.0, every_moved P r h.1)
every_moved P (swap x y xs) h = (h.1.0, (h.0, h.1.1))
every_moved P (chain a b) h = every_moved P b (every_moved P a h)

-- cells of which the facts and the numbers of fields are right
cells_fit : (hs : List Shape) (cs : List CellRec) → Every (HasItsFields hs) cs → HeadsFit hs (store_facts cs)
    → Every (HasStruct hs) cs
cells_fit hs [] f h = tt
cells_fit hs (c ∷ cs) f h = (
  record { shape = h.0.0; fields = f.0; datums = h.0.1 },
  cells_fit hs cs f.1 (every_parts (HeadFits hs) (points c.number 0 c.fields) (store_facts cs) h.1).1,
)

-- what is said of a table's face, in which the boxes' faces stand
rules_here : (t : Boxes) → IsBoxTable t → (autos : List Automaton) → Every (RulesFit t.face) autos
    → Every (RulesFit (record { shapes = t.face.shapes; boxes = faces_of t.defs })) autos
rules_here t table autos h = subst
    (λ (bs : List BoxFace). Every (RulesFit (record { shapes = t.face.shapes; boxes = bs })) autos) table.faces h

pub member_printed : (t : Boxes) (p : Program) (F : SoundForest) (s : Store) → IsPrintedStore t p F s
member_printed t p F s table of sound st =
    record {
      proper = st.1.proper;
      vars = inr (
        ap length st.1.vars ∙ length-map F.forest.vars (value_in (roots_of st.0)) ∙ of.vars.0,
        ap length st.1.data_vars ∙ of.vars.1,
      );
      cells = subst (λ (x : Shapes). Every (HasStruct x.structs) s.cells) of.structs
          (cells_fit t.face.shapes.structs s.cells st.1.fields
          (every_moved (HeadFits t.face.shapes.structs) st.1.same_facts
          (heads_fit t.face.shapes t.defs table.sound F.forest.autos
          (rules_here t table F.forest.autos
          (subst (λ (x : Face). Every (RulesFit x) F.forest.autos) of.face sound.well_formed.filled.rules))
          st.0 st.1.of (roots_of st.0))));
    }
