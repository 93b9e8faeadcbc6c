-- The fields that a box's ports cover, and the ports with them.
use Rattle.std.proofs.Common.{◌≡◌, ◌<◌, ℕ, List, [], ◌∷◌, refl, sym, ap, ap₂, subst, Option, Some, None, slice_get}
use Rattle.std.proofs.Common.{IfSome, ◌∙◌}
use Rattle.fore_base.specs.Lists.{Every}
use Rattle.fore_base.proofs.ListLemmas.{every_mapped}
use Rattle.ta_core.specs.Auto.{Automaton}
use Rattle.fa_core.specs.Folding.{ArePortFields, Ports, PortsAre}
use Rattle.fa_core.specs.declared.boxes.BoxDef.{BoxDef}
use Rattle.fa_core.specs.declared.faces.BoxFace.{BoxFace}
use Rattle.fa_part.specs.Ports.{AreFieldsAt, AreFieldsOf, ArePortsAt, face_shapes, output_shapes, ports_by, ports_of}
use Rattle.fa_part.specs.Ports.{shapes_of}
use Rattle.fa_part.specs.Sites.{OutputFits}
use Rattle.fa_part.specs.declared.ports.Port.{Port}
use Rattle.fa_part.specs.declared.ports.PortFields.{PortFields}
use Rattle.fa_part.specs.inner.PortCells.{IsPortFor}

-- the component is there
component_of : (bs : List BoxFace) (o : Option Automaton) (fs : List ℕ) → AreFieldsAt bs o fs
    → (a : Automaton) × (o ≡ Some a) × ArePortFields bs a fs
component_of bs None fs h = absurd h
component_of bs (Some a) fs h = (a, refl, h)

pub fields_there : (bs : List BoxFace) (o : Option Automaton) (a : Automaton) (fs : List ℕ) → o ≡ Some a
    → ArePortFields bs a fs → AreFieldsAt bs o fs
fields_there bs o a fs e h = subst (λ (z : Option Automaton). AreFieldsAt bs z fs) (sym e) h

-- the ports with the fields of the box are those for the box
ports_are : (bs : List BoxFace) (b : BoxDef) (x : PortFields) (i : ℕ) (out : Option ℕ) → OutputFits b.face.output out
    → AreFieldsOf bs b x → PortsAre bs b i out (ports_by x i out) (face_shapes b.face)
ports_are bs b x i out fits h = by b.face.output refl out fits h.output
  where
    by : (own : Option ℕ) → b.face.output ≡ own → (o : Option ℕ) → OutputFits own o
        → IfSome own (λ t. AreFieldsAt bs (slice_get b.inside.autos 1) x.output)
        → PortsAre bs b i o (ports_by x i o) (face_shapes b.face)
    by None e None f k =
        let w = component_of bs (slice_get b.inside.autos 0) x.input h.input in
        (w.0, x.input, w.1, w.2, refl, e, ap (λ (z : Option ℕ). b.face.input ∷ output_shapes z) e)
    by None e (Some j) f k = absurd f
    by (Some t) e None f k = absurd f
    by (Some t) e (Some j) f k =
        let w = component_of bs (slice_get b.inside.autos 0) x.input h.input in
        let v = component_of bs (slice_get b.inside.autos 1) x.output k in (
          w.0,
          v.0,
          x.input,
          x.output,
          t,
          w.1,
          v.1,
          w.2,
          v.2,
          refl,
          e,
          ap (λ (z : Option ℕ). b.face.input ∷ output_shapes z) e,
        )

-- so are those that are made
pub ports_made : (bs : List BoxFace) (b : BoxDef) (x : PortFields) (i : ℕ) (out : Option ℕ) (ps : List Port)
    → OutputFits b.face.output out → AreFieldsOf bs b x → ArePortsAt b x i out ps
    → PortsAre bs b i out (ports_of ps) (shapes_of ps)
ports_made bs b x i out ps fits h made =
    subst (λ (us : Ports). PortsAre bs b i out us (shapes_of ps)) (sym made.ports)
    (subst (λ (ss : List ℕ). PortsAre bs b i out (ports_by x i out) ss) (sym made.shapes)
    (ports_are bs b x i out fits h))

-- their roots are there
pub roots_there : (b : BoxDef) (x : PortFields) (i : ℕ) (out : Option ℕ) (ps : List Port) (n : ℕ)
    → ArePortsAt b x i out ps → i < n → IfSome out (λ j. j < n) → Every (λ (p : Port). p.root < n) ps
roots_there b x i out ps n made l o =
    every_mapped (λ (p : Port). (p.root, p.fields)) (λ p. p.0 < n) ps
    (subst (λ (us : Ports). Every (λ p. p.0 < n) us) (sym made.ports) (by out o))
  where
    by : (q : Option ℕ) → IfSome q (λ j. j < n) → Every (λ p. p.0 < n) (ports_by x i q)
    by None k = (l, tt)
    by (Some j) k = (l, (k, tt))

-- One port, and two.

pub one_port : (b : BoxDef) (x : PortFields) (i : ℕ) (p : Port) → b.face.output ≡ None
    → IsPortFor i b.face.input x.input p → ArePortsAt b x i None (p ∷ [])
one_port b x i p none h = record {
  ports = ap₂ (λ (r : ℕ) (fs : List ℕ). (r, fs) ∷ []) h.root h.fields;
  shapes = ap₂ (λ (s : ℕ) (ss : List ℕ). s ∷ ss) h.shape_is (sym (ap output_shapes none));
}

pub two_ports : (b : BoxDef) (x : PortFields) (i j t : ℕ) (p q : Port) → b.face.output ≡ Some t
    → IsPortFor i b.face.input x.input p → IsPortFor j t x.output q → ArePortsAt b x i (Some j) (p ∷ (q ∷ []))
two_ports b x i j t p q some h k = record {
  ports = ap₂ (λ (u v : ℕ × List ℕ). u ∷ (v ∷ []))
      (ap₂ (λ (r : ℕ) (fs : List ℕ). (r, fs)) h.root h.fields)
      (ap₂ (λ (r : ℕ) (fs : List ℕ). (r, fs)) k.root k.fields);
  shapes = ap₂ (λ (s : ℕ) (ss : List ℕ). s ∷ ss) h.shape_is
      (ap (λ (s : ℕ). s ∷ []) k.shape_is ∙ sym (ap output_shapes some));
}
