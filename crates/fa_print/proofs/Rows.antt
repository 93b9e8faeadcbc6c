-- Whole texts, worked out by hand.
use Rattle.std.proofs.Common.{◌≡◌, ℕ, true, false, List, [], ◌∷◌, ◌++◌, codes, flat_map, refl, Some, None, arith}
use Rattle.std.specs.Fmt.{digits}
use Rattle.fore_base.specs.declared.shape.FieldKind.TheVariants.{Pointer, Datum as IsDatum}
use Rattle.fore_base.specs.declared.shape.Shape.{Shape}
use Rattle.fore_base.specs.declared.shape.Shapes.{Shapes}
use Rattle.fore_base.specs.declared.store.Datum.TheVariants.{Undefined, Known}
use Rattle.fore_base.specs.declared.store.Store.{Store}
use Rattle.fore_base.specs.declared.store.Value.TheVariants.{Null as NullValue, Uninit as UninitValue}
use Rattle.fore_base.specs.declared.store.Value.TheVariants.{Dangling as DanglingValue, Cell as CellValue}
use Rattle.c_types.specs.Program.{Program}
use Rattle.ta_core.specs.Auto.{Automaton, automaton}
use Rattle.ta_core.specs.declared.auto.Rule.{Rule}
use Rattle.ta_core.specs.declared.symbol.Slot.TheVariants.{Field, Link, Hook}
use Rattle.ta_core.specs.declared.symbol.Symbol.{Symbol}
use Rattle.ta_core.specs.declared.symbol.Symbol.TheVariants.{Null, Uninit, Dangling, Ref, Cell}
use Rattle.fa_core.specs.Boxes.{Boxes}
use Rattle.fa_core.specs.declared.boxes.BoxDef.{BoxDef}
use Rattle.fa_core.specs.declared.forest.Forest.{Forest}
use Rattle.fa_core.specs.declared.forest.Target.TheVariants.{At, Null as NullTarget, Uninit as UninitTarget}
use Rattle.fa_core.specs.declared.forest.Target.TheVariants.{Dangling as DanglingTarget}
use Rattle.fa_lines.specs.declared.line.Term.TheVariants.{Null as NoTerm}
use Rattle.fa_written.specs.declared.draft.RuleDraft.{RuleDraft}
use Rattle.fa_print.specs.Lines.{by_state}
use Rattle.fa_print.specs.Returned.{AreInOrder}
use Rattle.fa_print.specs.Texts.{forest_text, box_text, store_text}

-- lines, each with its newline
abbrev lines : List (List ℕ) → List ℕ
lines ls = flat_map (λ l. l ++ 10 ∷ []) ls

abbrev rule : ℕ → Symbol → List ℕ → Rule
rule q x qs = record { state = q; symbol = x; children = qs }

-- struct cell { int key; struct cell *next; enum color hue; struct cell *prev; }
abbrev cell : Shape
cell = record {
  name = codes "cell";
  fields = record { name = codes "key"; kind = IsDatum } ∷ record { name = codes "next"; kind = Pointer 0 }
      ∷ record { name = codes "hue"; kind = IsDatum } ∷ record { name = codes "prev"; kind = Pointer 0 } ∷ [];
}

-- struct node { struct node *next; struct node *prev; }
abbrev node : Shape
node = record {
  name = codes "node";
  fields = record { name = codes "next"; kind = Pointer 1 } ∷ record { name = codes "prev"; kind = Pointer 1 } ∷ [];
}

-- struct sn { struct sn *n1; struct sn *n2; }
abbrev skip : Shape
skip = record {
  name = codes "sn";
  fields = record { name = codes "n1"; kind = Pointer 2 } ∷ record { name = codes "n2"; kind = Pointer 2 } ∷ [];
}

-- Boxes: dll, which has an output, seg, whose inside has a list of any length, and ring, which has none

-- root 0: a cell of struct node whose next is root 1; root 1: one whose prev is root 0
abbrev dll : BoxDef
dll = record {
  name = codes "dll";
  face = record { input = 1; output = Some 1; gives_in = 0 ∷ []; gives_out = 1 ∷ []; back = true };
  inside = record {
    autos = automaton 2 (0 ∷ []) (rule 0 (Cell 1 [] (Field 0 ∷ [])) (1 ∷ []) ∷ rule 1 (Ref 1) [] ∷ [])
        ∷ automaton 2 (0 ∷ []) (rule 0 (Cell 1 [] (Field 1 ∷ [])) (1 ∷ []) ∷ rule 1 (Ref 0) [] ∷ []) ∷ [];
    vars = [];
    data_vars = [];
  };
}

abbrev seg : BoxDef
seg = record {
  name = codes "seg";
  face = record { input = 2; output = Some 2; gives_in = 0 ∷ 1 ∷ []; gives_out = []; back = false };
  inside = record {
    autos = automaton 4 (0 ∷ []) (rule 0 (Cell 2 [] (Field 0 ∷ Field 1 ∷ [])) (1 ∷ 2 ∷ []) ∷ rule 1 (Ref 1) []
        ∷ rule 1 (Cell 2 [] (Field 0 ∷ Field 1 ∷ [])) (1 ∷ 3 ∷ []) ∷ rule 2 (Ref 1) [] ∷ rule 3 Null [] ∷ [])
        ∷ automaton 1 (0 ∷ []) (rule 0 (Cell 2 [] []) [] ∷ []) ∷ [];
    vars = [];
    data_vars = [];
  };
}

-- a cell from which next and prev lead to an inner cell, which leads back
abbrev ring : BoxDef
ring = record {
  name = codes "ring";
  face = record { input = 0; output = None; gives_in = 0 ∷ 1 ∷ []; gives_out = []; back = false };
  inside = record {
    autos = automaton 2 (1 ∷ []) (rule 1 (Cell 0 [] (Field 0 ∷ Field 1 ∷ [])) (0 ∷ 0 ∷ []) ∷ rule 0 (Ref 1) [] ∷ [])
        ∷ automaton 2 (0 ∷ [])
        (rule 0 (Cell 0 (Known 12 ∷ Undefined ∷ []) (Field 0 ∷ Field 1 ∷ [])) (1 ∷ 1 ∷ []) ∷ rule 1 (Ref 0) [] ∷ [])
        ∷ [];
    vars = [];
    data_vars = [];
  };
}

abbrev shapes : Shapes
shapes = record { structs = cell ∷ node ∷ skip ∷ [] }

abbrev table : Boxes
table = record {
  face = record { shapes = shapes; boxes = dll.face ∷ seg.face ∷ ring.face ∷ [] };
  defs = dll ∷ seg ∷ ring ∷ [];
}

dll_text : box_text table dll ≡ lines (codes "box dll in node out node" ∷ codes "root 0 s0" ∷ codes "s0 = node(next=s1)"
    ∷ codes "s1 = ref 1" ∷ codes "root 1 s0" ∷ codes "s0 = node(prev=s1)" ∷ codes "s1 = ref 0" ∷ codes "end" ∷ [])
unfolding digits
dll_text = refl

seg_text : box_text table seg ≡ lines (codes "box seg in sn out sn" ∷ codes "root 0 s0" ∷ codes "s0 = sn(n1=s1,n2=s2)"
    ∷ codes "s1 = ref 1" ∷ codes "s1 = sn(n1=s1,n2=s3)" ∷ codes "s2 = ref 1" ∷ codes "s3 = null" ∷ codes "root 1 s0"
    ∷ codes "s0 = sn()" ∷ codes "end" ∷ [])
unfolding digits
seg_text = refl

-- rules in order of state; no output; no data at the port, and data at the inner cell
ring_text : box_text table ring ≡ lines (codes "box ring in cell" ∷ codes "root 0 s1" ∷ codes "s0 = ref 1"
    ∷ codes "s1 = cell(next=s0,prev=s0)" ∷ codes "root 1 s0" ∷ codes "s0 = cell[key=12,hue=undef](next=s1,prev=s1)"
    ∷ codes "s1 = ref 0" ∷ codes "end" ∷ [])
unfolding digits
ring_text = refl

-- A forest: two pointer variables of one name, one that is not initialised, and data, of an enumeration too.

abbrev program : Program
program = record {
  shapes = shapes;
  vars = record { name = codes "x"; shape = 0 } ∷ record { name = codes "y"; shape = 0 }
      ∷ record { name = codes "x"; shape = 1 } ∷ [];
  data_vars = codes "hue" ∷ codes "key" ∷ [];
  funcs = [];
  body = [];
}

-- the rules of state 2 are kept in front of those of state 1, which are kept apart
abbrev first : Automaton
first = automaton 4 (2 ∷ 3 ∷ [])
    (rule 2 (Cell 0 (Known 3 ∷ Known 0 ∷ []) (Hook 2 ∷ [])) [] ∷ rule 1 Uninit []
    ∷ rule 2 (Cell 0 (Known 15 ∷ Undefined ∷ []) (Field 0 ∷ Field 1 ∷ [])) (1 ∷ 0 ∷ []) ∷ rule 0 Null []
    ∷ rule 1 Dangling [] ∷ rule 3 (Cell 1 [] (Link 0 ∷ Field 1 ∷ [])) (0 ∷ 1 ∷ []) ∷ [])

abbrev second : Automaton
second = automaton 1 (0 ∷ []) (rule 0 (Cell 2 [] (Link 1 ∷ [])) (0 ∷ []) ∷ rule 0 (Ref 1) [] ∷ [])

abbrev forest : Forest
forest = record {
  autos = first ∷ second ∷ [];
  vars = At 1 ∷ UninitTarget ∷ NullTarget ∷ UninitTarget ∷ DanglingTarget ∷ [];
  data_vars = Known 1 ∷ Undefined ∷ Known 10 ∷ Undefined ∷ [];
}

in_order : by_state second.rules 0 1 ≡ second.rules
in_order = refl

whole_forest : forest_text table program forest ≡ lines (codes "forest" ∷ codes "var 0 x ref 1" ∷ codes "var 2 x null"
    ∷ codes "var 4 $1 dangling" ∷ codes "data 0 hue 1" ∷ codes "data 2 $0 10" ∷ codes "root 0 s2 s3" ∷ codes "s0 = null"
    ∷ codes "s1 = uninit" ∷ codes "s1 = dangling" ∷ codes "s2 = cell[key=3,hue=0](@ring)"
    ∷ codes "s2 = cell[key=15,hue=undef](next=s1,prev=s0)" ∷ codes "s3 = node(@dll=s0,prev=s1)" ∷ codes "root 1 s0"
    ∷ codes "s0 = sn(@seg=s0)" ∷ codes "s0 = ref 1" ∷ codes "end" ∷ [])
unfolding digits
whole_forest = refl

-- nothing but the two lines
no_forest : forest_text table program (record { autos = []; vars = []; data_vars = [] })
    ≡ lines (codes "forest" ∷ codes "end" ∷ [])
no_forest = refl

-- Stores

abbrev store : Store
store = record {
  vars = CellValue 2 ∷ DanglingValue ∷ UninitValue ∷ NullValue ∷ UninitValue ∷ [];
  data_vars = Known 0 ∷ Undefined ∷ Undefined ∷ Known 15 ∷ [];
  cells = record { number = 2; shape = 0; datums = Known 7 ∷ Undefined ∷ []; fields = CellValue 11 ∷ NullValue ∷ [] }
      ∷ record { number = 11; shape = 1; datums = []; fields = UninitValue ∷ DanglingValue ∷ [] } ∷ [];
  next = 12;
}

whole_store : store_text program store ≡ lines (codes "store" ∷ codes "var 0 x cell 2" ∷ codes "var 1 y dangling"
    ∷ codes "var 3 $0 null" ∷ codes "data 0 hue 0" ∷ codes "data 3 $1 15"
    ∷ codes "cell 2 cell[key=7,hue=undef](next=cell 11,prev=null)" ∷ codes "cell 11 node(next=uninit,prev=dangling)"
    ∷ codes "end" ∷ [])
unfolding digits
whole_store = refl

-- Rules in order of state

abbrev leaf_rule : ℕ → RuleDraft
leaf_rule q = record { line = 3; state = q; term = NoTerm }

some_in_order : AreInOrder (leaf_rule 0 ∷ leaf_rule 2 ∷ leaf_rule 2 ∷ leaf_rule 7 ∷ [])
some_in_order = (omega arith, (omega arith, (omega arith, tt)))

out_of_order : AreInOrder (leaf_rule 0 ∷ leaf_rule 2 ∷ leaf_rule 1 ∷ []) → ⊥
out_of_order h = omega (arith, h.1.0)
