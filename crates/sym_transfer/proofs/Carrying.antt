-- Steps that are the same for all members, and steps that change variables alone.
use Rattle.std.proofs.Common.{◌≡◌, ◌∙◌, ℕ, List, map, slice_set, refl, sym, ap}
use Rattle.fore_base.specs.Stores.{var_of, set_var}
use Rattle.fore_base.specs.declared.store.CellRec.{CellRec}
use Rattle.fore_base.specs.declared.store.Datum.{Datum}
use Rattle.fore_base.specs.declared.store.Store.{Store}
use Rattle.fore_base.specs.declared.store.Value.{Value}
use Rattle.fa_core.specs.declared.boxes.BoxDef.{BoxDef}
use Rattle.fa_core.specs.declared.faces.BoxFace.{BoxFace}
use Rattle.fa_core.specs.declared.faces.Face.{Face}
use Rattle.fa_core.specs.declared.forest.Forest.{Forest}
use Rattle.fa_core.specs.declared.forest.Target.{Target}
use Rattle.fa_core.specs.declared.forest.Target.TheVariants.{Uninit}
use Rattle.fa_core.specs.Dressed.{Nodes, roots_of, value_in}
use Rattle.fa_core.specs.Member.{OfForest, Stands}
use Rattle.c_cfg.specs.declared.graph.DataArg.{DataArg}
use Rattle.c_cfg.specs.declared.graph.DataArg.TheVariants.{Var as ArgVar, Known as ArgKnown}
use Rattle.c_cfg.specs.declared.graph.Instr.{Instr}
use Rattle.c_cfg.specs.declared.graph.PtrArg.{PtrArg}
use Rattle.c_cfg.specs.declared.graph.PtrArg.TheVariants.{Var as PtrVar, Null as PtrNull}
use Rattle.c_cfg.specs.Edges.{Pass, Passed, raw_step, arg_of, data_arg_of}
use Rattle.sym_core.specs.Carried.{Carries, AllGo}
use Rattle.sym_core.specs.Explicit.{target_at}
use Rattle.sym_core.specs.Kept.{KeepsEdges}
use Rattle.sym_transfer.specs.inner.Targets.{target_of_arg, datum_of_arg, with_vars}
use Rattle.sym_transfer.proofs.Places.{get_mapped, set_mapped}
use Rattle.sym_transfer.proofs.Standing.{IsHeap, store_by, heap_of, is_by, stands_by, alike_equal}

-- the same dressed forest has the same box edges
pub edges_same : (bs : List BoxFace) (i : Instr) (s : Store) (d : Nodes) → KeepsEdges bs i s (λ n. n) d d
edges_same bs i s d = λ c j x k b l ex. (c, j, refl, (x, k, l))

-- What the variables of a member are.

pub var_is : (d : Nodes) (F : Forest) (cs : List CellRec) (next x : ℕ) → var_of (store_by d F cs next) x
    ≡ value_in (roots_of d) (target_at F x)
var_is d F cs next x = get_mapped (value_in (roots_of d)) F.vars x Uninit

pub arg_is : (d : Nodes) (F : Forest) (cs : List CellRec) (next : ℕ) (a : PtrArg) → arg_of (store_by d F cs next) a
    ≡ value_in (roots_of d) (target_of_arg F a)
arg_is d F cs next (PtrVar x) = var_is d F cs next x
arg_is d F cs next PtrNull = refl

pub data_arg_is : (d : Nodes) (F : Forest) (cs : List CellRec) (next : ℕ) (a : DataArg)
    → data_arg_of (store_by d F cs next) a ≡ datum_of_arg F a
data_arg_is d F cs next (ArgVar x) = refl
data_arg_is d F cs next (ArgKnown k) = refl

pub set_is : (d : Nodes) (F : Forest) (cs : List CellRec) (next x : ℕ) (t : Target) (v : Value)
    → v ≡ value_in (roots_of d) t → set_var (store_by d F cs next) x v
    ≡ store_by d (with_vars F (slice_set F.vars x t) F.data_vars) cs next
set_is d F cs next x t v e =
    ap (λ (w : List Value). record { vars = w; data_vars = F.data_vars; cells = cs; next = next })
    (ap (λ (w : Value). slice_set (map (value_in (roots_of d)) F.vars) x w) e
    ∙ set_mapped (value_in (roots_of d)) F.vars x t)

module _ (face : Face) (T : List BoxDef) (H : Forest) where
  -- a step that is the same for all members
  pub all_go : (i : Instr) (x : ℕ) (p : Pass)
      → ((d : Nodes) (cs : List CellRec) (next : ℕ) → OfForest T H d → IsHeap face.shapes.structs d cs next
      → raw_step face.shapes.structs i x (store_by d H cs next) ≡ p) → AllGo face T H i x p
  all_go i x p w s (d, h) = ap (raw_step face.shapes.structs i x) (is_by face.shapes.structs T H d s h)
      ∙ w d s.cells s.next h.of (heap_of face.shapes.structs T H d s h)

  -- a step that changes variables alone: the trees and the cells stay
  pub carries_vars : (i : Instr) (x : ℕ) (vs : List Target) (ds : List Datum)
      → ((d : Nodes) (cs : List CellRec) (next : ℕ) → OfForest T H d → IsHeap face.shapes.structs d cs next
      → raw_step face.shapes.structs i x (store_by d H cs next) ≡ Passed (store_by d (with_vars H vs ds) cs next))
      → Carries face T H (with_vars H vs ds) i x
  carries_vars i x vs ds w =
      let hs = face.shapes.structs in
      let R = with_vars H vs ds in
      record {
        forth = λ s m.
            let h = heap_of hs T H m.0 s m.1 in
            record {
              next = store_by m.0 R s.cells s.next;
              goes = all_step s m;
              stands = (m.0, stands_by hs T R m.0 s.cells s.next m.1.of h);
            };
        back = λ d u m.
            let h = heap_of hs T R d u m in
            record {
              dressed = d;
              was = store_by d H u.cells u.next;
              goes_to = store_by d R u.cells u.next;
              stands = stands_by hs T H d u.cells u.next m.of h;
              goes = w d u.cells u.next m.of h;
              into = (d, stands_by hs T R d u.cells u.next m.of h);
              alike = alike_equal (store_by d R u.cells u.next) u (sym (is_by hs T R d u m));
              edges = edges_same face.boxes i (store_by d H u.cells u.next) d;
            };
      }
    where
      all_step : (s : Store) (m : Stands face.shapes.structs T H s) → raw_step face.shapes.structs i x s
          ≡ Passed (store_by m.0 (with_vars H vs ds) s.cells s.next)
      all_step s m = ap (raw_step face.shapes.structs i x) (is_by face.shapes.structs T H m.0 s m.1)
          ∙ w m.0 s.cells s.next m.1.of (heap_of face.shapes.structs T H m.0 s m.1)
