-- What a load gives: the pointer in its field, and not that in the field before. The cell of the first variable has a
-- null pointer and then a dangling one.
use Rattle.std.proofs.Common.{◌≡◌, ℕ, List, [], ◌∷◌, refl, ap, ◌∙◌, arith}
use Rattle.fore_base.specs.declared.shape.FieldKind.TheVariants.{Pointer}
use Rattle.fore_base.specs.declared.shape.Shape.{Shape}
use Rattle.fore_base.specs.declared.store.Store.{Store}
use Rattle.fore_base.specs.declared.store.Value.{Value}
use Rattle.fore_base.specs.declared.store.Value.TheVariants.{Null, Uninit, Dangling, Cell}
use Rattle.fa_core.specs.declared.faces.Face.{Face}
use Rattle.fa_core.specs.declared.forest.Forest.{Forest}
use Rattle.fa_core.specs.declared.forest.Target.TheVariants.{Null as NullTarget, At}
use Rattle.ta_core.specs.Auto.{Automaton}
use Rattle.c_cfg.specs.Edges.{Pass, Passed, raw_step}
use Rattle.c_cfg.specs.declared.graph.Instr.TheVariants.{LoadPtr}
use Rattle.sym_core.specs.Carried.{GoesInto}

-- a struct with two pointers to itself
abbrev structs : List Shape
structs = record {
  name = [];
  fields = record { name = []; kind = Pointer 0 } ∷ record { name = []; kind = Pointer 0 } ∷ [];
} ∷ []

abbrev face : Face
face = record { shapes = record { structs = structs }; boxes = [] }

abbrev holding : Value → Store
holding v = record {
  vars = Cell 1 ∷ v ∷ [];
  data_vars = [];
  cells = record { number = 1; shape = 0; datums = []; fields = Null ∷ Dangling ∷ [] } ∷ [];
  next = 2;
}

first_field : raw_step structs (LoadPtr 1 0 0) 0 (holding Uninit) ≡ Passed (holding Null)
first_field = refl

second_field : raw_step structs (LoadPtr 1 0 1) 0 (holding Uninit) ≡ Passed (holding Dangling)
second_field = refl

-- Kinds, to tell values apart.

abbrev kind : Value → ℕ
kind Null = 0
kind Dangling = 1
kind v = 2

abbrev second_kind : List Value → ℕ
second_kind [] = 9
second_kind (v ∷ []) = 9
second_kind (v ∷ w ∷ ws) = kind w

abbrev passed : Pass → Store
passed (Passed s) = s
passed p = holding Uninit

-- no forest in which the variable is null has what the load of the second field makes of the store
module _ (autos : List Automaton) where
  abbrev of_the_field_before : Forest
  of_the_field_before = record { autos = autos; vars = At 0 ∷ NullTarget ∷ []; data_vars = [] }

  not_the_field_before : GoesInto face [] of_the_field_before (LoadPtr 1 0 1) 0 (holding Uninit) → ⊥
  not_the_field_before h =
      let z : 1 ≡ 0 = ap (λ (p : Pass). second_kind (passed p).vars) h.goes ∙ ap second_kind h.stands.1.vars in
      omega (arith, z)
