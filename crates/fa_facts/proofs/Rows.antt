-- Worked values: the facts of a cell 1 of a struct with two pointer fields, and of a cell 2 of a struct with one.
use Rattle.std.proofs.Common.{◌≡◌, inl, inr, ℕ, List, [], ◌∷◌, refl, arith}
use Rattle.fore_base.specs.Lists.{Every}
use Rattle.fore_base.specs.declared.shape.Shape.{Shape}
use Rattle.fore_base.specs.declared.shape.FieldKind.TheVariants.{Pointer, Datum}
use Rattle.fore_base.specs.declared.store.Value.TheVariants.{Null, Cell}
use Rattle.fa_core.specs.Dressed.{Fact, Head, Points}
use Rattle.fa_facts.specs.Fields.{fields_at, fields_owed, FactNamed}

abbrev hs : List Shape
hs =
    record {
      name = [];
      fields = record { name = []; kind = Pointer 0 } ∷ record { name = []; kind = Datum }
          ∷ record { name = []; kind = Pointer 1 } ∷ [];
    }
    ∷ record { name = []; fields = record { name = []; kind = Pointer 1 } ∷ [] } ∷ []

-- cell 1 has its fields 0 and 1, the second from an edge that is written first; cell 2 has its field 0
abbrev two : List Fact
two = Points 1 1 (Cell 2) ∷ Head 1 0 [] ∷ Points 1 0 Null ∷ Head 2 1 [] ∷ Points 2 0 (Cell 1) ∷ []

given_to_1 : fields_at 1 two ≡ 1 ∷ 0 ∷ []
given_to_1 = refl

given_to_2 : fields_at 2 two ≡ 0 ∷ []
given_to_2 = refl

-- the datum between the pointer fields is not counted
owed_to_1 : fields_owed hs 1 two ≡ 0 ∷ 1 ∷ []
owed_to_1 = refl

owed_to_2 : fields_owed hs 2 two ≡ 0 ∷ []
owed_to_2 = refl

-- a number that no cell has is owed and given nothing
owed_to_3 : fields_owed hs 3 two ≡ []
owed_to_3 = refl

-- two heads of one number are owed the fields of both
owed_twice : fields_owed hs 1 (Head 1 0 [] ∷ Head 1 1 [] ∷ []) ≡ 0 ∷ 1 ∷ 0 ∷ []
owed_twice = refl

-- a pointer to a cell that is not there
named : Every (FactNamed (1 ∷ 2 ∷ [])) two
named = (inr (inl refl), (tt, (tt, (tt, (inl refl, tt)))))

not_named : FactNamed (1 ∷ []) (Points 1 1 (Cell 2)) → ⊥
not_named h = elim h [ inl e ↦ not_one e | inr h ↦ h ]
  where
    not_one : (let a : ℕ = 2 in let b : ℕ = 1 in a ≡ b) → ⊥
    not_one e = omega (arith, e)
