-- What names, fields and operands mean, in numbers of the program: a pointer is one of its paths, and a datum one of
-- its data.
use Rattle.std.proofs.Common.{◌≡◌, ◌<◌, ◌≤◌, ℕ, zero, suc, ◌+◌, Bool, true, false, cond, nat_lt, nat_le, List, [], ◌∷◌}
use Rattle.std.proofs.Common.{◌++◌, length, map, Option, Some, None, slice_get, refl, sym, ap, ◌∙◌, subst, arith}
use Rattle.std.proofs.lemmas.Bool.{le-leb, lt-ltb}
use Rattle.fore_base.specs.Lists.{Every}
use Rattle.fore_base.specs.Shapes.{target_before, datum_before, targets_in, datums_in, targets_of, datums_of}
use Rattle.fore_base.specs.declared.limits.TheConstants.{DATUM}
use Rattle.fore_base.specs.declared.shape.Shape.{Shape}
use Rattle.c_ast.specs.declared.operands.Arrow.{Arrow}
use Rattle.c_ast.specs.declared.operands.Call.{Call}
use Rattle.c_ast.specs.declared.operands.Operand.{Operand, Operand-F, out-Operand}
use Rattle.c_ast.specs.declared.operands.Operand.TheOpen as operand
use Rattle.c_ast.specs.declared.operands.Path as tree
use Rattle.c_types.specs.Program.{var_target, field_target, target_after, has_datum, path_target, data_typed}
use Rattle.c_types.specs.declared.program.Path.{Path}
use Rattle.c_types.specs.declared.program.VarDef.{VarDef}
use Rattle.c_typing.specs.Globals.{Globals, value_in, value_of, fields_of, use_as, one_pointer_more, one_datum_more}
use Rattle.c_typing.specs.Globals.{use_in, field_use}
use Rattle.c_typing.specs.Meanings.{variable, name_meaning, meaning_of_name, field_meaning, followed, all_followed}
use Rattle.c_typing.specs.Meanings.{meaning_of_path, numerals, numeral, number_meaning, operand_meaning}
use Rattle.c_typing.specs.Meanings.{meaning_of_operand}
use Rattle.c_typing.specs.Programs.{field_kind_of, field_of, shape_of}
use Rattle.c_typing.specs.Scopes.{Var, Scope, var_in, look_up, or_zero}
use Rattle.c_typing.specs.Texts.{Text, same, number_of, one_more, joined}
use Rattle.c_typing.specs.declared.meaning.Enumerator.{Enumerator}
use Rattle.c_typing.specs.declared.meaning.FieldUse.{FieldUse}
use Rattle.c_typing.specs.declared.meaning.FieldUse.TheVariants as use_of
use Rattle.c_typing.specs.declared.meaning.Kind.{Kind}
use Rattle.c_typing.specs.declared.meaning.Kind.TheVariants.{Points, Datum as DatumKind}
use Rattle.c_typing.specs.declared.meaning.Meaning.{Meaning}
use Rattle.c_typing.specs.declared.meaning.Meaning.TheVariants.{Pointer, Datum, Known, Zero, Null, Call as CallThere}
use Rattle.c_typing.specs.declared.meaning.Meaning.TheVariants.{Broken}
use Rattle.c_typing.specs.declared.meaning.Member.{Member}
use Rattle.c_typing.specs.declared.meaning.StructDef.{StructDef}
use Rattle.c_typing.proofs.Trees.{OfOption}

-- a kind whose struct is one of n
abbrev pub GoodKind : ℕ → Kind → Type 0
GoodKind n (Points None) = ⊥
GoodKind n (Points (Some s)) = nat_lt s n ≡ true
GoodKind n DatumKind = Unit {0}

abbrev pub GoodMember : ℕ → Member → Type 0
GoodMember n m = GoodKind n m.kind

abbrev pub GoodStruct : ℕ → StructDef → Type 0
GoodStruct n s = Every (GoodMember n) s.fields

abbrev pub GoodValue : Enumerator → Type 0
GoodValue v = nat_le v.value DATUM ≡ true

-- the structs, and the values of enumerators
abbrev pub GoodGlobals : ℕ → Globals → Type 0
GoodGlobals n g = Every (GoodStruct n) g.structs × Every GoodValue g.values

-- Fields

fields_good : (n : ℕ) (ss : List StructDef) (s : ℕ) → Every (GoodStruct n) ss → Every (GoodMember n) (fields_of ss s)
fields_good n [] s all = tt
fields_good n (d ∷ ds) zero all = all.0
fields_good n (d ∷ ds) (suc s) all = fields_good n ds s all.1

targets-shapes : (ss : List StructDef) (s : ℕ) → targets_of (map shape_of ss) s
    ≡ targets_in (map field_of (fields_of ss s))
targets-shapes [] s = refl
targets-shapes (d ∷ ds) zero = refl
targets-shapes (d ∷ ds) (suc s) = targets-shapes ds s

datums-shapes : (ss : List StructDef) (s : ℕ) → datums_of (map shape_of ss) s
    ≡ datums_in (map field_of (fields_of ss s))
datums-shapes [] s = refl
datums-shapes (d ∷ ds) zero = refl
datums-shapes (d ∷ ds) (suc s) = datums-shapes ds s

-- after a pointers and b data before fields with these targets and so many data, the use is one of theirs
abbrev GoodUse : ℕ → ℕ → List ℕ → ℕ → Option FieldUse → Type 0
GoodUse a b ts d None = Unit {0}
GoodUse a b ts d (Some (use_of.Pointer number None)) = ⊥
GoodUse a b ts d (Some (use_of.Pointer number (Some s))) = (k : ℕ) × ((number ≡ a + k) × (slice_get ts k ≡ Some s))
GoodUse a b ts d (Some (use_of.Datum number)) = (k : ℕ) × ((number ≡ b + k) × (k < d))

-- with one field more in front
later : (k : Kind) (ts : List ℕ) (d a b : ℕ) (u : Option FieldUse)
    → GoodUse (one_pointer_more k a) (one_datum_more k b) ts d u
    → GoodUse a b (target_before (field_kind_of k) ts) (datum_before (field_kind_of k) d) u
later k ts d a b None good = tt
later k ts d a b (Some (use_of.Pointer number None)) good = absurd good
later (Points to) ts d a b (Some (use_of.Pointer number (Some s))) good =
    (suc good.0, (omega (arith, good.1.0), good.1.1))
later DatumKind ts d a b (Some (use_of.Pointer number (Some s))) good = good
later (Points to) ts d a b (Some (use_of.Datum number)) good = good
later DatumKind ts d a b (Some (use_of.Datum number)) good =
    (suc good.0, (omega (arith, good.1.0), omega (arith, good.1.1)))

here : (n : ℕ) (k : Kind) (ts : List ℕ) (d a b : ℕ) → GoodKind n k
    → GoodUse a b (target_before (field_kind_of k) ts) (datum_before (field_kind_of k) d) (Some (use_as k a b))
here n (Points None) ts d a b good = absurd good
here n (Points (Some s)) ts d a b good = (0, (omega (arith), refl))
here n DatumKind ts d a b good = (0, (omega (arith), omega (arith)))

use_good : (n : ℕ) (x : Text) (a b : ℕ) (ms : List Member) → Every (GoodMember n) ms
    → GoodUse a b (targets_in (map field_of ms)) (datums_in (map field_of ms)) (use_in x a b ms)
use_good n x a b [] all = tt
use_good n x a b (m ∷ ms) all =
    either (same x m.name) (use_good n x (one_pointer_more m.kind a) (one_datum_more m.kind b) ms all.1)
  where
    either : (found : Bool) → GoodUse (one_pointer_more m.kind a) (one_datum_more m.kind b)
        (targets_in (map field_of ms)) (datums_in (map field_of ms))
        (use_in x (one_pointer_more m.kind a) (one_datum_more m.kind b) ms)
        → GoodUse a b (targets_in (map field_of (m ∷ ms))) (datums_in (map field_of (m ∷ ms)))
        (cond found (Some (use_as m.kind a b)) (use_in x (one_pointer_more m.kind a) (one_datum_more m.kind b) ms))
    either true rest = here n m.kind (targets_in (map field_of ms)) (datums_in (map field_of ms)) a b all.0
    either false rest = later m.kind (targets_in (map field_of ms)) (datums_in (map field_of ms)) a b
        (use_in x (one_pointer_more m.kind a) (one_datum_more m.kind b) ms) rest

-- Numbers that are written are at most 15

pub number_below : (x : Text) (ys : List Text) → OfOption (λ k. k < length ys) (number_of x ys)
number_below x [] = tt
number_below x (y ∷ ys) = either (same x y) (number_of x ys) (number_below x ys)
  where
    raised : (o : Option ℕ) → OfOption (λ k. k < length ys) o → OfOption (λ k. k < suc (length ys)) (one_more o)
    raised None h = tt
    raised (Some k) h = omega (arith, h)

    either : (found : Bool) (o : Option ℕ) → OfOption (λ k. k < length ys) o
        → OfOption (λ k. k < suc (length ys)) (cond found (Some 0) (one_more o))
    either true o h = omega (arith)
    either false o h = raised o h

numeral_small : (x : Text) → nat_le (numeral x) DATUM ≡ true
numeral_small x = le-leb (numeral x) 15 (small (number_of x numerals) (number_below x numerals))
  where
    small : (o : Option ℕ) → OfOption (λ k. k < 16) o → or_zero o ≤ 15
    small None h = omega (arith)
    small (Some k) h = omega (arith, h)

-- What is known of meanings, in a program with these variables

module _ (g : Globals) (V : List VarDef) (D : ℕ) where
  abbrev pub shapes : List Shape
  shapes = map shape_of g.structs

  abbrev pub GoodMeaning : Meaning → Type 0
  GoodMeaning (Pointer p None) = ⊥
  GoodMeaning (Pointer p (Some s)) = path_target shapes V D p ≡ Some s
  GoodMeaning (Datum d) = data_typed shapes V D d ≡ true
  GoodMeaning (Known k) = nat_le k DATUM ≡ true
  GoodMeaning Zero = Unit {0}
  GoodMeaning Null = Unit {0}
  GoodMeaning CallThere = Unit {0}
  GoodMeaning Broken = Unit {0}

  abbrev pub GoodVar : Var → Type 0
  GoodVar v = GoodMeaning (variable v.kind v.number)

  abbrev pub GoodBlocks : List (List Var) → Type 0
  GoodBlocks blocks = Every GoodVar (joined blocks)

  var_good : (x : Text) (vs : List Var) → Every GoodVar vs → OfOption GoodVar (var_in x vs)
  var_good x [] all = tt
  var_good x (v ∷ vs) all = either (same x v.name) (var_good x vs all.1)
    where
      either : (found : Bool) → OfOption GoodVar (var_in x vs) → OfOption GoodVar (cond found (Some v) (var_in x vs))
      either true rest = all.0
      either false rest = rest

  value_good : (x : Text) (vs : List Enumerator) → Every GoodValue vs
      → OfOption (λ k. nat_le k DATUM ≡ true) (value_in x vs)
  value_good x [] all = tt
  value_good x (v ∷ vs) all = either (same x v.name) (value_good x vs all.1)
    where
      either : (found : Bool) → OfOption (λ k. nat_le k DATUM ≡ true) (value_in x vs)
          → OfOption (λ k. nat_le k DATUM ≡ true) (cond found (Some v.value) (value_in x vs))
      either true rest = all.0
      either false rest = rest

  name_good : (v : Option Var) (k : Option ℕ) → OfOption GoodVar v → OfOption (λ n. nat_le n DATUM ≡ true) k
      → GoodMeaning (name_meaning v k)
  name_good (Some v) k good value = good
  name_good None None good value = tt
  name_good None (Some k) good value = value

  target_after-snoc : (t : Option ℕ) (fs : List ℕ) (f : ℕ) → target_after shapes t (fs ++ f ∷ [])
      ≡ target_after shapes (target_after shapes t fs) (f ∷ [])
  target_after-snoc t [] f = refl
  target_after-snoc None (e ∷ fs) f = refl
  target_after-snoc (Some s) (e ∷ fs) f = target_after-snoc (field_target shapes s e) fs f

  field_good : (p : Path) (s : ℕ) (u : Option FieldUse) → path_target shapes V D p ≡ Some s
      → GoodUse 0 0 (targets_of shapes s) (datums_of shapes s) u → GoodMeaning (field_meaning p u)
  field_good p s None is good = tt
  field_good p s (Some (use_of.Pointer number None)) is good = absurd good
  field_good p s (Some (use_of.Pointer number (Some t))) is good =
      let same_number : number ≡ good.0 = omega (arith, good.1.0) in
      target_after-snoc (var_target V p.var) p.fields number ∙ ap (λ o. target_after shapes o (number ∷ [])) is
      ∙ ap (λ k. slice_get (targets_of shapes s) k) same_number ∙ good.1.1
  field_good p s (Some (use_of.Datum number)) is good =
      ap (λ o. has_datum shapes o number) is ∙ lt-ltb number (datums_of shapes s) (omega (arith, good.1.0, good.1.1))

  module _ (n : ℕ) (globals : GoodGlobals n g) where
    followed_good : (m : Meaning) (x : Text) → GoodMeaning m → GoodMeaning (followed g m x)
    followed_good (Pointer p None) x good = absurd good
    followed_good (Pointer p (Some s)) x good = field_good p s (field_use g s x) good
        (subst (λ d. GoodUse 0 0 (targets_of shapes s) d (field_use g s x)) (sym (datums-shapes g.structs s))
        (subst (λ ts. GoodUse 0 0 ts (datums_in (map field_of (fields_of g.structs s))) (field_use g s x))
        (sym (targets-shapes g.structs s))
        (use_good n x 0 0 (fields_of g.structs s) (fields_good n g.structs s globals.0))))
    followed_good _ x good = tt

    all_good : (m : Meaning) (rest : List Arrow) → GoodMeaning m → GoodMeaning (all_followed g m rest)
    all_good m [] good = good
    all_good m (a ∷ rest) good = all_good (followed g m a.field.text) rest (followed_good m a.field.text good)

    module _ (scope : Scope) (blocks : GoodBlocks scope.blocks) where
      pub path_good : (p : tree.Path) → GoodMeaning (meaning_of_path g scope p)
      path_good p = all_good (meaning_of_name g scope p.head.text) p.arrows
          (name_good (look_up scope p.head.text) (value_of g p.head.text)
          (var_good p.head.text (joined scope.blocks) blocks) (value_good p.head.text g.values globals.1))

      number_good : (k : ℕ) → nat_le k DATUM ≡ true → GoodMeaning (number_meaning k)
      number_good zero small = tt
      number_good (suc k) small = small

      layer_good : (o : Operand-F Operand Call) → GoodMeaning (operand_meaning g scope o)
      layer_good (operand.Path p) = path_good p
      layer_good (operand.Call c) = tt
      layer_good (operand.Number x) = number_good (numeral x.text) (numeral_small x.text)
      layer_good (operand.Null at) = tt
      layer_good (operand.True at) = refl
      layer_good (operand.False at) = refl

      pub operand_good : (o : Operand) → GoodMeaning (meaning_of_operand g scope o)
      operand_good o = layer_good (out-Operand o)
