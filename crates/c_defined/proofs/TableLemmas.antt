-- What is found in the tables of a file.
use Rattle.std.proofs.Common.{◌≡◌, ℕ, zero, suc, cond, Bool, true, false, List, [], ◌∷◌, ◌++◌, map, slice_get, Some}
use Rattle.std.proofs.Common.{None, refl, sym, ap, ◌∙◌}
use Rattle.std.proofs.lemmas.List.{map-append}
use Rattle.fore_base.specs.Lists.{IsIn, IsDistinct}
use Rattle.c_ast.specs.declared.items.Item.{Item}
use Rattle.c_typing.specs.Globals.{Definition, defined_name, fields_of, itself, struct_definitions, struct_name}
use Rattle.c_typing.specs.Globals.{struct_of, structs_in, value_in, value_name}
use Rattle.c_typing.specs.Texts.{Text, each_of, firsts, has, same}
use Rattle.c_typing.specs.declared.meaning.Enumerator.{Enumerator}
use Rattle.c_typing.specs.declared.meaning.StructDef.{StructDef}
use Rattle.c_defined.specs.inner.Definitions.{names_in}
use Rattle.c_defined.specs.inner.Directories.{look_up}
use Rattle.c_defined.proofs.DirectoryLemmas.{look_up_at, look_up_none}

pub fields_at : (structs : List StructDef) (n : ℕ) (s : StructDef) → slice_get structs n ≡ Some s → fields_of structs n
    ≡ s.fields
fields_at [] n s h = cc
fields_at (t ∷ ts) zero s h = cc
fields_at (t ∷ ts) (suc n) s h = fields_at ts n s h

pub fields_none : (structs : List StructDef) (n : ℕ) → slice_get structs n ≡ None → fields_of structs n ≡ []
fields_none [] n h = refl
fields_none (t ∷ ts) zero h = cc
fields_none (t ∷ ts) (suc n) h = fields_none ts n h

number_in : Enumerator → ℕ
number_in v = v.value

by_look_up : (x : Text) (vs : List Enumerator) → value_in x vs ≡ look_up x (map value_name vs) (map number_in vs)
unfolding number_in
by_look_up x [] = refl
by_look_up x (v ∷ vs) = ap (λ o. cond (same x v.name) (Some v.value) o) (by_look_up x vs)

get_number : (vs : List Enumerator) (i : ℕ) (v : Enumerator) → slice_get vs i ≡ Some v → slice_get (map number_in vs) i
    ≡ Some v.value
unfolding number_in
get_number [] i v h = cc
get_number (w ∷ ws) zero v h = let e : w ≡ v = cc in ap (λ u. Some (number_in u)) e
get_number (w ∷ ws) (suc i) v h = get_number ws i v h

get_none : (vs : List Enumerator) (i : ℕ) → slice_get vs i ≡ None → slice_get (map number_in vs) i ≡ None
get_none [] i h = refl
get_none (w ∷ ws) zero h = cc
get_none (w ∷ ws) (suc i) h = get_none ws i h

pub value_at : (x : Text) (vs : List Enumerator) (i : ℕ) (v : Enumerator) → IsDistinct (map value_name vs)
    → slice_get (map value_name vs) i ≡ Some x → slice_get vs i ≡ Some v →
    value_in x vs ≡ Some v.value
value_at x vs i v d h at = by_look_up x vs ∙ look_up_at x (map value_name vs) (map number_in vs) i d h
    ∙ get_number vs i v at

pub value_past : (x : Text) (vs : List Enumerator) (i : ℕ) → IsDistinct (map value_name vs)
    → slice_get (map value_name vs) i ≡ Some x → slice_get vs i ≡ None →
    value_in x vs ≡ None
value_past x vs i d h at = by_look_up x vs ∙ look_up_at x (map value_name vs) (map number_in vs) i d h
    ∙ get_none vs i at

pub value_none : (x : Text) (vs : List Enumerator) → (IsIn x (map value_name vs) → ⊥) → value_in x vs ≡ None
value_none x vs h = by_look_up x vs ∙ look_up_none x (map value_name vs) (map number_in vs) h

-- first definitions by name

firsts_named : {X : Type 0} (name : X → Text) (seen : List Text) (xs : List X) → firsts itself seen (map name xs)
    ≡ map name (firsts name seen xs)
firsts_named name seen [] = refl
firsts_named {X} name seen (x ∷ xs) =
    by (has (name x) seen) _ _ _ _ (firsts_named name seen xs) (firsts_named name (seen ++ name x ∷ []) xs)
  where
    by : (b : Bool) (us : List Text) (ys : List X) (vs : List Text) (zs : List X) → us ≡ map name ys → vs ≡ map name zs
        →
        cond b us (name x ∷ vs) ≡ map name (cond b ys (x ∷ zs))
    by true us ys vs zs p q = p
    by false us ys vs zs p q = ap (λ ns. name x ∷ ns) q

names_each : (items : List Item) → each_of names_in items ≡ map defined_name (each_of structs_in items)
names_each [] = refl
names_each (i ∷ is) = ap (λ ns. names_in i ++ ns) (names_each is)
    ∙ sym (map-append defined_name (structs_in i) (each_of structs_in is))

pub struct_names_all : (items : List Item) → firsts itself [] (each_of names_in items)
    ≡ map defined_name (struct_definitions items)
struct_names_all items = ap (firsts itself []) (names_each items)
    ∙ firsts_named defined_name [] (each_of structs_in items)
