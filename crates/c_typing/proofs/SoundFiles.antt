-- The program of a file where nothing is broken is typed.
use Rattle.std.proofs.Common.{◌≡◌, ◌≤◌, ◌+◌, ℕ, zero, suc, Bool, true, false, not, ◌&&◌, cond, nat_le, List, [], ◌∷◌}
use Rattle.std.proofs.Common.{◌++◌, length, map, codes, Option, Some, None, refl, sym, ap, ◌∙◌, subst, arith}
use Rattle.std.proofs.Common.{true≢false}
use Rattle.std.proofs.lemmas.Bool.{eq-eqb, false_from_ne_true, or_parts}
use Rattle.std.proofs.lemmas.List.{append-nil, length-map}
use Rattle.std.specs.List.{list_all}
use Rattle.fore_base.proofs.ListLemmas.{every_append, every_in, every_tests, every_weaker, in_every}
use Rattle.fore_base.specs.Lists.{IsIn, Every}
use Rattle.fore_base.specs.Shapes.{targets_in, target_before}
use Rattle.fore_base.specs.declared.limits.TheConstants.{DATUM}
use Rattle.c_ast.specs.declared.items.Field.{Field}
use Rattle.c_ast.specs.declared.items.Field.TheVariants as field
use Rattle.c_ast.specs.declared.items.Head.{Head}
use Rattle.c_ast.specs.declared.items.Item.{Item}
use Rattle.c_ast.specs.declared.items.Item.TheVariants as item
use Rattle.c_ast.specs.declared.items.Unit as whole
use Rattle.c_ast.specs.declared.operands.Name.{Name}
use Rattle.c_calls.proofs.FewCalls.{leads_few, none_test}
use Rattle.c_calls.specs.Calls.{Leads, at_once, called_by, none_recurs, through}
use Rattle.c_types.specs.Bodies.{all_different, body_calls, body_declares, body_names, calls_of, func_vars, is_among}
use Rattle.c_types.specs.Bodies.{keeps_to_main}
use Rattle.c_types.specs.Program.{all_below, bodies_typed, body_typed, funcs_typed, is_typed, shapes_typed, var_typed}
use Rattle.c_types.specs.Program.{vars_typed}
use Rattle.c_types.specs.declared.program.Func.{Func}
use Rattle.c_types.specs.declared.program.Stmt.{Stmt}
use Rattle.c_types.specs.declared.program.VarDef.{VarDef}
use Rattle.c_types.specs.declared.program.VarRef.{VarRef}
use Rattle.c_types.specs.declared.program.VarRef.TheVariants.{Ptr, Data}
use Rattle.c_typing.specs.Globals.{Globals, Definition, defined_name, maybe_defined, structs_in, struct_definitions}
use Rattle.c_typing.specs.Globals.{pointer_member, datum_member, members_in, struct_of, datum_of, values_from}
use Rattle.c_typing.specs.Globals.{values_in, value_name, globals_of, struct_name}
use Rattle.c_typing.specs.Globals.{function_of, head_name, functions_in, function_heads, functions_of}
use Rattle.c_typing.specs.Globals.{function_name, function_number}
use Rattle.c_typing.specs.ItemSites.{Seen, defined_sites, nothing_seen, seen_after, names_of, field_type_sites}
use Rattle.c_typing.specs.ItemSites.{fields_sites, struct_sites, item_sites, items_sites}
use Rattle.c_typing.specs.Programs.{field_of, field_kind_of, shape_of, program_in, program_of, funcs_in, main_in}
use Rattle.c_typing.specs.Scopes.{Scope, empty_scope, is_declared, past_item, past_items}
use Rattle.c_typing.specs.Sites as site
use Rattle.c_typing.specs.Texts.{Text, same, has, number_of, one_more, each_of}
use Rattle.c_typing.specs.Typing.{breaches, or_else, overweight, site_breaches}
use Rattle.c_typing.specs.declared.meaning.Kind.{Kind}
use Rattle.c_typing.specs.declared.meaning.Kind.TheVariants.{Points, Datum}
use Rattle.c_typing.specs.declared.meaning.Member.{Member}
use Rattle.c_typing.specs.declared.meaning.StructDef.{StructDef}
use Rattle.c_typing.proofs.Clean.{IsClean, clean_parts, clean_first, struct_there}
use Rattle.c_typing.proofs.FileCounts.{items_counted, main_vars}
use Rattle.c_typing.proofs.FileNames.{heads_first}
use Rattle.c_typing.proofs.Firsts.{firsts_every, main_new, names_of_structs}
use Rattle.c_typing.proofs.OwnVariables.{among_counted, count, hit, once_different}
use Rattle.c_typing.proofs.ScopeLaws.{Within}
use Rattle.c_typing.proofs.Sound.{GoodKind, GoodMember, GoodStruct, GoodValue, GoodGlobals, shapes}
use Rattle.c_typing.proofs.SoundCalls.{GoodFuncs}
use Rattle.c_typing.proofs.SoundFunctions.{AllFacts, CallFacts, FileIs, ItemFacts, bodies_right, funcs_good, in_among}
use Rattle.c_typing.proofs.SoundFunctions.{items_facts}
use Rattle.c_typing.proofs.SoundStmts.{struct_kind}

-- Enumerators

datum_small : (n : ℕ) → nat_le (datum_of n) DATUM ≡ true
datum_small n = either (nat_le n DATUM) refl
  where
    either : (b : Bool) → nat_le n DATUM ≡ b → nat_le (cond b n 0) DATUM ≡ true
    either true is = is
    either false is = refl

values_small : (n : ℕ) (xs : List Name) → Every GoodValue (values_from n xs)
values_small n [] = tt
values_small n (x ∷ xs) = (datum_small n, values_small (suc n) xs)

item_values : (i : Item) → Every GoodValue (values_in i)
item_values (item.Enum at name values) = values_small 0 values
item_values _ = tt

all_values : (is : List Item) → Every GoodValue (each_of values_in is)
all_values [] = tt
all_values (i ∷ is) = every_append GoodValue (values_in i) (each_of values_in is) (item_values i) (all_values is)

-- Structs

module _ (g : Globals) where
  abbrev FieldClean : Field → Type 0
  FieldClean f = IsClean g (field_type_sites f)

  abbrev DefinitionClean : Definition → Type 0
  DefinitionClean d = Every FieldClean d.1

  fields_clean : (earlier : List Text) (fs : List Field) → IsClean g (fields_sites earlier fs) → Every FieldClean fs
  fields_clean earlier [] c = tt
  fields_clean earlier (f ∷ fs) c =
      let members : List site.Site = defined_sites site.Member earlier (length earlier) (names_of f) in
      let halves : IsClean g (field_type_sites f ++ members)
      × IsClean g (fields_sites (earlier ++ map _ (names_of f)) fs) =
      clean_parts g (field_type_sites f ++ members) _ c in
      ((clean_parts g (field_type_sites f) members halves.0).0, fields_clean _ fs halves.1)

  struct_clean : (s : Seen) (name : Name) (fields : Option (List Field)) → IsClean g (struct_sites s name fields)
      → Every DefinitionClean (maybe_defined name fields)
  struct_clean s name None c = tt
  struct_clean s name (Some fields) c = (
    fields_clean [] fields
        (clean_first g (site.Defines site.Struct name s.structs (length s.structs)) (fields_sites [] fields) c).1,
    tt,
  )

  item_clean : (s : Seen) (i : Item) (scope : Scope) → IsClean g (item_sites g s i scope)
      → Every DefinitionClean (structs_in i)
  item_clean s (item.Struct at name fields) scope c = struct_clean s name fields c
  item_clean s _ scope c = tt

  items_clean : (s : Seen) (is : List Item) (scope : Scope) → IsClean g (items_sites g s is scope)
      → Every DefinitionClean (each_of structs_in is)
  items_clean s [] scope c = tt
  items_clean s (i ∷ is) scope c =
      let halves : IsClean g (item_sites g s i scope)
      × IsClean g (items_sites g (seen_after s i) is (past_item g i scope)) =
      clean_parts g (item_sites g s i scope) (items_sites g (seen_after s i) is (past_item g i scope)) c in
      every_append DefinitionClean (structs_in i) (each_of structs_in is) (item_clean s i scope halves.0)
      (items_clean (seen_after s i) is (past_item g i scope) halves.1)

  -- the fields of a struct, given the names of all structs
  module _ (names : List Text) (known : map struct_name g.structs ≡ names) where
    kinds_good : (to : Option ℕ) (ns : List Name) → GoodKind (length g.structs) (Points to)
        → Every (GoodMember (length g.structs)) (map (pointer_member to) ns)
    kinds_good to [] good = tt
    kinds_good to (x ∷ xs) good = (good, kinds_good to xs good)

    data_good : (ns : List Name) → Every (GoodMember (length g.structs)) (map datum_member ns)
    data_good [] = tt
    data_good (x ∷ xs) = (tt, data_good xs)

    members_good : (f : Field) → FieldClean f → Every (GoodMember (length g.structs)) (members_in names f)
    members_good (field.Pointers at shape fields) c = kinds_good (number_of shape.text names) fields
        (subst (λ ns. GoodKind (length g.structs) (Points (number_of shape.text ns))) known
        (struct_kind g (length g.structs) shape.text refl
        (struct_there g shape (clean_first g (site.UsesStruct shape) [] c).0)))
    members_good (field.Datums base fields) c = data_good fields

    each_member : (fs : List Field) → Every FieldClean fs
        → Every (GoodMember (length g.structs)) (each_of (members_in names) fs)
    each_member [] all = tt
    each_member (f ∷ fs) all =
        every_append (GoodMember (length g.structs)) (members_in names f) (each_of (members_in names) fs)
        (members_good f all.0) (each_member fs all.1)

    structs_good : (ds : List Definition) → Every DefinitionClean ds
        → Every (GoodStruct (length g.structs)) (map (struct_of names) ds)
    structs_good [] all = tt
    structs_good (d ∷ ds) all = (each_member d.1 all.0, structs_good ds all.1)

globals_good : (is : List Item) → IsClean (globals_of is) (items_sites (globals_of is) nothing_seen is empty_scope)
    → GoodGlobals (length (globals_of is).structs) (globals_of is)
globals_good is c =
    let names : List Text = map defined_name (struct_definitions is) in (
      structs_good (globals_of is) names (names_of_structs names (struct_definitions is)) (struct_definitions is)
          (firsts_every (DefinitionClean (globals_of is)) defined_name [] (each_of structs_in is)
          (items_clean (globals_of is) nothing_seen is empty_scope c)),
      firsts_every GoodValue value_name [] (each_of values_in is) (all_values is),
    )

-- Shapes

target_below : (n : ℕ) (k : Kind) (ts : List ℕ) → GoodKind n k → all_below n ts ≡ true
    → all_below n (target_before (field_kind_of k) ts) ≡ true
target_below n (Points None) ts good rest = absurd good
target_below n (Points (Some s)) ts good rest = ap (λ b. b && all_below n ts) good ∙ rest
target_below n Datum ts good rest = rest

targets_below : (n : ℕ) (ms : List Member) → Every (GoodMember n) ms → all_below n (targets_in (map field_of ms)) ≡ true
targets_below n [] all = refl
targets_below n (m ∷ ms) all = target_below n m.kind (targets_in (map field_of ms)) all.0 (targets_below n ms all.1)

shapes_good : (n : ℕ) (ss : List StructDef) → Every (GoodStruct n) ss → shapes_typed n (map shape_of ss) ≡ true
shapes_good n [] all = refl
shapes_good n (s ∷ ss) all = ap (λ b. b && shapes_typed n (map shape_of ss)) (targets_below n s.fields all.0)
    ∙ shapes_good n ss all.1

number-none : (x : Text) (ys : List Text) → has x ys ≡ false → number_of x ys ≡ None
number-none x [] none = refl
number-none x (y ∷ ys) none = let h : (same x y ≡ false) × (has x ys ≡ false) = or_parts (same x y) (has x ys) none in
    ap (λ b. cond b (Some 0) (one_more (number_of x ys))) h.0 ∙ ap one_more (number-none x ys h.1)

-- The functions of a file are those of its heads.

names-heads : (names : List Text) (hs : List Head) → map function_name (map (function_of names) hs)
    ≡ map head_name hs
names-heads names [] = refl
names-heads names (h ∷ hs) = ap (λ ns. head_name h ∷ ns) (names-heads names hs)

main_unnumbered : (is : List Item) → function_number (globals_of is) (codes "main") ≡ None
main_unnumbered is =
    number-none (codes "main") (map function_name (functions_of is))
    (ap (has (codes "main")) (names-heads (map defined_name (struct_definitions is)) (function_heads is)) ∙ main_new is)

file_is : (is : List Item) → FileIs (globals_of is) is
file_is is = record {
  calls = refl;
  names = ap (λ ns. ns ++ codes "main" ∷ [])
      (sym (names-heads (map defined_name (struct_definitions is)) (function_heads is)));
  main = main_unnumbered is;
}

hit_true : (b : Bool) → 1 ≤ hit b → b ≡ true
hit_true true h = refl
hit_true false h = absurd (omega (arith, h))

hit_small : (b : Bool) → hit b ≤ 1
hit_small true = omega (arith)
hit_small false = omega (arith)

module _ (is : List Item)
    (c : IsClean (globals_of is) (items_sites (globals_of is) nothing_seen is empty_scope)) where
  abbrev g : Globals
  g = globals_of is

  abbrev final : Scope
  final = past_items g is empty_scope

  abbrev V : List VarDef
  V = final.vars

  abbrev D : ℕ
  D = length final.data_vars

  abbrev F : List Func
  F = funcs_in g is empty_scope

  abbrev body : List Stmt
  body = main_in g is empty_scope

  all_heads : function_heads is ≡ each_of functions_in is
  all_heads = heads_first g nothing_seen is empty_scope [] (λ x none. none) c

  inside : Within g V D final
  inside = (([], sym (append-nil V)), omega (arith))

  funcs : GoodFuncs g V D g.functions F
  funcs = subst (λ ds. GoodFuncs g V D ds F)
      (ap (λ ns. map (function_of ns) (each_of functions_in is))
      (names_of_structs (map defined_name (struct_definitions is)) (struct_definitions is))
      ∙ ap (map (function_of (map defined_name (struct_definitions is)))) (sym all_heads))
      (funcs_good g V D (length g.structs) refl nothing_seen is empty_scope inside c)

  numbered : map function_name g.functions ≡ [] ++ map head_name (each_of functions_in is)
  numbered = names-heads (map defined_name (struct_definitions is)) (function_heads is)
      ∙ ap (map head_name) all_heads

  facts : ItemFacts g V D (length g.structs) refl (globals_good is c) F funcs is (file_is is) 0 is empty_scope
  facts = items_facts g V D (length g.structs) refl (globals_good is c) F funcs is (file_is is) nothing_seen is
      empty_scope [] (λ x none. none) numbered (λ x none. refl) inside refl c

  -- No function leads to itself.

  called_facts : (m k : ℕ) (fs : List Func)
      → AllFacts g V D (length g.structs) refl (globals_good is c) F funcs is (file_is is) m fs
      → (f : ℕ) → IsIn f (called_by (calls_of fs) k) → CallFacts g (m + k) f
  called_facts m k [] all f i = absurd i
  called_facts m zero (fn ∷ fs) all f i =
      subst (λ j. CallFacts g j f) (omega (arith)) (every_in (CallFacts g m) (body_calls fn.body) f all.0.1 i)
  called_facts m (suc k) (fn ∷ fs) all f i =
      subst (λ j. CallFacts g j f) (omega (arith)) (called_facts (suc m) k fs all.1 f i)

  called_at : (a f : ℕ) → IsIn f (called_by (calls_of F) a) → CallFacts g a f
  called_at a f i = subst (λ j. CallFacts g j f) (omega (arith)) (called_facts 0 a F facts.0 f i)

  leads_more : (a b : ℕ) → Leads (calls_of F) a b → Leads g.calls a b
  leads_more a b (at_once i) = at_once (called_at a b i).0
  leads_more a b (through h i l) = through h (called_at a h i).0 (leads_more h b l)

  none_back : (f : ℕ) → Leads (calls_of F) f f → ⊥
  none_back f (at_once i) = true≢false (sym (eq-eqb f f refl) ∙ (called_at f f i).1.0)
  none_back f (through h i l) =
      true≢false (sym (leads_few g.calls h f (leads_more h f l)) ∙ (called_at f h i).1.1)

  no_recursion : none_recurs (calls_of F) ≡ true
  no_recursion = none_test (calls_of F) none_back

  -- The variables of functions are the program's, and apart.

  counted : (v : VarRef) → count v (func_vars F) + count v (main_vars g is empty_scope) ≤ hit (is_declared final v)
  counted v = omega (arith, items_counted g v is empty_scope)

  declared_typed : (v : VarRef) → is_declared final v ≡ true → var_typed (shapes g V D) V D v ≡ true
  declared_typed (Ptr x) there = there
  declared_typed (Data x) there = there

  vars_there : list_all (var_typed (shapes g V D) V D) (func_vars F) ≡ true
  vars_there = every_tests (var_typed (shapes g V D) V D) (func_vars F)
      (in_every (λ v. var_typed (shapes g V D) V D v ≡ true) (func_vars F)
      (λ v i. declared_typed v
      (hit_true (is_declared final v)
      (omega (arith, counted v, among_counted v (func_vars F) (in_among v (func_vars F) i))))))

  different : all_different (func_vars F) ≡ true
  different = once_different (func_vars F) (λ v. omega (arith, counted v, hit_small (is_declared final v)))

  main_apart : keeps_to_main F body ≡ true
  main_apart = every_tests (λ w. not (is_among (func_vars F) w)) (body_names body ++ body_declares body)
      (every_weaker (λ w. IsIn w (main_vars g is empty_scope)) (λ w. not (is_among (func_vars F) w) ≡ true)
      (body_names body ++ body_declares body)
      (λ w i. ap not
      (false_from_ne_true (is_among (func_vars F) w)
      (λ there. omega (
        arith,
        counted w,
        hit_small (is_declared final w),
        among_counted w (func_vars F) there,
        among_counted w (main_vars g is empty_scope) (in_among w (main_vars g is empty_scope) i),
      )))) facts.1.0.1)

  functions_right : funcs_typed (program_in g is) ≡ true
  functions_right = ap (λ b. b && (bodies_typed (shapes g V D) V D F 0 F
      && (list_all (var_typed (shapes g V D) V D) (func_vars F)
      && (all_different (func_vars F) && keeps_to_main F body)))) no_recursion
      ∙ ap (λ b. b && (list_all (var_typed (shapes g V D) V D) (func_vars F)
      && (all_different (func_vars F) && keeps_to_main F body)))
      (bodies_right g V D (length g.structs) refl (globals_good is c) F funcs is (file_is is) 0 F facts.0)
      ∙ ap (λ b. b && (all_different (func_vars F) && keeps_to_main F body)) vars_there
      ∙ ap (λ b. b && keeps_to_main F body) different ∙ main_apart

  all_shapes : shapes_typed (length (map shape_of g.structs)) (map shape_of g.structs) ≡ true
  all_shapes = subst (λ n. shapes_typed n (map shape_of g.structs) ≡ true) (sym (length-map g.structs shape_of))
      (shapes_good (length g.structs) g.structs (globals_good is c).0)

  all_vars : vars_typed (length (map shape_of g.structs)) V ≡ true
  all_vars = subst (λ n. vars_typed n V ≡ true) (sym (length-map g.structs shape_of)) facts.1.1

  program_typed : is_typed (program_in g is) ≡ true
  unfolding is_typed
  program_typed =
      ap (λ k. ((k && vars_typed (length (map shape_of g.structs)) V)
      && body_typed (shapes g V D) V D F None body) && funcs_typed (program_in g is)) all_shapes
      ∙ ap (λ k. (k && body_typed (shapes g V D) V D F None body) && funcs_typed (program_in g is)) all_vars
      ∙ ap (λ k. k && funcs_typed (program_in g is)) facts.1.0.0 ∙ functions_right

nothing_else : {X : Type 0} (xs ys : List X) → or_else xs ys ≡ [] → xs ≡ []
nothing_else [] ys none = refl
nothing_else (x ∷ xs) ys none = none

pub file_typed : (u : whole.Unit) → breaches u ≡ [] → is_typed (program_of u) ≡ true
unfolding breaches site_breaches program_of
file_typed u c =
    program_typed u.items
    (clean_parts (globals_of u.items) (items_sites (globals_of u.items) nothing_seen u.items empty_scope) _
    (nothing_else (site_breaches u) (overweight u) c)).0
