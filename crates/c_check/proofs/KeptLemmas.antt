-- To keep each name once, with how many definitions there were, is to keep them all.
use Rattle.std.proofs.Common.{◌≡◌, ℕ, suc, ◌+◌, Bool, true, false, ◌||◌, cond, List, [], ◌∷◌, ◌++◌, map}
use Rattle.std.proofs.Common.{length, Option, Some, None, append-nil, append_assoc, refl, sym, ap, subst, ◌∙◌, arith}
use Rattle.std.proofs.Math.Bool.{or-false, or_assoc}
use Rattle.std.proofs.lemmas.List.{length_push, length-append, length-map}
use Rattle.std.specs.Cmp.Lexicographic.{bytes_decides}
use Rattle.c_ast.specs.declared.items.Field.{Field}
use Rattle.c_ast.specs.declared.items.Head.{Head}
use Rattle.c_ast.specs.declared.items.Item.{Item}
use Rattle.c_ast.specs.declared.items.Item.TheVariants as item
use Rattle.c_ast.specs.declared.items.Param.{Param}
use Rattle.c_ast.specs.declared.items.Unit as whole
use Rattle.c_ast.specs.declared.operands.Name.{Name}
use Rattle.c_ast.specs.declared.statements.Block.{Block}
use Rattle.c_typing.specs.Globals.{Globals, is_main, params_of, text_of}
use Rattle.c_typing.specs.ItemSites.{Seen, nothing_seen, structs_seen, seen_after, all_seen, defined_sites}
use Rattle.c_typing.specs.ItemSites.{field_type_sites, names_of, fields_sites, struct_sites, item_sites}
use Rattle.c_typing.specs.ItemSites.{items_sites, gives_sites, param_sites, proto_params_sites, proto_sites, head_sites}
use Rattle.c_typing.specs.ItemSites.{body_sites, named_sites, unit_sites}
use Rattle.c_typing.specs.Scopes.{Scope, empty_scope, param_name, past_head, past_item}
use Rattle.c_typing.specs.Sites.{Site, Declares, Defines}
use Rattle.c_typing.specs.declared.meaning.Family.{Family}
use Rattle.c_typing.specs.declared.meaning.Family.TheVariants.{Struct, Enum, Value, Member, Function, Parameter}
use Rattle.c_typing.specs.Sites.{Ends, Overflows}
use Rattle.c_typing.specs.Texts.{Text, has, same}
use Rattle.c_typing.specs.declared.fault.TypeFault.{TypeFault}
use Rattle.c_typing.specs.declared.fault.TypeFault.TheVariants.{Rule}
use Rattle.c_check.specs.declared.definitions.Seen as kept
use Rattle.c_check.specs.inner.Items.{counted, with_name, with_names, kept_name_sites, kept_fields_sites}
use Rattle.c_check.specs.inner.Items.{kept_struct_sites, kept_structs, kept_after, kept_item_sites, kept_items_sites}
use Rattle.c_check.specs.inner.Items.{is_main_item, any_main, nothing_kept, kept_params_sites, kept_proto_sites}
use Rattle.c_check.specs.inner.Items.{kept_function_sites, kept_head_sites, kept_named_sites}
use Rattle.c_expressions.specs.Meeting.{met, noted, noted_when}
use Rattle.c_check.proofs.ItemLemmas.{noted-Defines}
use Rattle.c_expressions.proofs.MeetingLemmas.{met-append, met-cons, met-one}

-- the same names are there
record Alike (names earlier : List Text) : Type 0 where
  same_names : (x : Text) → has x names ≡ has x earlier

has_append : (x : Text) (ys zs : List Text) → has x (ys ++ zs) ≡ (has x ys || has x zs)
has_append x [] zs = refl
has_append x (y ∷ ys) zs = ap (λ b. same x y || b) (has_append x ys zs)
    ∙ sym (or_assoc (same x y) (has x ys) (has x zs))

has_one : (x y : Text) → has x (y ∷ []) ≡ same x y
has_one x y = or-false (same x y)

has_with_name : (x y : Text) (names : List Text) → has x (with_name names y) ≡ (has x names || same x y)
has_with_name x y names = by (has y names) refl
  where
    there : (b c : Bool) → (c ≡ true → b ≡ true) → b ≡ (b || c)
    there true c h = refl
    there false true h = h refl
    there false false h = refl

    by : (b : Bool) → has y names ≡ b → has x (cond b names (names ++ y ∷ [])) ≡ (has x names || same x y)
    by true e = there (has x names) (same x y) (λ h. ap (λ (z : Text). has z names) ((bytes_decides x y).0 h) ∙ e)
    by false e = has_append x names (y ∷ []) ∙ ap (λ b. has x names || b) (has_one x y)

alike_more : (names earlier : List Text) (y : Text) → Alike names earlier
    → Alike (with_name names y) (earlier ++ y ∷ [])
alike_more names earlier y h = record {
  same_names = λ x. has_with_name x y names ∙ ap (λ b. b || same x y) (h.same_names x)
      ∙ ap (λ b. has x earlier || b) (sym (has_one x y)) ∙ sym (has_append x earlier (y ∷ []));
}

alike_names : (names earlier : List Text) (ns : List Name) → Alike names earlier
    → Alike (with_names names ns) (earlier ++ map text_of ns)
alike_names names earlier [] h = rw (append-nil earlier) h
alike_names names earlier (n ∷ ns) h =
    let e : (earlier ++ n.text ∷ []) ++ map text_of ns ≡ earlier ++ (n.text ∷ map text_of ns) =
    append_assoc earlier (n.text ∷ []) (map text_of ns) in
    rw (← e) (alike_names (with_name names n.text) (earlier ++ n.text ∷ []) ns (alike_more names earlier n.text h))

length_names : (xs : List Text) (ns : List Name) → length (xs ++ map text_of ns) ≡ length xs + length ns
length_names xs ns = length-append xs (map text_of ns) ∙ ap (λ n. length xs + n) (length-map ns text_of)

-- what is kept is what was seen
record Keeps (k : kept.Seen) (s : Seen) : Type 0 where
  structs : Alike k.structs s.structs
  count : k.count ≡ length s.structs
  enums : Alike k.enums s.enums
  values : Alike k.values s.values
  functions : Alike k.functions s.functions
  function_count : k.function_count ≡ length s.functions

main_after : (i : Item) (main : Bool) (s : Seen) → main ≡ s.main → (main || is_main_item i) ≡ (seen_after s i).main
main_after (item.Function head body) main s e = ap (λ b. b || is_main head) e
main_after _ main s e = or-false main ∙ e

struct_keeps : (name : Name) (fields : Option (List Field)) (k : kept.Seen) (s : Seen) → Alike k.structs s.structs
    → k.count ≡ length s.structs →
    Alike (kept_structs k name fields).structs (structs_seen s.structs name fields)
    × ((kept_structs k name fields).count ≡ length (structs_seen s.structs name fields))
struct_keeps name None k s h e = (h, e)
struct_keeps name (Some fields) k s h e =
    (alike_more k.structs s.structs name.text h, omega (arith, length_push s.structs name.text, e))

record SameRest (k l : kept.Seen) : Type 0 where
  enums : l.enums ≡ k.enums
  values : l.values ≡ k.values
  functions : l.functions ≡ k.functions
  function_count : l.function_count ≡ k.function_count

rest_kept : (name : Name) (fields : Option (List Field)) (k : kept.Seen) → SameRest k (kept_structs k name fields)
rest_kept name None k = record { enums = refl; values = refl; functions = refl; function_count = refl }
rest_kept name (Some fields) k = record { enums = refl; values = refl; functions = refl; function_count = refl }

keeps_after : (i : Item) (k : kept.Seen) (s : Seen) → Keeps k s → Keeps (kept_after k i) (seen_after s i)
keeps_after (item.Struct at name fields) k s h =
    let structs = struct_keeps name fields k s h.structs h.count in
    let rest = rest_kept name fields k in
    record {
      structs = structs.0;
      count = structs.1;
      enums = subst (λ (ns : List Text). Alike ns s.enums) (sym rest.enums) h.enums;
      values = subst (λ (ns : List Text). Alike ns s.values) (sym rest.values) h.values;
      functions = subst (λ (ns : List Text). Alike ns s.functions) (sym rest.functions) h.functions;
      function_count = rest.function_count ∙ h.function_count;
    }
keeps_after (item.Enum at name values) k s h = record {
  structs = h.structs;
  count = h.count;
  enums = alike_more k.enums s.enums name.text h.enums;
  values = alike_names k.values s.values values h.values;
  functions = h.functions;
  function_count = h.function_count;
}
keeps_after (item.Function head body) k s h =
    record {
      structs = h.structs;
      count = h.count;
      enums = h.enums;
      values = h.values;
      functions = alike_more k.functions s.functions head.name.text h.functions;
      function_count = omega (arith, length_push s.functions head.name.text, h.function_count);
    }
keeps_after _ k s h =
    record {
      structs = h.structs;
      count = h.count;
      enums = h.enums;
      values = h.values;
      functions = h.functions;
      function_count = h.function_count;
    }

nothing_keeps : Keeps nothing_kept nothing_seen
nothing_keeps =
    record {
      structs = record { same_names = λ x. refl };
      count = refl;
      enums = record { same_names = λ x. refl };
      values = record { same_names = λ x. refl };
      functions = record { same_names = λ x. refl };
      function_count = refl;
    }

main_seen : (is : List Item) (main : Bool) (s : Seen) → main ≡ s.main → (main || any_main is) ≡ (all_seen s is).main
main_seen [] main s e = or-false main ∙ e
main_seen (i ∷ is) main s e = sym (or_assoc main (is_main_item i) (any_main is))
    ∙ main_seen is (main || is_main_item i) (seen_after s i) (main_after i main s e)

-- whether one of the items is a main
pub any_seen : (is : List Item) → any_main is ≡ (all_seen nothing_seen is).main
any_seen is = main_seen is false nothing_seen refl

module _ (g : Globals) where
  name_alike : (family : Family) (found : Option TypeFault) (n : Name) (names earlier : List Text) (count more : ℕ)
      → has n.text names ≡ has n.text earlier → count ≡ more →
      noted g found (Defines family n names count) ≡ noted g found (Defines family n earlier more)
  name_alike family found n names earlier count more h e =
      noted-Defines g found family n names count
      ∙ ap (λ b. counted family count n.at (noted_when b (Rule 5 n.at) found)) h
      ∙ ap (λ k. counted family k n.at (noted_when (has n.text earlier) (Rule 5 n.at) found)) e
      ∙ sym (noted-Defines g found family n earlier more)

  -- enumerations have no limit
  enum_alike : (found : Option TypeFault) (n : Name) (earlier : List Text) (count more : ℕ) →
      noted g found (Defines Enum n earlier count) ≡ noted g found (Defines Enum n earlier more)
  enum_alike found n earlier count more =
      noted-Defines g found Enum n earlier count ∙ sym (noted-Defines g found Enum n earlier more)

  -- one site that is alike, and then others that are
  next : (found : Option TypeFault) (s t : Site) (ss ts : List Site) → noted g found s ≡ noted g found t
      → met g (noted g found t) ss ≡ met g (noted g found t) ts →
      met g found (s ∷ ss) ≡ met g found (t ∷ ts)
  next found s t ss ts here rest = met-cons g found s ss ∙ ap (λ o. met g o ss) here ∙ rest
      ∙ sym (met-cons g found t ts)

  -- sites that are alike, and then others that are
  onward : (found : Option TypeFault) (ss ts us vs : List Site) → met g found ss ≡ met g found ts
      → met g (met g found ts) us ≡ met g (met g found ts) vs →
      met g found (ss ++ us) ≡ met g found (ts ++ vs)
  onward found ss ts us vs here rest = met-append g found ss us ∙ ap (λ o. met g o us) here ∙ rest
      ∙ sym (met-append g found ts vs)

  names_alike : (family : Family) (ns : List Name) (found : Option TypeFault) (names earlier : List Text)
      (count more : ℕ) → Alike names earlier → count ≡ more →
      met g found (kept_name_sites family names count ns) ≡ met g found (defined_sites family earlier more ns)
  names_alike family [] found names earlier count more h e = refl
  names_alike family (n ∷ ns) found names earlier count more h e =
      next found _ _ _ _ (name_alike family found n names earlier count more (h.same_names n.text) e)
      (names_alike family ns _ (with_name names n.text) (earlier ++ n.text ∷ []) (count + 1) (suc more)
      (alike_more names earlier n.text h) (omega (arith, e)))

  fields_alike : (fs : List Field) (found : Option TypeFault) (names earlier : List Text) (count : ℕ)
      → Alike names earlier → count ≡ length earlier →
      met g found (kept_fields_sites names count fs) ≡ met g found (fields_sites earlier fs)
  fields_alike [] found names earlier count h e = refl
  fields_alike (f ∷ fs) found names earlier count h e =
      onward found _ _ _ _
      (onward found (field_type_sites f) (field_type_sites f) _ _ refl
      (names_alike Member (names_of f) _ names earlier count (length earlier) h e))
      (fields_alike fs _ (with_names names (names_of f)) (earlier ++ map text_of (names_of f))
      (count + length (names_of f)) (alike_names names earlier (names_of f) h)
      (omega (arith, length_names earlier (names_of f), e)))

  structs_alike : (found : Option TypeFault) (k : kept.Seen) (s : Seen) (name : Name) (fields : Option (List Field))
      → Alike k.structs s.structs → k.count ≡ length s.structs →
      met g found (kept_struct_sites k name fields) ≡ met g found (struct_sites s name fields)
  structs_alike found k s name None h e = refl
  structs_alike found k s name (Some fields) h e =
      next found _ _ _ _
      (name_alike Struct found name k.structs s.structs k.count (length s.structs) (h.same_names name.text) e)
      (fields_alike fields _ [] [] 0 (record { same_names = λ x. refl }) refl)

  params_alike : (ps : List Param) (found : Option TypeFault) (names earlier : List Text) → Alike names earlier →
      met g found (kept_params_sites names ps) ≡ met g found (proto_params_sites earlier ps)
  params_alike [] found names earlier h = refl
  params_alike (p ∷ ps) found names earlier h =
      onward found _ _ _ _
      (onward found (param_sites p) (param_sites p) _ _ refl
      (next _ _ _ [] []
      (name_alike Parameter _ (param_name p) names earlier 0 0 (h.same_names (param_name p).text) refl) refl))
      (params_alike ps _ (with_name names (param_name p).text) (earlier ++ (param_name p).text ∷ [])
      (alike_more names earlier (param_name p).text h))

  protos_alike : (found : Option TypeFault) (h : Head) → met g found (kept_proto_sites h)
      ≡ met g found (proto_sites h)
  protos_alike found h =
      onward found (gives_sites h.gives) (gives_sites h.gives) _ _ refl
      (next _ (Declares h) (Declares h) _ _ refl
      (params_alike (params_of h.params) _ [] [] (record { same_names = λ x. refl })))

  named_alike : (found : Option TypeFault) (k : kept.Seen) (s : Seen) (h : Head) → Keeps k s →
      met g found (kept_named_sites k.functions k.function_count h) ≡ met g found (named_sites s h)
  named_alike found k s h keeps =
      next found _ _ _ _
      (name_alike Function found h.name k.functions s.functions k.function_count (length s.functions)
      (keeps.functions.same_names h.name.text) keeps.function_count) refl

  heads_alike : (found : Option TypeFault) (k : kept.Seen) (s : Seen) (h : Head) (scope : Scope) → Keeps k s →
      met g found (kept_head_sites g k.functions k.function_count h scope) ≡ met g found (head_sites g s h scope)
  heads_alike found k s h scope keeps =
      onward found _ _ _ _
      (onward found _ _ _ _ (onward found (gives_sites h.gives) (gives_sites h.gives) _ _ refl
      (named_alike _ k s h keeps)) refl) refl

  functions_alike : (found : Option TypeFault) (k : kept.Seen) (s : Seen) (h : Head) (b : Block) (scope : Scope)
      → Keeps k s →
      met g found (kept_function_sites g k.functions k.function_count h b scope)
      ≡ met g found (head_sites g s h scope ++ body_sites g b (past_head g h scope))
  functions_alike found k s h b scope keeps = onward found _ _ _ _ (heads_alike found k s h scope keeps) refl

  item_alike : (i : Item) (found : Option TypeFault) (k : kept.Seen) (s : Seen) (scope : Scope) → Keeps k s →
      met g found (kept_item_sites g k i scope) ≡ met g found (item_sites g s i scope)
  item_alike (item.Struct at name fields) found k s scope h =
      structs_alike found k s name fields h.structs h.count
  item_alike (item.Enum at name values) found k s scope h =
      next found _ _ _ _
      (name_alike Enum found name k.enums s.enums 0 0 (h.enums.same_names name.text) refl
      ∙ enum_alike found name s.enums 0 (length s.enums))
      (names_alike Value values _ k.values s.values 0 0 h.values refl)
  item_alike (item.Proto outer head) found k s scope h = protos_alike found head
  item_alike (item.Function head body) found k s scope h = functions_alike found k s head body scope h
  item_alike (item.Declare d) found k s scope h = refl

  items_alike : (is : List Item) (found : Option TypeFault) (k : kept.Seen) (s : Seen) (scope : Scope) → Keeps k s →
      met g found (kept_items_sites g k is scope) ≡ met g found (items_sites g s is scope)
  items_alike [] found k s scope h = refl
  items_alike (i ∷ is) found k s scope h =
      onward found _ _ _ _ (item_alike i found k s scope h)
      (items_alike is _ (kept_after k i) (seen_after s i) (past_item g i scope) (keeps_after i k s h))

  pub all_alike : (found : Option TypeFault) (is : List Item)
      → met g found (kept_items_sites g nothing_kept is empty_scope)
      ≡ met g found (items_sites g nothing_seen is empty_scope)
  all_alike found is = items_alike is found nothing_kept nothing_seen empty_scope nothing_keeps

  -- the items, the end and the first token above the limit
  pub whole_met : (found : Option TypeFault) (u : whole.Unit) (main : Bool) → main ≡ any_main u.items →
      noted g (noted g (met g found (kept_items_sites g nothing_kept u.items empty_scope)) (Ends main u.end))
      (Overflows u.over) ≡ met g found (unit_sites g u)
  whole_met found u main e =
      let seen : Option TypeFault = met g found (items_sites g nothing_seen u.items empty_scope) in
      let there : Bool = (all_seen nothing_seen u.items).main in
      ap (λ o. noted g (noted g o (Ends main u.end)) (Overflows u.over)) (all_alike found u.items)
      ∙ ap (λ m. noted g (noted g seen (Ends m u.end)) (Overflows u.over)) (e ∙ any_seen u.items)
      ∙ sym (met-append g found (items_sites g nothing_seen u.items empty_scope)
      (Ends there u.end ∷ Overflows u.over ∷ [])
      ∙ met-cons g seen (Ends there u.end) (Overflows u.over ∷ [])
      ∙ met-one g (noted g seen (Ends there u.end)) (Overflows u.over))
