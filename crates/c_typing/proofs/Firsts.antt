-- The first definitions of each name, and their names: `main` is none of the functions besides it.
use Rattle.std.proofs.Common.{◌≡◌, Bool, true, false, cond, List, [], ◌∷◌, ◌++◌, map, codes, refl, sym, ap, ◌∙◌}
use Rattle.std.proofs.lemmas.Bool.{false_from_ne_true, or_from, true≢false}
use Rattle.std.specs.Cmp.Lexicographic.{bytes_decides}
use Rattle.fore_base.proofs.ListLemmas.{every_append}
use Rattle.fore_base.specs.Lists.{Every}
use Rattle.c_ast.specs.declared.items.Head.{Head}
use Rattle.c_ast.specs.declared.items.Item.{Item}
use Rattle.c_ast.specs.declared.items.Item.TheVariants as item
use Rattle.c_typing.specs.Globals.{Definition, defined_name, function_heads, functions_in, head_name, is_main}
use Rattle.c_typing.specs.Globals.{struct_name, struct_of}
use Rattle.c_typing.specs.Texts.{Text, each_of, firsts, has, same}

pub firsts_every : {X : Type 0} (P : X → Type 0) (name : X → Text) (seen : List Text) (xs : List X) → Every P xs
    → Every P (firsts name seen xs)
firsts_every P name seen [] all = tt
firsts_every P name seen (x ∷ xs) all =
    either (has (name x) seen) (firsts_every P name seen xs all.1) (firsts_every P name (seen ++ name x ∷ []) xs all.1)
  where
    either : (there : Bool) → Every P (firsts name seen xs) → Every P (firsts name (seen ++ name x ∷ []) xs)
        → Every P (cond there (firsts name seen xs) (x ∷ firsts name (seen ++ name x ∷ []) xs))
    either true old new = old
    either false old new = (all.0, new)

pub names_of_structs : (names : List Text) (ds : List Definition) → map struct_name (map (struct_of names) ds)
    ≡ map defined_name ds
names_of_structs names [] = refl
names_of_structs names (d ∷ ds) = ap (λ ns. defined_name d ∷ ns) (names_of_structs names ds)

-- Functions besides `main`

abbrev IsOther : Head → Type 0
IsOther h = is_main h ≡ false

item_others : (i : Item) → Every IsOther (functions_in i)
item_others (item.Function head body) = either (is_main head) refl
  where
    either : (k : Bool) → is_main head ≡ k → Every IsOther (cond k [] (head ∷ []))
    either true is = tt
    either false is = (is, tt)
item_others _ = tt

all_others : (is : List Item) → Every IsOther (each_of functions_in is)
all_others [] = tt
all_others (i ∷ is) = every_append IsOther (functions_in i) (each_of functions_in is) (item_others i) (all_others is)

other_way : (x y : Text) → same y x ≡ false → same x y ≡ false
other_way x y differ = false_from_ne_true (same x y)
    (λ is. true≢false (sym ((bytes_decides y x).1 (sym ((bytes_decides x y).0 is))) ∙ differ))

others_named : (hs : List Head) → Every IsOther hs → has (codes "main") (map head_name hs) ≡ false
others_named [] all = refl
others_named (h ∷ hs) all =
    or_from (same (codes "main") h.name.text) _ (other_way (codes "main") h.name.text all.0) (others_named hs all.1)

pub main_new : (is : List Item) → has (codes "main") (map head_name (function_heads is)) ≡ false
main_new is = others_named (function_heads is)
    (firsts_every IsOther head_name [] (each_of functions_in is) (all_others is))
