-- Where nothing is broken, each function has a name of its own: its number, its head and its body are found by it.
use Rattle.std.proofs.Common.{◌≡◌, ℕ, zero, suc, Bool, true, false, cond, List, [], ◌∷◌, ◌++◌, length, map}
use Rattle.std.proofs.Common.{Option, Some, None, slice_get, refl, sym, ap, ◌∙◌}
use Rattle.std.proofs.lemmas.Bool.{or_from, or_parts}
use Rattle.std.proofs.lemmas.Option.{none-some}
use Rattle.std.specs.Cmp.Lexicographic.{bytes_decides}
use Rattle.c_ast.specs.declared.items.Head.{Head}
use Rattle.c_ast.specs.declared.items.Item.{Item}
use Rattle.c_ast.specs.declared.items.Item.TheVariants as item
use Rattle.c_ast.specs.declared.statements.Block.{Block}
use Rattle.c_typing.specs.BodySites.{block_places, block_sites}
use Rattle.c_typing.specs.Globals.{Globals, body_named, functions_in, head_name, is_main, params_of}
use Rattle.c_typing.specs.ItemSites.{Seen, body_sites, gives_sites, head_sites, item_sites, items_sites, named_sites}
use Rattle.c_typing.specs.ItemSites.{own_params_sites, result_sites, seen_after}
use Rattle.c_typing.specs.Scopes.{Scope, begun, opened, past_head, past_item, past_result, result_of}
use Rattle.c_typing.specs.Sites as site
use Rattle.c_typing.specs.Texts.{Text, each_of, firsts, has, number_of, one_more, same}
use Rattle.c_typing.proofs.Clean.{IsClean, clean_first, clean_parts, new_function}

-- Texts among others

pub has_parts : (x : Text) (xs ys : List Text) → has x (xs ++ ys) ≡ false → (has x xs ≡ false) × (has x ys ≡ false)
has_parts x [] ys none = (refl, none)
has_parts x (z ∷ xs) ys none =
    let h : (same x z ≡ false) × (has x (xs ++ ys) ≡ false) = or_parts (same x z) (has x (xs ++ ys)) none in
    let rest : (has x xs ≡ false) × (has x ys ≡ false) = has_parts x xs ys h.1 in
    (or_from (same x z) (has x xs) h.0 rest.0, rest.1)

pub has_together : (x : Text) (xs ys : List Text) → has x xs ≡ false → has x ys ≡ false → has x (xs ++ ys) ≡ false
has_together x [] ys left right = right
has_together x (z ∷ xs) ys left right =
    let h : (same x z ≡ false) × (has x xs ≡ false) = or_parts (same x z) (has x xs) left in
    or_from (same x z) (has x (xs ++ ys)) h.0 (has_together x xs ys h.1 right)

same_self : (x : Text) → same x x ≡ true
same_self x = (bytes_decides x x).1 refl

-- the number of a text behind others
pub number_behind : (x : Text) (pre ys : List Text) → has x pre ≡ false → number_of x (pre ++ x ∷ ys)
    ≡ Some (length pre)
number_behind x [] ys none = ap (λ b. cond b (Some 0) (one_more (number_of x ys))) (same_self x)
number_behind x (p ∷ pre) ys none =
    let h : (same x p ≡ false) × (has x pre ≡ false) = or_parts (same x p) (has x pre) none in
    ap (λ b. cond b (Some 0) (one_more (number_of x (pre ++ x ∷ ys)))) h.0
    ∙ ap one_more (number_behind x pre ys h.1)

pub number_front : (x : Text) (xs ys : List Text) (n : ℕ) → number_of x xs ≡ Some n
    → number_of x (xs ++ ys) ≡ Some n
number_front x [] ys n is = absurd (none-some n is)
number_front x (z ∷ xs) ys n is =
    either (λ k from. number_front x xs ys k from) (same x z) (number_of x xs) refl is
  where
    either : ((k : ℕ) → number_of x xs ≡ Some k → number_of x (xs ++ ys) ≡ Some k) → (b : Bool) (o : Option ℕ)
        → number_of x xs ≡ o → cond b (Some 0) (one_more o) ≡ Some n
        → cond b (Some 0) (one_more (number_of x (xs ++ ys))) ≡ Some n
    either rest true o from h = h
    either rest false None from h = absurd (none-some n h)
    either rest false (Some k) from h = ap one_more (rest k from) ∙ h

-- what stands at the number of a text
pub number_got : (f : Text → List ℕ) (xs : List Text) (x : Text) (n : ℕ) → number_of x xs ≡ Some n
    → slice_get (map f xs) n ≡ Some (f x)
number_got f [] x n is = absurd (none-some n is)
number_got f (z ∷ xs) x n is =
    either (λ k from. number_got f xs x k from) (same x z) refl (number_of x xs) refl n is
  where
    either : ((k : ℕ) → number_of x xs ≡ Some k → slice_get (map f xs) k ≡ Some (f x)) → (b : Bool) → same x z ≡ b
        → (o : Option ℕ) → number_of x xs ≡ o → (m : ℕ) → cond b (Some 0) (one_more o) ≡ Some m
        → slice_get (map f (z ∷ xs)) m ≡ Some (f x)
    either rest true eq o from zero h = ap (λ y. Some (f y)) (sym ((bytes_decides x z).0 eq))
    either rest true eq o from (suc m) h = cc
    either rest false eq None from m h = absurd (none-some m h)
    either rest false eq (Some k) from zero h = cc
    either rest false eq (Some k) from (suc m) h = let less : k ≡ m = cc in rest m (from ∙ ap Some less)

-- Names that were seen

-- what was not seen is none of these
abbrev pub Sub : List Text → List Text → Type 0
Sub pre seen = (x : Text) → has x seen ≡ false → has x pre ≡ false

pub sub_more : (pre seen : List Text) (y : Text) → Sub pre seen → Sub (pre ++ y ∷ []) (seen ++ y ∷ [])
sub_more pre seen y sub x none =
    let h : (has x seen ≡ false) × (has x (y ∷ []) ≡ false) = has_parts x seen (y ∷ []) none in
    has_together x pre (y ∷ []) (sub x h.0) h.1

pub sub_wide : (pre seen : List Text) (y : Text) → Sub pre seen → Sub pre (seen ++ y ∷ [])
sub_wide pre seen y sub x none = sub x (has_parts x seen (y ∷ []) none).0

module _ (g : Globals) where
  -- what is known of a function
  pub record FunctionClean (s : Seen) (h : Head) (b : Block) (scope : Scope) : Type 0 where
    pub gives : IsClean g (gives_sites h.gives)
    pub fresh : has h.name.text s.functions ≡ false
    pub params : IsClean g (own_params_sites g (params_of h.params) (opened (past_result g h scope)))
    pub block : IsClean g (block_sites g b false (past_head g h scope))

  pub function_clean : (s : Seen) (h : Head) (b : Block) (scope : Scope)
      → IsClean g (item_sites g s (item.Function h b) scope) → FunctionClean s h b scope
  function_clean s h b scope c =
      let parts : IsClean g (head_sites g s h scope) × IsClean g (body_sites g b (past_head g h scope)) =
      clean_parts g (head_sites g s h scope) (body_sites g b (past_head g h scope)) c in
      let front : IsClean g ((gives_sites h.gives ++ named_sites s h)
      ++ result_sites (result_of g h) h.name (begun g h scope))
      × IsClean g (own_params_sites g (params_of h.params) (opened (past_result g h scope))) =
      clean_parts g ((gives_sites h.gives ++ named_sites s h)
      ++ result_sites (result_of g h) h.name (begun g h scope))
      (own_params_sites g (params_of h.params) (opened (past_result g h scope))) parts.0 in
      let begin : IsClean g (gives_sites h.gives ++ named_sites s h) =
      (clean_parts g (gives_sites h.gives ++ named_sites s h)
      (result_sites (result_of g h) h.name (begun g h scope)) front.0).0 in
      let named : IsClean g (gives_sites h.gives) × IsClean g (named_sites s h) =
      clean_parts g (gives_sites h.gives) (named_sites s h) begin in record {
        gives = named.0;
        fresh = new_function g h.name s.functions (length s.functions)
            (clean_first g (site.Defines site.Function h.name s.functions (length s.functions))
            (site.Functions h ∷ []) named.1).0;
        params = front.1;
        block = (clean_parts g (block_sites g b false (past_head g h scope))
            (site.Counts (block_places b).within ∷ []) parts.1).0;
      }

  pub rest_clean : (s : Seen) (i : Item) (is : List Item) (scope : Scope) → IsClean g (items_sites g s (i ∷ is) scope)
      → IsClean g (items_sites g (seen_after s i) is (past_item g i scope))
  rest_clean s i is scope c =
      (clean_parts g (item_sites g s i scope) (items_sites g (seen_after s i) is (past_item g i scope)) c).1

  pub first_clean : (s : Seen) (h : Head) (b : Block) (is : List Item) (scope : Scope)
      → IsClean g (items_sites g s (item.Function h b ∷ is) scope) → FunctionClean s h b scope
  first_clean s h b is scope c = function_clean s h b scope
      (clean_parts g (item_sites g s (item.Function h b) scope)
      (items_sites g (seen_after s (item.Function h b)) is (past_item g (item.Function h b) scope)) c).0

  -- all heads are those of their names
  pub heads_first : (s : Seen) (is : List Item) (scope : Scope) (pre : List Text) → Sub pre s.functions
      → IsClean g (items_sites g s is scope)
      → firsts head_name pre (each_of functions_in is) ≡ each_of functions_in is
  heads_first s [] scope pre sub c = refl
  heads_first s (item.Struct at name fields ∷ is) scope pre sub c =
      heads_first (seen_after s (item.Struct at name fields)) is scope pre sub
      (rest_clean s (item.Struct at name fields) is scope c)
  heads_first s (item.Enum at name values ∷ is) scope pre sub c =
      heads_first (seen_after s (item.Enum at name values)) is scope pre sub
      (rest_clean s (item.Enum at name values) is scope c)
  heads_first s (item.Proto out h ∷ is) scope pre sub c =
      heads_first (seen_after s (item.Proto out h)) is scope pre sub (rest_clean s (item.Proto out h) is scope c)
  heads_first s (item.Declare d ∷ is) scope pre sub c =
      heads_first (seen_after s (item.Declare d)) is scope pre sub (rest_clean s (item.Declare d) is scope c)
  heads_first s (item.Function h b ∷ is) scope pre sub c =
      either (is_main h)
      (λ names more.
      heads_first (seen_after s (item.Function h b)) is (past_item g (item.Function h b) scope) names more
      (rest_clean s (item.Function h b) is scope c))
    where
      heads : List Head
      heads = each_of functions_in is

      none : has h.name.text pre ≡ false
      none = sub h.name.text (first_clean s h b is scope c).fresh

      either : (k : Bool)
          → ((names : List Text) → Sub names (s.functions ++ h.name.text ∷ []) → firsts head_name names heads ≡ heads)
          → firsts head_name pre (cond k [] (h ∷ []) ++ heads) ≡ cond k [] (h ∷ []) ++ heads
      either true rest = rest pre (sub_wide pre s.functions h.name.text sub)
      either false rest = ap (λ k. cond k (firsts head_name pre heads)
          (h ∷ firsts head_name (pre ++ h.name.text ∷ []) heads)) none
          ∙ ap (λ hs. h ∷ hs) (rest (pre ++ h.name.text ∷ []) (sub_more pre s.functions h.name.text sub))

-- the bodies of names that were not seen stand in these items
abbrev pub Ahead : List Item → List Text → List Item → Type 0
Ahead all seen is = (x : Text) → has x seen ≡ false → body_named x all ≡ body_named x is

pub ahead_more : (all : List Item) (seen : List Text) (h : Head) (b : Block) (is : List Item)
    → Ahead all seen (item.Function h b ∷ is) → Ahead all (seen ++ h.name.text ∷ []) is
ahead_more all seen h b is ahead x none =
    let parts : (has x seen ≡ false) × (has x (h.name.text ∷ []) ≡ false) =
    has_parts x seen (h.name.text ∷ []) none in
    ahead x parts.0
    ∙ ap (λ k. cond k (Some b) (body_named x is)) (or_parts (same x h.name.text) false parts.1).0

pub body_here : (all : List Item) (seen : List Text) (h : Head) (b : Block) (is : List Item)
    → Ahead all seen (item.Function h b ∷ is) → has h.name.text seen ≡ false → body_named h.name.text all ≡ Some b
body_here all seen h b is ahead fresh = ahead h.name.text fresh
    ∙ ap (λ k. cond k (Some b) (body_named h.name.text is)) (same_self h.name.text)
