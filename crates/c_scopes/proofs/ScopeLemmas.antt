-- The table of what is in scope: what its chains find, and how it grows and shrinks.
use Rattle.std.proofs.Common.{◌≡◌, ◌<◌, ◌≤◌, ◌-◌, inl, inr, ℕ, zero, suc, Bool, true, false, nat_eq, cond}
use Rattle.std.proofs.Common.{if◌then◌else◌, ◌||◌, Option, Some, None, List, [], ◌∷◌, ◌++◌, length, map, reverse}
use Rattle.std.proofs.Common.{slice_get, slice_set, slice_index_or, refl, sym, ap, ◌∙◌, subst, true≢false, arith}
use Rattle.std.specs.Cmp.Lexicographic.{pointwise, same_text}
use Rattle.std.proofs.Math.Dec.{eqb-suc-zero}
use Rattle.std.proofs.lemmas.Bool.{eq-eqb, eqb-true, false_from_ne_true}
use Rattle.std.proofs.lemmas.List.{length-set, set-get_or, get_or-set_same, get_or-set_other, get_or_append_left}
use Rattle.std.proofs.lemmas.List.{reverse-append, length-map, length-reverse, map-append, set-append_left}
use Rattle.std.proofs.lemmas.Option.{get_or_from_slice_get, slice_get-get_or}
use Rattle.fore_base.specs.Lists.{IsIn, Every, IsDistinct}
use Rattle.fore_base.proofs.ListLemmas.{in_from_place, every_append, every_parts, every_weaker}
use Rattle.c_typing.specs.Programs.{ptr_before, datum_before, ptrs_of, datums_of}
use Rattle.c_typing.specs.Texts.{has, joined}
use Rattle.c_typing.specs.Scopes.{Var, var_in, var_name, look_up, opened, innermost, with_var, declared}
use Rattle.c_typing.specs.declared.meaning.Kind.{Kind}
use Rattle.c_typing.specs.declared.meaning.Kind.TheVariants.{Points, Datum}
use Rattle.c_scopes.specs.declared.scopes.Found.{Found}
use Rattle.c_scopes.specs.declared.scopes.Meant.{Meant}
use Rattle.c_scopes.specs.declared.scopes.Entry.{Entry}
use Rattle.c_scopes.specs.declared.scopes.Table.{Table}
use Rattle.c_scopes.specs.InScope.{found_as, left, next_number}
use Rattle.c_scopes.specs.ScopeTables.{var_of, vars_of, turned, scope_of, flat, Chained, AtBlocks, IsKept}
use Rattle.c_scopes.specs.inner.Entries.{Grew, bound, datums_in, first_block, is_at, is_shut, more_data, more_vars}
use Rattle.c_scopes.specs.inner.Entries.{name_at, ptrs_in, pushed, unbound, what_of, with_entry, with_pushed}

-- Lists with a default at their end

pub past_default : {X : Type 0} (xs : List X) (d : X) (n : ℕ) → slice_index_or (xs ++ d ∷ []) n d
    ≡ slice_index_or xs n d
past_default [] d zero = refl
past_default [] d (suc n) = refl
past_default (x ∷ xs) d zero = refl
past_default (x ∷ xs) d (suc n) = past_default xs d n

pub set_again : {X : Type 0} (xs : List X) (k : ℕ) (x y : X) → slice_set (slice_set xs k x) k y ≡ slice_set xs k y
set_again [] k x y = refl
set_again (z ∷ zs) zero x y = refl
set_again (z ∷ zs) (suc k) x y = ap (λ ws. z ∷ ws) (set_again zs k x y)

-- The names

pub text_is_itself : (x : List ℕ) → pointwise nat_eq x x ≡ true
text_is_itself [] = refl
text_is_itself (b ∷ bs) = rw (eq-eqb b b refl) (text_is_itself bs)

-- a name has one number
pub one_number : (names : List (List ℕ)) (i j : ℕ) (x : List ℕ) → IsDistinct names → slice_get names i ≡ Some x
    → slice_get names j ≡ Some x → i ≡ j
one_number [] i j x d f g = cc
one_number (n ∷ ns) zero zero x d f g = refl
one_number (n ∷ ns) zero (suc j) x d f g =
    absurd (d.0 (subst (λ z. IsIn z ns) (let e : x ≡ n = cc in e) (in_from_place ns j x g)))
one_number (n ∷ ns) (suc i) zero x d f g =
    absurd (d.0 (subst (λ z. IsIn z ns) (let e : x ≡ n = cc in e) (in_from_place ns i x f)))
one_number (n ∷ ns) (suc i) (suc j) x d f g = ap suc (one_number ns i j x d.1 f g)

-- what stands at the number of a name is the name
own_name : (names : List (List ℕ)) (k n : ℕ) (text : List ℕ) → slice_get names n ≡ Some text → nat_eq k n ≡ true
    → pointwise nat_eq text (slice_index_or names k []) ≡ true
own_name names k n text is same =
    let spelled : slice_index_or names k [] ≡ text =
    get_or_from_slice_get names k text [] (subst (λ j. slice_get names j ≡ Some text) (sym (eqb-true k n same)) is) in
    rw (spelled) (text_is_itself text)

-- at another number stands another name
other_name : (names : List (List ℕ)) (k n : ℕ) (text : List ℕ) → IsDistinct names → slice_get names n ≡ Some text
    → k < length names → nat_eq k n ≡ false → pointwise nat_eq text (slice_index_or names k []) ≡ false
other_name names k n text d is within apart = false_from_ne_true _ (λ t.
    let same : slice_index_or names k [] ≡ text = sym (same_text text _ (sym t)) in
    true≢false
    (sym (eq-eqb k n (one_number names k n text d (slice_get-get_or names k [] within ∙ ap Some same) is)) ∙ apart))

-- an absent name stands nowhere
absent_name : (names : List (List ℕ)) (k : ℕ) (text : List ℕ) → (IsIn text names → ⊥) → k < length names
    → pointwise nat_eq text (slice_index_or names k []) ≡ false
absent_name names k text absent within = false_from_ne_true _ (λ t.
    let same : slice_index_or names k [] ≡ text = sym (same_text text _ (sym t)) in
    absent (in_from_place names k text (slice_get-get_or names k [] within ∙ ap Some same)))

-- the newest entry of a number
abbrev pub numbered : ℕ → List Entry → Option Meant
numbered n [] = None
numbered n (e ∷ es) = if nat_eq e.name n then Some e.meant else numbered n es

-- what a chain holds at a number is the newest entry
pub chained_finds : (n : ℕ) (es : List Entry) (meant : List (Option Meant)) → Chained es meant
    → slice_index_or meant n None ≡ numbered n es
chained_finds n [] meant h = h n
chained_finds n (e ∷ es) meant h = here (nat_eq e.name n) refl (chained_finds n es (slice_set meant e.name e.under) h.1)
  where
    here : (b : Bool) → nat_eq e.name n ≡ b → slice_index_or (slice_set meant e.name e.under) n None ≡ numbered n es →
        slice_index_or meant n None ≡ (if b then Some e.meant else numbered n es)
    here true is rest = subst (λ k. slice_index_or meant k None ≡ Some e.meant) (eqb-true e.name n is) h.0
    here false is rest = sym
        (get_or-set_other meant e.name n e.under None (λ same. true≢false (sym (eq-eqb e.name n (sym same)) ∙ is)))
        ∙ rest

-- the variable of a name is that of its number
pub names_find : (names : List (List ℕ)) (n : ℕ) (text : List ℕ) (es : List Entry) → IsDistinct names
    → slice_get names n ≡ Some text → Every (λ e. e.name < length names) es →
    found_as (var_in text (vars_of names es)) ≡ what_of (numbered n es)
names_find names n text [] d is named = refl
names_find names n text (e ∷ es) d is named = here (nat_eq e.name n) refl (names_find names n text es d is named.1)
  where
    here : (b : Bool) → nat_eq e.name n ≡ b → found_as (var_in text (vars_of names es)) ≡ what_of (numbered n es) →
        found_as
        (cond (pointwise nat_eq text (slice_index_or names e.name [])) (Some (var_of names e))
        (var_in text (vars_of names es))) ≡ what_of (if b then Some e.meant else numbered n es)
    here true is_n rest = rw (own_name names e.name n text is is_n) refl
    here false is_n rest = rw (other_name names e.name n text d is named.0 is_n) rest

-- a name without a number has no variable
pub none_finds : (names : List (List ℕ)) (text : List ℕ) (es : List Entry) → (IsIn text names → ⊥)
    → Every (λ e. e.name < length names) es → var_in text (vars_of names es) ≡ None
none_finds names text [] absent named = refl
none_finds names text (e ∷ es) absent named =
    rw (absent_name names e.name text absent named.0) (none_finds names text es absent named.1)

-- all variables in scope
pub all_vars : (names : List (List ℕ)) (bs : List (List Entry)) → joined (map (vars_of names) bs)
    ≡ vars_of names (flat bs)
all_vars names [] = refl
all_vars names (b ∷ bs) = ap (λ vs. vars_of names b ++ vs) (all_vars names bs)
    ∙ sym (map-append (var_of names) b (flat bs))

-- what a table finds at a number
pub table_finds : (t : Table) (n : ℕ) (text : List ℕ) → IsKept t → IsDistinct t.names → slice_get t.names n ≡ Some text
    → what_of (slice_index_or t.meant n None) ≡ found_as (look_up (scope_of t) text)
table_finds t n text kept d is =
    ap what_of (chained_finds n (flat (turned t.blocks)) t.meant kept.chained)
    ∙ sym (ap (λ vs. found_as (var_in text vs)) (all_vars t.names (turned t.blocks))
    ∙ names_find t.names n text (flat (turned t.blocks)) d is kept.named)

pub table_lacks : (t : Table) (text : List ℕ) → IsKept t → (IsIn text t.names → ⊥)
    → None ≡ found_as (look_up (scope_of t) text)
table_lacks t text kept absent =
    sym (ap (λ vs. found_as (var_in text vs)) (all_vars t.names (turned t.blocks))
    ∙ ap found_as (none_finds t.names text (flat (turned t.blocks)) absent kept.named))

-- A new name

chained_push : (es : List Entry) (meant : List (Option Meant)) → Every (λ e. e.name < length meant) es
    → Chained es meant → Chained es (meant ++ None ∷ [])
chained_push [] meant within h = λ n. past_default meant None n ∙ h n
chained_push (e ∷ es) meant within h = (
  past_default meant None e.name ∙ h.0,
  subst (Chained es) (sym (set-append_left meant (None ∷ []) e.name e.under within.0))
      (chained_push es (slice_set meant e.name e.under)
      (subst (λ k. Every (λ f. f.name < k) es) (sym (length-set meant e.name e.under)) within.1) h.1),
)

vars_push : (names : List (List ℕ)) (text : List ℕ) (es : List Entry) → Every (λ e. e.name < length names) es
    → vars_of (names ++ text ∷ []) es ≡ vars_of names es
vars_push names text [] named = refl
vars_push names text (e ∷ es) named =
    let here : slice_index_or (names ++ text ∷ []) e.name [] ≡ slice_index_or names e.name [] =
    get_or_append_left names (text ∷ []) [] e.name named.0 in
    rw (here, vars_push names text es named.1) refl

blocks_push : (names : List (List ℕ)) (text : List ℕ) (bs : List (List Entry))
    → Every (λ e. e.name < length names) (flat bs) →
    map (vars_of (names ++ text ∷ [])) bs ≡ map (vars_of names) bs
blocks_push names text [] named = refl
blocks_push names text (b ∷ bs) named =
    let both = every_parts (λ (e : Entry). e.name < length names) b (flat bs) named in
    rw (vars_push names text b both.0, blocks_push names text bs both.1) refl

longer : {X : Type 0} (old new : List X) (x : X) → Grew old new x → length old ≤ length new
longer old new x (inl e) = rw e (omega arith)
longer old new x (inr e) = rw e (length_at old x)
  where
    length_at : {X : Type 0} (xs : List X) (x : X) → length xs ≤ length (xs ++ x ∷ [])
    length_at [] x = omega arith
    length_at (y ∷ ys) x = omega (arith, length_at ys x)

-- a new name changes nothing
pub grown_kept : (t : Table) (names : List (List ℕ)) (meant : List (Option Meant)) (text : List ℕ) → IsKept t
    → Grew t.names names text → Grew t.meant meant None → length names ≤ length meant →
    IsKept (record t { names = names; meant = meant })
grown_kept t names meant text kept more_names more_meant room = record {
  room = room;
  named = every_weaker (λ (e : Entry). e.name < length t.names) (λ e. e.name < length names) (flat (turned t.blocks))
      (λ e h. omega (arith, longer t.names names text more_names)) kept.named;
  chained = chained more_meant;
  at = kept.at;
}
  where
    chained : Grew t.meant meant None → Chained (flat (turned t.blocks)) meant
    chained (inl e) = subst (Chained (flat (turned t.blocks))) (sym e) kept.chained
    chained (inr e) = subst (Chained (flat (turned t.blocks))) (sym e)
        (chained_push (flat (turned t.blocks)) t.meant
        (every_weaker (λ (f : Entry). f.name < length t.names) (λ f. f.name < length t.meant)
        (flat (turned t.blocks)) (λ f h. omega (arith, kept.room)) kept.named) kept.chained)

pub grown_same : (t : Table) (names : List (List ℕ)) (meant : List (Option Meant)) (text : List ℕ) → IsKept t
    → Grew t.names names text →
    scope_of (record t { names = names; meant = meant }) ≡ scope_of t
grown_same t names meant text kept (inl e) = ap (λ ns. scope_of (record t { names = ns; meant = meant })) e
grown_same t names meant text kept (inr e) =
    ap (λ ns. scope_of (record t { names = ns; meant = meant })) e
    ∙ ap (λ bs. record { blocks = bs; vars = t.vars; data_vars = t.data_vars; home = t.home })
    (blocks_push t.names text (turned t.blocks) kept.named)

-- Entering and leaving a block

pub turned_push : (blocks : List (List Entry)) (b : List Entry) → turned (blocks ++ b ∷ []) ≡ reverse b ∷ turned blocks
turned_push blocks b = ap (map reverse) (reverse-append blocks (b ∷ []))

pub length-turned : (blocks : List (List Entry)) → length (turned blocks) ≡ length blocks
length-turned blocks = length-map (reverse blocks) reverse ∙ length-reverse blocks

pub entered_kept : (t : Table) (blocks : List (List Entry)) → IsKept t → blocks ≡ t.blocks ++ [] ∷ []
    → IsKept (record t { blocks = blocks })
entered_kept t blocks kept is =
    let now : turned blocks ≡ [] ∷ turned t.blocks = ap turned is ∙ turned_push t.blocks [] in
    record {
      room = kept.room;
      named = subst (λ bs. Every (λ (e : Entry). e.name < length t.names) (flat bs)) (sym now) kept.named;
      chained = subst (λ bs. Chained (flat bs) t.meant) (sym now) kept.chained;
      at = subst AtBlocks (sym now) (tt, kept.at);
    }

pub entered_as : (t : Table) (blocks : List (List Entry)) → blocks ≡ t.blocks ++ [] ∷ []
    → scope_of (record t { blocks = blocks }) ≡ opened (scope_of t)
entered_as t blocks is =
    ap (λ bs. record { blocks = map (vars_of t.names) bs; vars = t.vars; data_vars = t.data_vars; home = t.home })
    (ap turned is ∙ turned_push t.blocks [])

length-unbound : (es : List Entry) (meant : List (Option Meant)) → length (unbound es meant) ≡ length meant
length-unbound [] meant = refl
length-unbound (e ∷ es) meant = length-unbound es (slice_set meant e.name e.under) ∙ length-set meant e.name e.under

chained_after : (es fs : List Entry) (meant : List (Option Meant)) → Chained (es ++ fs) meant
    → Chained fs (unbound es meant)
chained_after [] fs meant h = h
chained_after (e ∷ es) fs meant h = chained_after es fs (slice_set meant e.name e.under) h.1

pub left_kept : (t : Table) (blocks : List (List Entry)) (b : List Entry) (meant : List (Option Meant)) → IsKept t
    → t.blocks ≡ blocks ++ b ∷ [] → meant ≡ unbound (reverse b) t.meant →
    IsKept (record t { blocks = blocks; meant = meant })
left_kept t blocks b meant kept is now =
    let were : turned t.blocks ≡ reverse b ∷ turned blocks = ap turned is ∙ turned_push blocks b in
    let named = subst (λ bs. Every (λ (e : Entry). e.name < length t.names) (flat bs)) were kept.named in
    let chained = subst (λ bs. Chained (flat bs) t.meant) were kept.chained in
    let at = subst AtBlocks were kept.at in
    record {
      room = subst (λ ms. length t.names ≤ length ms) (sym now)
          (subst (λ k. length t.names ≤ k) (sym (length-unbound (reverse b) t.meant)) kept.room);
      named = (every_parts (λ (e : Entry). e.name < length t.names) (reverse b) (flat (turned blocks)) named).1;
      chained = subst (Chained (flat (turned blocks))) (sym now)
          (chained_after (reverse b) (flat (turned blocks)) t.meant chained);
      at = at.1;
    }

pub left_as : (t : Table) (blocks : List (List Entry)) (b : List Entry) (meant : List (Option Meant))
    → t.blocks ≡ blocks ++ b ∷ [] → scope_of (record t { blocks = blocks; meant = meant }) ≡ left (scope_of t)
left_as t blocks b meant is =
    ap (λ bs.
    left (record { blocks = map (vars_of t.names) bs; vars = t.vars; data_vars = t.data_vars; home = t.home }))
    (sym (ap turned is ∙ turned_push blocks b))

pub none_left : (t : Table) → t.blocks ≡ [] → scope_of t ≡ left (scope_of t)
none_left t is = ap (λ bs. scope_of (record t { blocks = bs })) is
    ∙ ap (λ bs. left (scope_of (record t { blocks = bs }))) (sym is)

-- A new meaning

numbered-append_at : (names : List (List ℕ)) (n k : ℕ) (text : List ℕ) (b es : List Entry) → IsDistinct names
    → slice_get names n ≡ Some text → Every (λ e. e.name < length names) b →
    Every (λ e. e.meant.block ≡ k) b → is_at (numbered n es) k ≡ false → is_at (numbered n (b ++ es)) k
    ≡ has text (map var_name (vars_of names b))
numbered-append_at names n k text [] es d is named at none = none
numbered-append_at names n k text (e ∷ b) es d is named at none =
    here (nat_eq e.name n) refl (numbered-append_at names n k text b es d is named.1 at.1 none)
  where
    here : (c : Bool) → nat_eq e.name n ≡ c → is_at (numbered n (b ++ es)) k ≡ has text (map var_name (vars_of names b))
        →
        is_at (if c then Some e.meant else numbered n (b ++ es)) k
        ≡ (pointwise nat_eq text (slice_index_or names e.name []) || has text (map var_name (vars_of names b)))
    here true is_n rest = rw (own_name names e.name n text is is_n) (eq-eqb e.meant.block k at.0)
    here false is_n rest = rw (other_name names e.name n text d is named.0 is_n) rest

below_at : (n k : ℕ) (es : List Entry) → Every (λ e. e.meant.block < k) es → is_at (numbered n es) k ≡ false
below_at n k [] h = refl
below_at n k (e ∷ es) h = here (nat_eq e.name n) (below_at n k es h.1)
  where
    here : (c : Bool) → is_at (numbered n es) k ≡ false → is_at (if c then Some e.meant else numbered n es) k ≡ false
    here true rest = false_from_ne_true _ (λ t. absurd (omega (arith, eqb-true e.meant.block k t, h.0)))
    here false rest = rest

blocks_below : (k : ℕ) (bs : List (List Entry)) → AtBlocks bs → length bs < k → Every (λ e. e.meant.block < k) (flat bs)
blocks_below k [] at h = tt
blocks_below k (b ∷ bs) at h =
    every_append (λ e. e.meant.block < k) b (flat bs)
    (every_weaker (λ e. e.meant.block ≡ length (b ∷ bs)) (λ e. e.meant.block < k) b (λ e same. omega (arith, same, h))
    at.0)
    (blocks_below k bs at.1 (omega (arith, h)))

-- whether a name is taken in the innermost block is what its meaning tells
pub taken_as : (t : Table) (n : ℕ) (text : List ℕ) → IsKept t → IsDistinct t.names → slice_get t.names n ≡ Some text →
    is_at (slice_index_or t.meant n None) (length t.blocks) ≡ has text (map var_name (innermost (scope_of t).blocks))
taken_as t n text kept d is =
    ap (λ m. is_at m (length t.blocks)) (chained_finds n (flat (turned t.blocks)) t.meant kept.chained)
    ∙ here (turned t.blocks) (length-turned t.blocks) kept.named kept.at
  where
    here : (bs : List (List Entry)) → length bs ≡ length t.blocks → Every (λ e. e.name < length t.names) (flat bs)
        → AtBlocks bs →
        is_at (numbered n (flat bs)) (length t.blocks) ≡ has text (map var_name (innermost (map (vars_of t.names) bs)))
    here [] long named at = refl
    here (b ∷ bs) long named at =
        let parts = every_parts (λ (e : Entry). e.name < length t.names) b (flat bs) named in
        numbered-append_at t.names n (length t.blocks) text b (flat bs) d is parts.0
        (every_weaker (λ (e : Entry). e.meant.block ≡ length (b ∷ bs)) (λ e. e.meant.block ≡ length t.blocks) b
        (λ e same. same ∙ long) at.0)
        (below_at n (length t.blocks) (flat bs) (blocks_below (length t.blocks) bs at.1 (omega (arith, long))))

length-blocks : (t : Table) → length (scope_of t).blocks ≡ length t.blocks
length-blocks t = length-map (turned t.blocks) (vars_of t.names) ∙ length-turned t.blocks

shut_as : (t : Table) (n : ℕ) → IsKept t → IsDistinct t.names → n < length t.names →
    is_shut (slice_index_or t.meant n None) (length t.blocks)
    ≡ (nat_eq (length (scope_of t).blocks) 0
    || has (name_at t.names n) (map var_name (innermost (scope_of t).blocks)))
shut_as t n kept d within =
    let taken = taken_as t n (name_at t.names n) kept d (slice_get-get_or t.names n [] within) in
    rw (taken, length-blocks t) refl

-- a variable that comes into the innermost block, or not
with_var_shut : (v : Var) (bs : List (List Var)) → (nat_eq (length bs) 0 || has v.name (map var_name (innermost bs)))
    ≡ true → bs ≡ with_var v bs
with_var_shut v [] h = refl
with_var_shut v (b ∷ bs) h =
    let taken : has v.name (map var_name b) ≡ true =
    sym (ap (λ c. c || has v.name (map var_name b)) (eqb-suc-zero (length bs))) ∙ h in rw taken refl

with_var_open : (v : Var) (bs : List (List Var)) → (nat_eq (length bs) 0 || has v.name (map var_name (innermost bs)))
    ≡ false → with_pushed v bs ≡ with_var v bs
with_var_open v [] h = refl
with_var_open v (b ∷ bs) h =
    let free : has v.name (map var_name b) ≡ false =
    sym (ap (λ c. c || has v.name (map var_name b)) (eqb-suc-zero (length bs))) ∙ h in rw free refl

pub shut_same : (t : Table) (n : ℕ) (what : Found) → IsKept t → IsDistinct t.names → n < length t.names
    → is_shut (slice_index_or t.meant n None) (length t.blocks) ≡ true →
    scope_of t ≡ bound (name_at t.names n) what (scope_of t)
shut_same t n what kept d within shut =
    ap (λ bs. record { blocks = bs; vars = t.vars; data_vars = t.data_vars; home = t.home })
    (with_var_shut (record { name = name_at t.names n; kind = what.kind; number = what.number }) (scope_of t).blocks
    (sym (shut_as t n kept d within) ∙ shut))

pub open_pushes : (t : Table) (n : ℕ) (what : Found) → IsKept t → IsDistinct t.names → n < length t.names
    → is_shut (slice_index_or t.meant n None) (length t.blocks) ≡ false →
    pushed (name_at t.names n) what (scope_of t) ≡ bound (name_at t.names n) what (scope_of t)
open_pushes t n what kept d within open_ =
    ap (λ bs. record { blocks = bs; vars = t.vars; data_vars = t.data_vars; home = t.home })
    (with_var_open (record { name = name_at t.names n; kind = what.kind; number = what.number }) (scope_of t).blocks
    (sym (shut_as t n kept d within) ∙ open_))

pub open_some : (m : Option Meant) (n : ℕ) → is_shut m n ≡ false → 0 < n
open_some m zero h = absurd (true≢false h)
open_some m (suc n) h = omega arith

module _ (t : Table) (n : ℕ) (what : Found) where
  abbrev pub new_meaning : Meant
  new_meaning = record { what = what; block = length t.blocks }

  abbrev pub new_entry : Option Meant → Entry
  new_entry under = record { name = n; meant = new_meaning; under = under }

  pub pushed_kept : (under : Option Meant) (blocks : List (List Entry)) (meant : List (Option Meant)) → IsKept t
      → n < length t.names → under ≡ slice_index_or t.meant n None →
      0 < length t.blocks → turned blocks ≡ with_entry (new_entry under) (turned t.blocks)
      → meant ≡ slice_set t.meant n (Some new_meaning) →
      IsKept (record t { blocks = blocks; meant = meant })
  pushed_kept under blocks meant kept within was open_ is now =
      here (turned t.blocks) (length-turned t.blocks) kept.named kept.chained kept.at is
    where
      restored : slice_set (slice_set t.meant n (Some new_meaning)) n under ≡ t.meant
      restored = set_again t.meant n (Some new_meaning) under ∙ ap (slice_set t.meant n) was ∙ set-get_or t.meant n None

      here : (bs : List (List Entry)) → length bs ≡ length t.blocks → Every (λ e. e.name < length t.names) (flat bs)
          → Chained (flat bs) t.meant → AtBlocks bs →
          turned blocks ≡ with_entry (new_entry under) bs → IsKept (record t { blocks = blocks; meant = meant })
      here [] long named chained at is = absurd (omega (arith, long, open_))
      here (b ∷ bs) long named chained at is =
          let old_chain : Chained (b ++ flat bs) (slice_set (slice_set t.meant n (Some new_meaning)) n under) =
          subst (Chained (b ++ flat bs)) (sym restored) chained in
          let top : slice_index_or (slice_set t.meant n (Some new_meaning)) n None ≡ Some new_meaning =
          get_or-set_same t.meant n (Some new_meaning) None (omega (arith, kept.room, within)) in
          let new_chain : Chained (new_entry under ∷ (b ++ flat bs)) (slice_set t.meant n (Some new_meaning)) =
          (top, old_chain) in
          record {
            room = subst (λ ms. length t.names ≤ length ms) (sym now)
                (subst (λ k. length t.names ≤ k) (sym (length-set t.meant n (Some new_meaning))) kept.room);
            named = subst (λ cs. Every (λ (e : Entry). e.name < length t.names) (flat cs)) (sym is) (within, named);
            chained = subst (λ cs. Chained (flat cs) meant) (sym is)
                (subst (Chained (new_entry under ∷ (b ++ flat bs))) (sym now) new_chain);
            at = subst AtBlocks (sym is) ((sym long, at.0), at.1);
          }

  pub pushed_as : (under : Option Meant) (blocks : List (List Entry)) (meant : List (Option Meant))
      → turned blocks ≡ with_entry (new_entry under) (turned t.blocks) →
      scope_of (record t { blocks = blocks; meant = meant }) ≡ pushed (name_at t.names n) what (scope_of t)
  pushed_as under blocks meant is =
      ap (λ bs. record { blocks = bs; vars = t.vars; data_vars = t.data_vars; home = t.home })
      (ap (map (vars_of t.names)) is ∙ here (turned t.blocks))
    where
      here : (bs : List (List Entry)) → map (vars_of t.names) (with_entry (new_entry under) bs)
          ≡ with_pushed (record { name = name_at t.names n; kind = what.kind; number = what.number })
          (map (vars_of t.names) bs)
      here [] = refl
      here (b ∷ bs) = refl

-- The last of several blocks

pub last_block : (blocks : List (List Entry)) → 0 < length blocks → (front : List (List Entry)) × (b : List Entry)
    × (blocks ≡ front ++ b ∷ []) × (length front ≡ length blocks - 1)
last_block [] h = absurd (omega arith)
last_block (b ∷ []) h = ([], b, refl, refl)
last_block (b ∷ (c ∷ bs)) h =
    let rest = last_block (c ∷ bs) (omega arith) in
    (b ∷ rest.0, rest.1, ap (λ cs. b ∷ cs) rest.2, omega (arith, rest.3))

set_last : (front : List (List Entry)) (b c : List Entry) → slice_set (front ++ b ∷ []) (length front) c ≡ front
    ++ c ∷ []
set_last [] b c = refl
set_last (a ∷ front) b c = ap (λ cs. a ∷ cs) (set_last front b c)

get_last : (front : List (List Entry)) (b : List Entry) → slice_get (front ++ b ∷ []) (length front) ≡ Some b
get_last [] b = refl
get_last (a ∷ front) b = get_last front b

pub put_last : (blocks : List (List Entry)) (k : ℕ) (old new : List Entry) (e : Entry) → 0 < length blocks
    → k ≡ length blocks - 1 → slice_get blocks k ≡ Some old → new ≡ old ++ e ∷ [] →
    turned (slice_set blocks k new) ≡ with_entry e (turned blocks)
put_last blocks k old new e some at was is =
    let l = last_block blocks some in
    let place : k ≡ length l.0 = at ∙ sym l.3 in
    let same : old ≡ l.1 =
    let two : Some l.1 ≡ Some old = sym (get_last l.0 l.1) ∙ ap (λ bs. slice_get bs (length l.0)) (sym l.2)
    ∙ ap (slice_get blocks) (sym place) ∙ was in cc in
    let entry : reverse new ≡ e ∷ reverse l.1 = ap reverse is ∙ reverse-append old (e ∷ [])
    ∙ ap (λ (xs : List Entry). e ∷ reverse xs) same in
    ap (λ bs. turned (slice_set bs k new)) l.2
    ∙ ap (λ j. turned (slice_set (l.0 ++ l.1 ∷ []) j new)) place
    ∙ ap turned (set_last l.0 l.1 new)
    ∙ turned_push l.0 new
    ∙ ap (λ b. b ∷ turned l.0) entry
    ∙ sym (ap (λ bs. with_entry e bs) (ap turned l.2 ∙ turned_push l.0 l.1))

pub put_back : (blocks : List (List Entry)) (k : ℕ) (old : List Entry) → slice_get blocks k ≡ Some old
    → slice_set blocks k old ≡ blocks
put_back [] k old h = refl
put_back (b ∷ bs) zero old h = ap (λ c. c ∷ bs) (let e : old ≡ b = cc in e)
put_back (b ∷ bs) (suc k) old h = ap (λ cs. b ∷ cs) (put_back bs k old h)

-- A declaration

none_taken : (names : List (List ℕ)) (text : List ℕ) (es : List Entry) → (IsIn text names → ⊥)
    → Every (λ e. e.name < length names) es → has text (map var_name (vars_of names es)) ≡ false
none_taken names text [] absent named = refl
none_taken names text (e ∷ es) absent named =
    rw (absent_name names e.name text absent named.0) (none_taken names text es absent named.1)

pub not_taken : (t : Table) (text : List ℕ) → IsKept t → (IsIn text t.names → ⊥)
    → false ≡ has text (map var_name (innermost (scope_of t).blocks))
not_taken t text kept absent = sym (here (turned t.blocks) kept.named)
  where
    here : (bs : List (List Entry)) → Every (λ e. e.name < length t.names) (flat bs)
        → has text (map var_name (innermost (map (vars_of t.names) bs))) ≡ false
    here [] named = refl
    here (b ∷ bs) named = none_taken t.names text b absent
        (every_parts (λ (e : Entry). e.name < length t.names) b (flat bs) named).0

pub added_as : (t u : Table) (x : List ℕ) (kind : Kind) (number : ℕ) → u.names ≡ t.names → u.blocks ≡ t.blocks
    → u.vars ≡ more_vars kind x t.vars → u.data_vars ≡ more_data kind x t.data_vars → u.home ≡ t.home →
    number ≡ next_number kind t.vars t.data_vars → bound x (record { kind = kind; number = number }) (scope_of u)
    ≡ declared (scope_of t) x kind
added_as t u x (Points to) number names blocks vars data_vars home is =
    let now : scope_of u ≡ record
    { blocks = (scope_of t).blocks; vars = more_vars (Points to) x t.vars; data_vars = t.data_vars; home = t.home }
    = cc in
    ap (bound x (record { kind = Points to; number = number })) now
    ∙ ap
    (λ (n : ℕ). bound x (record { kind = Points to; number = n })
    (record {
      blocks = (scope_of t).blocks;
      vars = more_vars (Points to) x t.vars;
      data_vars = t.data_vars;
      home = t.home;
    })) is
added_as t u x Datum number names blocks vars data_vars home is =
    let now : scope_of u ≡ record
    { blocks = (scope_of t).blocks; vars = t.vars; data_vars = more_data Datum x t.data_vars; home = t.home } = cc in
    ap (bound x (record { kind = Datum; number = number })) now
    ∙ ap
    (λ (n : ℕ). bound x (record { kind = Datum; number = n })
    (record {
      blocks = (scope_of t).blocks;
      vars = t.vars;
      data_vars = more_data Datum x t.data_vars;
      home = t.home;
    })) is

-- adding changes only what was declared
pub added_kept : (t u : Table) → IsKept t → u.names ≡ t.names → u.meant ≡ t.meant → u.blocks ≡ t.blocks → IsKept u
added_kept t u kept names meant blocks = record {
  room = subst (λ ns. length ns ≤ length u.meant) (sym names)
      (subst (λ ms. length t.names ≤ length ms) (sym meant) kept.room);
  named = subst (λ ns. Every (λ (e : Entry). e.name < length ns) (flat (turned u.blocks))) (sym names)
      (subst (λ bs. Every (λ (e : Entry). e.name < length t.names) (flat (turned bs))) (sym blocks) kept.named);
  chained = subst (λ ms. Chained (flat (turned u.blocks)) ms) (sym meant)
      (subst (λ bs. Chained (flat (turned bs)) t.meant) (sym blocks) kept.chained);
  at = subst (λ bs. AtBlocks (turned bs)) (sym blocks) kept.at;
}

-- The variables of the innermost block

pub ptrs_as : (names : List (List ℕ)) (es : List Entry) → ptrs_of (vars_of names es) ≡ ptrs_in es
ptrs_as names [] = refl
ptrs_as names (e ∷ es) = ap (λ ns. ns ++ ptr_before e.meant.what.kind e.meant.what.number) (ptrs_as names es)

pub datums_as : (names : List (List ℕ)) (es : List Entry) → datums_of (vars_of names es) ≡ datums_in es
datums_as names [] = refl
datums_as names (e ∷ es) = ap (λ ns. ns ++ datum_before e.meant.what.kind e.meant.what.number) (datums_as names es)

pub innermost_as : (names : List (List ℕ)) (bs : List (List Entry)) → innermost (map (vars_of names) bs)
    ≡ vars_of names (first_block bs)
innermost_as names [] = refl
innermost_as names (b ∷ bs) = refl

pub inner_ptrs : (t : Table) (es : List Entry) → reverse es ≡ first_block (turned t.blocks) → ptrs_in (reverse es)
    ≡ ptrs_of (innermost (scope_of t).blocks)
inner_ptrs t es is = ap ptrs_in is ∙ sym (ptrs_as t.names (first_block (turned t.blocks)))
    ∙ ap ptrs_of (sym (innermost_as t.names (turned t.blocks)))

pub inner_datums : (t : Table) (es : List Entry) → reverse es ≡ first_block (turned t.blocks) → datums_in (reverse es)
    ≡ datums_of (innermost (scope_of t).blocks)
inner_datums t es is = ap datums_in is ∙ sym (datums_as t.names (first_block (turned t.blocks)))
    ∙ ap datums_of (sym (innermost_as t.names (turned t.blocks)))

pub block_last : (blocks : List (List Entry)) (k : ℕ) (b : List Entry) → 0 < length blocks → k ≡ length blocks - 1
    → slice_get blocks k ≡ Some b → reverse b ≡ first_block (turned blocks)
block_last blocks k b some at is =
    let l = last_block blocks some in
    let same : b ≡ l.1 =
    let two : Some l.1 ≡ Some b = sym (get_last l.0 l.1) ∙ ap (λ bs. slice_get bs (length l.0)) (sym l.2)
    ∙ ap (slice_get blocks) (sym (at ∙ sym l.3)) ∙ is in cc in
    ap reverse same ∙ sym (ap (λ bs. first_block (turned bs)) l.2 ∙ ap first_block (turned_push l.0 l.1))

-- one entry more
pub ptrs_more : (es : List Entry) (e : Entry) → ptrs_in (reverse (es ++ e ∷ [])) ≡ ptrs_in (reverse es)
    ++ ptr_before e.meant.what.kind e.meant.what.number
ptrs_more es e = ap ptrs_in (reverse-append es (e ∷ []))

pub datums_more : (es : List Entry) (e : Entry) → datums_in (reverse (es ++ e ∷ [])) ≡ datums_in (reverse es)
    ++ datum_before e.meant.what.kind e.meant.what.number
datums_more es e = ap datums_in (reverse-append es (e ∷ []))
