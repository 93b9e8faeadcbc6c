-- Reading the pieces of a line from left to right.
use Rattle.std.specs.Prelude.{◌≡◌, ◌*◌, ◌+◌, ◌-◌, ◌&&◌, ℕ, zero, suc, Bool, true, false, not, List, [], ◌∷◌, ◌++◌, cond}
use Rattle.std.specs.Prelude.{codes, decimal, length, nat_le, nat_lt, nat_eq, Option, Some, None, Result, Ok, Err}
use Rattle.std.specs.Cmp.Lexicographic.{pointwise}
use Rattle.std.specs.List.{prefix_len}
use Rattle.c_lexer.specs.Bytes.{is_gap}
use Rattle.fore_base.specs.declared.store.Datum.{Datum}
use Rattle.fore_base.specs.declared.store.Datum.TheVariants.{Undefined, Known}
use Rattle.fa_lines.specs.Pieces.{is_word, joins, pieces}
use Rattle.fa_lines.specs.declared.line.DatumText.{DatumText}
use Rattle.fa_lines.specs.declared.line.SlotText.{SlotText}
use Rattle.fa_lines.specs.declared.line.SlotText.TheVariants.{Field, Link, Hook}
use Rattle.fa_lines.specs.declared.line.Term.{Term}
use Rattle.fa_lines.specs.declared.line.Term.TheVariants.{Null, Uninit, Dangling, Ref, Cell}
use Rattle.fa_lines.specs.declared.line.Line.{Line}
use Rattle.fa_lines.specs.declared.line.Line.TheVariants.{Skipped, Opens, Root, Rule, Ends}
use Rattle.fa_lines.specs.declared.unread.Unread.{Unread}
use Rattle.fa_lines.specs.declared.unread.Unread.TheVariants.{Other, Memory}

abbrev pub Texts : Type 0
Texts = List (List ℕ)

-- What a function returned, seen by view, is what reading gives, unless memory ran out.

abbrev pub Fails : {Y : Type 0} → Unread → Option Y → Type 0
Fails Memory read = Unit {0}
Fails Other read = read ≡ None

abbrev pub Gives : {X Y : Type 0} → (X → Y) → Result X Unread → Option Y → Type 0
Gives view (Ok x) read = read ≡ Some (view x)
Gives view (Err e) read = Fails e read

infixl 10 ◌>>=◌
abbrev pub ◌>>=◌ : {A B : Type 0} → Option A → (A → Option B) → Option B
(Some x) >>= f = f x
None >>= f = None

abbrev pub guard : {A : Type 0} → Bool → Option A → Option A
guard true read = read
guard false read = None

abbrev pub is : List ℕ → List ℕ → Bool
is text word = pointwise nat_eq text word

-- Numbers.

abbrev pub value_from : ℕ → List ℕ → ℕ
value_from n [] = n
value_from n (d ∷ ds) = value_from (n * 10 + (d - 48)) ds

unfoldable pub number_of : List ℕ → Option ℕ
number_of text = guard (nat_lt (value_from 0 text) 4294967296 && is text (decimal (value_from 0 text)))
    (Some (value_from 0 text))

unfoldable pub number_up_to : ℕ → List ℕ → Option ℕ
number_up_to most text = number_of text >>= λ n. guard (nat_le n most) (Some n)

unfoldable pub state_of : List ℕ → Option ℕ
state_of [] = None
state_of (b ∷ bs) = guard (nat_eq b 115) (number_up_to 255 bs)

abbrev pub datum_or : List ℕ → Option ℕ → Option Datum
datum_or text None = guard (is text (codes "undef")) (Some Undefined)
datum_or text (Some n) = Some (Known n)

unfoldable pub datum_of : List ℕ → Option Datum
datum_of text = datum_or text (number_up_to 15 text)

-- Items, each with the pieces behind it.

unfoldable pub field_front : List ℕ → List ℕ → Texts → Option (SlotText × Texts)
field_front name state rest = guard (is_word name) (state_of state >>= λ q. Some (Field name q, rest))

unfoldable pub link_front : List ℕ → List ℕ → Texts → Option (SlotText × Texts)
link_front name state rest = guard (is_word name) (state_of state >>= λ q. Some (Link name q, rest))

unfoldable pub hook_front : List ℕ → Texts → Option (SlotText × Texts)
hook_front name rest = guard (is_word name) (Some (Hook name, rest))

-- behind @ and a name
unfoldable pub box_front : List ℕ → Texts → Option (SlotText × Texts)
box_front name [] = hook_front name []
box_front name (a ∷ []) = hook_front name (a ∷ [])
box_front name (a ∷ b ∷ rest) = cond (is a (codes "=")) (link_front name b rest) (hook_front name (a ∷ b ∷ rest))

unfoldable pub slot_front : Texts → Option (SlotText × Texts)
slot_front [] = None
slot_front (a ∷ []) = None
slot_front (a ∷ b ∷ []) = guard (is a (codes "@")) (box_front b [])
slot_front (a ∷ b ∷ c ∷ rest) = cond (is a (codes "@")) (box_front b (c ∷ rest))
    (guard (is b (codes "=")) (field_front a c rest))

unfoldable pub datum_front : Texts → Option (DatumText × Texts)
datum_front [] = None
datum_front (a ∷ []) = None
datum_front (a ∷ b ∷ []) = None
datum_front (a ∷ b ∷ c ∷ rest) = guard (is b (codes "=") && is_word a)
    (datum_of c >>= λ d. Some (record { name = a; datum = d }, rest))

-- an item more in front
abbrev pub more : {X : Type 0} → X → Option (List X × Texts) → Option (List X × Texts)
more x None = None
more x (Some p) = Some (x ∷ p.0, p.1)

-- items more in front
abbrev pub mores : {X : Type 0} → List X → Option (List X × Texts) → Option (List X × Texts)
mores xs None = None
mores xs (Some p) = Some (xs ++ p.0, p.1)

-- behind an item: whether the closing piece stands there, and no comma, and the pieces behind it
abbrev pub mark_front : List ℕ → Texts → Option (Bool × Texts)
mark_front close [] = None
mark_front close (p ∷ rest) = cond (is p close) (Some (true, rest)) (guard (is p (codes ",")) (Some (false, rest)))

-- an item, and then others where no closing piece stands behind it
abbrev pub item_rest : {X : Type 0} → (Texts → Option (List X × Texts)) → X → Bool × Texts → Option (List X × Texts)
item_rest others x m = cond m.0 (Some (x ∷ [], m.1)) (more x (others m.1))

-- items with a comma between two, up to a closing piece; at most so many
abbrev pub items : {X : Type 0} → (Texts → Option (X × Texts)) → List ℕ → ℕ → Texts → Option (List X × Texts)
items front close zero ps = None
items front close (suc n) ps = front ps >>= λ p. mark_front close p.1 >>= λ m. item_rest (items front close n) p.0 m

-- Terms.

unfoldable pub leaf_of : List ℕ → Option Term
leaf_of a = cond (is a (codes "null")) (Some Null) (cond (is a (codes "uninit")) (Some Uninit)
    (guard (is a (codes "dangling")) (Some Dangling)))

abbrev pub whole_of : {X : Type 0} → X → Texts → Option X
whole_of x [] = Some x
whole_of x (p ∷ ps) = None

-- nothing is left
abbrev pub whole : {X : Type 0} → X × Texts → Option X
whole p = whole_of p.0 p.1

abbrev pub no_slots : Texts → Option (List SlotText)
no_slots [] = Some []
no_slots (p ∷ ps) = None

-- the slots behind the opening bracket
unfoldable pub slots_of : Texts → Option (List SlotText)
slots_of [] = None
slots_of (p ∷ ps) = cond (is p (codes ")")) (no_slots ps)
    (items slot_front (codes ")") (length (p ∷ ps)) (p ∷ ps) >>= whole)

unfoldable pub cell_with : List ℕ → List DatumText → Texts → Option Term
cell_with shape ds [] = None
cell_with shape ds (p ∷ rest) = guard (is p (codes "(")) (slots_of rest >>= λ slots. Some (Cell shape ds slots))

unfoldable pub data_cell : List ℕ → Texts → Option Term
data_cell shape rest = items datum_front (codes "]") (length rest) rest >>= λ ds. cell_with shape ds.0 ds.1

unfoldable pub cell_of : List ℕ → Texts → Option Term
cell_of shape [] = None
cell_of shape (p ∷ rest) = guard (is_word shape)
    (cond (is p (codes "[")) (data_cell shape rest) (cell_with shape [] (p ∷ rest)))

unfoldable pub term_of : Texts → Option Term
term_of [] = None
term_of (a ∷ []) = leaf_of a
term_of (a ∷ b ∷ []) = guard (is a (codes "ref")) (number_of b >>= λ r. Some (Ref r))
term_of (a ∷ b ∷ c ∷ rest) = cell_of a (b ∷ c ∷ rest)

-- Lines.

unfoldable pub box_of : Texts → Option Line
box_of (a ∷ b ∷ c ∷ []) = guard (is b (codes "in") && (is_word a && is_word c)) (Some (Opens a c None))
box_of (a ∷ b ∷ c ∷ d ∷ e ∷ []) =
    guard (is b (codes "in") && (is d (codes "out") && (is_word a && (is_word c && is_word e))))
    (Some (Opens a c (Some e)))
box_of ps = None

abbrev pub states_of : Texts → Option (List ℕ)
states_of [] = Some []
states_of (p ∷ ps) = state_of p >>= λ q. states_of ps >>= λ qs. Some (q ∷ qs)

-- states more in front
abbrev pub states_more : List ℕ → Option (List ℕ) → Option (List ℕ)
states_more qs None = None
states_more qs (Some others) = Some (qs ++ others)

unfoldable pub root_of : Texts → Option Line
root_of [] = None
root_of (a ∷ []) = None
root_of (a ∷ p ∷ ps) = number_of a >>= λ r. states_of (p ∷ ps) >>= λ qs. Some (Root r qs)

unfoldable pub rule_of : List ℕ → Texts → Option Line
rule_of a [] = None
rule_of a (p ∷ ps) = guard (is p (codes "=")) (state_of a >>= λ q. term_of ps >>= λ term. Some (Rule q term))

abbrev pub end_of : Texts → Option Line
end_of [] = Some Ends
end_of (p ∷ ps) = None

unfoldable pub line_of_pieces : Texts → Option Line
line_of_pieces [] = None
line_of_pieces (a ∷ ps) = cond (is a (codes "box")) (box_of ps) (cond (is a (codes "root")) (root_of ps)
    (cond (is a (codes "end")) (end_of ps) (rule_of a ps)))

unfoldable pub line_of : List ℕ → Option Line
line_of [] = Some Skipped
line_of (b ∷ bs) = cond (nat_eq b 35) (Some Skipped) (line_of_pieces (pieces (b ∷ bs)))

-- how many bytes the first piece has, or the space or tab in front
abbrev pub front_size : List ℕ → ℕ
front_size [] = 0
front_size (b ∷ bs) = suc (prefix_len (joins b) bs)

-- a piece, or nothing where it is a space or a tab
abbrev pub kept : List ℕ → Texts
kept [] = []
kept (b ∷ bs) = cond (is_gap b) [] ((b ∷ bs) ∷ [])
