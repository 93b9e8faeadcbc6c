-- Items with a comma between two.
use Rattle.std.proofs.Common.{◌≡◌, ◌<◌, ℕ, suc, List, [], ◌∷◌, ◌++◌, map, length, codes, refl, sym, ap, ◌∙◌}
use Rattle.std.proofs.Common.{append-nil, append_assoc, arith}
use Rattle.std.specs.List.{concat}
use Rattle.std.proofs.lemmas.List.Folds.{concat-append}
use Rattle.fore_base.specs.declared.store.Datum.{Datum}
use Rattle.fa_lines.specs.Spelling.{series, data_pieces, datum_pieces}
use Rattle.fa_print.specs.Lines.{named_data}
use Rattle.fa_print.specs.Names.{Texts}
use Rattle.fa_print.specs.inner.Putting.{items_from}

-- items behind others, with a comma in front
behind : (n : ℕ) (x : Texts) (xs : List Texts) → items_from (suc n) (x ∷ xs) ≡ codes "," ++ concat (series (x ∷ xs))
behind n x [] = ap (λ t. codes "," ++ t) (append-nil (concat x))
behind n x (y ∷ ys) =
    ap (λ t. codes "," ++ (concat x ++ t)) (behind (suc n) y ys)
    ∙ ap (λ t. codes "," ++ t) (sym (concat-append x (codes "," ∷ series (y ∷ ys))))

pub items_are : (xs : List Texts) → items_from 0 xs ≡ concat (series xs)
items_are [] = refl
items_are (x ∷ []) = append-nil (concat x)
items_are (x ∷ y ∷ ys) =
    ap (λ t. concat x ++ t) (behind 0 y ys) ∙ sym (concat-append x (codes "," ∷ series (y ∷ ys)))

pub brackets_are : (front items : Texts) → concat (front ++ (codes "(" ∷ (items ++ codes ")" ∷ [])))
    ≡ concat front ++ (codes "(" ++ (concat items ++ codes ")"))
brackets_are front items =
    concat-append front (codes "(" ∷ (items ++ codes ")" ∷ []))
    ∙ ap (λ t. concat front ++ (codes "(" ++ t)) (concat-append items (codes ")" ∷ []))

pub data_are : (names : Texts) (ds : List Datum) → 0 < length ds → concat (data_pieces (named_data names 0 ds))
    ≡ codes "[" ++ (concat (series (map datum_pieces (named_data names 0 ds))) ++ codes "]")
data_are names [] some = absurd (omega (arith, some))
data_are names (d ∷ ds) some =
    ap (λ t. codes "[" ++ t) (concat-append (series (map datum_pieces (named_data names 0 (d ∷ ds)))) (codes "]" ∷ []))

-- what is left of the items is nothing
pub items_end : (text first : List ℕ) (xs left : List Texts) (i : ℕ) → left ≡ []
    → text ++ items_from i left ≡ first ++ items_from 0 xs → text ≡ first ++ concat (series xs)
items_end text first xs left i none is =
    sym (append-nil text) ∙ ap (λ ys. text ++ items_from i ys) (sym none) ∙ is ∙ ap (λ t. first ++ t) (items_are xs)

-- three texts and four, one put after the other
pub three_put : (t t' t'' t''' a b c whole : List ℕ) → t' ≡ t ++ a → t'' ≡ t' ++ b → t''' ≡ t'' ++ c
    → whole ≡ a ++ (b ++ c) → t''' ≡ t ++ whole
three_put t t' t'' t''' a b c whole e f g is =
    g ∙ ap (λ x. x ++ c) (f ∙ ap (λ x. x ++ b) e) ∙ append_assoc (t ++ a) b c ∙ append_assoc t a (b ++ c)
    ∙ ap (λ x. t ++ x) (sym is)

pub cell_put : (t t' t'' t''' last name : List ℕ) (front items : Texts) → t' ≡ t ++ (name ++ concat front)
    → t'' ≡ t' ++ codes "(" → t''' ≡ t'' ++ concat items → last ≡ t''' ++ codes ")"
    → last ≡ t ++ concat (name ∷ (front ++ (codes "(" ∷ (items ++ codes ")" ∷ []))))
cell_put t t' t'' t''' last name front items e f g h =
    h ∙ ap (λ x. x ++ codes ")") (three_put t t' t'' t''' (name ++ concat front) (codes "(") (concat items)
    ((name ++ concat front) ++ (codes "(" ++ concat items)) e f g refl)
    ∙ append_assoc t ((name ++ concat front) ++ (codes "(" ++ concat items)) (codes ")")
    ∙ ap (λ x. t ++ x) (append_assoc (name ++ concat front) (codes "(" ++ concat items) (codes ")")
    ∙ append_assoc name (concat front) (codes "(" ++ (concat items ++ codes ")"))
    ∙ ap (λ x. name ++ x) (sym (brackets_are front items)))
