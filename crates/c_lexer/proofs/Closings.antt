-- Where comments and quotations end.
use Rattle.std.proofs.Common.{◌≡◌, ◌≢◌, ℕ, zero, suc, ◌+◌, ◌<◌, ◌≤◌, Bool, true, false, cond, eqb, ◌&&◌, List, [], ◌∷◌}
use Rattle.std.proofs.Common.{length, take, get_or, Option, Some, None, refl, sym, ◌∙◌, arith, inl, inr}
use Rattle.std.proofs.lemmas.Bool.{eqb-true, eqb-false, eq-eqb, false≢true, and_parts, and_from, cases_order}
use Rattle.c_lexer.specs.Bytes.{is_newline}
use Rattle.c_lexer.specs.Lexemes.{IsQuoteRest}
use Rattle.c_lexer.specs.Lexemes.IsQuoteRest.{close, plain, escape}
use Rattle.c_lexer.specs.Skips.{ClosesAt, IsFirstClose}
use Rattle.c_lexer.specs.inner.Steps.{comment_end, quote_end}

-- what the search for the end of a comment, begun at i, found
abbrev pub ClosingIs : List ℕ → ℕ → Option ℕ → Type 0
ClosingIs bs i None = (k : ℕ) → ClosesAt bs k → ⊥
ClosingIs bs i (Some n) = (k : ℕ) × IsFirstClose bs k × (n ≡ i + k + 2) × (k + 2 ≤ length bs)

-- a star and a slash at the front, as the code tests for them
close_from_test : (b : ℕ) (bs : List ℕ) → (eqb b 42 && eqb (get_or bs 0 0) 47) ≡ true → ClosesAt (b ∷ bs) 0
    × (0 < length bs)
close_from_test b [] h = absurd (false≢true (and_parts (eqb b 42) false h).1)
close_from_test b (c ∷ bs) h =
    let p = and_parts (eqb b 42) (eqb c 47) h in
    ((sym (eqb-true b 42 p.0), (sym (eqb-true c 47 p.1), tt)), omega arith)

test_from_close : (b : ℕ) (bs : List ℕ) → ClosesAt (b ∷ bs) 0 → (eqb b 42 && eqb (get_or bs 0 0) 47) ≡ true
test_from_close b [] h = absurd h.1
test_from_close b (c ∷ bs) h = and_from (eqb b 42) (eqb c 47) (eq-eqb b 42 (sym h.0)) (eq-eqb c 47 (sym h.1.0))

none_more : (b : ℕ) (bs : List ℕ) → (ClosesAt (b ∷ bs) 0 → ⊥) → ((k : ℕ) → ClosesAt bs k → ⊥) → (k : ℕ)
    → ClosesAt (b ∷ bs) k → ⊥
none_more b bs here later zero h = here h
none_more b bs here later (suc k) h = later k h

first_more : (b : ℕ) (bs : List ℕ) (k : ℕ) → (ClosesAt (b ∷ bs) 0 → ⊥) → IsFirstClose bs k
    → IsFirstClose (b ∷ bs) (suc k)
first_more b bs k here first = (first.0, earlier)
  where
    earlier : (j : ℕ) → j < suc k → ClosesAt (b ∷ bs) j → ⊥
    earlier zero less h = here h
    earlier (suc j) less h = first.1 j (omega arith) h

closing_more : (b : ℕ) (bs : List ℕ) (i : ℕ) (o : Option ℕ) → (ClosesAt (b ∷ bs) 0 → ⊥) → ClosingIs bs (i + 1) o
    → ClosingIs (b ∷ bs) i o
closing_more b bs i None here found = none_more b bs here found
closing_more b bs i (Some n) here found =
    (suc found.0, first_more b bs found.0 here found.1, omega (arith, found.2), omega (arith, found.3))

-- the search tells where the comment ends
pub closing : (bs : List ℕ) (i : ℕ) → ClosingIs bs i (comment_end i bs)
closing [] i = nowhere
  where
    nowhere : (k : ℕ) → ClosesAt [] k → ⊥
    nowhere zero h = h
    nowhere (suc k) h = h
closing (b ∷ bs) i =
    let ih = closing bs (i + 1) in
    let split : (v : Bool) → (eqb b 42 && eqb (get_or bs 0 0) 47) ≡ v
    → ClosingIs (b ∷ bs) i (cond v (Some (i + 2)) (comment_end (i + 1) bs)) =
    λ v.
    elim v as (λ v. (eqb b 42 && eqb (get_or bs 0 0) 47) ≡ v
    → ClosingIs (b ∷ bs) i (cond v (Some (i + 2)) (comment_end (i + 1) bs))) [
      | true ↦
          (λ e. (
            0,
            ((close_from_test b bs e).0, λ j less. absurd (omega arith)),
            omega arith,
            omega (arith, (close_from_test b bs e).1),
          ))
      | false ↦
          (λ e. closing_more b bs i (comment_end (i + 1) bs) (λ h. false≢true (sym e ∙ test_from_close b bs h)) ih)
    ] in
    split _ refl

-- a comment has one first end
pub first_close_once : (bs : List ℕ) (j k : ℕ) → IsFirstClose bs j → IsFirstClose bs k → j ≡ k
first_close_once bs j k p q =
    elim (cases_order j k)
    [ inl e ↦ e | inr o ↦ absurd (elim o [ inl less ↦ q.1 j less p.0 | inr more ↦ p.1 k more q.0 ]) ]

-- what may stand inside a quotation; after a backslash a byte other than a newline comes first
abbrev pub Inside : ℕ → Bool → List ℕ → Type 0
Inside quote false bs = IsQuoteRest quote bs
Inside quote true [] = ⊥
Inside quote true (b ∷ bs) = (b ≢ 10) × IsQuoteRest quote bs

-- what a search begun at i found: the one front that has the property, or that none has
abbrev pub FrontIs : (List ℕ → Type 0) → List ℕ → ℕ → Option ℕ → Type 0
FrontIs P bs i None = (m : ℕ) → P (take m bs) → ⊥
FrontIs P bs i (Some n) = (m : ℕ) × (n ≡ i + m) × (m ≤ length bs) × P (take m bs)
    × ((l : ℕ) → m < l → l ≤ length bs → P (take l bs) → ⊥)

front_more : (P Q : List ℕ → Type 0) (b : ℕ) (bs : List ℕ) (i : ℕ) (o : Option ℕ) →
    (Q [] → ⊥) → ((xs : List ℕ) → P xs → Q (b ∷ xs)) → ((xs : List ℕ) → Q (b ∷ xs) → P xs) → FrontIs P bs (i + 1) o
    → FrontIs Q (b ∷ bs) i o
front_more P Q b bs i None empty forth back found = none
  where
    none : (m : ℕ) → Q (take m (b ∷ bs)) → ⊥
    none zero h = empty h
    none (suc m) h = found m (back (take m bs) h)
front_more P Q b bs i (Some n) empty forth back found =
    (suc found.0, omega (arith, found.1), omega (arith, found.2), forth (take found.0 bs) found.3, longer)
  where
    longer : (l : ℕ) → suc found.0 < l → l ≤ length (b ∷ bs) → Q (take l (b ∷ bs)) → ⊥
    longer zero less within h = absurd (omega arith)
    longer (suc l) less within h = found.4 l (omega arith) (omega arith) (back (take l bs) h)

rest_not_empty : (quote : ℕ) → IsQuoteRest quote [] → ⊥
rest_not_empty quote h = elim h [ ]

inside_not_empty : (quote : ℕ) (escaped : Bool) → Inside quote escaped [] → ⊥
inside_not_empty quote true h = h
inside_not_empty quote false h = rest_not_empty quote h

-- a newline never stands inside
rest_no_newline : (quote b : ℕ) (bs : List ℕ) → quote ≢ 10 → b ≡ 10 → IsQuoteRest quote (b ∷ bs) → ⊥
rest_no_newline quote b bs q e (close f) = q (sym f ∙ e)
rest_no_newline quote b bs q e (plain f g h r) = h e
rest_no_newline quote b bs q e (escape f g r) = absurd (omega arith)

inside_no_newline : (quote : ℕ) (escaped : Bool) (b : ℕ) (bs : List ℕ) → quote ≢ 10 → b ≡ 10
    → Inside quote escaped (b ∷ bs) → ⊥
inside_no_newline quote true b bs q e h = h.0 e
inside_no_newline quote false b bs q e h = rest_no_newline quote b bs q e h

escape_forth : (quote b : ℕ) (bs : List ℕ) → b ≡ 92 → Inside quote true bs → IsQuoteRest quote (b ∷ bs)
escape_forth quote b [] e h = absurd h
escape_forth quote b (c ∷ bs) e h = escape e h.0 h.1

escape_back : (quote b : ℕ) (bs : List ℕ) → b ≡ 92 → b ≢ quote → IsQuoteRest quote (b ∷ bs) → Inside quote true bs
escape_back quote b bs e d (close f) = absurd (d f)
escape_back quote b bs e d (plain f g h r) = absurd (g e)
escape_back quote b (c ∷ bs) e d (escape f g r) = (g, r)

plain_back : (quote b : ℕ) (bs : List ℕ) → b ≢ 92 → b ≢ quote → IsQuoteRest quote (b ∷ bs) → IsQuoteRest quote bs
plain_back quote b bs e d (close f) = absurd (d f)
plain_back quote b bs e d (plain f g h r) = r
plain_back quote b (c ∷ bs) e d (escape f g r) = absurd (e f)

-- behind the quote nothing more stands
closed_ends : (quote b : ℕ) (l : ℕ) (bs : List ℕ) → b ≡ quote → quote ≢ 92 → 1 < suc l → suc l ≤ length (b ∷ bs)
    → IsQuoteRest quote (take (suc l) (b ∷ bs)) → ⊥
closed_ends quote b zero bs e q less within h = absurd (omega arith)
closed_ends quote b (suc l) [] e q less within h = absurd (omega arith)
closed_ends quote b (suc l) (c ∷ bs) e q less within h = ends h
  where
    ends : {xs : List ℕ} → IsQuoteRest quote (b ∷ (c ∷ xs)) → ⊥
    ends (plain f g k r) = f e
    ends (escape f g r) = q (sym e ∙ f)

is_ten : (b : ℕ) → is_newline b ≡ true → b ≡ 10
unfolding is_newline
is_ten b h = eqb-true b 10 h

no_ten : (b : ℕ) → is_newline b ≡ false → b ≢ 10
unfolding is_newline
no_ten b h = eqb-false b 10 h

module _ (quote : ℕ) (no_backslash : quote ≢ 92) (no_newline : quote ≢ 10) where
  newline_case : (escaped : Bool) (b : ℕ) (bs : List ℕ) → b ≡ 10 → (m : ℕ) → Inside quote escaped (take m (b ∷ bs)) → ⊥
  newline_case escaped b bs e zero h = inside_not_empty quote escaped h
  newline_case escaped b bs e (suc m) h = inside_no_newline quote escaped b (take m bs) no_newline e h

  close_case : (b : ℕ) (bs : List ℕ) (i : ℕ) → b ≡ quote → FrontIs (Inside quote false) (b ∷ bs) i (Some (i + 1))
  close_case b bs i e = (1, refl, omega arith, close e, longer)
    where
      longer : (l : ℕ) → 1 < l → l ≤ length (b ∷ bs) → IsQuoteRest quote (take l (b ∷ bs)) → ⊥
      longer zero less within h = absurd (omega arith)
      longer (suc l) less within h = closed_ends quote b l bs e no_backslash less within h

  escaped_case : (b : ℕ) (bs : List ℕ) (i : ℕ) (o : Option ℕ) → b ≢ 10 → FrontIs (Inside quote false) bs (i + 1) o
      → FrontIs (Inside quote true) (b ∷ bs) i o
  escaped_case b bs i o d found =
      front_more (Inside quote false) (Inside quote true) b bs i o (inside_not_empty quote true) (λ xs h. (d, h))
      (λ xs h. h.1) found

  backslash_case : (b : ℕ) (bs : List ℕ) (i : ℕ) (o : Option ℕ) → b ≢ quote → b ≡ 92
      → FrontIs (Inside quote true) bs (i + 1) o → FrontIs (Inside quote false) (b ∷ bs) i o
  backslash_case b bs i o d e found =
      front_more (Inside quote true) (Inside quote false) b bs i o (inside_not_empty quote false)
      (λ xs h. escape_forth quote b xs e h) (λ xs h. escape_back quote b xs e d h) found

  plain_case : (b : ℕ) (bs : List ℕ) (i : ℕ) (o : Option ℕ) → b ≢ quote → b ≢ 92 → b ≢ 10
      → FrontIs (Inside quote false) bs (i + 1) o → FrontIs (Inside quote false) (b ∷ bs) i o
  plain_case b bs i o d e f found =
      front_more (Inside quote false) (Inside quote false) b bs i o (inside_not_empty quote false)
      (λ xs h. plain d e f h) (λ xs h. plain_back quote b xs e d h) found

  -- the search tells where the quotation ends
  pub quotation : (bs : List ℕ) (escaped : Bool) (i : ℕ)
      → FrontIs (Inside quote escaped) bs i (quote_end quote escaped i bs)
  quotation [] escaped i = none
    where
      none : (m : ℕ) → Inside quote escaped (take m []) → ⊥
      none zero h = inside_not_empty quote escaped h
      none (suc m) h = inside_not_empty quote escaped h
  quotation (b ∷ bs) escaped i =
      by_tests (is_newline b) escaped (eqb b quote) (eqb b 92) refl refl refl (quotation bs false (i + 1))
      (quotation bs true (i + 1))
    where
      by_tests : (n e q s : Bool) → is_newline b ≡ n → eqb b quote ≡ q → eqb b 92 ≡ s →
          FrontIs (Inside quote false) bs (i + 1) (quote_end quote false (i + 1) bs)
          → FrontIs (Inside quote true) bs (i + 1) (quote_end quote true (i + 1) bs) →
          FrontIs (Inside quote e) (b ∷ bs) i
          (cond n None
          (cond e (quote_end quote false (i + 1) bs) (cond q (Some (i + 1)) (quote_end quote s (i + 1) bs))))
      by_tests true e q s en eq es out in_escape = newline_case e b bs (is_ten b en)
      by_tests false true q s en eq es out in_escape = escaped_case b bs i _ (no_ten b en) out
      by_tests false false true s en eq es out in_escape = close_case b bs i (eqb-true b quote eq)
      by_tests false false false true en eq es out in_escape =
          backslash_case b bs i _ (eqb-false b quote eq) (eqb-true b 92 es) in_escape
      by_tests false false false false en eq es out in_escape =
          plain_case b bs i _ (eqb-false b quote eq) (eqb-false b 92 es) (no_ten b en) out
