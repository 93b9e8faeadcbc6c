-- Lines are read as they are written.
use Rattle.std.proofs.Common.{arith, ℕ, Bool, true, false, List, [], ◌∷◌, ◌≡◌, ◌≢◌, ◌<◌, inl, inr, map}
use Rattle.std.proofs.Common.{refl, sym, ap, ◌∙◌, subst, Option, Some, None, cond, codes, decimal, nat_eq, ◌&&◌}
use Rattle.std.proofs.lemmas.Option.{none-some, same_Some}
use Rattle.std.proofs.lemmas.Bool.{eqb-true}
use Rattle.c_lexer.specs.Bytes.{is_gap, is_word_byte, is_letter, is_digit}
use Rattle.fore_base.specs.Lists.{Every}
use Rattle.fa_lines.specs.declared.line.Term.{Term}
use Rattle.fa_lines.specs.declared.line.Line.{Line}
use Rattle.fa_lines.specs.declared.line.Line.TheVariants.{Skipped, Opens, Root, Rule, Ends}
use Rattle.fa_lines.specs.Pieces.{is_word, pieces}
use Rattle.fa_lines.specs.Says.{IsPassedOver, Spells, Says}
use Rattle.fa_lines.specs.Spelling.{Texts, state_text, term_pieces, line_pieces}
use Rattle.fa_lines.specs.Spelling.{IsState, IsTerm, IsLine}
use Rattle.fa_lines.specs.inner.Reading.{
  ◌>>=◌,
  guard,
  is,
  number_of,
  state_of,
  term_of,
  box_of,
  states_of,
  root_of,
  rule_of,
}
use Rattle.fa_lines.specs.inner.Reading.{end_of, line_of_pieces, line_of}
use Rattle.fa_lines.proofs.PieceLemmas.{piece_behind, space_first, other_ends}
use Rattle.fa_lines.proofs.Options.{guarded, bound, chosen, both, text_is}
use Rattle.fa_lines.proofs.Sound.{number_sound, state_sound, term_sound}
use Rattle.fa_lines.proofs.Complete.{number_complete, state_complete}
use Rattle.fa_lines.proofs.WrittenTerms.{term_complete}

abbrev IsSpelled : Texts → Line → Type 0
IsSpelled ps line = IsLine line × (ps ≡ line_pieces line)

false_true : false ≡ true → ⊥
false_true e = grind arith

cons_nil : (p : List ℕ) (ps : Texts) → p ∷ ps ≡ [] → ⊥
cons_nil p ps e = cc e

-- From the pieces to the line

short_box : (a b c : List ℕ) (line : Line) → (is b (codes "in") && (is_word a && is_word c)) ≡ true
    → Some (Opens a c None) ≡ Some line → IsSpelled (codes "box" ∷ a ∷ b ∷ c ∷ []) line
short_box a b c line told e =
    let p = both (is b (codes "in")) (is_word a && is_word c) told in
    let q = both (is_word a) (is_word c) p.1 in
    subst (IsSpelled (codes "box" ∷ a ∷ b ∷ c ∷ [])) (same_Some (Opens a c None) line e)
    ((q.0, q.1, tt), ap (λ x. codes "box" ∷ a ∷ x ∷ c ∷ []) (text_is b (codes "in") p.0))

long_box : (a b c d f : List ℕ) (line : Line)
    → (is b (codes "in") && (is d (codes "out") && (is_word a && (is_word c && is_word f)))) ≡ true
    → Some (Opens a c (Some f)) ≡ Some line → IsSpelled (codes "box" ∷ a ∷ b ∷ c ∷ d ∷ f ∷ []) line
long_box a b c d f line told e =
    let p = both (is b (codes "in")) (is d (codes "out") && (is_word a && (is_word c && is_word f))) told in
    let q = both (is d (codes "out")) (is_word a && (is_word c && is_word f)) p.1 in
    let r = both (is_word a) (is_word c && is_word f) q.1 in
    let s = both (is_word c) (is_word f) r.1 in
    subst (IsSpelled (codes "box" ∷ a ∷ b ∷ c ∷ d ∷ f ∷ [])) (same_Some (Opens a c (Some f)) line e) (
      (r.0, s.0, s.1),
      ap (λ x. codes "box" ∷ a ∷ x ∷ c ∷ d ∷ f ∷ []) (text_is b (codes "in") p.0)
          ∙ ap (λ x. codes "box" ∷ a ∷ codes "in" ∷ c ∷ x ∷ f ∷ []) (text_is d (codes "out") q.0),
    )

box_line : (ps : Texts) (line : Line) → box_of ps ≡ Some line → IsSpelled (codes "box" ∷ ps) line
unfolding box_of
box_line [] line e = absurd (none-some line e)
box_line (a ∷ []) line e = absurd (none-some line e)
box_line (a ∷ b ∷ []) line e = absurd (none-some line e)
box_line (a ∷ b ∷ c ∷ []) line e =
    let g = guarded _ (Some (Opens a c None)) line e in short_box a b c line g.0 g.1
box_line (a ∷ b ∷ c ∷ d ∷ []) line e = absurd (none-some line e)
box_line (a ∷ b ∷ c ∷ d ∷ f ∷ []) line e =
    let g = guarded _ (Some (Opens a c (Some f))) line e in long_box a b c d f line g.0 g.1
box_line (a ∷ b ∷ c ∷ d ∷ f ∷ x ∷ ps) line e = absurd (none-some line e)

states_sound : (ps : Texts) (qs : List ℕ) → states_of ps ≡ Some qs → Every IsState qs × (ps ≡ map state_text qs)
states_sound [] qs e = subst (λ qs. Every IsState qs × ([] ≡ map state_text qs)) (same_Some [] qs e) (tt, refl)
states_sound (p ∷ ps) qs e =
    let a = bound (state_of p) (λ q. states_of ps >>= λ qs. Some (q ∷ qs)) qs e in
    let b = bound (states_of ps) (λ qs. Some (a.0 ∷ qs)) qs a.2 in
    let s = state_sound p a.0 a.1 in
    let r = states_sound ps b.0 b.1 in
    subst (λ qs. Every IsState qs × (p ∷ ps ≡ map state_text qs)) (same_Some (a.0 ∷ b.0) qs b.2)
    ((s.0, r.0), ap (λ x. x ∷ ps) s.1 ∙ ap (λ xs. state_text a.0 ∷ xs) r.1)

some_states : (p : List ℕ) (ps : Texts) (qs : List ℕ) → p ∷ ps ≡ map state_text qs → qs ≢ []
some_states p ps [] e none = cons_nil p ps e
some_states p ps (q ∷ qs) e none = cc none

root_line : (ps : Texts) (line : Line) → root_of ps ≡ Some line → IsSpelled (codes "root" ∷ ps) line
unfolding root_of
root_line [] line e = absurd (none-some line e)
root_line (a ∷ []) line e = absurd (none-some line e)
root_line (a ∷ p ∷ ps) line e =
    let n = bound (number_of a) (λ r. states_of (p ∷ ps) >>= λ qs. Some (Root r qs)) line e in
    let b = bound (states_of (p ∷ ps)) (λ qs. Some (Root n.0 qs)) line n.2 in
    let r = number_sound a n.0 n.1 in
    let s = states_sound (p ∷ ps) b.0 b.1 in
    subst (IsSpelled (codes "root" ∷ a ∷ p ∷ ps)) (same_Some (Root n.0 b.0) line b.2) (
      (r.0, some_states p ps b.0 s.1, s.0),
      ap (λ x. codes "root" ∷ x ∷ p ∷ ps) r.1
          ∙ ap (λ xs. codes "root" ∷ decimal n.0 ∷ xs) s.1,
    )

rule_line : (a : List ℕ) (ps : Texts) (line : Line) → rule_of a ps ≡ Some line → IsSpelled (a ∷ ps) line
unfolding rule_of
rule_line a [] line e = absurd (none-some line e)
rule_line a (p ∷ ps) line e =
    let g = guarded (is p (codes "=")) (state_of a >>= λ q. term_of ps >>= λ term. Some (Rule q term)) line e in
    let b = bound (state_of a) (λ q. term_of ps >>= λ term. Some (Rule q term)) line g.1 in
    let o = bound (term_of ps) (λ term. Some (Rule b.0 term)) line b.2 in
    let s = state_sound a b.0 b.1 in
    let t = term_sound ps o.0 o.1 in
    subst (IsSpelled (a ∷ p ∷ ps)) (same_Some (Rule b.0 o.0) line o.2) (
      (s.0, t.0),
      ap (λ x. x ∷ p ∷ ps) s.1 ∙ ap (λ x. state_text b.0 ∷ x ∷ ps) (text_is p (codes "=") g.0)
          ∙ ap (λ xs. state_text b.0 ∷ codes "=" ∷ xs) t.1,
    )

end_line : (ps : Texts) (line : Line) → end_of ps ≡ Some line → IsSpelled (codes "end" ∷ ps) line
end_line [] line e = subst (IsSpelled (codes "end" ∷ [])) (same_Some Ends line e) (tt, refl)
end_line (p ∷ ps) line e = absurd (none-some line e)

renamed : (a word : List ℕ) (ps : Texts) (line : Line) → is a word ≡ true → IsSpelled (word ∷ ps) line
    → IsSpelled (a ∷ ps) line
renamed a word ps line told s = (s.0, ap (λ x. x ∷ ps) (text_is a word told) ∙ s.1)

pub pieces_sound : (ps : Texts) (line : Line) → line_of_pieces ps ≡ Some line → IsSpelled ps line
unfolding line_of_pieces
pieces_sound [] line e = absurd (none-some line e)
pieces_sound (a ∷ ps) line e = elim (chosen (is a (codes "box")) (box_of ps) (cond (is a (codes "root")) (root_of ps)
    (cond (is a (codes "end")) (end_of ps) (rule_of a ps))) line e) [
      | inl h ↦ renamed a (codes "box") ps line h.0 (box_line ps line h.1)
      | inr h ↦ elim (chosen (is a (codes "root")) (root_of ps) (cond (is a (codes "end")) (end_of ps) (rule_of a ps))
          line h.1) [
            | inl k ↦ renamed a (codes "root") ps line k.0 (root_line ps line k.1)
            | inr k ↦ elim (chosen (is a (codes "end")) (end_of ps) (rule_of a ps) line k.1) [
              | inl m ↦ renamed a (codes "end") ps line m.0 (end_line ps line m.1)
              | inr m ↦ rule_line a ps line m.1
            ]
          ]
    ]

-- From the line to its pieces

states_complete : (qs : List ℕ) → Every IsState qs → states_of (map state_text qs) ≡ Some qs
states_complete [] fit = refl
states_complete (q ∷ qs) fit = rw (state_complete q fit.0, states_complete qs fit.1) refl

root_complete : (r : ℕ) (qs : List ℕ) → r < 4294967296 → qs ≢ [] → Every IsState qs
    → root_of (decimal r ∷ map state_text qs) ≡ Some (Root r qs)
unfolding root_of
root_complete r [] less some fit = absurd (some refl)
root_complete r (q ∷ qs) less some fit =
    ap (λ o. o >>= λ r. states_of (map state_text (q ∷ qs)) >>= λ qs. Some (Root r qs)) (number_complete r less)
    ∙ ap (λ o. o >>= λ qs. Some (Root r qs)) (states_complete (q ∷ qs) fit)

rule_complete : (q : ℕ) (term : Term) → IsState q → IsTerm term
    → rule_of (state_text q) (codes "=" ∷ term_pieces term) ≡ Some (Rule q term)
unfolding rule_of
rule_complete q term state fit =
    ap (λ o. o >>= λ q. term_of (term_pieces term) >>= λ term. Some (Rule q term)) (state_complete q state)
    ∙ ap (λ o. o >>= λ term. Some (Rule q term)) (term_complete term fit)

pub opens_complete : (name input : List ℕ) (output : Option (List ℕ)) → IsLine (Opens name input output)
    → line_of_pieces (line_pieces (Opens name input output)) ≡ Some (Opens name input output)
unfolding line_of_pieces box_of
opens_complete name input None fit = rw (fit.0, fit.1) refl
opens_complete name input (Some output) fit = rw (fit.0, fit.1, fit.2) refl

pub pieces_complete : (line : Line) → line ≢ Skipped → IsLine line → line_of_pieces (line_pieces line) ≡ Some line
unfolding line_of_pieces
pieces_complete Skipped other fit = absurd (other refl)
pieces_complete (Opens name input output) other fit = opens_complete name input output fit
pieces_complete (Root r qs) other fit = root_complete r qs fit.0 fit.1 fit.2
pieces_complete (Rule q term) other fit = rule_complete q term fit.0 fit.1
pieces_complete Ends other fit = refl

-- Lines

e_none : {line : Line} → line_of_pieces [] ≡ Some line → None ≡ Some line
unfolding line_of_pieces
e_none e = e

spelled_some : (p : List ℕ) (ps : Texts) (line : Line) → IsSpelled (p ∷ ps) line → line ≡ Skipped → ⊥
spelled_some p ps line s none =
    let e : p ∷ ps ≡ [] = s.1 ∙ ap line_pieces none in cons_nil p ps e

-- the first piece of a line that is not passed over
first_not : (line : Line) → (ps : Texts) → line_of_pieces ps ≡ Some line → line ≢ Skipped
first_not line [] e none = absurd (none-some line (e_none e))
first_not line (p ∷ ps) e none = absurd (spelled_some p ps line (pieces_sound (p ∷ ps) line e) none)

no_skip : (ps : Texts) → line_of_pieces ps ≡ Some Skipped → ⊥
no_skip ps e = first_not Skipped ps e refl

said_as : (b : ℕ) (bs : List ℕ) (line : Line) → line_of_pieces (pieces (b ∷ bs)) ≡ Some line → Says (b ∷ bs) line
said_as b bs Skipped e = absurd (no_skip (pieces (b ∷ bs)) e)
said_as b bs (Opens name input output) e = let s = pieces_sound (pieces (b ∷ bs)) _ e in (s.0, s.1)
said_as b bs (Root r qs) e = let s = pieces_sound (pieces (b ∷ bs)) _ e in (s.0, s.1)
said_as b bs (Rule q term) e = let s = pieces_sound (pieces (b ∷ bs)) _ e in (s.0, s.1)
said_as b bs Ends e = let s = pieces_sound (pieces (b ∷ bs)) _ e in (s.0, s.1)

passed : (b : ℕ) (bs : List ℕ) (line : Line) → b ≡ 35 → Skipped ≡ line → Says (b ∷ bs) line
passed b bs line is e = subst (Says (b ∷ bs)) e is

pub line_sound : (bytes : List ℕ) (line : Line) → line_of bytes ≡ Some line → Says bytes line
unfolding line_of
line_sound [] line e = subst (Says []) (same_Some Skipped line e) tt
line_sound (b ∷ bs) line e = elim (chosen (nat_eq b 35) (Some Skipped) (line_of_pieces (pieces (b ∷ bs))) line e) [
  | inl h ↦ passed b bs line (eqb-true b 35 h.0) (same_Some Skipped line h.1)
  | inr h ↦ said_as b bs line h.1
]

-- what is said is read

read_by : (sign : Bool) (ps : Texts) → sign ≡ false → cond sign (Some Skipped) (line_of_pieces ps) ≡ line_of_pieces ps
read_by sign ps no_sign = rw no_sign refl

no_sign_read : (b : ℕ) (bs : List ℕ) (line : Line) → IsLine line → line ≢ Skipped
    → pieces (b ∷ bs) ≡ line_pieces line → nat_eq b 35 ≡ false → line_of (b ∷ bs) ≡ Some line
unfolding line_of
no_sign_read b bs line fit other spelled no_sign =
    read_by (nat_eq b 35) (pieces (b ∷ bs)) no_sign ∙ ap line_of_pieces spelled ∙ pieces_complete line other fit

-- no line but a skipped one begins with a number sign
sharp_front : (bs : List ℕ) → pieces (35 ∷ bs) ≡ (35 ∷ []) ∷ pieces bs
unfolding is_gap is_word_byte is_letter is_digit
sharp_front bs = piece_behind [] bs 32 35 35 refl (space_first 35) refl (other_ends 35 bs refl)

abbrev first_byte : Texts → ℕ
first_byte [] = 0
first_byte ([] ∷ ps) = 0
first_byte ((b ∷ bs) ∷ ps) = b

other_byte : (b : ℕ) → nat_eq b 35 ≡ false → 35 ≡ b → ⊥
other_byte b other same = false_true (sym other ∙ ap (λ n. nat_eq n 35) (sym same))

no_sharp : (line : Line) (ps : Texts) → (35 ∷ []) ∷ ps ≡ line_pieces line → ⊥
no_sharp Skipped ps e = cons_nil (35 ∷ []) ps e
no_sharp (Opens name input output) ps e = other_byte 98 refl (ap first_byte e)
no_sharp (Root r qs) ps e = other_byte 114 refl (ap first_byte e)
no_sharp (Rule q term) ps e = other_byte 115 refl (ap first_byte e)
no_sharp Ends ps e = other_byte 101 refl (ap first_byte e)

sign_by : (b : ℕ) (bs : List ℕ) (line : Line) (sign : Bool) → nat_eq b 35 ≡ sign → pieces (b ∷ bs) ≡ line_pieces line
    → nat_eq b 35 ≡ false
sign_by b bs line false told is = told
sign_by b bs line true told is =
    absurd (no_sharp line (pieces bs) (sym (sharp_front bs) ∙ ap (λ c. pieces (c ∷ bs)) (sym (eqb-true b 35 told))
    ∙ is))

-- no piece stands in no bytes
no_bytes : (line : Line) → line ≢ Skipped → [] ≡ line_pieces line → ⊥
no_bytes Skipped other e = other refl
no_bytes (Opens name input output) other e = cons_nil (codes "box") _ (sym e)
no_bytes (Root r qs) other e = cons_nil (codes "root") _ (sym e)
no_bytes (Rule q term) other e = cons_nil (state_text q) _ (sym e)
no_bytes Ends other e = cons_nil (codes "end") _ (sym e)

spelled_read : (bytes : List ℕ) (line : Line) → line ≢ Skipped → Spells bytes line → line_of bytes ≡ Some line
spelled_read [] line other s = absurd (no_bytes line other s.1)
spelled_read (b ∷ bs) line other s =
    no_sign_read b bs line s.0 other s.1 (sign_by b bs line (nat_eq b 35) refl s.1)

passed_read : (bytes : List ℕ) → IsPassedOver bytes → line_of bytes ≡ Some Skipped
unfolding line_of
passed_read [] is = refl
passed_read (b ∷ bs) is = rw is refl

pub line_complete : (bytes : List ℕ) (line : Line) → Says bytes line → line_of bytes ≡ Some line
line_complete bytes Skipped s = passed_read bytes s
line_complete bytes (Opens name input output) s = spelled_read bytes (Opens name input output) (λ e. cc e) s
line_complete bytes (Root r qs) s = spelled_read bytes (Root r qs) (λ e. cc e) s
line_complete bytes (Rule q term) s = spelled_read bytes (Rule q term) (λ e. cc e) s
line_complete bytes Ends s = spelled_read bytes Ends (λ e. cc e) s

-- a line says at most one thing
pub said_once : (bytes : List ℕ) (one other : Line) → Says bytes one → Says bytes other → one ≡ other
said_once bytes one other p q = same_Some one other (sym (line_complete bytes one p) ∙ line_complete bytes other q)

pub line_unsaid : (bytes : List ℕ) → line_of bytes ≡ None → (line : Line) → Says bytes line → ⊥
line_unsaid bytes none line said = none-some line (sym none ∙ line_complete bytes line said)
