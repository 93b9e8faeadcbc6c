-- How the reader's steps make a reading, and what its answer then is.
use Rattle.std.proofs.Common.{◌≡◌, ◌⊎◌, ℕ, ◌+◌, ◌-◌, ◌≤◌, List, [], ◌∷◌, ◌++◌, length, take, drop, Result, Ok, Err}
use Rattle.std.proofs.Common.{IfOk, IfErr, refl, sym, ap, ◌∙◌, subst, arith, inl, inr, append_assoc, length-drop}
use Rattle.std.proofs.lemmas.List.{append-nil, take_all}
use Rattle.fore_base.specs.declared.place.Place.{Place}
use Rattle.c_lexer.specs.inner.Found.{IsFound}
use Rattle.c_lexer.specs.Places.{is_fresh}
use Rattle.c_lexer.specs.inner.Readings.{ReadsOn, Refuses}
use Rattle.c_lexer.specs.Refusals.{IsRefusal}
use Rattle.c_lexer.specs.inner.Steps.{cursor_after}
use Rattle.c_lexer.specs.Tokens.{Reads, Tokens, LacksToken, LacksClose}
use Rattle.c_lexer.specs.Tokens.Ending.{whole, no_token, unclosed}
use Rattle.c_lexer.specs.Tokens.Reads.{ended, skip, next, stuck, open_comment}
use Rattle.c_lexer.specs.declared.fault.LexFault.{LexFault}
use Rattle.c_lexer.specs.declared.fault.LexFault.TheVariants.{L1, L2, Memory}
use Rattle.c_lexer.specs.declared.place.Cursor.{Cursor}
use Rattle.c_lexer.specs.declared.step.Step.{Step}
use Rattle.c_lexer.specs.declared.step.Step.TheVariants.{Skip, Take, Unclosed, Nothing}
use Rattle.c_lexer.specs.declared.token.TokKind.{TokKind}
use Rattle.c_lexer.specs.declared.token.Token.{Token}
use Rattle.c_lexer.proofs.Unique.{one_reading, whole_no_token, whole_unclosed, no_token_unclosed, same_no_token}
use Rattle.c_lexer.proofs.Unique.{same_unclosed}

module _ (text : List ℕ) (at : ℕ) (cursor : Cursor) (here : cursor ≡ cursor_after (take at text)) where
  -- what the step found in the rest is found at this place of the text
  pub found_here : (s : Step) → IsFound cursor.fresh (take (length text - at) (drop at text)) s
      → IsFound (is_fresh (take at text)) (drop at text) s
  found_here s h =
      let rest = take_all (length text - at) (drop at text) (omega (arith, length-drop at text)) in
      subst (λ f. IsFound f (drop at text) s) (ap (λ (c : Cursor). c.fresh) here)
      (subst (λ r. IsFound cursor.fresh r s) rest h)

  pub leads_skip : (found : List Token) (n : ℕ) → IsFound cursor.fresh (take (length text - at) (drop at text)) (Skip n)
      → ReadsOn text at found (at + n) found
  leads_skip found n h = λ ts e r. (ts, skip (found_here (Skip n) h).0 r, refl)

  pub leads_take : (found more : List Token) (kind : TokKind) (n : ℕ)
      → IsFound cursor.fresh (take (length text - at) (drop at text)) (Take kind n) →
      more ≡ found ++ record { kind = kind; text = take (at + n - at) (drop at text); at = cursor.place } ∷ []
      → ReadsOn text at found (at + n) more
  leads_take found more kind n h added = λ ts e r. (
    token ∷ ts,
    next (found_here (Take kind n) h).0 (ap (λ m. take m (drop at text)) (omega arith))
        (ap (λ (c : Cursor). c.place) here) r,
    sym (append_assoc found (token ∷ []) ts) ∙ ap (λ x. x ++ ts) (sym added),
  )
    where
      token : Token
      token = record { kind = kind; text = take (at + n - at) (drop at text); at = cursor.place }

  pub refuses_unclosed : IsFound cursor.fresh (take (length text - at) (drop at text)) Unclosed
      → Reads text at [] (unclosed cursor.place)
  refuses_unclosed h = open_comment (found_here Unclosed h) (ap (λ (c : Cursor). c.place) here)

  pub refuses_stuck : IsFound cursor.fresh (take (length text - at) (drop at text)) Nothing
      → Reads text at [] (no_token cursor.place)
  refuses_stuck h = stuck (found_here Nothing h) (ap (λ (c : Cursor). c.place) here)

-- at the end the tokens found are those of the text
pub read_whole : (text : List ℕ) (at : ℕ) (found : List Token) → at ≤ length text → length text ≤ at
    → ReadsOn text 0 [] at found → Tokens text found
read_whole text at found within over leads =
    let r = leads [] whole (ended (omega arith)) in
    subst (λ ts. Reads text 0 ts whole) (r.2 ∙ append-nil found) r.1

-- what is refused at a place is the text's refusal
pub refused_here : (text : List ℕ) (at : ℕ) (found : List Token) (fault : LexFault) → ReadsOn text 0 [] at found
    → Refuses text at fault → IsRefusal text fault
refused_here text at found (L1 place) leads r = let whole_reading = leads [] (no_token place) r in
    (whole_reading.0, whole_reading.1)
refused_here text at found (L2 place) leads r = let whole_reading = leads [] (unclosed place) r in
    (whole_reading.0, whole_reading.1)
refused_here text at found Memory leads r = tt

-- one step after another
pub leads_on : (text : List ℕ) (a b c : ℕ) (xs ys zs : List Token) → ReadsOn text a xs b ys → ReadsOn text b ys c zs
    → ReadsOn text a xs c zs
leads_on text a b c xs ys zs p q = λ ts e r.
    let later = q ts e r in
    let whole_reading = p later.0 e later.1 in
    (whole_reading.0, whole_reading.1, whole_reading.2 ∙ later.2)

module _ (text : List ℕ) where
  pub only_tokens : (result : Result (List Token) LexFault) → IfOk result (Tokens text) → IfErr result (IsRefusal text)
      → (ts : List Token) → Tokens text ts →
      (result ≡ Ok ts) ⊎ (result ≡ Err Memory)
  only_tokens (Ok us) ok err ts h = inl (ap Ok (one_reading text ok h).0)
  only_tokens (Err (L1 place)) ok err ts h = absurd (whole_no_token (one_reading text h err.1).1)
  only_tokens (Err (L2 place)) ok err ts h = absurd (whole_unclosed (one_reading text h err.1).1)
  only_tokens (Err Memory) ok err ts h = inr refl

  pub only_no_token : (result : Result (List Token) LexFault) → IfOk result (Tokens text)
      → IfErr result (IsRefusal text) → (place : Place) → LacksToken text place →
      (result ≡ Err (L1 place)) ⊎ (result ≡ Err Memory)
  only_no_token (Ok us) ok err place h = absurd (whole_no_token (one_reading text ok h.1).1)
  only_no_token (Err (L1 there)) ok err place h =
      inl (ap (λ p. Err (L1 p)) (same_no_token (one_reading text err.1 h.1).1))
  only_no_token (Err (L2 there)) ok err place h = absurd (no_token_unclosed (one_reading text h.1 err.1).1)
  only_no_token (Err Memory) ok err place h = inr refl

  pub only_unclosed : (result : Result (List Token) LexFault) → IfOk result (Tokens text)
      → IfErr result (IsRefusal text) → (place : Place) → LacksClose text place →
      (result ≡ Err (L2 place)) ⊎ (result ≡ Err Memory)
  only_unclosed (Ok us) ok err place h = absurd (whole_unclosed (one_reading text ok h.1).1)
  only_unclosed (Err (L1 there)) ok err place h = absurd (no_token_unclosed (one_reading text err.1 h.1).1)
  only_unclosed (Err (L2 there)) ok err place h =
      inl (ap (λ p. Err (L2 p)) (same_unclosed (one_reading text err.1 h.1).1))
  only_unclosed (Err Memory) ok err place h = inr refl
