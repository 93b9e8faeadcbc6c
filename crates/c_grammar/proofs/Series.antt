-- A token, and a part behind it, which alone is kept; and one part or more, with a token between two of them.
use Rattle.std.proofs.Common.{◌≡◌, ◌≢◌, ℕ, true, false, List, [], ◌∷◌, refl, sym, ap, ◌∙◌, not}
use Rattle.fore_base.specs.declared.place.Place.{Place}
use Rattle.c_lexer.specs.declared.token.Token.{Token}
use Rattle.c_grammar.specs.words.Faults.{Alive, Fails, Takes}
use Rattle.c_grammar.specs.Grammar.{Rule}
use Rattle.c_grammar.specs.words.Sets.{Signs, among, no_sign}
use Rattle.c_grammar.specs.Signs.{and, same_sign, sign_of, sign_at}
use Rattle.c_grammar.specs.Syntax.{series, joined, behind, second}
use Rattle.c_grammar.specs.declared.fault.SyntaxFault.{SyntaxFault}
use Rattle.c_grammar.specs.declared.fault.SyntaxFault.TheVariants.{Syntax}
use Rattle.c_grammar.specs.declared.signs.Sign.{Sign}
use Rattle.c_grammar.specs.declared.signs.Sign.TheVariants.{Id, End}
use Rattle.c_grammar.proofs.Goods.{good_one, good_more}
use Rattle.c_grammar.proofs.Lists.{Leads}
use Rattle.c_grammar.proofs.Parts.{Within, alive_made, fails_within, takes_within, takes_made, fails_made}
use Rattle.c_grammar.proofs.Repeats.{least_many, cont_many}
use Rattle.c_grammar.proofs.Rules.{Good, cont_both}
use Rattle.c_grammar.proofs.Sequences.{least_one, least_pair}
use Rattle.c_grammar.proofs.Steps.{Clear, Under, Steady, pair, in_front, in_back, in_back_of}
use Rattle.c_grammar.proofs.Decide.{within}
use Rattle.c_grammar.proofs.Endings.{ends_one}
use Rattle.c_grammar.proofs.SignLemmas.{clash, or_of, and_left, and_right, off}
use Rattle.c_grammar.proofs.Tokens.{fails_token, reads_token}
use Rattle.c_grammar.specs.Hopeless.{place_at}

-- a sign that is no name's, and not the end
abbrev pub Marks : Sign → Type 0
Marks s = and (not (same_sign Id s)) (not (same_sign End s)) ≡ true

no_name : (s : Sign) → Marks s → same_sign Id s ≡ false
no_name s m = off _ (and_left (not (same_sign Id s)) (not (same_sign End s)) m)

no_end : (s : Sign) → Marks s → s ≢ End
no_end s m e =
    clash (sym (ap (same_sign End) e) ∙ off _ (and_right (not (same_sign Id s)) (not (same_sign End s)) m))

-- a token of the sign, and a part behind it: where the token or the part fails, and what is read
module _ {X : Type 0} {A : Rule X} {fa ca : Signs} (word : Sign) (marks : Marks word) (ga : Good A fa ca no_sign false)
  where
    goes_on : Within (cont_both false no_sign ca) ca
    goes_on s h = or_of (ca s) false h refl

    pub least_behind : (n : ℕ) → Alive A no_sign n [] → Alive (λ k. behind word (A k)) no_sign n []
    least_behind n least = alive_made second
        (least_pair (good_one word) ga refl refl n (least_one word (no_end word marks) n) least)

    pub word_fails : {n : ℕ} {end : Place} {ts : List Token} {e : SyntaxFault} → Alive A no_sign n []
        → (e ≡ Syntax (place_at end ts)) × (sign_at ts ≢ word) →
        Fails (λ k. behind word (A k)) ca no_sign no_sign n end ts e
    word_fails least h = fails_within goes_on (λ s k. k) (λ s k. k) _
        (fails_made second _ (in_front (good_one word) ga refl refl least (fails_token word (no_end word marks) h)))

    pub behind_fails : {ha : Signs} {n : ℕ} {end : Place} {ts mid : List Token} {t : Token} {e : SyntaxFault}
        → (ts ≡ t ∷ mid) × (sign_of t ≡ word) → Fails A ca no_sign ha n end mid e →
        Fails (λ k. behind word (A k)) ca no_sign no_sign n end ts e
    behind_fails h f = fails_within goes_on (λ s k. k) (λ s k. k) _
        (fails_made second _
        (in_back_of (good_one word) ga refl refl (ends_one word (no_name word marks)) refl (reads_token word h) f))

    pub takes_behind : {n : ℕ} {ts mid rest : List Token} {t : Token} {x : X} → (ts ≡ t ∷ mid) × (sign_of t ≡ word)
        → Takes A ca no_sign n mid rest x → Takes (λ k. behind word (A k)) ca no_sign n ts rest x
    takes_behind h u = takes_within goes_on (λ s k. k)
        (takes_made second (pair (good_one word) ga refl (reads_token word h) u))

-- one part alone is such a list
pub least_series : {X : Type 0} {A : Rule X} {fa ca : Signs} (sep : Sign) → Good A fa ca no_sign false
    → Clear ca (among (sep ∷ [])) → (n : ℕ) → Alive A no_sign n [] → Alive (λ k. series sep (A k)) no_sign n []
least_series {A = A} sep ga clear n least = alive_made joined
    (least_pair ga (good_more sep ga clear) clear refl n least (least_many (λ k. behind sep (A k)) no_sign n))

-- a list whose first part fails, or is read; `cs` is what can continue the whole; levels open at the front only in the
-- first part
module _ {X : Type 0} {A : Rule X} (sep : Sign) {fa ca : Signs} (cs ha : Signs) (ga : Good A fa ca no_sign false)
    (clear : Clear ca (among (sep ∷ []))) (first : fa End ≡ false)
    (wide : Under (cont_both true ca (cont_many (among (sep ∷ [])) ca)) cs) where
  all_wide : Within (cont_both true ca (cont_many (among (sep ∷ [])) ca)) cs
  all_wide = within (cont_both true ca (cont_many (among (sep ∷ [])) ca)) cs wide

  pub series_fails : {n : ℕ} {end : Place} {ts : List Token} {e : SyntaxFault} → Fails A ca no_sign ha n end ts e
      → Fails (λ k. series sep (A k)) cs no_sign ha n end ts e
  series_fails {n = n} f = fails_within all_wide (λ s h. h) (λ s h. h) _
      (fails_made joined _
      (in_front ga (good_more sep ga clear) clear refl (least_many (λ k. behind sep (A k)) no_sign n) f))

  pub series_begun : {n : ℕ} {end : Place} {ts mid : List Token} {x : X} → Takes A ca no_sign n ts mid x →
      Leads (λ k. behind sep (A k)) (among (sep ∷ [])) ca no_sign no_sign (λ k. series sep (A k)) cs no_sign ha n end ts
      mid (x ∷ [])
  series_begun t = record {
    takes = λ rest ys u. takes_within all_wide (λ s h. h)
        (takes_made joined (pair ga (good_more sep ga clear) clear t u));
    fails = λ e f. fails_within all_wide (λ s h. h) (λ s h. absurd (clash (sym h))) e
        (fails_made joined e (in_back ga (good_more sep ga clear) clear refl solid t f));
  }
    where
      solid : Steady false fa no_sign no_sign
      solid = ap (λ b. and (and (not b) true) true) first
