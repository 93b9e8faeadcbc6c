-- A rule that is made of itself one level further in is good where each layer is.
use Rattle.std.proofs.Common.{◌≡◌, ◌<◌, ◌+◌, ℕ, zero, suc, Bool, List, ◌++◌, sym, ◌∙◌, subst, arith}
use Rattle.c_lexer.specs.declared.token.Token.{Token}
use Rattle.c_grammar.specs.words.Sets.{Signs}
use Rattle.c_grammar.specs.Grammar.{Rule, nowhere}
use Rattle.c_grammar.proofs.Rules.{Good}

-- as many layers as are looked into
module _ {X : Type 0} (T : Rule X → Rule X) (F : Rule X) (is : (n : ℕ) → F n ≡ T F n)
    (causal : (G H : Rule X) (n : ℕ) → ((k : ℕ) → k < n → G k ≡ H k) → T G n ≡ T H n) where
  unfoldable pub upto : ℕ → Rule X
  upto zero n = nowhere
  upto (suc k) n = T (upto k) n

  agree : (k n : ℕ) → n < k → upto k n ≡ F n
  unfolding upto
  agree zero n h = absurd (nope h)
    where
      nope : n < zero → ⊥
      nope e = omega (arith, e)
  agree (suc k) n h = causal (upto k) F n (λ j l. agree k j (omega (arith, h, l))) ∙ sym (is n)

  pub into : (k n : ℕ) → n < k → (ts rest : List Token) (x : X) → F n ts rest x → upto k n ts rest x
  into k n h ts rest x r = subst (λ P. P ts rest x) (sym (agree k n h)) r

  pub outof : (k n : ℕ) → n < k → (ts rest : List Token) (x : X) → upto k n ts rest x → F n ts rest x
  outof k n h ts rest x r = subst (λ P. P ts rest x) (agree k n h) r

module _ {X : Type 0} (T : Rule X → Rule X) (F : Rule X) (fa ca ba : Signs) (na : Bool)
    (is : (n : ℕ) → F n ≡ T F n)
    (causal : (G H : Rule X) (n : ℕ) → ((k : ℕ) → k < n → G k ≡ H k) → T G n ≡ T H n)
    (step : (G : Rule X) → Good G fa ca ba na → Good (T G) fa ca ba na) where
  good_upto : (k : ℕ) → Good (upto T F is causal k) fa ca ba na
  unfolding upto
  good_upto zero = record {
    det = λ n m ts a b s t r q h e. absurd r;
    front = λ n ts rest x r. absurd r;
    starts = λ n ts rest x r. absurd r;
    up = λ n m ts rest x le r. absurd r;
  }
  good_upto (suc k) = step (upto T F is causal k) (good_upto k)

  pub good_fix : Good F fa ca ba na
  good_fix = record {
    det = λ n m ts a b s t r q.
        (good_upto (suc (n + m))).det n m ts a b s t (into T F is causal (suc (n + m)) n (omega arith) ts a s r)
        (into T F is causal (suc (n + m)) m (omega arith) ts b t q);
    front = λ n ts rest x r.
        let p = (good_upto (suc n)).front n ts rest x (into T F is causal (suc n) n (omega arith) ts rest x r) in
        record {
          front = p.front;
          is = p.is;
          alike = λ y h. outof T F is causal (suc n) n (omega arith) (p.front ++ y) y x (p.alike y h);
        };
    starts = λ n ts rest x r.
        (good_upto (suc n)).starts n ts rest x (into T F is causal (suc n) n (omega arith) ts rest x r);
    up = λ n m ts rest x le r.
        outof T F is causal (suc m) m (omega arith) ts rest x
        ((good_upto (suc m)).up n m ts rest x le (into T F is causal (suc m) n (omega (arith, le)) ts rest x r));
  }
