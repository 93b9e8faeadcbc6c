-- Answers of inclusion in a pool that grows.
use Rattle.std.proofs.Common.{◌≡◌, ◌↔◌, ℕ, zero, suc, ◌<◌, Bool, true, IsTrue, List, [], ◌∷◌, ◌++◌, length, refl, sym}
use Rattle.std.proofs.Common.{arith, subst, ◌∙◌}
use Rattle.std.proofs.lemmas.List.{length-append}
use Rattle.std.proofs.lemmas.Option.{same_Some, slice_get_within}
use Rattle.fore_base.proofs.ListLemmas.{every_weaker}
use Rattle.ta_core.specs.Auto.{Automaton}
use Rattle.ta_core.specs.Language.{IsWithin}
use Rattle.fa_pool.specs.Pools.{IsNumber, IsGrown}
use Rattle.fa_pool.proofs.Numbers.{number_stays}
use Rattle.fa_kept.specs.Memos.{Answer, IsWithinAt, IsRight, Agrees}
use Rattle.fa_kept.proofs.Remembered.{IsRightAnswer}

-- the automaton of a number of the pool was its automaton before others came behind it
number_was : (pool more : List Automaton) (n : ℕ) (a : Automaton) → n < length pool → IsNumber (pool ++ more) n a
    → IsNumber pool n a
number_was [] more n a low e = absurd (omega (arith, low))
number_was (b ∷ pool) more zero a low e = e
number_was (b ∷ pool) more (suc n) a low e = number_was pool more n a (omega (arith, low)) e

module _ (pool more : List Automaton) where
  longer : (n : ℕ) → n < length pool → n < length (pool ++ more)
  longer n low = let e = length-append pool more in omega (arith, low, e)

  right_stays : (narrow wide : ℕ) (holds : Bool) → IsRight pool narrow wide holds
      → IsRight (pool ++ more) narrow wide holds
  right_stays narrow wide holds r = record {
    narrow = longer narrow r.narrow;
    wide = longer wide r.wide;
    right = (
      (λ e a b is_a is_b.
          r.right.0 e a b (number_was pool more narrow a r.narrow is_a) (number_was pool more wide b r.wide is_b)),
      (λ h.
          r.right.1
          (λ a b is_a is_b. h a b (number_stays pool more narrow a is_a) (number_stays pool more wide b is_b))),
    );
  }

pub agrees_when_grown : (memo : List Answer) (pool autos more : List Automaton) → IsGrown pool autos more
    → Agrees memo pool → Agrees memo more
agrees_when_grown memo pool autos more grown agrees =
    subst (Agrees memo) (sym grown.1)
    (every_weaker (IsRightAnswer pool) (IsRightAnswer (pool ++ grown.0)) memo
    (λ a r. right_stays pool grown.0 a.0.0 a.0.1 a.1 r) agrees)

module _ (pool : List Automaton) where
  -- a number has one automaton
  one_automaton : (n : ℕ) (a b : Automaton) → IsNumber pool n a → IsNumber pool n b → a ≡ b
  one_automaton n a b p q = same_Some a b (sym p ∙ q)

  pub one_within : (n w : ℕ) (a b : Automaton) → IsNumber pool n a → IsNumber pool w b → IsWithin a b
      → IsWithinAt pool n w
  one_within n w a b p q h c d is_c is_d =
      subst (IsWithin c) (one_automaton w b d q is_d)
      (subst (λ (x : Automaton). IsWithin x b) (one_automaton n a c p is_c) h)

  within_itself : (n : ℕ) → IsWithinAt pool n n
  within_itself n a b p q = subst (IsWithin a) (one_automaton n a b p q) (λ t h. h)

  -- the answer for the automata is right for their numbers
  pub right_by_automata : (n w : ℕ) (holds : Bool) (a b : Automaton) → IsNumber pool n a → IsNumber pool w b
      → (IsTrue holds ↔ IsWithin a b) → IsRight pool n w holds
  right_by_automata n w holds a b p q d = record {
    narrow = slice_get_within pool n a p;
    wide = slice_get_within pool w b q;
    right = ((λ e. one_within n w a b p q (d.0 e)), (λ h. d.1 (h a b p q)));
  }

  -- one number twice: the language is within itself
  pub same_number_is_right : (n : ℕ) → n < length pool → IsRight pool n n true
  same_number_is_right n low = record {
    narrow = low;
    wide = low;
    right = ((λ e. within_itself n), (λ h. refl));
  }
