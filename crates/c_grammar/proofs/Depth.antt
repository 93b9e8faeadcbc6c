-- The number of levels of a rule and the depth of its trees: a rule reads a tree with n levels exactly where it reads
-- it with some number and the tree is no deeper than n.
use Rattle.std.proofs.Common.{◌≡◌, ◌≤◌, ◌<◌, ◌+◌, ℕ, zero, suc, max, List, map, Some, None, refl, sym, ap, ◌∙◌, subst}
use Rattle.std.proofs.Common.{inl, inr, arith}
use Rattle.c_lexer.specs.declared.token.Token.{Token}
use Rattle.c_ast.specs.Depths.{deepest, depth_of_option}
use Rattle.c_grammar.specs.Grammar.{Part, Rule, token, empty, nowhere, ◌then◌, Many, Made, level}
use Rattle.c_grammar.specs.Grammar.Many.{none, more}
use Rattle.c_grammar.specs.Syntax.{second, joined, middle, optional, series, bracketed}
use Rattle.c_grammar.specs.declared.signs.Sign.{Sign}
use Rattle.c_grammar.specs.declared.signs.Sign.TheVariants as sign
use Rattle.c_grammar.proofs.Families.{both, choice, many, made}
use Rattle.c_grammar.proofs.Fix.{upto, into, outof}
use Rattle.c_grammar.proofs.Parts.{Same}

-- bound: a tree that is read is no deeper than the number of levels; shrink: no more levels are needed than it is deep
pub record Deep {X : Type 0} (A : Rule X) (d : X → ℕ) : Type 0 where
  pub bound : (n : ℕ) (ts rest : List Token) (x : X) → A n ts rest x → d x ≤ n
  pub shrink : (n m : ℕ) (ts rest : List Token) (x : X) → A m ts rest x → d x ≤ n → A n ts rest x

abbrev pub flat : {X : Type 0} → X → ℕ
flat x = 0

pub deep_flat : {X : Type 0} (P : Part X) → Deep (λ n. P) flat
deep_flat P = record { bound = λ n ts rest x r. omega arith; shrink = λ n m ts rest x r le. r }

pub zero_le : (n : ℕ) → 0 ≤ n
zero_le n = omega arith

max_le : (a b n : ℕ) → a ≤ n → b ≤ n → max a b ≤ n
max_le a b n h k = omega (arith, h, k)

left_le : (a b n : ℕ) → max a b ≤ n → a ≤ n
left_le a b n h = omega (arith, h)

right_le : (a b n : ℕ) → max a b ≤ n → b ≤ n
right_le a b n h = omega (arith, h)

module _ {X Y : Type 0} {A : Rule X} {B : Rule Y} {d : X → ℕ} {e : Y → ℕ} (a : Deep A d) (b : Deep B e) where
  pub deep_both : Deep (both A B) (λ p. max (d p.0) (e p.1))
  deep_both = record {
    bound = λ n ts rest x r. max_le _ _ n (a.bound n ts r.mid x.0 r.front) (b.bound n r.mid rest x.1 r.back);
    shrink = λ n m ts rest x r le.
        record {
          mid = r.mid;
          front = a.shrink n m ts r.mid x.0 r.front (left_le _ (e x.1) n le);
          back = b.shrink n m r.mid rest x.1 r.back (right_le (d x.0) _ n le);
        };
  }

-- what is made of a part is as deep as the part
module _ {X Y : Type 0} {A : Rule X} {d : X → ℕ} (f : X → Y) (e : Y → ℕ) (same : (x : X) → e (f x) ≡ d x) (a : Deep A d)
  where
    pub deep_made : Deep (made f A) e
    deep_made = record {
      bound = λ n ts rest y r. subst (λ k. k ≤ n) (sym (ap e r.is ∙ same r.part)) (a.bound n ts rest r.part r.read);
      shrink = λ n m ts rest y r le.
          record {
            part = r.part;
            is = r.is;
            read = a.shrink n m ts rest r.part r.read (subst (λ k. k ≤ n) (ap e r.is ∙ same r.part) le);
          };
    }

module _ {X : Type 0} {A B : Rule X} {d : X → ℕ} (a : Deep A d) (b : Deep B d) where
  pub deep_or : Deep (choice A B) d
  deep_or = record {
    bound = λ n ts rest x. elim [ inl r ↦ a.bound n ts rest x r | inr r ↦ b.bound n ts rest x r ];
    shrink = λ n m ts rest x.
        elim [ inl r ↦ λ le. inl (a.shrink n m ts rest x r le) | inr r ↦ λ le. inr (b.shrink n m ts rest x r le) ];
  }

pub deep_nowhere : {X : Type 0} (d : X → ℕ) → Deep (λ n. nowhere) d
deep_nowhere d = record { bound = λ n ts rest x r. absurd r; shrink = λ n m ts rest x r le. absurd r }

module _ {X : Type 0} {A : Rule X} {d : X → ℕ} (a : Deep A d) where
  many_bound : (n : ℕ) (ts rest : List Token) (xs : List X) → Many (A n) ts rest xs → deepest (map d xs) ≤ n
  many_bound n ts rest xs none = omega arith
  many_bound n ts rest xs (more {mid = mid} {x = x} {xs = ys} r rs) =
      max_le _ _ n (a.bound n ts mid x r) (many_bound n mid rest ys rs)

  many_shrink : (n m : ℕ) (ts rest : List Token) (xs : List X) → Many (A m) ts rest xs → deepest (map d xs) ≤ n
      → Many (A n) ts rest xs
  many_shrink n m ts rest xs none le = none
  many_shrink n m ts rest xs (more {mid = mid} {x = x} {xs = ys} r rs) le =
      more (a.shrink n m ts mid x r (left_le _ (deepest (map d ys)) n le))
      (many_shrink n m mid rest ys rs (right_le (d x) _ n le))

  pub deep_many : Deep (many A) (λ xs. deepest (map d xs))
  deep_many = record { bound = many_bound; shrink = many_shrink }

-- a level more, where what is read is one deeper by its own depth e than by d
module _ {X : Type 0} {A : Rule X} {d : X → ℕ} (e : X → ℕ) (a : Deep A d)
    (one : (n : ℕ) (ts rest : List Token) (x : X) → A n ts rest x → e x ≡ suc (d x)) where
  level_bound : (n : ℕ) (ts rest : List Token) (x : X) → level A n ts rest x → e x ≤ n
  level_bound zero ts rest x r = absurd r
  level_bound (suc n) ts rest x r = let le = a.bound n ts rest x r in omega (arith, one n ts rest x r, le)

  level_shrink : (n m : ℕ) (ts rest : List Token) (x : X) → level A m ts rest x → e x ≤ n → level A n ts rest x
  level_shrink n zero ts rest x r le = absurd r
  level_shrink zero (suc m) ts rest x r le = absurd (no_room (one m ts rest x r) le)
    where
      no_room : e x ≡ suc (d x) → e x ≤ zero → ⊥
      no_room h k = omega (arith, h, k)
  level_shrink (suc n) (suc m) ts rest x r le = a.shrink n m ts rest x r (omega (arith, one m ts rest x r, le))

  pub deep_level : Deep (level A) e
  deep_level = record { bound = level_bound; shrink = level_shrink }

pub deep_same : {X : Type 0} {A B : Rule X} {d : X → ℕ} → Same A B → Deep A d → Deep B d
deep_same s a = record {
  bound = λ n ts rest x r. a.bound n ts rest x (s.back n ts rest x r);
  shrink = λ n m ts rest x r le. s.to n ts rest x (a.shrink n m ts rest x (s.back m ts rest x r) le);
}

-- a rule that is made of itself one level further in; Q is what holds of every tree that a layer reads
module _ {X : Type 0} (T : Rule X → Rule X) (F : Rule X) (d : X → ℕ) (Q : X → Type 0) (is : (n : ℕ) → F n ≡ T F n)
    (causal : (G H : Rule X) (n : ℕ) → ((k : ℕ) → k < n → G k ≡ H k) → T G n ≡ T H n)
    (only : (G : Rule X) (n : ℕ) (ts rest : List Token) (x : X) → T G n ts rest x → Q x)
    (step : (G : Rule X) → Deep G d → ((n : ℕ) (ts rest : List Token) (x : X) → G n ts rest x → Q x) → Deep (T G) d)
  where
    only_upto : (k n : ℕ) (ts rest : List Token) (x : X) → upto T F is causal k n ts rest x → Q x
    unfolding upto
    only_upto zero n ts rest x r = absurd r
    only_upto (suc k) n ts rest x r = only (upto T F is causal k) n ts rest x r

    deep_upto : (k : ℕ) → Deep (upto T F is causal k) d
    unfolding upto
    deep_upto zero = deep_nowhere d
    deep_upto (suc k) = step (upto T F is causal k) (deep_upto k) (only_upto k)

    pub deep_fix : Deep F d
    deep_fix = record {
      bound = λ n ts rest x r.
          (deep_upto (suc n)).bound n ts rest x (into T F is causal (suc n) n (omega arith) ts rest x r);
      shrink = λ n m ts rest x r le. outof T F is causal (suc (n + m)) n (omega arith) ts rest x
          ((deep_upto (suc (n + m))).shrink n m ts rest x (into T F is causal (suc (n + m)) m (omega arith) ts rest x r)
          le);
    }

-- forms that return
pub deep_token : (s : Sign) → Deep (λ n. token s) flat
deep_token s = deep_flat (token s)

module _ {X : Type 0} {A : Rule X} {d : X → ℕ} (a : Deep A d) where
  pub deep_bracketed : Deep (λ n. bracketed (A n)) d
  deep_bracketed = deep_made middle d (λ p. between (d p.1.0))
      (deep_both (deep_token sign.Open) (deep_both a (deep_token sign.Close)))
    where
      between : (k : ℕ) → k ≡ max 0 (max k 0)
      between k = omega arith

  pub deep_after : (s : Sign) → Deep (λ n. Made second (token s then A n)) d
  deep_after s = deep_made second d (λ p. behind (d p.1)) (deep_both (deep_token s) a)
    where
      behind : (k : ℕ) → k ≡ max 0 k
      behind k = omega arith

  pub deep_optional : Deep (λ n. optional (A n)) (depth_of_option d)
  deep_optional = deep_or (deep_made Some (depth_of_option d) (λ x. refl) a) absent
    where
      absent : Deep (λ n. empty None) (depth_of_option d)
      absent = record {
        bound = λ n ts rest x r. subst (λ o. depth_of_option d o ≤ n) (sym r.1) (zero_le n);
        shrink = λ n m ts rest x r le. r;
      }

pub deep_series : {X : Type 0} {A : Rule X} {d : X → ℕ} (s : Sign) → Deep A d
    → Deep (λ n. series s (A n)) (λ xs. deepest (map d xs))
deep_series {d = d} s a =
    deep_made joined (λ xs. deepest (map d xs)) (λ p. refl) (deep_both a (deep_many (deep_after a s)))
