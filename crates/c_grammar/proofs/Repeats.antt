-- The laws of a part any number of times.
use Rattle.std.proofs.Common.{◌≡◌, ◌⊎◌, ◌≤◌, ℕ, true, false, List, [], ◌∷◌, ◌++◌, refl, sym, ap, ◌∙◌, subst, inl, inr}
use Rattle.std.proofs.Common.{append_assoc}
use Rattle.fore_base.specs.declared.place.Place.{Place}
use Rattle.c_lexer.specs.declared.token.Token.{Token}
use Rattle.c_grammar.specs.declared.fault.SyntaxFault.{SyntaxFault}
use Rattle.c_grammar.specs.words.Faults.{Alive, Dead, Fails, Takes}
use Rattle.c_grammar.specs.Grammar.{Rule, Many}
use Rattle.c_grammar.proofs.Families.{both, many}
use Rattle.c_grammar.specs.Grammar.Many.{none, more}
use Rattle.c_grammar.specs.words.Sets.{Signs}
use Rattle.c_grammar.specs.Signs.{or_on, sign_at}
use Rattle.c_grammar.specs.declared.signs.Sign.{Sign}
use Rattle.c_grammar.proofs.SignLemmas.{clash, or_left, or_right, or_of}
use Rattle.c_grammar.proofs.Rules.{Apart, Front, Good, same_head, head_of_front, cont_both, bars_both, takes_both}
use Rattle.c_grammar.proofs.Rules.{fails_map}

abbrev pub cont_many : Signs → Signs → Signs
cont_many fa ca s = or_on (ca s) (fa s)

module _ {X : Type 0} {A : Rule X} {fa ca ba : Signs} (ga : Good A fa ca ba false) (apart : Apart ca fa)
    (free : Apart ba fa) where
  many_starts : (n : ℕ) (ts rest : List Token) (xs : List X) → many A n ts rest xs → (fa (sign_at ts) ≡ true)
      ⊎ ((true ≡ true) × (ts ≡ rest))
  many_starts n ts rest xs none = inr (refl, refl)
  many_starts n ts rest xs (more {mid = mid} {x = x} r rs) =
      elim (ga.starts n ts mid x r) [ inl f ↦ inl f | inr e ↦ absurd (clash (sym e.0)) ]

  -- a sign that cannot begin the part and is not at the end is not at the front
  many_after : (p : Signs) → Apart p fa → (n : ℕ) (ts rest : List Token) (xs : List X) → many A n ts rest xs
      → p (sign_at rest) ≡ false → p (sign_at ts) ≡ false
  many_after p ap_ n ts rest xs r h =
      elim (many_starts n ts rest xs r)
      [ inl f ↦ ap_ (sign_at ts) f | inr e ↦ subst (λ l. p (sign_at l) ≡ false) (sym e.1) h ]

  begun : (n : ℕ) (ts mid rest : List Token) (x : X) → A n ts mid x → cont_many fa ca (sign_at ts) ≡ false → ⊥
  begun n ts mid rest x r h =
      elim (ga.starts n ts mid x r) [ inl f ↦ clash (sym f ∙ or_right _ _ h) | inr e ↦ clash (sym e.0) ]

  many_det : (n m : ℕ) (ts a b : List Token) (s t : List X) → many A n ts a s → many A m ts b t →
      cont_many fa ca (sign_at a) ≡ false → cont_many fa ca (sign_at b) ≡ false → (a ≡ b) × (s ≡ t)
  many_det n m ts a b s t none none h k = (refl, refl)
  many_det n m ts a b s t none (more {mid = mid} {x = x} r rs) h k = absurd (begun m ts mid b x r h)
  many_det n m ts a b s t (more {mid = mid} {x = x} r rs) none h k = absurd (begun n ts mid a x r k)
  many_det n m ts a b s t (more {mid = mid} {x = x} {xs = xs} r rs) (more {mid = nid} {x = y} {xs = ys} q qs) h k =
      let e = ga.det n m ts mid nid x y r q (many_after ca apart n mid a xs rs (or_left _ _ h))
      (many_after ca apart m nid b ys qs (or_left _ _ k)) in
      let f = many_det n m mid a b xs ys rs (subst (λ l. many A m l b ys) (sym e.0) qs) h k in
      (f.0, λ i. e.1 i ∷ f.1 i)

  many_front : (n : ℕ) (ts rest : List Token) (xs : List X) → many A n ts rest xs → Front (many A) ba n ts rest xs
  many_front n ts rest xs none = record { front = []; is = refl; alike = λ y h. none }
  many_front n ts rest xs (more {mid = mid} {x = x} {xs = ys} r rs) =
      let a = ga.front n ts mid x r in
      let b = many_front n mid rest ys rs in
      record {
        front = a.front ++ b.front;
        is = a.is ∙ ap (λ l. a.front ++ l) b.is ∙ sym (append_assoc a.front b.front rest);
        alike =
            λ y h.
            more
            (subst (λ l. A n l (b.front ++ y) x) (sym (append_assoc a.front b.front y))
            (a.alike (b.front ++ y) (head_of_front b.front rest mid ba b.is y h))) (b.alike y h);
      }

  many_up : (n m : ℕ) (ts rest : List Token) (xs : List X) → n ≤ m → many A n ts rest xs → many A m ts rest xs
  many_up n m ts rest xs le none = none
  many_up n m ts rest xs le (more r rs) = more (ga.up n m _ _ _ le r) (many_up n m _ _ _ le rs)

  pub good_many : Good (many A) fa (cont_many fa ca) ba true
  good_many = record { det = many_det; front = many_front; starts = many_starts; up = many_up }

  -- nothing more is there to read
  pub takes_none : (n : ℕ) (ts : List Token) → fa (sign_at ts) ≡ false → Takes (many A) (cont_many fa ca) ba n ts ts []
  takes_none n ts other = record { front = []; is = refl; alike = λ y h. none; only = stays }
    where
      stays : (m : ℕ) (z y : List Token) (u : List X) → sign_at z ≡ sign_at ts → cont_many fa ca (sign_at y) ≡ false
          → Many (A m) z y u → z ≡ y
      stays m z y u same h none = refl
      stays m z y u same h (more {mid = mid} {x = x} r rs) =
          elim (ga.starts m z mid x r)
          [ inl f ↦ absurd (clash (sym f ∙ ap fa same ∙ other)) | inr e ↦ absurd (clash (sym e.0)) ]

  one_more : (n : ℕ) (ts rest : List Token) (p : X × List X) → both A (many A) n ts rest p
      → Many (A n) ts rest (p.0 ∷ p.1)
  one_more n ts rest p r = more r.front r.back

  -- where the next token begins one more, a reading is one and then others
  opened : (m : ℕ) (ts y : List Token) (xs : List X) → fa (sign_at ts) ≡ true → cont_many fa ca (sign_at y) ≡ false
      → Many (A m) ts y xs → (p : X × List X) × both A (many A) m ts y p
  opened m ts y xs first h none = absurd (clash (sym first ∙ or_right _ _ h))
  opened m ts y xs first h (more {mid = mid} {x = x} {xs = ys} r rs) =
      ((x, ys), record { mid = mid; front = r; back = rs })

  abbrev rest_cont : Signs
  rest_cont = cont_both true ca (cont_many fa ca)

  rest_within : (s : Sign) → cont_many fa ca s ≡ false → rest_cont s ≡ false
  rest_within s h = or_of (cont_many fa ca s) (ca s) h (or_left _ _ h)

  pub takes_more : (n : ℕ) (ts mid rest : List Token) (x : X) (xs : List X) → Takes A ca ba n ts mid x
      → Takes (many A) (cont_many fa ca) ba n mid rest xs → fa (sign_at ts) ≡ true →
      Takes (many A) (cont_many fa ca) ba n ts rest (x ∷ xs)
  takes_more n ts mid rest x xs t u first =
      let w = takes_both ga good_many apart n ts mid x t rest xs u in
      record {
        front = w.front;
        is = w.is;
        alike =
            λ y.
            elim [
              | inl e ↦ one_more n _ y (x, xs) (w.alike y (inl e))
              | inr e ↦ one_more n _ y (x, xs)
                  (w.alike y (inr (or_of (ba (sign_at y)) (ba (sign_at y)) e e)))
            ];
        only = λ m z y v same h r.
            let o = opened m (w.front ++ z) y v (ap fa (same_head w.front z rest ts w.is same) ∙ first) h r in
            w.only m z y o.0 same (rest_within _ h) o.1;
      }

  many_alive : (n : ℕ) (pre : List Token) → Alive (both A (many A)) (bars_both ba ba) n pre
      → Alive (many A) ba n pre
  many_alive n pre a = record {
    more = a.more;
    tree = a.tree.0 ∷ a.tree.1;
    reads = λ y h. one_more n _ y a.tree (a.reads y (or_of (ba (sign_at y)) (ba (sign_at y)) h h));
  }

  many_dead : (ts : List Token) → fa (sign_at ts) ≡ true → (m : ℕ) (pre post : List Token) → ts ≡ pre ++ post
      → Dead (both A (many A)) rest_cont m pre post → Dead (many A) (cont_many fa ca) m pre post
  many_dead ts first m pre post is d z y xs same h r =
      let o = opened m (pre ++ z) y xs (ap fa (same_head pre z post ts is same) ∙ first) h r in
      d z y o.0 same (rest_within _ h) o.1

  -- where one more fails, or those after it
  pub fails_many : {ha : Signs} (n : ℕ) (end : Place) (ts : List Token) → fa (sign_at ts) ≡ true → (e : SyntaxFault) →
      Fails (both A (many A)) rest_cont (bars_both ba ba) ha n end ts e
      → Fails (many A) (cont_many fa ca) ba ha n end ts e
  fails_many n end ts first e h = fails_map n (λ m le. many_alive m) (many_dead ts first) (λ s h. h) e h

pub least_many : {X : Type 0} (A : Rule X) (bars : Signs) (n : ℕ) → Alive (many A) bars n []
least_many A bars n = record { more = []; tree = []; reads = λ y h. none }
