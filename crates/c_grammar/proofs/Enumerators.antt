-- The names of an enumeration: a comma may stand after the last, so one token does not tell whether a name follows a
-- comma.
use Rattle.std.proofs.Common.{◌≡◌, ◌≢◌, ℕ, true, false, List, [], ◌∷◌, ◌++◌, Option, Some, None, refl, sym, ap, ◌∙◌}
use Rattle.std.proofs.Common.{subst, inl, inr, append_assoc}
use Rattle.std.proofs.lemmas.List.{append-nil}
use Rattle.fore_base.specs.declared.place.Place.{Place}
use Rattle.c_ast.specs.declared.operands.Name.{Name}
use Rattle.c_lexer.specs.declared.token.Token.{Token}
use Rattle.c_grammar.specs.Grammar.{Part, Rule, token, Many, Made}
use Rattle.c_grammar.specs.words.Sets.{Signs, among, no_sign}
use Rattle.c_grammar.specs.Signs.{sign_of, sign_at}
use Rattle.c_grammar.specs.Items.{more_names}
use Rattle.c_grammar.specs.Syntax.{name, first, second, behind, optional}
use Rattle.c_grammar.specs.declared.signs.Sign.TheVariants as sign
use Rattle.c_grammar.specs.Hopeless.{place_at}
use Rattle.c_grammar.specs.Signs.{same_sign}
use Rattle.c_grammar.specs.words.Faults.{Alive, Fails, Takes}
use Rattle.c_grammar.specs.words.Faults.Fails.{stuck, sunk, no_memory}
use Rattle.c_grammar.specs.declared.fault.SyntaxFault.{SyntaxFault}
use Rattle.c_grammar.specs.declared.fault.SyntaxFault.TheVariants.{Syntax}
use Rattle.c_grammar.specs.declared.signs.Sign.{Sign}
use Rattle.c_grammar.proofs.Families.{make, and_then}
use Rattle.c_grammar.proofs.Tokens.{sample, sampled, real}
use Rattle.c_grammar.proofs.Rules.{Good, Front, IsCons, opener_after}
use Rattle.c_grammar.proofs.Parts.{Same, good_same, fails_first, fails_made, fails_same, takes_made, takes_same}
use Rattle.c_grammar.proofs.SignLemmas.{clash, or_of, or_left, told_apart}

-- as the grammar has it, from the second name to the closing brace
abbrev pub written : Part (List Name × (Option Token × Token))
written = more_names

-- the same, one comma after another
pub data Ending : List Token → List Token → List Name → Option Token → Token → Type 0 where
  closed : {rest : List Token} {b : Token} → sign_of b ≡ sign.CloseBrace → Ending (b ∷ rest) rest [] None b
  trailing : {rest : List Token} {t b : Token} → sign_of t ≡ sign.Comma → sign_of b ≡ sign.CloseBrace
      → Ending (t ∷ (b ∷ rest)) rest [] (Some t) b
  another : {ts rest : List Token} {t w b : Token} {xs : List Name} {c : Option Token} {x : Name}
      → sign_of t ≡ sign.Comma → sign_of w ≡ sign.Id → x ≡ record { text = w.text; at = w.at } →
      Ending ts rest xs c b → Ending (t ∷ (w ∷ ts)) rest (x ∷ xs) c b

abbrev pub Endings : Rule (List Name × (Option Token × Token))
Endings n ts rest p = Ending ts rest p.0 p.1.0 p.1.1

abbrev pub begins : Signs
begins = among (sign.Comma ∷ (sign.CloseBrace ∷ []))

-- a token has one sign
differ : (p : Signs) (x : Token) (a b : Sign) → sign_of x ≡ a → sign_of x ≡ b → p a ≡ true → p b ≡ false → ⊥
differ p x a b e f on off = clash (sym on ∙ ap p (sym e ∙ f) ∙ off)

ending_det : (ts a b : List Token) (xs ys : List Name) (c d : Option Token) (e f : Token) → Ending ts a xs c e
    → Ending ts b ys d f → (a ≡ b) × (xs ≡ ys) × (c ≡ d) × (e ≡ f)
ending_det ts a b xs ys c d e f (closed p) (closed q) = (refl, refl, refl, refl)
ending_det ts a b xs ys c d e f (closed p) (trailing q r) =
    absurd (differ (among (sign.CloseBrace ∷ [])) _ _ _ p q refl refl)
ending_det ts a b xs ys c d e f (closed p) (another q r s t) =
    absurd (differ (among (sign.CloseBrace ∷ [])) _ _ _ p q refl refl)
ending_det ts a b xs ys c d e f (trailing p q) (closed r) =
    absurd (differ (among (sign.CloseBrace ∷ [])) _ _ _ r p refl refl)
ending_det ts a b xs ys c d e f (trailing p q) (trailing r s) = (refl, refl, refl, refl)
ending_det ts a b xs ys c d e f (trailing p q) (another r s t u) =
    absurd (differ (among (sign.CloseBrace ∷ [])) _ _ _ q s refl refl)
ending_det ts a b xs ys c d e f (another p q r s) (closed t) =
    absurd (differ (among (sign.CloseBrace ∷ [])) _ _ _ t p refl refl)
ending_det ts a b xs ys c d e f (another p q r s) (trailing t u) =
    absurd (differ (among (sign.CloseBrace ∷ [])) _ _ _ u q refl refl)
ending_det ts a b xs ys c d e f (another {ts = us} {xs = vs} p q r s) (another {xs = ws} t u v w) =
    let h = ending_det us a b vs ws c d e f s w in (h.0, λ i. (r ∙ sym v) i ∷ h.1 i, h.2, h.3)

ending_front : (n : ℕ) (ts rest : List Token) (xs : List Name) (c : Option Token) (b : Token) → Ending ts rest xs c b
    → Front Endings no_sign n ts rest (xs, (c, b))
ending_front n ts rest xs c b (closed p) = record { front = b ∷ []; is = refl; alike = λ y h. closed p }
ending_front n ts rest xs c b (trailing {t = t} p q) =
    record { front = t ∷ (b ∷ []); is = refl; alike = λ y h. trailing p q }
ending_front n ts rest xs c b (another {ts = us} {t = t} {w = w} {xs = vs} p q r s) =
    let f = ending_front n us rest vs c b s in
    record {
      front = t ∷ (w ∷ f.front);
      is = ap (λ l. t ∷ (w ∷ l)) f.is;
      alike = λ y h. another p q r (f.alike y h);
    }

ending_starts : (ts rest : List Token) (xs : List Name) (c : Option Token) (b : Token) → Ending ts rest xs c b
    → begins (sign_at ts) ≡ true
ending_starts ts rest xs c b (closed p) = ap (among (sign.Comma ∷ (sign.CloseBrace ∷ []))) p
ending_starts ts rest xs c b (trailing p q) = ap (among (sign.Comma ∷ (sign.CloseBrace ∷ []))) p
ending_starts ts rest xs c b (another p q r s) = ap (among (sign.Comma ∷ (sign.CloseBrace ∷ []))) p

pub good_endings : Good Endings begins no_sign no_sign false
good_endings = record {
  det = λ n m ts a b x y r q h k. let e = ending_det ts a b x.0 y.0 x.1.0 y.1.0 x.1.1 y.1.1 r q in
      (e.0, λ i. (e.1 i, (e.2 i, e.3 i)));
  front = λ n ts rest x r. ending_front n ts rest x.0 x.1.0 x.1.1 r;
  starts = λ n ts rest x r. inl (ending_starts ts rest x.0 x.1.0 x.1.1 r);
  up = λ n m ts rest x le r. r;
}

from_ending : (ts rest : List Token) (xs : List Name) (c : Option Token) (b : Token) → Ending ts rest xs c b
    → written ts rest (xs, (c, b))
from_ending ts rest xs c b (closed p) = and_then (b ∷ rest) Many.none (and_then (b ∷ rest) (inr (refl, refl)) (refl, p))
from_ending ts rest xs c b (trailing {t = t} p q) =
    and_then (t ∷ (b ∷ rest)) Many.none (and_then (b ∷ rest) (inl (make {x = t} Some (refl, p))) (refl, q))
from_ending ts rest xs c b (another {ts = us} {t = t} {w = w} {xs = vs} {x = x} p q r s) =
    let e = from_ending us rest vs c b s in
    and_then e.mid
    (Many.more {mid = us}
    (make {x = (t, x)} second (and_then (w ∷ us) (refl, p) (record { part = w; read = (refl, q); is = r }))) e.front)
    e.back

at_end : (ts m rest : List Token) (c : Option Token) (b : Token) → optional (token sign.Comma) ts m c
    → token sign.CloseBrace m rest b → Ending ts rest [] c b
at_end ts m rest c b (inl r) k =
    subst (λ c. Ending ts rest [] c b) (sym r.is)
    (subst (λ l. Ending l rest [] (Some r.part) b) (sym (r.read.0 ∙ ap (λ l. r.part ∷ l) k.0)) (trailing r.read.1 k.1))
at_end ts m rest c b (inr r) k =
    subst (λ c. Ending ts rest [] c b) (sym r.1) (subst (λ l. Ending l rest [] None b) (sym (r.0 ∙ k.0)) (closed k.1))

to_ending : (ts mid m rest : List Token) (xs : List Name) (c : Option Token) (b : Token)
    → Many (behind sign.Comma name) ts mid xs → optional (token sign.Comma) mid m c →
    token sign.CloseBrace m rest b → Ending ts rest xs c b
to_ending ts mid m rest xs c b Many.none o k = at_end ts m rest c b o k
to_ending ts mid m rest xs c b (Many.more {mid = us} {x = x} {xs = vs} r rs) o k =
    subst (λ l. Ending l rest (x ∷ vs) c b) (sym (r.read.front.0 ∙ ap (λ l. r.part.0 ∷ l) r.read.back.read.0))
    (another r.read.front.1 r.read.back.read.1 (r.is ∙ r.read.back.is) (to_ending us mid m rest vs c b rs o k))

pub same_endings : Same Endings (λ n. written)
same_endings = record {
  to = λ n ts rest x r. from_ending ts rest x.0 x.1.0 x.1.1 r;
  back = λ n ts rest x r. to_ending ts r.mid r.back.mid rest x.0 x.1.0 x.1.1 r.front r.back.front r.back.back;
}

pub good_written : Good (λ n. written) begins no_sign no_sign false
good_written = good_same same_endings good_endings

-- after a comma and a name, the names go on
module _ (t w : Token) (comma : sign_of t ≡ sign.Comma) (word : sign_of w ≡ sign.Id) where
  past : (z y : List Token) (xs : List Name) (c : Option Token) (b : Token) → Ending (t ∷ (w ∷ z)) y xs c b
      → (vs : List Name) × Ending z y vs c b
  past z y xs c b (closed p) = absurd (differ (among (sign.Comma ∷ [])) t _ _ comma p refl refl)
  past z y xs c b (trailing p q) = absurd (differ (among (sign.Id ∷ [])) w _ _ word q refl refl)
  past z y xs c b (another {xs = vs} p q r s) = (vs, s)

  pub takes_another : (n : ℕ) (after rest : List Token) (x : Name) (p : List Name × (Option Token × Token))
      → x ≡ record { text = w.text; at = w.at } → Takes Endings no_sign no_sign n after rest p →
      Takes Endings no_sign no_sign n (t ∷ (w ∷ after)) rest (x ∷ p.0, p.1)
  takes_another n after rest x p is f = record {
    front = t ∷ (w ∷ f.front);
    is = ap (λ l. t ∷ (w ∷ l)) f.is;
    alike = λ y h. another comma word is (f.alike y h);
    only = λ m z y v same h r. let q = past (f.front ++ z) y v.0 v.1.0 v.1.1 r in f.only m z y (q.0, v.1) same h q.1;
  }

  alive_another : (n : ℕ) (pre : List Token) → Alive Endings no_sign n pre → Alive Endings no_sign n (t ∷ (w ∷ pre))
  alive_another n pre a = record {
    more = a.more;
    tree = (record { text = w.text; at = w.at } ∷ a.tree.0, a.tree.1);
    reads = λ y h. another comma word refl (a.reads y h);
  }

  pub fails_another : (n : ℕ) (end : Place) (after : List Token) (e : SyntaxFault)
      → Fails Endings no_sign no_sign no_sign n end after e
      → Fails Endings no_sign no_sign no_sign n end (t ∷ (w ∷ after)) e
  fails_another n end after _ (stuck p) = stuck (record {
    pre = t ∷ (w ∷ p.pre);
    post = p.post;
    is = ap (λ l. t ∷ (w ∷ l)) p.is;
    place = p.place;
    alive = alive_another n p.pre p.alive;
    dead = λ m z y x same h r. let q = past (p.pre ++ z) y x.0 x.1.0 x.1.1 r in p.dead m z y (q.0, x.1) same h q.1;
  })
  fails_another n end after _ (sunk p) = sunk (record {
    pre = t ∷ (w ∷ p.pre);
    next = p.next;
    post = p.post;
    is = ap (λ l. t ∷ (w ∷ l)) p.is;
    place = p.place ∙ ap (λ (u : Token). u.at)
        (sym (opener_after (t ∷ (w ∷ [])) p.pre p.next (λ e. absurd (clash (sym (p.early e))))));
    early = λ e. absurd (no_cons e);
    alive = alive_another n p.pre p.alive;
    dead = λ m le z y x same h r. let q = past (p.pre ++ z) y x.0 x.1.0 x.1.1 r in
        p.dead m le z y (q.0, x.1) same h q.1;
    room = p.room;
    higher = p.higher;
    deeper = alive_another p.room (p.pre ++ p.next ∷ []) p.deeper;
  })
    where
      no_cons : t ∷ (w ∷ p.pre) ≡ [] → ⊥
      no_cons e = subst IsCons e tt
  fails_another n end after _ no_memory = no_memory

-- the names end
pub takes_closed : (n : ℕ) (ts rest : List Token) (b : Token) → ts ≡ b ∷ rest → sign_of b ≡ sign.CloseBrace
    → Takes Endings no_sign no_sign n ts rest ([], (None, b))
takes_closed n ts rest b is told =
    record {
      front = b ∷ [];
      is = is;
      alike = λ y h. closed told;
      only = λ m z y v same h r.
          shut z y v.0 v.1.0 v.1.1 r;
    }
  where
    shut : (z y : List Token) (xs : List Name) (c : Option Token) (d : Token) → Ending (b ∷ z) y xs c d → z ≡ y
    shut z y xs c d (closed p) = refl
    shut z y xs c d (trailing p q) = absurd (differ (among (sign.Comma ∷ [])) b _ _ p told refl refl)
    shut z y xs c d (another p q r s) = absurd (differ (among (sign.Comma ∷ [])) b _ _ p told refl refl)

pub takes_trailing : (n : ℕ) (ts rest : List Token) (t b : Token) → ts ≡ t ∷ (b ∷ rest) → sign_of t ≡ sign.Comma
    → sign_of b ≡ sign.CloseBrace → Takes Endings no_sign no_sign n ts rest ([], (Some t, b))
takes_trailing n ts rest t b is comma told =
    record {
      front = t ∷ (b ∷ []);
      is = is;
      alike = λ y h. trailing comma told;
      only = λ m z y v same h r.
          shut z y v.0 v.1.0 v.1.1 r;
    }
  where
    shut : (z y : List Token) (xs : List Name) (c : Option Token) (d : Token) → Ending (t ∷ (b ∷ z)) y xs c d → z ≡ y
    shut z y xs c d (closed p) = absurd (differ (among (sign.Comma ∷ [])) t _ _ comma p refl refl)
    shut z y xs c d (trailing p q) = refl
    shut z y xs c d (another p q r s) = absurd (differ (among (sign.Id ∷ [])) b _ _ q told refl refl)

-- neither a comma nor a brace stands there
pub no_ending : (n : ℕ) (end : Place) (ts : List Token) (e : SyntaxFault) → e ≡ Syntax (place_at end ts)
    → among (sign.Comma ∷ []) (sign_at ts) ≡ false → sign_at ts ≢ sign.CloseBrace →
    Fails Endings no_sign no_sign no_sign n end ts e
no_ending n end ts e is no_comma other =
    subst (λ e. Fails Endings no_sign no_sign no_sign n end ts e) (sym is)
    (fails_first good_endings n end ts least (neither no_comma (told_apart sign.CloseBrace (sign_at ts) other)))
  where
    least : Alive Endings no_sign n []
    least =
        record {
          more = sample sign.CloseBrace ∷ [];
          tree = ([], (None, sample sign.CloseBrace));
          reads = λ y h. closed (sampled sign.CloseBrace (real sign.CloseBrace tt));
        }

    neither : among (sign.Comma ∷ []) (sign_at ts) ≡ false → same_sign sign.CloseBrace (sign_at ts) ≡ false
        → begins (sign_at ts) ≡ false
    neither h k = or_of _ _ (or_left _ false h) (or_of _ _ k refl)

-- after a comma neither a name nor a brace stands
pub no_name : (n : ℕ) (end : Place) (ts after : List Token) (t : Token) (e : SyntaxFault) → ts ≡ t ∷ after
    → sign_of t ≡ sign.Comma → e ≡ Syntax (place_at end after) → among (sign.Id ∷ []) (sign_at after) ≡ false →
    sign_at after ≢ sign.CloseBrace → Fails Endings no_sign no_sign no_sign n end ts e
no_name n end ts after t e is comma told no_id other =
    subst (λ e. Fails Endings no_sign no_sign no_sign n end ts e) (sym told) (stuck (record {
      pre = t ∷ [];
      post = after;
      is = is;
      place = refl;
      alive =
          record {
            more = sample sign.CloseBrace ∷ [];
            tree = ([], (Some t, sample sign.CloseBrace));
            reads = λ y h. trailing comma (sampled sign.CloseBrace (real sign.CloseBrace tt));
          };
      dead = λ m z y x same h r. lost z y x.0 x.1.0 x.1.1 same r;
    }))
  where
    lost : (z y : List Token) (xs : List Name) (c : Option Token) (d : Token) → sign_at z ≡ sign_at after
        → Ending (t ∷ z) y xs c d → ⊥
    lost z y xs c d same (closed p) = differ (among (sign.Comma ∷ [])) t _ _ comma p refl refl
    lost z y xs c d same (trailing p q) = other (sym same ∙ q)
    lost z y xs c d same (another p q r s) = clash (sym (ap (among (sign.Id ∷ [])) (sym same ∙ q)) ∙ no_id)

-- from these tokens on names were read up to those: what is read from there on is read after them
pub record Walks (n : ℕ) (end : Place) (ts mid : List Token) (xs : List Name) : Type 0 where
  pub takes : (rest : List Token) (p : List Name × (Option Token × Token)) → Takes Endings no_sign no_sign n mid rest p
      → Takes Endings no_sign no_sign n ts rest (xs ++ p.0, p.1)
  pub fails : (e : SyntaxFault) → Fails Endings no_sign no_sign no_sign n end mid e
      → Fails Endings no_sign no_sign no_sign n end ts e

pub walks_none : (n : ℕ) (end : Place) (ts : List Token) → Walks n end ts ts []
walks_none n end ts = record { takes = λ rest p t. t; fails = λ e f. f }

pub walks_more : (n : ℕ) (end : Place) (ts mid after : List Token) (xs : List Name) (t w : Token) (x : Name)
    → Walks n end ts mid xs → mid ≡ t ∷ (w ∷ after) → sign_of t ≡ sign.Comma → sign_of w ≡ sign.Id →
    x ≡ record { text = w.text; at = w.at } → Walks n end ts after (xs ++ x ∷ [])
walks_more n end ts mid after xs t w x walks is comma word named = record {
  takes = λ rest p u. subst (λ l. Takes Endings no_sign no_sign n ts rest (l, p.1)) (sym (append_assoc xs (x ∷ []) p.0))
      (walks.takes rest (x ∷ p.0, p.1)
      (subst (λ l. Takes Endings no_sign no_sign n l rest (x ∷ p.0, p.1)) (sym is)
      (takes_another t w comma word n after rest x p named u)));
  fails = λ e f. walks.fails e
      (subst (λ l. Fails Endings no_sign no_sign no_sign n end l e) (sym is)
      (fails_another t w comma word n end after e f));
}

-- the same of the rule as it is written
same_written : Same (λ n. more_names) Endings
same_written = record { to = same_endings.back; back = same_endings.to }

module _ (n : ℕ) (end : Place) (ts : List Token) where
  pub written_closed : (rest : List Token) (b : Token) → ts ≡ b ∷ rest → sign_of b ≡ sign.CloseBrace
      → Takes (λ n. more_names) no_sign no_sign n ts rest ([], (None, b))
  written_closed rest b is told = takes_same same_endings (takes_closed n ts rest b is told)

  pub written_trailing : (rest : List Token) (t b : Token) → ts ≡ t ∷ (b ∷ rest) → sign_of t ≡ sign.Comma
      → sign_of b ≡ sign.CloseBrace → Takes (λ n. more_names) no_sign no_sign n ts rest ([], (Some t, b))
  written_trailing rest t b is comma told = takes_same same_endings (takes_trailing n ts rest t b is comma told)

  pub written_none : (e : SyntaxFault) → e ≡ Syntax (place_at end ts) → among (sign.Comma ∷ []) (sign_at ts) ≡ false
      → sign_at ts ≢ sign.CloseBrace → Fails (λ n. more_names) no_sign no_sign no_sign n end ts e
  written_none e is no_comma other = fails_same same_endings e (no_ending n end ts e is no_comma other)

  pub written_no_name : (after : List Token) (t : Token) (e : SyntaxFault) → ts ≡ t ∷ after → sign_of t ≡ sign.Comma
      → e ≡ Syntax (place_at end after) → among (sign.Id ∷ []) (sign_at after) ≡ false →
      sign_at after ≢ sign.CloseBrace → Fails (λ n. more_names) no_sign no_sign no_sign n end ts e
  written_no_name after t e is comma told no_id other =
      fails_same same_endings e (no_name n end ts after t e is comma told no_id other)

module _ (n : ℕ) (end : Place) (ts mid : List Token) (xs : List Name) (w : Walks n end ts mid xs) where
  pub names_fails : (e : SyntaxFault) → Fails (λ n. more_names) no_sign no_sign no_sign n end mid e
      → Fails (λ n. Made first more_names) no_sign no_sign no_sign n end ts e
  names_fails e f = fails_made first e (fails_same same_endings e (w.fails e (fails_same same_written e f)))

  pub names_ends : (rest : List Token) (p : List Name × (Option Token × Token)) → p.0 ≡ []
      → Takes (λ n. more_names) no_sign no_sign n mid rest p
      → Takes (λ n. Made first more_names) no_sign no_sign n ts rest xs
  names_ends rest p no_more t =
      subst (λ l. Takes (λ n. Made first more_names) no_sign no_sign n ts rest l)
      (ap (λ l. xs ++ l) no_more ∙ append-nil xs)
      (takes_made first (takes_same same_endings (w.takes rest p (takes_same same_written t))))
