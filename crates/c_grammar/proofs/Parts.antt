-- The laws of the other parts of rules: one token, none, a choice, a level.
use Rattle.std.proofs.Common.{◌≡◌, ◌⊎◌, ◌≤◌, ℕ, zero, suc, Bool, true, false, List, [], ◌∷◌, ◌++◌, refl, sym, ap, ◌∙◌}
use Rattle.std.proofs.Common.{arith, inl, inr}
use Rattle.fore_base.specs.declared.place.Place.{Place}
use Rattle.c_lexer.specs.declared.token.Token.{Token}
use Rattle.c_grammar.specs.declared.fault.SyntaxFault.{SyntaxFault}
use Rattle.c_grammar.specs.declared.fault.SyntaxFault.TheVariants.{Syntax, Deep}
use Rattle.c_grammar.specs.words.Faults.{Alive, Dead, Fails, Takes}
use Rattle.c_grammar.specs.Hopeless.{place_at}
use Rattle.c_grammar.specs.words.Faults.Fails.{stuck, sunk, no_memory}
use Rattle.c_grammar.specs.Grammar.{Rule, level}
use Rattle.c_grammar.proofs.Families.{choice, made, one, no_token}
use Rattle.c_grammar.specs.words.Sets.{Signs, no_sign}
use Rattle.c_grammar.specs.Signs.{or_on, and, sign_of, sign_at}
use Rattle.c_grammar.specs.declared.signs.Sign.{Sign}
use Rattle.c_grammar.specs.declared.signs.Sign.TheVariants.{End}
use Rattle.c_grammar.proofs.SignLemmas.{clash, or_left, or_right, or_first, or_second, and_of, and_gives}
use Rattle.c_grammar.proofs.Rules.{Apart, Front, Good, first_or, rest_of, same_head, after_both, bars_both, fails_map}

-- a rule that is not empty stops at a token that cannot begin it
pub fails_first : {X : Type 0} {A : Rule X} {fa ca ba ha : Signs} → Good A fa ca ba false
    → (n : ℕ) (end : Place) (ts : List Token) → Alive A ba n [] → fa (sign_at ts) ≡ false →
    Fails A ca ba ha n end ts (Syntax (place_at end ts))
fails_first {X} {A} {fa} {ca} good n end ts least none_here = stuck (record {
  pre = [];
  post = ts;
  is = refl;
  place = refl;
  alive = least;
  dead = λ m z y x same h r. elim (good.starts m z y x r)
      [ inl f ↦ clash (sym f ∙ ap fa same ∙ none_here) | inr e ↦ clash (sym e.0) ];
})

pub not_below : (m : ℕ) → suc m ≤ 0 → ⊥
not_below m h = omega (arith, h)

-- where a level begins that none is left for, a rule that reads nothing there stops at its first token
pub deep_first : {X : Type 0} (F : Rule X) (c ba hs : Signs) (end : Place) (ts : List Token) → hs (sign_at ts) ≡ true
    → hs End ≡ false → Alive F ba 0 [] →
    ((t : Token) → hs (sign_of t) ≡ true → Alive F ba 1 (t ∷ [])) →
    ((z y : List Token) (x : X) → hs (sign_at z) ≡ true → F 0 z y x → ⊥)
    → Fails F c ba hs 0 end ts (Deep (place_at end ts))
deep_first F c ba hs end [] first solid least on dead = absurd (clash (sym first ∙ solid))
deep_first {X} F c ba hs end (t ∷ rest) first solid least on dead = sunk (record {
  pre = [];
  next = t;
  post = rest;
  is = refl;
  place = refl;
  early = λ e. first;
  alive = least;
  dead = within_none;
  room = 1;
  higher = omega arith;
  deeper = on t first;
})
  where
    within_none : (m : ℕ) → m ≤ 0 → (z y : List Token) (x : X) → sign_at z ≡ sign_of t → c (sign_at y) ≡ false
        → F m z y x → ⊥
    within_none zero le z y x same h r = dead z y x (ap hs same ∙ first) r
    within_none (suc m) le z y x same h r = absurd (not_below m le)

-- one token
pub good_token : (s : Sign) (p : Signs) → ((t : Sign) → t ≡ s → p t ≡ true) → Good (one s) p no_sign no_sign false
good_token s p has = record {
  det = λ n m ts a b x y r q h k. (ap rest_of (sym r.0 ∙ q.0), ap (first_or x) (sym r.0 ∙ q.0));
  front = λ n ts rest x r. record { front = x ∷ []; is = r.0; alike = λ y h. (refl, r.1) };
  starts = λ n ts rest x r. inl (has (sign_at ts) (ap sign_at r.0 ∙ r.1));
  up = λ n m ts rest x le r. r;
}

pub least_token : (s : Sign) (t : Token) → sign_of t ≡ s → (n : ℕ) → Alive (one s) no_sign n []
least_token s t is n = record { more = t ∷ []; tree = t; reads = λ y h. (refl, is) }

-- no token
pub good_nothing : {X : Type 0} (v : X) → Good (no_token v) no_sign no_sign no_sign true
good_nothing v = record {
  det = λ n m ts a b x y r q h k. (sym r.0 ∙ q.0, r.1 ∙ sym q.1);
  front = λ n ts rest x r. record { front = []; is = r.0; alike = λ y h. (refl, r.1) };
  starts = λ n ts rest x r. inr (refl, r.0);
  up = λ n m ts rest x le r. r;
}

pub least_nothing : {X : Type 0} (v : X) (n : ℕ) → Alive (no_token v) no_sign n []
least_nothing v n = record { more = []; tree = v; reads = λ y h. (refl, refl) }

-- what is made of a part
module _ {X Y : Type 0} {A : Rule X} {fa ca ba : Signs} {na : Bool} (good : Good A fa ca ba na) (f : X → Y) where
  pub good_made : Good (made f A) fa ca ba na
  good_made = record {
    det = λ n m ts a b x y r q h k. let e = good.det n m ts a b r.part q.part r.read q.read h k in
        (e.0, r.is ∙ ap f e.1 ∙ sym q.is);
    front = λ n ts rest x r. let p = good.front n ts rest r.part r.read in
        record { front = p.front; is = p.is; alike = λ y h. record { part = r.part; read = p.alike y h; is = r.is } };
    starts = λ n ts rest x r. good.starts n ts rest r.part r.read;
    up = λ n m ts rest x le r. record { part = r.part; read = good.up n m ts rest r.part le r.read; is = r.is };
  }

pub alive_made : {X Y : Type 0} {A : Rule X} {ba : Signs} {n : ℕ} {pre : List Token} (f : X → Y) → Alive A ba n pre
    → Alive (made f A) ba n pre
alive_made f a =
    record { more = a.more; tree = f a.tree; reads = λ y h. record { part = a.tree; read = a.reads y h; is = refl } }

pub fails_made : {X Y : Type 0} {A : Rule X} {ca ba ha : Signs} {n : ℕ} {end : Place} {ts : List Token} (f : X → Y)
    (e : SyntaxFault) → Fails A ca ba ha n end ts e → Fails (made f A) ca ba ha n end ts e
fails_made f e h = fails_map _ (λ m le pre a. alive_made f a)
    (λ m pre post is d z y x same k r. d z y r.part same k r.read) (λ s h. h) e h

pub takes_made : {X Y : Type 0} {A : Rule X} {ca ba : Signs} {n : ℕ} {ts rest : List Token} {x : X} (f : X → Y)
    → Takes A ca ba n ts rest x → Takes (made f A) ca ba n ts rest (f x)
takes_made {x = x} f t =
    record {
      front = t.front;
      is = t.is;
      alike = λ y h. record { part = x; read = t.alike y h; is = refl };
      only = λ m z y u same h r. t.only m z y r.part same h r.read;
    }

pub takes_token : (s : Sign) (n : ℕ) (ts rest : List Token) (t : Token) → ts ≡ t ∷ rest → sign_of t ≡ s
    → Takes (one s) no_sign no_sign n ts rest t
takes_token s n ts rest t is sign =
    record { front = t ∷ []; is = is; alike = λ y h. (refl, sign); only = λ m z y u same h r. ap rest_of r.0 }

pub takes_nothing : {X : Type 0} (v : X) (n : ℕ) (ts : List Token) → Takes (no_token v) no_sign no_sign n ts ts v
takes_nothing v n ts = record { front = []; is = refl; alike = λ y h. (refl, refl); only = λ m z y u same h r. r.0 }

-- rules that read the same
pub record Same {X : Type 0} (A B : Rule X) : Type 0 where
  pub to : (n : ℕ) (ts rest : List Token) (x : X) → A n ts rest x → B n ts rest x
  pub back : (n : ℕ) (ts rest : List Token) (x : X) → B n ts rest x → A n ts rest x

pub good_same : {X : Type 0} {A B : Rule X} {fa ca ba : Signs} {na : Bool} → Same A B → Good A fa ca ba na
    → Good B fa ca ba na
good_same same good = record {
  det = λ n m ts a b x y r q. good.det n m ts a b x y (same.back n ts a x r) (same.back m ts b y q);
  front = λ n ts rest x r. let p = good.front n ts rest x (same.back n ts rest x r) in
      record { front = p.front; is = p.is; alike = λ y h. same.to n _ y x (p.alike y h) };
  starts = λ n ts rest x r. good.starts n ts rest x (same.back n ts rest x r);
  up = λ n m ts rest x le r. same.to m ts rest x (good.up n m ts rest x le (same.back n ts rest x r));
}

pub alive_to : {X : Type 0} {A B : Rule X} {ba : Signs} {n : ℕ} {pre : List Token}
    → ((y : List Token) (x : X) (ts : List Token) → A n ts y x → B n ts y x) → Alive A ba n pre → Alive B ba n pre
alive_to to a = record { more = a.more; tree = a.tree; reads = λ y h. to y a.tree _ (a.reads y h) }

pub fails_same : {X : Type 0} {A B : Rule X} {ca ba ha : Signs} {n : ℕ} {end : Place} {ts : List Token} → Same A B
    → (e : SyntaxFault) → Fails A ca ba ha n end ts e → Fails B ca ba ha n end ts e
fails_same {n = n} same e h = fails_map n (λ m le pre a. alive_to (λ y x ts. same.to m ts y x) a)
    (λ m pre post is d z y x told k r. d z y x told k (same.back m _ y x r)) (λ s h. h) e h

pub takes_same : {X : Type 0} {A B : Rule X} {ca ba : Signs} {n : ℕ} {ts rest : List Token} {x : X} → Same A B
    → Takes A ca ba n ts rest x → Takes B ca ba n ts rest x
takes_same {n = n} {x = x} s t =
    record {
      front = t.front;
      is = t.is;
      alike = λ y h. s.to n _ y x (t.alike y h);
      only = λ m z y u same h r.
          t.only m z y u same h (s.back m _ y u r);
    }

-- larger sets of signs
abbrev pub Within : Signs → Signs → Type 0
Within p q = (s : Sign) → q s ≡ false → p s ≡ false

pub good_within : {X : Type 0} {A : Rule X} {fa ca ba : Signs} {na : Bool} (fb cb bb : Signs)
    → ((s : Sign) → fa s ≡ true → fb s ≡ true) → Within ca cb → Within ba bb →
    Good A fa ca ba na → Good A fb cb bb na
good_within fb cb bb first cont bars good = record {
  det = λ n m ts a b x y r q h k. good.det n m ts a b x y r q (cont _ h) (cont _ k);
  front = λ n ts rest x r. let p = good.front n ts rest x r in record {
    front = p.front;
    is = p.is;
    alike = λ y. elim [ inl e ↦ p.alike y (inl e) | inr e ↦ p.alike y (inr (bars _ e)) ];
  };
  starts = λ n ts rest x r. elim (good.starts n ts rest x r) [ inl f ↦ inl (first _ f) | inr e ↦ inr e ];
  up = good.up;
}

pub alive_within : {X : Type 0} {A : Rule X} {ba bb : Signs} {n : ℕ} {pre : List Token} → Within ba bb
    → Alive A ba n pre → Alive A bb n pre
alive_within w a = record { more = a.more; tree = a.tree; reads = λ y h. a.reads y (w _ h) }

pub fails_within : {X : Type 0} {A : Rule X} {ca ba ha cb bb hb : Signs} {n : ℕ} {end : Place} {ts : List Token}
    → Within ca cb → Within ba bb → ((s : Sign) → ha s ≡ true → hb s ≡ true) → (e : SyntaxFault) →
    Fails A ca ba ha n end ts e → Fails A cb bb hb n end ts e
fails_within c b h e f = fails_map _ (λ m le pre a. alive_within b a)
    (λ m pre post is d z y x same k. d z y x same (c _ k)) h e f

pub takes_within : {X : Type 0} {A : Rule X} {ca ba cb bb : Signs} {n : ℕ} {ts rest : List Token} {x : X} → Within ca cb
    → Within ba bb → Takes A ca ba n ts rest x → Takes A cb bb n ts rest x
takes_within c b t = record {
  front = t.front;
  is = t.is;
  alike = λ y. elim [ inl e ↦ t.alike y (inl e) | inr e ↦ t.alike y (inr (b _ e)) ];
  only = λ m z y u same h. t.only m z y u same (c _ h);
}

-- a choice by the first token
abbrev pub first_either : Signs → Signs → Signs
first_either fa fb s = or_on (fa s) (fb s)

abbrev pub cont_either : Signs → Signs → Bool → Signs → Signs → Bool → Signs
cont_either fa ca na fb cb nb s = or_on (or_on (ca s) (cb s)) (or_on (and nb (fa s)) (and na (fb s)))

module _ {X : Type 0} {A B : Rule X} {fa ca ba fb cb bb : Signs} {na nb : Bool} (ga : Good A fa ca ba na)
    (gb : Good B fb cb bb nb) (apart : Apart fa fb) (full : and na nb ≡ false) where
  abbrev cont : Signs
  cont = cont_either fa ca na fb cb nb

  both_ways : (n m : ℕ) (ts a b : List Token) (s t : X) → A n ts a s → B m ts b t → cont (sign_at a) ≡ false
      → cont (sign_at b) ≡ false → ⊥
  both_ways n m ts a b s t r q h k = elim (ga.starts n ts a s r) [
    | inl f ↦ elim (gb.starts m ts b t q) [
      | inl g ↦ clash (sym f ∙ apart _ g)
      | inr e ↦ clash (sym f ∙ ap (λ l. fa (sign_at l)) e.1 ∙ and_gives nb _ (or_left _ _ (or_right _ _ k)) e.0)
    ]
    | inr d ↦ elim (gb.starts m ts b t q) [
      | inl g ↦ clash (sym g ∙ ap (λ l. fb (sign_at l)) d.1 ∙ and_gives na _ (or_right _ _ (or_right _ _ h)) d.0)
      | inr e ↦ clash (sym (and_of na nb d.0 e.0) ∙ full)
    ]
  ]

  either_det : (n m : ℕ) (ts a b : List Token) (s t : X) → choice A B n ts a s → choice A B m ts b t → cont (sign_at a)
      ≡ false → cont (sign_at b) ≡ false → (a ≡ b) × (s ≡ t)
  either_det n m ts a b s t (inl r) (inl q) h k =
      ga.det n m ts a b s t r q (or_left _ _ (or_left _ _ h)) (or_left _ _ (or_left _ _ k))
  either_det n m ts a b s t (inl r) (inr q) h k = absurd (both_ways n m ts a b s t r q h k)
  either_det n m ts a b s t (inr r) (inl q) h k = absurd (both_ways m n ts b a t s q r k h)
  either_det n m ts a b s t (inr r) (inr q) h k =
      gb.det n m ts a b s t r q (or_right _ _ (or_left _ _ h)) (or_right _ _ (or_left _ _ k))

  either_front : (n : ℕ) (ts rest : List Token) (x : X) → choice A B n ts rest x
      → Front (choice A B) (bars_both ba bb) n ts rest x
  either_front n ts rest x (inl r) = let p = ga.front n ts rest x r in record {
    front = p.front;
    is = p.is;
    alike = λ y h. inl (p.alike y (after_both ba bb y rest h).0);
  }
  either_front n ts rest x (inr r) = let p = gb.front n ts rest x r in record {
    front = p.front;
    is = p.is;
    alike = λ y h. inr (p.alike y (after_both ba bb y rest h).1);
  }

  either_starts : (n : ℕ) (ts rest : List Token) (x : X) → choice A B n ts rest x
      → (first_either fa fb (sign_at ts) ≡ true) ⊎ ((or_on na nb ≡ true) × (ts ≡ rest))
  either_starts n ts rest x (inl r) =
      elim (ga.starts n ts rest x r) [ inl f ↦ inl (or_first _ _ f) | inr e ↦ inr (or_first _ _ e.0, e.1) ]
  either_starts n ts rest x (inr r) =
      elim (gb.starts n ts rest x r) [ inl f ↦ inl (or_second _ _ f) | inr e ↦ inr (or_second na _ e.0, e.1) ]

  either_up : (n m : ℕ) (ts rest : List Token) (x : X) → n ≤ m → choice A B n ts rest x → choice A B m ts rest x
  either_up n m ts rest x le (inl r) = inl (ga.up n m ts rest x le r)
  either_up n m ts rest x le (inr r) = inr (gb.up n m ts rest x le r)

  pub good_either : Good (choice A B) (first_either fa fb) cont (bars_both ba bb) (or_on na nb)
  good_either = record { det = either_det; front = either_front; starts = either_starts; up = either_up }

  -- the one that the next token cannot begin reads nothing
  dead_right : (m : ℕ) (ts pre post : List Token) → ts ≡ pre ++ post → fa (sign_at ts) ≡ true → Dead B cont m pre post
  dead_right m ts pre post is first z y x same h r =
      let here : fa (sign_at (pre ++ z)) ≡ true = ap fa (same_head pre z post ts is same) ∙ first in
      elim (gb.starts m (pre ++ z) y x r) [
        | inl g ↦ clash (sym here ∙ apart _ g)
        | inr e ↦ clash (sym here ∙ ap (λ l. fa (sign_at l)) e.1 ∙ and_gives nb _ (or_left _ _ (or_right _ _ h)) e.0)
      ]

  dead_other : na ≡ false → (m : ℕ) (ts pre post : List Token) → ts ≡ pre ++ post → fa (sign_at ts) ≡ false
      → Dead A cont m pre post
  dead_other solid m ts pre post is other z y x same h r =
      elim (ga.starts m (pre ++ z) y x r) [
        | inl g ↦ clash (sym g ∙ ap fa (same_head pre z post ts is same) ∙ other)
        | inr e ↦ clash (sym e.0 ∙ solid)
      ]

  dead_either : (m : ℕ) (pre post : List Token) → Dead A cont m pre post → Dead B cont m pre post
      → Dead (choice A B) cont m pre post
  dead_either m pre post a b z y x same h (inl r) = a z y x same h r
  dead_either m pre post a b z y x same h (inr r) = b z y x same h r

  dead_of_left : (m : ℕ) (pre post : List Token) → Dead A ca m pre post → Dead A cont m pre post
  dead_of_left m pre post d z y x same h r = d z y x same (or_left _ _ (or_left _ _ h)) r

  dead_of_right : (m : ℕ) (pre post : List Token) → Dead B cb m pre post → Dead B cont m pre post
  dead_of_right m pre post d z y x same h r = d z y x same (or_right _ _ (or_left _ _ h)) r

  pub alive_left : (n : ℕ) (pre : List Token) → Alive A ba n pre → Alive (choice A B) (bars_both ba bb) n pre
  alive_left n pre a = record { more = a.more; tree = a.tree; reads = λ y h. inl (a.reads y (or_left _ _ h)) }

  pub alive_right : (n : ℕ) (pre : List Token) → Alive B bb n pre → Alive (choice A B) (bars_both ba bb) n pre
  alive_right n pre a = record { more = a.more; tree = a.tree; reads = λ y h. inr (a.reads y (or_right _ _ h)) }

  pub fails_left : {ha : Signs} (n : ℕ) (end : Place) (ts : List Token) → fa (sign_at ts) ≡ true → (e : SyntaxFault)
      → Fails A ca ba ha n end ts e → Fails (choice A B) cont (bars_both ba bb) ha n end ts e
  fails_left n end ts first e h = fails_map n (λ m le. alive_left m)
      (λ m pre post is d. dead_either m pre post (dead_of_left m pre post d) (dead_right m ts pre post is first))
      (λ s h. h) e h

  pub fails_right : {hb : Signs} → na ≡ false → (n : ℕ) (end : Place) (ts : List Token) → fa (sign_at ts) ≡ false
      → (e : SyntaxFault) → Fails B cb bb hb n end ts e → Fails (choice A B) cont (bars_both ba bb) hb n end ts e
  fails_right solid n end ts other e h = fails_map n (λ m le. alive_right m)
      (λ m pre post is d. dead_either m pre post (dead_other solid m ts pre post is other) (dead_of_right m pre post d))
      (λ s h. h) e h

  pub takes_left : (n : ℕ) (ts rest : List Token) (x : X) → fa (sign_at ts) ≡ true → Takes A ca ba n ts rest x
      → Takes (choice A B) cont (bars_both ba bb) n ts rest x
  takes_left n ts rest x first t = record {
    front = t.front;
    is = t.is;
    alike = λ y h. inl (t.alike y (after_both ba bb y rest h).0);
    only = λ m z y u same h.
        elim [
          | inl r ↦ t.only m z y u same (or_left _ _ (or_left _ _ h)) r
          | inr r ↦ absurd
              (dead_right m ts t.front rest t.is first z y u same h r)
        ];
  }

  pub takes_right : na ≡ false → (n : ℕ) (ts rest : List Token) (x : X) → fa (sign_at ts) ≡ false
      → Takes B cb bb n ts rest x → Takes (choice A B) cont (bars_both ba bb) n ts rest x
  takes_right solid n ts rest x other t = record {
    front = t.front;
    is = t.is;
    alike = λ y h. inr (t.alike y (after_both ba bb y rest h).1);
    only = λ m z y u same h.
        elim [
          | inl r ↦ absurd (dead_other solid m ts t.front rest t.is other z y u same h r)
          | inr r ↦ t.only m z y u same
              (or_right _ _ (or_left _ _ h)) r
        ];
  }

-- a part that is a level
module _ {X : Type 0} {A : Rule X} {fa ca ba : Signs} {na : Bool} (ga : Good A fa ca ba na) where
  level_det : (n m : ℕ) (ts a b : List Token) (s t : X) → level A n ts a s → level A m ts b t → ca (sign_at a) ≡ false
      → ca (sign_at b) ≡ false → (a ≡ b) × (s ≡ t)
  level_det zero m ts a b s t r q h k = absurd r
  level_det (suc n) zero ts a b s t r q h k = absurd q
  level_det (suc n) (suc m) ts a b s t r q h k = ga.det n m ts a b s t r q h k

  level_front : (n : ℕ) (ts rest : List Token) (x : X) → level A n ts rest x → Front (level A) ba n ts rest x
  level_front zero ts rest x r = absurd r
  level_front (suc n) ts rest x r = let p = ga.front n ts rest x r in
      record { front = p.front; is = p.is; alike = p.alike }

  level_starts : (n : ℕ) (ts rest : List Token) (x : X) → level A n ts rest x → (fa (sign_at ts) ≡ true)
      ⊎ ((na ≡ true) × (ts ≡ rest))
  level_starts zero ts rest x r = absurd r
  level_starts (suc n) ts rest x r = ga.starts n ts rest x r

  level_up : (n m : ℕ) (ts rest : List Token) (x : X) → n ≤ m → level A n ts rest x → level A m ts rest x
  level_up zero m ts rest x le r = absurd r
  level_up (suc n) zero ts rest x le r = absurd (not_below n le)
  level_up (suc n) (suc m) ts rest x le r = ga.up n m ts rest x (omega (arith, le)) r

  pub good_level : Good (level A) fa ca ba na
  good_level = record { det = level_det; front = level_front; starts = level_starts; up = level_up }

  level_dead : (m : ℕ) (pre post : List Token) → ((k : ℕ) → m ≡ suc k → Dead A ca k pre post)
      → Dead (level A) ca m pre post
  level_dead zero pre post d z y x same h r = r
  level_dead (suc m) pre post d z y x same h r = d m refl z y x same h r

  level_alive : (n : ℕ) (pre : List Token) → Alive A ba n pre → Alive (level A) ba (suc n) pre
  level_alive n pre a = record { more = a.more; tree = a.tree; reads = a.reads }

  pub fails_level : {ha : Signs} (n : ℕ) (end : Place) (ts : List Token) (e : SyntaxFault) → Fails A ca ba ha n end ts e
      → Fails (level A) ca ba ha (suc n) end ts e
  fails_level n end ts _ (stuck p) = stuck (record {
    pre = p.pre;
    post = p.post;
    is = p.is;
    place = p.place;
    alive = level_alive n p.pre p.alive;
    dead = λ m. level_dead m p.pre p.post (λ k _. p.dead k);
  })
  fails_level n end ts _ (sunk p) = sunk (record {
    pre = p.pre;
    next = p.next;
    post = p.post;
    is = p.is;
    place = p.place;
    early = p.early;
    alive = level_alive n p.pre p.alive;
    dead = λ m le. level_dead m p.pre (p.next ∷ p.post) (λ k e. p.dead k (omega (arith, e, le)));
    room = suc p.room;
    higher = omega (arith, p.higher);
    deeper = level_alive p.room (p.pre ++ p.next ∷ []) p.deeper;
  })
  fails_level n end ts _ no_memory = no_memory

  pub takes_level : (n : ℕ) (ts rest : List Token) (x : X) → Takes A ca ba n ts rest x
      → Takes (level A) ca ba (suc n) ts rest x
  takes_level n ts rest x t = record { front = t.front; is = t.is; alike = t.alike; only = level_only }
    where
      level_only : (m : ℕ) (z y : List Token) (u : X) → sign_at z ≡ sign_at rest → ca (sign_at y) ≡ false
          → level A m (t.front ++ z) y u → z ≡ y
      level_only zero z y u same h r = absurd r
      level_only (suc m) z y u same h r = t.only m z y u same h r
