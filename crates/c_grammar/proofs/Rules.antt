-- What holds of every rule: the laws of its parts.
use Rattle.std.proofs.Common.{◌≡◌, ◌⊎◌, ◌≤◌, ℕ, Bool, true, false, List, [], ◌∷◌, ◌++◌, refl, sym, ap, ◌∙◌, subst}
use Rattle.std.proofs.Common.{arith, inl, inr, append_assoc, cond}
use Rattle.std.proofs.lemmas.List.{append-nil}
use Rattle.fore_base.specs.declared.place.Place.{Place}
use Rattle.c_lexer.specs.declared.token.Token.{Token}
use Rattle.c_grammar.specs.declared.fault.SyntaxFault.{SyntaxFault}
use Rattle.c_grammar.specs.Hopeless.{opener}
use Rattle.c_grammar.specs.words.Faults.{Alive, Dead, Fails, Takes}
use Rattle.c_grammar.specs.words.Faults.Fails.{stuck, sunk, no_memory}
use Rattle.c_grammar.specs.Grammar.{Rule}
use Rattle.c_grammar.proofs.Families.{both}
use Rattle.c_grammar.specs.words.Sets.{Signs}
use Rattle.c_grammar.specs.Signs.{or_on, and, same_sign, sign_of, sign_at}
use Rattle.c_grammar.specs.declared.signs.Sign.TheVariants.{Id, Open, End}
use Rattle.c_grammar.proofs.SignLemmas.{clash, or_left, or_right, or_first, or_second, and_of, and_gives, and_no}
use Rattle.c_grammar.proofs.SignLemmas.{told_apart}
use Rattle.c_grammar.specs.declared.signs.Sign.{Sign}

abbrev pub IsCons : List Token → Type 0
IsCons [] = ⊥
IsCons (t ∷ ts) = Unit {0}

-- the first token, and those after it
abbrev pub first_or : Token → List Token → Token
first_or d [] = d
first_or d (t ∷ ts) = t

abbrev pub rest_of : List Token → List Token
rest_of [] = []
rest_of (t ∷ ts) = ts

-- no sign is in both
abbrev pub Apart : Signs → Signs → Type 0
Apart p q = (s : Sign) → q s ≡ true → p s ≡ false

-- what may not come after the first part does not begin the second, or stands there
abbrev pub Fits : Signs → Signs → List Token → Type 0
Fits ba fb mid = (s : Sign) → fb s ≡ true → (ba s ≡ false) ⊎ (s ≡ sign_at mid)

abbrev pub first_both : Bool → Signs → Signs → Signs
first_both na fa fb s = or_on (fa s) (and na (fb s))

abbrev pub cont_both : Bool → Signs → Signs → Signs
cont_both nb ca cb s = or_on (cb s) (and nb (ca s))

abbrev pub bars_both : Signs → Signs → Signs
bars_both ba bb s = or_on (ba s) (bb s)

-- what a level of the second part opens at the very front, if the first part may be empty
abbrev pub heads_after : Bool → Signs → Signs
heads_after na hb s = and na (hb s)

-- what was read is the front of the tokens, and reads alike before other tokens
pub record Front {X : Type 0} (A : Rule X) (bars : Signs) (n : ℕ) (ts rest : List Token) (x : X) : Type 0 where
  pub front : List Token
  pub is : ts ≡ front ++ rest
  pub alike : (y : List Token) → (sign_at y ≡ sign_at rest) ⊎ (bars (sign_at y) ≡ false) → A n (front ++ y) y x

-- first: what it can begin with; cont: what can continue it; bars: what may not come after it; null: it may be empty
pub record Good {X : Type 0} (A : Rule X) (first cont bars : Signs) (null : Bool) : Type 0 where
  pub det : (n m : ℕ) (ts a b : List Token) (s t : X) → A n ts a s → A m ts b t → cont (sign_at a) ≡ false
      → cont (sign_at b) ≡ false → (a ≡ b) × (s ≡ t)
  pub front : (n : ℕ) (ts rest : List Token) (x : X) → A n ts rest x → Front A bars n ts rest x
  pub starts : (n : ℕ) (ts rest : List Token) (x : X) → A n ts rest x → (first (sign_at ts) ≡ true)
      ⊎ ((null ≡ true) × (ts ≡ rest))
  pub up : (n m : ℕ) (ts rest : List Token) (x : X) → n ≤ m → A n ts rest x → A m ts rest x

-- a sign that cannot continue what comes before is not at the front of a part, nor after it if it is empty
pub after : {X : Type 0} {B : Rule X} {fb cb bb : Signs} {nb : Bool} → Good B fb cb bb nb → (p : Signs) → Apart p fb →
    (n : ℕ) (ts rest : List Token) (x : X) → B n ts rest x → (nb ≡ true → p (sign_at rest) ≡ false)
    → p (sign_at ts) ≡ false
after good p apart n ts rest x r h =
    elim (good.starts n ts rest x r)
    [ inl f ↦ apart (sign_at ts) f | inr e ↦ subst (λ l. p (sign_at l) ≡ false) (sym e.1) (h e.0) ]

pub same_head : (front y rest ts : List Token) → ts ≡ front ++ rest → sign_at y ≡ sign_at rest → sign_at (front ++ y)
    ≡ sign_at ts
same_head [] y rest ts is h = h ∙ ap sign_at (sym is)
same_head (t ∷ front) y rest ts is h = ap sign_at (sym is)

-- before tokens that begin as those behind a front do, or that may come there, the front begins as all of the tokens
-- do, or what stands there may come there
pub head_of_front : (front rest ts : List Token) (p : Signs) → ts ≡ front ++ rest → (y : List Token)
    → (sign_at y ≡ sign_at rest) ⊎ (p (sign_at y) ≡ false) →
    (sign_at (front ++ y) ≡ sign_at ts) ⊎ (p (sign_at (front ++ y)) ≡ false)
head_of_front [] rest ts p is y (inl e) = inl (e ∙ ap sign_at (sym is))
head_of_front [] rest ts p is y (inr e) = inr e
head_of_front (t ∷ front) rest ts p is y h = inl (ap sign_at (sym is))

-- what may come after both of two parts, or stands there, may come after each, or stands there
pub after_both : (ba bb : Signs) (z rest : List Token)
    → (sign_at z ≡ sign_at rest) ⊎ (bars_both ba bb (sign_at z) ≡ false) →
    ((sign_at z ≡ sign_at rest) ⊎ (ba (sign_at z) ≡ false)) × ((sign_at z ≡ sign_at rest) ⊎ (bb (sign_at z) ≡ false))
after_both ba bb z rest (inl e) = (inl e, inl e)
after_both ba bb z rest (inr e) =
    (inr (or_left (ba (sign_at z)) (bb (sign_at z)) e), inr (or_right (ba (sign_at z)) (bb (sign_at z)) e))

-- what opens a level after a front that is not empty is told by what stands next to it
pub opener_after : (front pre : List Token) (t : Token) → (pre ≡ [] → opener front t ≡ t) → opener (front ++ pre) t
    ≡ opener pre t
opener_after front [] t h = ap (λ l. opener l t) (append-nil front) ∙ h refl
opener_after [] (p ∷ ps) t h = refl
opener_after (x ∷ []) (p ∷ ps) t h = refl
opener_after (x ∷ (y ∷ front)) (p ∷ ps) t h = opener_after (y ∷ front) (p ∷ ps) t (λ e. absurd (no_cons e))
  where
    no_cons : p ∷ ps ≡ [] → ⊥
    no_cons e = subst IsCons e tt

-- what is no opening bracket opens a level itself
opener_other : (front : List Token) (t : Token) → same_sign Open (sign_of t) ≡ false → opener front t ≡ t
opener_other [] t h = refl
opener_other (p ∷ []) t h = ap (λ b. cond b p t) (and_no (same_sign Id (sign_of p)) (same_sign Open (sign_of t)) h)
opener_other (p ∷ (q ∷ ps)) t h = opener_other (q ∷ ps) t h

pub calm_of : (h : Signs) → h Open ≡ false → (front : List Token) (t : Token) → h (sign_of t) ≡ true
    → opener front t ≡ t
calm_of h shut front t here = opener_other front t (told_apart Open (sign_of t) (λ e. clash (sym here ∙ ap h e ∙ shut)))

pub nil_back : (front pre : List Token) → front ++ pre ≡ [] → pre ≡ []
nil_back [] pre e = e
nil_back (t ∷ front) pre e = absurd (subst IsCons e tt)

pub nil_front : (front pre : List Token) → front ++ pre ≡ [] → front ≡ []
nil_front [] pre e = refl
nil_front (t ∷ front) pre e = absurd (subst IsCons e tt)

abbrev pub higher_least : {X : Type 0} {A : Rule X} {fa ca ba : Signs} {na : Bool} → Good A fa ca ba na → (n m : ℕ)
    → n ≤ m → Alive A ba n [] → Alive A ba m []
higher_least good n m le a = record { more = a.more; tree = a.tree; reads = λ y e. good.up n m _ _ _ le (a.reads y e) }

module _ {X Y : Type 0} {A : Rule X} {B : Rule Y} {fa ca ba fb cb bb : Signs} {na nb : Bool} (ga : Good A fa ca ba na)
    (gb : Good B fb cb bb nb) (apart : Apart ca fb) where
  both_det : (n m : ℕ) (ts a b : List Token) (s t : X × Y) → both A B n ts a s → both A B m ts b t →
      cont_both nb ca cb (sign_at a) ≡ false → cont_both nb ca cb (sign_at b) ≡ false → (a ≡ b) × (s ≡ t)
  both_det n m ts a b s t p q h k =
      let hm : ca (sign_at p.mid) ≡ false = after gb ca apart n p.mid a s.1 p.back (and_gives nb _ (or_right _ _ h)) in
      let km : ca (sign_at q.mid) ≡ false = after gb ca apart m q.mid b t.1 q.back (and_gives nb _ (or_right _ _ k)) in
      let e = ga.det n m ts p.mid q.mid s.0 t.0 p.front q.front hm km in
      let f = gb.det n m q.mid a b s.1 t.1 (subst (λ l. B n l a s.1) e.0 p.back) q.back (or_left _ _ h) (or_left _ _ k)
      in
      (f.0, λ i. (e.1 i, f.1 i))

  both_front : (n : ℕ) (ts rest : List Token) (x : X × Y) → both A B n ts rest x
      → Front (both A B) (bars_both ba bb) n ts rest x
  both_front n ts rest x r =
      let a = ga.front n ts r.mid x.0 r.front in
      let b = gb.front n r.mid rest x.1 r.back in
      record {
        front = a.front ++ b.front;
        is = a.is ∙ ap (λ l. a.front ++ l) b.is ∙ sym (append_assoc a.front b.front rest);
        alike = λ y h. record {
          mid = b.front ++ y;
          front = subst (λ l. A n l (b.front ++ y) x.0) (sym (append_assoc a.front b.front y))
              (a.alike (b.front ++ y) (head_of_front b.front rest r.mid ba b.is y (after_both ba bb y rest h).0));
          back = b.alike y (after_both ba bb y rest h).1;
        };
      }

  both_starts : (n : ℕ) (ts rest : List Token) (x : X × Y) → both A B n ts rest x
      → (first_both na fa fb (sign_at ts) ≡ true) ⊎ ((and na nb ≡ true) × (ts ≡ rest))
  both_starts n ts rest x r = elim (ga.starts n ts r.mid x.0 r.front) [
    | inl f ↦ inl (or_first _ _ f)
    | inr e ↦ elim (gb.starts n r.mid rest x.1 r.back) [
      | inl f ↦ inl (or_second _ _ (and_of na _ e.0 (subst (λ l. fb (sign_at l) ≡ true) (sym e.1) f)))
      | inr f ↦ inr (and_of na nb e.0 f.0, e.1 ∙ f.1)
    ]
  ]

  pub good_both : Good (both A B) (first_both na fa fb) (cont_both nb ca cb) (bars_both ba bb) (and na nb)
  good_both = record {
    det = both_det;
    front = both_front;
    starts = both_starts;
    up = λ n m ts rest x le r.
        record { mid = r.mid; front = ga.up n m ts r.mid x.0 le r.front; back = gb.up n m r.mid rest x.1 le r.back };
  }

  -- what begins the first part begins both
  pub alive_front : (n : ℕ) (pre : List Token) → Alive A ba n pre → (least : Alive B bb n []) →
      ((y : List Token) → bars_both ba bb (sign_at y) ≡ false → ba (sign_at (least.more ++ y)) ≡ false)
      → Alive (both A B) (bars_both ba bb) n pre
  alive_front n pre a least h = record {
    more = a.more ++ least.more;
    tree = (a.tree, least.tree);
    reads = λ y e. record {
      mid = least.more ++ y;
      front = subst (λ l. A n (pre ++ l) (least.more ++ y) a.tree) (sym (append_assoc a.more least.more y))
          (a.reads (least.more ++ y) (h y e));
      back = least.reads y (or_right _ _ e);
    };
  }

  -- the second part may come after the first
  pub follows : (n : ℕ) → Apart ba fb → (least : Alive B bb n []) → (y : List Token) → bars_both ba bb (sign_at y)
      ≡ false → ba (sign_at (least.more ++ y)) ≡ false
  follows n free least y e =
      after gb ba free n (least.more ++ y) y least.tree (least.reads y (or_right _ _ e)) (λ _. or_left _ _ e)

  pub dead_front : (m : ℕ) (pre post : List Token) → Dead A ca m pre post
      → Dead (both A B) (cont_both nb ca cb) m pre post
  dead_front m pre post d z y x same h r =
      d z r.mid x.0 same (after gb ca apart m r.mid y x.1 r.back (and_gives nb _ (or_right _ _ h))) r.front

  module _ (n : ℕ) (ts mid : List Token) (x : X) (part : Takes A ca ba n ts mid x) where
    pub whole_is : (pre post : List Token) → mid ≡ pre ++ post → ts ≡ (part.front ++ pre) ++ post
    whole_is pre post is = part.is ∙ ap (λ l. part.front ++ l) is ∙ sym (append_assoc part.front pre post)

    -- what begins the second part, with what the first part read before it, begins both
    pub alive_back : (m : ℕ) → n ≤ m → (pre : List Token) → (a : Alive B bb m pre) →
        ((y : List Token) → bars_both ba bb (sign_at y) ≡ false → (sign_at (pre ++ (a.more ++ y)) ≡ sign_at mid)
        ⊎ (ba (sign_at (pre ++ (a.more ++ y))) ≡ false)) →
        Alive (both A B) (bars_both ba bb) m (part.front ++ pre)
    alive_back m le pre a h = record {
      more = a.more;
      tree = (x, a.tree);
      reads = λ y e. record {
        mid = pre ++ (a.more ++ y);
        front = subst (λ l. A m l (pre ++ (a.more ++ y)) x) (sym (append_assoc part.front pre (a.more ++ y)))
            (ga.up n m _ _ _ le (part.alike (pre ++ (a.more ++ y)) (h y e)));
        back = a.reads y (or_right _ _ e);
      };
    }

    -- where a token of the second part was read, it comes after the first part as in the text
    pub joins : (m : ℕ) → Fits ba fb mid → (pre : List Token) → (a : Alive B bb m pre) → (y : List Token)
        → bars_both ba bb (sign_at y) ≡ false →
        (sign_at (pre ++ (a.more ++ y)) ≡ sign_at mid) ⊎ (ba (sign_at (pre ++ (a.more ++ y))) ≡ false)
    joins m fits pre a y e = elim (gb.starts m (pre ++ (a.more ++ y)) y a.tree (a.reads y (or_right _ _ e))) [
      | inl f ↦ (elim (fits (sign_at (pre ++ (a.more ++ y))) f) [ inl g ↦ inr g | inr g ↦ inl g ])
      | inr f ↦ inr (ap (λ l. ba (sign_at l)) f.1 ∙ or_left _ _ e)
    ]

    pub dead_back : (m : ℕ) (pre post : List Token) → mid ≡ pre ++ post → Dead B cb m pre post
        → Dead (both A B) (cont_both nb ca cb) m (part.front ++ pre) post
    dead_back m pre post is d z y t same h r =
        let front : A m (part.front ++ (pre ++ z)) r.mid t.0 =
        subst (λ l. A m l r.mid t.0) (append_assoc part.front pre z) r.front in
        let after_front : ca (sign_at r.mid) ≡ false =
        after gb ca apart m r.mid y t.1 r.back (and_gives nb _ (or_right _ _ h)) in
        let e = part.only m (pre ++ z) r.mid t.0 (same_head pre z post mid is same) after_front front in
        d z y t.1 same (or_left _ _ h) (subst (λ l. B m l y t.1) (sym e) r.back)

    pub takes_both : (rest : List Token) (y : Y) → Takes B cb bb n mid rest y
        → Takes (both A B) (cont_both nb ca cb) (bars_both ba bb) n ts rest (x, y)
    takes_both rest y b =
        record {
          front = part.front ++ b.front;
          is = part.is ∙ ap (λ l. part.front ++ l) b.is ∙ sym (append_assoc part.front b.front rest);
          alike = λ z h. record {
            mid = b.front ++ z;
            front = subst (λ l. A n l (b.front ++ z) x) (sym (append_assoc part.front b.front z))
                (part.alike (b.front ++ z) (head_of_front b.front rest mid ba b.is z (after_both ba bb z rest h).0));
            back = b.alike z (after_both ba bb z rest h).1;
          };
          only = λ m z w t same h r.
              let front : A m (part.front ++ (b.front ++ z)) r.mid t.0 =
              subst (λ l. A m l r.mid t.0) (append_assoc part.front b.front z) r.front in
              let after_front : ca (sign_at r.mid) ≡ false =
              after gb ca apart m r.mid w t.1 r.back (and_gives nb _ (or_right _ _ h)) in
              let e = part.only m (b.front ++ z) r.mid t.0 (same_head b.front z rest mid b.is same) after_front front in
              b.only m z w t.1 same (or_left _ _ h) (subst (λ l. B m l w t.1) (sym e) r.back);
        }

-- a part that is never empty has read a token
pub nonempty : {X : Type 0} {A : Rule X} {fa ca ba : Signs} {na : Bool} → Good A fa ca ba na → na ≡ false
    → fa End ≡ false → ba End ≡ false →
    {n : ℕ} {ts mid : List Token} {x : X} → (t : Takes A ca ba n ts mid x) → t.front ≡ [] → ⊥
nonempty {A = A} {fa = fa} good full first free {n = n} {x = x} t e =
    elim (good.starts n [] [] x (subst (λ l. A n (l ++ []) [] x) e (t.alike [] (inr free))))
    [ inl f ↦ clash (sym f ∙ first) | inr f ↦ clash (sym f.0 ∙ full) ]

-- a rule fails where another fails that begins with the same tokens: what begins the one begins the other, and what
-- begins nothing of the one begins nothing of the other
pub fails_map : {X Y : Type 0} {A : Rule X} {B : Rule Y} {ca ba ha cb bb hb : Signs} (n : ℕ) {end : Place}
    {ts : List Token} → ((m : ℕ) → n ≤ m → (pre : List Token) → Alive A ba m pre → Alive B bb m pre)
    → ((m : ℕ) (pre post : List Token) → ts ≡ pre ++ post → Dead A ca m pre post → Dead B cb m pre post)
    → ((s : Sign) → ha s ≡ true → hb s ≡ true) → (e : SyntaxFault) → Fails A ca ba ha n end ts e →
    Fails B cb bb hb n end ts e
fails_map n alive dead heads _ (stuck p) = stuck (record {
  pre = p.pre;
  post = p.post;
  is = p.is;
  place = p.place;
  alive = alive n (omega arith) p.pre p.alive;
  dead = λ m. dead m p.pre p.post p.is (p.dead m);
})
fails_map n alive dead heads _ (sunk p) = sunk (record {
  pre = p.pre;
  next = p.next;
  post = p.post;
  is = p.is;
  place = p.place;
  early = λ e. heads _ (p.early e);
  alive = alive n (omega arith) p.pre p.alive;
  dead = λ m le. dead m p.pre (p.next ∷ p.post) p.is (p.dead m le);
  room = p.room;
  higher = p.higher;
  deeper = alive p.room p.higher (p.pre ++ p.next ∷ []) p.deeper;
})
fails_map n alive dead heads _ no_memory = no_memory

-- the faults of a rule that is made of two parts
module _ {X Y : Type 0} {A : Rule X} {B : Rule Y} {fa ca ba fb cb bb : Signs} {na nb : Bool} (ga : Good A fa ca ba na)
    (gb : Good B fb cb bb nb)
    (apart : Apart ca fb) where
  pub fails_front : {ha : Signs} (n : ℕ) (end : Place) (ts : List Token) → (least : Alive B bb n [])
      → ((y : List Token) → bars_both ba bb (sign_at y) ≡ false → ba (sign_at (least.more ++ y)) ≡ false)
      → (e : SyntaxFault) → Fails A ca ba ha n end ts e →
      Fails (both A B) (cont_both nb ca cb) (bars_both ba bb) ha n end ts e
  fails_front n end ts least fits e f = fails_map n
      (λ m le pre a. alive_front ga gb apart m pre a (higher_least gb n m le least) fits)
      (λ m pre post is d. dead_front ga gb apart m pre post d) (λ s h. h) e f

  -- `calm`: what opens a level at the very front of the second part is no call's bracket; `solid`: the first part is
  -- not empty, but where it may be
  pub fails_back : {hb : Signs} (n : ℕ) (end : Place) (ts : List Token) (mid : List Token) (x : X) → Fits ba fb mid
      → (t : Takes A ca ba n ts mid x) → (calm : (u : Token) → hb (sign_of u) ≡ true → opener t.front u ≡ u) →
      (solid : na ≡ false → t.front ≡ [] → ⊥) → (e : SyntaxFault) → Fails B cb bb hb n end mid e →
      Fails (both A B) (cont_both nb ca cb) (bars_both ba bb) (heads_after na hb) n end ts e
  fails_back n end ts mid x fits t calm solid _ (stuck f) = stuck (record {
    pre = t.front ++ f.pre;
    post = f.post;
    is = whole_is ga gb apart n ts mid x t f.pre f.post f.is;
    place = f.place;
    alive = alive_back ga gb apart n ts mid x t n (omega arith) f.pre f.alive
        (joins ga gb apart n ts mid x t n fits f.pre f.alive);
    dead = λ m. dead_back ga gb apart n ts mid x t m f.pre f.post f.is (f.dead m);
  })
  fails_back {hb = hb} n end ts mid x fits t calm solid _ (sunk f) = sunk (record {
    pre = t.front ++ f.pre;
    next = f.next;
    post = f.post;
    is = whole_is ga gb apart n ts mid x t f.pre (f.next ∷ f.post) f.is;
    place = f.place ∙ ap (λ (u : Token). u.at) (sym (opener_after t.front f.pre f.next (λ e. calm f.next (f.early e))));
    early = λ e. first_of_all na refl e;
    alive = alive_back ga gb apart n ts mid x t n (omega arith) f.pre f.alive
        (joins ga gb apart n ts mid x t n fits f.pre f.alive);
    dead = λ m le. dead_back ga gb apart n ts mid x t m f.pre (f.next ∷ f.post) f.is (f.dead m le);
    room = f.room;
    higher = f.higher;
    deeper = subst (λ l. Alive (both A B) (bars_both ba bb) f.room l) (sym (append_assoc t.front f.pre (f.next ∷ [])))
        (alive_back ga gb apart n ts mid x t f.room f.higher (f.pre ++ f.next ∷ []) f.deeper
        (joins ga gb apart n ts mid x t f.room fits (f.pre ++ f.next ∷ []) f.deeper));
  })
    where
      first_of_all : (v : Bool) → na ≡ v → t.front ++ f.pre ≡ [] → and na (hb (sign_of f.next)) ≡ true
      first_of_all true is e = and_of na _ is (f.early (nil_back t.front f.pre e))
      first_of_all false is e = absurd (solid is (nil_front t.front f.pre e))
  fails_back n end ts mid x fits t calm solid _ no_memory = no_memory
