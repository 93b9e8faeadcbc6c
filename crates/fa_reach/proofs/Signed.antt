-- Signatures and their parts: which choices of the one are choices of the other.
use Rattle.std.proofs.Common.{◌≡◌, inl, inr, ℕ, zero, suc, ◌<◌, ◌+◌, List, [], ◌∷◌}
use Rattle.std.proofs.Common.{◌++◌, length, refl, sym, ap, subst, ◌∙◌, arith, Some, slice_get, take}
use Rattle.std.proofs.lemmas.Option.{slice_get_within}
use Rattle.fore_base.specs.Lists.{IsIn, Every, Paired}
use Rattle.fore_base.proofs.ListLemmas.{every_in, in_every, in_map, in_mapped, in_left, in_push}
use Rattle.fore_base.proofs.ListLemmas.{in_last, place_of, in_from_place, same_item}
use Rattle.fa_core.specs.References.{AllBelow}
use Rattle.fa_core.specs.declared.signature.RefMark.{RefMark}
use Rattle.fa_core.specs.declared.signature.Signature.{Signature}
use Rattle.fa_back.specs.Reached.{SignReached, from_there, down_to, back_to, reach_to, IsMarkAt, AllNameBelow}
use Rattle.fa_back.specs.Reached.{NamesBelow}
use Rattle.fa_back.specs.BackHops.{hop, back_hops}
use Rattle.fa_back.proofs.BackHops.{back_kinds, own_there, reach_there}
use Rattle.fa_back.proofs.RootMarks.{in_flat, flat_in}
use Rattle.fa_box_rules.specs.Signs.{Picks}
use Rattle.fa_reach.specs.Choices.{HasSign}
use Rattle.fa_back.specs.declared.hops.Hop.{Hop}
use Rattle.fa_reach.specs.declared.part.Part.{Part}
use Rattle.fa_reach.specs.inner.Parts.{hops_of, roots_of, AreDowns, AddsDown, IsPart, HasHops, AreParts, AddsPart}
use Rattle.fa_reach.specs.inner.Parts.{AllParted, HasPart}
use Rattle.fa_reach.specs.inner.Going.{Goes, here, down, back, AreOf, IsFit, AllFit}

-- Building.

pub no_downs : (j : ℕ) (hops : List Hop) → AreDowns j hops [] []
no_downs j hops = record { each = λ s i e. absurd i; some = λ d i. absurd i }

pub downs_push : (j : ℕ) (hops : List Hop) (ss : List Signature) (s : Signature) (old new : List (List ℕ))
    → AreDowns j hops ss old → AddsDown j hops s old new → AreDowns j hops (ss ++ s ∷ []) new
downs_push j hops ss s old new a b = record {
  each = λ t i e. elim (in_push s t ss i) [
    | inl k ↦ b.still (roots_of t) (a.each t k e)
    | inr same ↦ subst (λ (z : Signature). IsIn (roots_of z) new) (sym same)
        (b.there (subst (λ (z : Signature). hops_of j z ≡ hops) same e))
  ];
  some = λ d i. elim (b.only d i) [
    | inl k ↦ (let w = a.some d k in (w.0, in_left w.0 ss (s ∷ []) w.1, w.2, w.3))
    | inr k ↦ (s, in_last s ss, k.0, k.1)
  ];
}

pub down_added : (j : ℕ) (hops : List Hop) (s : Signature) (old : List (List ℕ)) (d : List ℕ) → hops_of j s ≡ hops
    → d ≡ roots_of s → AddsDown j hops s old (old ++ d ∷ [])
down_added j hops s old d h e = record {
  still = λ c i. in_left c old (d ∷ []) i;
  there = λ k. subst (λ (z : List ℕ). IsIn z (old ++ d ∷ [])) e (in_last d old);
  only = λ c i. elim (in_push d c old i) [ inl k ↦ inl k | inr k ↦ inr (h, k ∙ e) ];
}

pub down_kept : (j : ℕ) (hops : List Hop) (s : Signature) (old : List (List ℕ)) → (hops_of j s ≡ hops → ⊥)
    → AddsDown j hops s old old
down_kept j hops s old f = record { still = λ c i. i; there = λ k. absurd (f k); only = λ c i. inl i }

pub part_there : (j : ℕ) (ss : List Signature) (s : Signature) (ps : List Part) → HasHops ps (hops_of j s)
    → AddsPart j ss s ps ps
part_there j ss s ps h = record { still = λ p i. i; there = h; only = λ p i. inl i }

pub part_added : (j : ℕ) (ss : List Signature) (s : Signature) (ps : List Part) (p : Part) → IsIn s ss
    → p.hops ≡ hops_of j s → AreDowns j p.hops ss p.downs → AddsPart j ss s ps (ps ++ p ∷ [])
part_added j ss s ps p i e d = record {
  still = λ q k. in_left q ps (p ∷ []) k;
  there = (p, in_last p ps, e);
  only = λ q k. elim (in_push p q ps k) [
    | inl m ↦ inl m
    | inr m ↦ inr (subst (IsPart j ss) (sym m) (record { some = (s, i, sym e); downs = d }))
  ];
}

pub no_parts : (j : ℕ) (ss : List Signature) → AreParts j ss [] []
no_parts j ss = record { are = tt; each = λ s i. absurd i }

pub parts_push : (j : ℕ) (ss done : List Signature) (s : Signature) (old new : List Part) → AreParts j ss done old
    → AddsPart j ss s old new → AreParts j ss (done ++ s ∷ []) new
parts_push j ss done s old new a b = record {
  are = in_every (IsPart j ss) new (λ p i. elim (b.only p i) [
    | inl k ↦ every_in (IsPart j ss) old p a.are k
    | inr k ↦ k
  ]);
  each = λ t i. elim (in_push s t done i) [
    | inl k ↦ (let w = a.each t k in (w.0, b.still w.0 w.1, w.2))
    | inr same ↦ subst (λ (z : Signature). HasHops new (hops_of j z)) (sym same) b.there
  ];
}

pub parted_push : (j : ℕ) (lists : List (List Signature)) (all : List (List Part)) (ss : List Signature)
    (ps : List Part) → AllParted j lists all → AreParts (j + length lists) ss ss ps
    → AllParted j (lists ++ ss ∷ []) (all ++ ps ∷ [])
parted_push j [] [] ss ps a b = (subst (λ (n : ℕ). AreParts n ss ss ps) (omega arith) b, tt)
parted_push j [] (qs ∷ all) ss ps a b = absurd a
parted_push j (rs ∷ lists) [] ss ps a b = absurd a
parted_push j (rs ∷ lists) (qs ∷ all) ss ps a b = (
  a.0,
  parted_push (suc j) lists all ss ps a.1 (subst (λ (n : ℕ). AreParts n ss ss ps) (omega arith) b),
)

pub parted_long : (j : ℕ) (lists : List (List Signature)) (all : List (List Part)) → AllParted j lists all
    → length all ≡ length lists
parted_long j [] [] a = refl
parted_long j [] (qs ∷ all) a = absurd a
parted_long j (rs ∷ lists) [] a = absurd a
parted_long j (rs ∷ lists) (qs ∷ all) a = ap suc (parted_long (suc j) lists all a.1)

take_long : {X : Type 0} (xs : List X) (i : ℕ) → i < length xs → length (take i xs) ≡ i
take_long xs zero l = refl
take_long [] (suc i) l = absurd (omega (arith, l))
take_long (x ∷ xs) (suc i) l = ap suc (take_long xs i (omega (arith, l)))

pub parted_next : (lists : List (List Signature)) (all : List (List Part)) (i : ℕ) (ss : List Signature)
    (ps : List Part) → i < length lists → AllParted 0 (take i lists) all → AreParts i ss ss ps
    → AllParted 0 (take i lists ++ ss ∷ []) (all ++ ps ∷ [])
parted_next lists all i ss ps l a b = parted_push 0 (take i lists) all ss ps a
    (subst (λ (n : ℕ). AreParts n ss ss ps) (let e = take_long lists i l in omega (arith, e)) b)

-- A choice of signatures beside the parts in which they are.

-- the signature of component j is in the part, and refers to these roots
abbrev IsSigned : ℕ → Signature → Part → List ℕ → Type 0
IsSigned j s p d = (p.hops ≡ hops_of j s) × (d ≡ roots_of s)

abbrev pub AreSigned : ℕ → List Signature → List Part → List (List ℕ) → Type 0
AreSigned j [] [] [] = Unit {0}
AreSigned j [] [] (d ∷ ds) = ⊥
AreSigned j [] (p ∷ ps) ds = ⊥
AreSigned j (s ∷ ss) [] ds = ⊥
AreSigned j (s ∷ ss) (p ∷ ps) [] = ⊥
AreSigned j (s ∷ ss) (p ∷ ps) (d ∷ ds) = IsSigned j s p d × AreSigned (suc j) ss ps ds

-- what stands at a place
record At (n : ℕ) (k : ℕ) (ss : List Signature) (ps : List Part) (ds : List (List ℕ)) : Type 0 where
  pub sign : Signature
  pub part : Part
  pub roots : List ℕ
  pub sign_at : slice_get ss k ≡ Some sign
  pub part_at : slice_get ps k ≡ Some part
  pub roots_at : slice_get ds k ≡ Some roots
  pub is : IsSigned n sign part roots

at_place : (j : ℕ) (ss : List Signature) (ps : List Part) (ds : List (List ℕ)) (k : ℕ) → AreSigned j ss ps ds
    → k < length ss → At (j + k) k ss ps ds
at_place j [] ps ds k a l = absurd (omega (arith, l))
at_place j (s ∷ ss) [] ds k a l = absurd a
at_place j (s ∷ ss) (p ∷ ps) [] k a l = absurd a
at_place j (s ∷ ss) (p ∷ ps) (d ∷ ds) zero a l = record {
  sign = s;
  part = p;
  roots = d;
  sign_at = refl;
  part_at = refl;
  roots_at = refl;
  is = subst (λ (n : ℕ). IsSigned n s p d) (omega arith) a.0;
}
at_place j (s ∷ ss) (p ∷ ps) (d ∷ ds) (suc k) a l =
    let w = at_place (suc j) ss ps ds k a.1 (omega (arith, l)) in record {
      sign = w.sign;
      part = w.part;
      roots = w.roots;
      sign_at = w.sign_at;
      part_at = w.part_at;
      roots_at = w.roots_at;
      is = subst (λ (n : ℕ). IsSigned n w.sign w.part w.roots) (omega arith) w.is;
    }

signed_long : (j : ℕ) (ss : List Signature) (ps : List Part) (ds : List (List ℕ)) → AreSigned j ss ps ds
    → (length ps ≡ length ss) × (length ds ≡ length ss)
signed_long j [] [] [] a = (refl, refl)
signed_long j [] [] (d ∷ ds) a = absurd a
signed_long j [] (p ∷ ps) ds a = absurd a
signed_long j (s ∷ ss) [] ds a = absurd a
signed_long j (s ∷ ss) (p ∷ ps) [] a = absurd a
signed_long j (s ∷ ss) (p ∷ ps) (d ∷ ds) a = let w = signed_long (suc j) ss ps ds a.1 in (ap suc w.0, ap suc w.1)

module _ (ss : List Signature) (ps : List Part) (ds : List (List ℕ)) (signed : AreSigned 0 ss ps ds) where
  at_first : (k : ℕ) → k < length ss → At k k ss ps ds
  at_first k l = subst (λ (n : ℕ). At n k ss ps ds) (omega arith) (at_place 0 ss ps ds k signed l)

  -- the mark of a signature is one of its part
  part_hop : (j : ℕ) (m : RefMark) (x : Hop) → IsMarkAt ss j m → IsIn x (back_hops j m)
      → (p : Part) × IsIn p ps × IsIn x p.hops
  part_hop j m x h i =
      let w = at_first j (slice_get_within ss j h.0 h.1) in
      let same : h.0 ≡ w.sign = same_item ss j h.0 w.sign h.1 w.sign_at in
      let there : IsIn x (hops_of j w.sign) = in_flat (back_hops j) w.sign.refs m x
      (subst (λ (z : Signature). IsIn m z.refs) same h.2) i in
      (w.part, in_from_place ps j w.part w.part_at, subst (λ (z : List Hop). IsIn x z) (sym w.is.0) there)

  pub reached_goes : (i r : ℕ) → SignReached ss (i ∷ []) r → Goes ps ds i r
  reached_goes i r (from_there k) = here (elim k [ inl e ↦ e | inr z ↦ absurd z ])
  reached_goes i r (down_to j m h k e) =
      let w = at_first j (slice_get_within ss j k.0 k.1) in
      let same : k.0 ≡ w.sign = same_item ss j k.0 w.sign k.1 w.sign_at in
      let there : IsIn m.root (roots_of w.sign) = in_map (λ (z : RefMark). z.root) m w.sign.refs
      (subst (λ (z : Signature). IsIn m z.refs) same k.2) in
      down j w.roots (reached_goes i j h) w.roots_at
      (subst (λ (z : List ℕ). IsIn r z) (sym w.is.1) (subst (λ (n : ℕ). IsIn n (roots_of w.sign)) e there))
  reached_goes i r (back_to m h k b) =
      let w = part_hop r m (hop m.root r) k (own_there r m b) in
      back w.0 (hop m.root r) (reached_goes i m.root h) w.1 w.2 refl
  reached_goes i r (reach_to j m h k l) =
      let w = part_hop j m (hop m.root r) k (reach_there j m r l) in
      back w.0 (hop m.root r) (reached_goes i m.root h) w.1 w.2 refl

  -- and the other way round
  by_hop : (i j : ℕ) (s : Signature) (x : Hop) → slice_get ss j ≡ Some s → IsIn x (hops_of j s)
      → SignReached ss (i ∷ []) x.from → SignReached ss (i ∷ []) x.to
  by_hop i j s x e h g =
      let f = flat_in (back_hops j) s.refs x h in
      elim (back_kinds j f.0 x f.2) [
        | inl k ↦ subst (SignReached ss (i ∷ [])) (sym (ap (λ (z : Hop). z.to) k.0))
            (back_to f.0 (subst (SignReached ss (i ∷ [])) (ap (λ (z : Hop). z.from) k.0) g) (s, e, f.1) k.1)
        | inr k ↦ reach_to j f.0 (subst (SignReached ss (i ∷ [])) (ap (λ (z : Hop). z.from) k.2) g) (s, e, f.1)
            (subst (λ (n : ℕ). IsIn n f.0.reach) (sym (ap (λ (z : Hop). z.to) k.2)) k.1)
      ]

  pub goes_reached : (i r : ℕ) → Goes ps ds i r → SignReached ss (i ∷ []) r
  goes_reached i r (here e) = from_there (inl e)
  goes_reached i r (down j d h a k) =
      let long = signed_long 0 ss ps ds signed in
      let within = slice_get_within ds j d a in
      let w = at_first j (omega (arith, long.1, within)) in
      let same : d ≡ roots_of w.sign = same_item ds j d w.roots a w.roots_at ∙ w.is.1 in
      let m = in_mapped (λ (z : RefMark). z.root) r w.sign.refs (subst (λ (z : List ℕ). IsIn r z) same k) in
      let root : m.0.root ≡ r = sym m.2 in
      down_to j m.0 (goes_reached i j h) (w.sign, w.sign_at, m.1) root
  goes_reached i r (back p h k a l e) =
      let long = signed_long 0 ss ps ds signed in
      let at = place_of ps p a in
      let within = slice_get_within ps at.0 p at.1 in
      let w = at_first at.0 (omega (arith, long.0, within)) in
      let same : p ≡ w.part = same_item ps at.0 p w.part at.1 w.part_at in
      let hops : p.hops ≡ hops_of at.0 w.sign = ap (λ (z : Part). z.hops) same ∙ w.is.0 in
      subst (SignReached ss (i ∷ [])) e (by_hop i at.0 w.sign h w.sign_at
      (subst (λ (z : List Hop). IsIn h z) hops l) (goes_reached i h.from k))

-- Which choices there are.

-- one part of each component
abbrev pub ArePicked : List Part → List (List Part) → Type 0
ArePicked ps all = Paired (λ (p : Part) (qs : List Part). IsIn p qs) ps all

-- a choice of signatures, from one of parts
pub record Signs (j : ℕ) (lists : List (List Signature)) (ps : List Part) (ds : List (List ℕ)) : Type 0 where
  pub signs : List Signature
  pub picks : Picks lists signs
  pub signed : AreSigned j signs ps ds

pub signs_of : (j : ℕ) (lists : List (List Signature)) (all : List (List Part)) (ps : List Part)
    (ds : List (List ℕ)) → AllParted j lists all → ArePicked ps all → AreOf ds ps → Signs j lists ps ds
signs_of j [] [] [] [] a b c = record { signs = []; picks = tt; signed = tt }
signs_of j [] [] [] (d ∷ ds) a b c = absurd c
signs_of j [] [] (p ∷ ps) ds a b c = absurd b
signs_of j [] (qs ∷ all) ps ds a b c = absurd a
signs_of j (ss ∷ lists) [] ps ds a b c = absurd a
signs_of j (ss ∷ lists) (qs ∷ all) [] ds a b c = absurd b
signs_of j (ss ∷ lists) (qs ∷ all) (p ∷ ps) [] a b c = absurd c
signs_of j (ss ∷ lists) (qs ∷ all) (p ∷ ps) (d ∷ ds) a b c =
    let rest = signs_of (suc j) lists all ps ds a.1 b.1 c.1 in
    let own = every_in (IsPart j ss) qs p a.0.are b.0 in
    let w = own.downs.some d c.0 in
    record {
      signs = w.0 ∷ rest.signs;
      picks = (w.1, rest.picks);
      signed = ((sym w.2, w.3), rest.signed);
    }

-- a choice of parts, from one of signatures
pub record Chosen (j : ℕ) (all : List (List Part)) (ss : List Signature) : Type 0 where
  pub parts : List Part
  pub downs : List (List ℕ)
  pub picked : ArePicked parts all
  pub of : AreOf downs parts
  pub signed : AreSigned j ss parts downs

pub chosen_of : (j : ℕ) (lists : List (List Signature)) (all : List (List Part)) (ss : List Signature)
    → AllParted j lists all → Picks lists ss → Chosen j all ss
chosen_of j [] [] [] a b = record { parts = []; downs = []; picked = tt; of = tt; signed = tt }
chosen_of j [] [] (s ∷ ss) a b = absurd b
chosen_of j [] (qs ∷ all) ss a b = absurd a
chosen_of j (list ∷ lists) [] ss a b = absurd a
chosen_of j (list ∷ lists) (qs ∷ all) [] a b = absurd b
chosen_of j (list ∷ lists) (qs ∷ all) (s ∷ ss) a b =
    let rest = chosen_of (suc j) lists all ss a.1 b.1 in
    let w = a.0.each s b.0 in
    let own = every_in (IsPart j list) qs w.0 a.0.are w.1 in
    record {
      parts = w.0 ∷ rest.parts;
      downs = roots_of s ∷ rest.downs;
      picked = (w.1, rest.picked);
      of = (own.downs.each s b.0 (sym w.2), rest.of);
      signed = ((w.2, refl), rest.signed);
    }

-- Parts name what their signatures name.

part_fit : (n j : ℕ) (ss : List Signature) (p : Part) → j < n → AllNameBelow n ss → IsPart j ss p → IsFit n p
part_fit n j ss p low below q = record {
  hops = λ h i. hop_low h (flat_in (back_hops j) q.some.0.refs h (subst (λ (z : List Hop). IsIn h z) (sym q.some.2) i));
  downs = λ d i. roots_low d (q.downs.some d i);
  some = (roots_of q.some.0, q.downs.each q.some.0 q.some.1 q.some.2);
}
  where
    marks_low : (s : Signature) → IsIn s ss → Every (NamesBelow n) s.refs
    marks_low s i = every_in (λ (z : Signature). Every (NamesBelow n) z.refs) ss s below i

    hop_low : (h : Hop) → ((m : RefMark) × IsIn m q.some.0.refs × IsIn h (back_hops j m)) → h.to < n
    hop_low h w =
        let m = every_in (NamesBelow n) q.some.0.refs w.0 (marks_low q.some.0 q.some.1) w.1 in
        elim (back_kinds j w.0 h w.2) [
          | inl k ↦ subst (λ (z : Hop). z.to < n) (sym k.0) low
          | inr k ↦ subst (λ (z : Hop). z.to < n) (sym k.2) (every_in (λ i. i < n) w.0.reach k.0 m.1 k.1)
        ]

    roots_low : (d : List ℕ) → ((s : Signature) × IsIn s ss × (hops_of j s ≡ p.hops) × (d ≡ roots_of s)) → AllBelow n d
    roots_low d w = subst (AllBelow n) (sym w.3) (in_every (λ k. k < n) (roots_of w.0) (λ r i.
        (let m = in_mapped (λ (z : RefMark). z.root) r w.0.refs i in
        subst (λ (k : ℕ). k < n) (sym m.2) (every_in (NamesBelow n) w.0.refs m.0 (marks_low w.0 w.1) m.1).0)))

has_one : (ps : List Part) (p : Part) → IsIn p ps → HasPart ps
has_one [] p i = absurd i
has_one (q ∷ ps) p i = omega arith

all_fit : (n j : ℕ) (lists : List (List Signature)) (all : List (List Part)) → j + length lists ≡ n
    → Every (AllNameBelow n) lists → Every HasSign lists → AllParted j lists all → AllFit n all
all_fit n j [] [] e b h a = tt
all_fit n j [] (qs ∷ all) e b h a = absurd a
all_fit n j (ss ∷ lists) [] e b h a = absurd a
all_fit n j (ss ∷ lists) (qs ∷ all) e b h a = (
  (
    (let w = a.0.each h.0.0 h.0.1 in has_one qs w.0 w.1),
    in_every (IsFit n) qs (λ p i. part_fit n j ss p (omega (arith, e)) b.0 (every_in (IsPart j ss) qs p a.0.are i)),
  ),
  all_fit n (suc j) lists all (omega (arith, e)) b.1 h.1 a.1,
)

pub parted_fit : (lists : List (List Signature)) (all : List (List Part)) → Every (AllNameBelow (length lists)) lists
    → Every HasSign lists → AllParted 0 lists all → AllFit (length all) all
parted_fit lists all b h a = subst (λ (n : ℕ). AllFit n all) (sym (parted_long 0 lists all a))
    (all_fit (length lists) 0 lists all (omega arith) b h a)
