-- Items without a loop: those of a program whose graph has no loop head.
use Rattle.std.proofs.Common.{◌≡◌, inl, inr, Bool, true, false, true≢false, not, List, [], ◌∷◌, ◌++◌, map, refl}
use Rattle.std.proofs.Common.{sym}
use Rattle.std.proofs.Common.{subst, ◌∙◌, eqb}
use Rattle.std.specs.List.{list_all}
use Rattle.std.proofs.lemmas.List.Sorted.{list_any-IsPermutation}
use Rattle.fore_base.specs.Lists.{IsIn}
use Rattle.fore_base.proofs.ListLemmas.{in_append, in_left, in_right, in_map, in_number, number_in}
use Rattle.c_types.specs.declared.mode.MallocMode.{MallocMode}
use Rattle.c_types.specs.Control.{Items, Done, Do, Close, If, Loop, Again, DoLoop, DoAgain, Enter, Leave, Exit}
use Rattle.c_types.specs.Control.{◌then◌, round, do_round, after_again, from_again}
use Rattle.c_types.specs.Program.{Program}
use Rattle.c_types.specs.Steps.{below}
use Rattle.c_cfg.specs.Graphs.{ControlGraph}
use Rattle.c_cfg.specs.Lowering.{LowerOf, numbers, is_one_of}
use Rattle.c_cfg.specs.Places.{test_places, places, heads}
use Rattle.c_cfg.proofs.FreeOfLoops.{asks_place, in_numbers}

-- no item is a loop
abbrev pub IsFree : Items → Type 0
IsFree Done = Unit {0}
IsFree (Do a m is) = IsFree is
IsFree (Close ps ds m is) = IsFree is
IsFree (If c x y is) = IsFree x × IsFree y × IsFree is
IsFree (Loop c n b is) = ⊥
IsFree (Again c n b is) = ⊥
IsFree (DoLoop c b is) = ⊥
IsFree (DoAgain c b is) = ⊥
IsFree (Enter vs ws m is) = IsFree is
IsFree (Leave v vs a m is) = IsFree is
IsFree (Exit v vs d m is) = IsFree is

abbrev IsNone : List Items → Type 0
IsNone [] = Unit {0}
IsNone (x ∷ xs) = ⊥

none_left : (xs ys : List Items) → xs ++ ys ≡ [] → xs ≡ []
none_left [] ys e = refl
none_left (x ∷ xs) ys e = absurd (subst IsNone (sym e) tt)

none_right : (xs ys : List Items) → xs ++ ys ≡ [] → ys ≡ []
none_right [] ys e = e
none_right (x ∷ xs) ys e = absurd (subst IsNone (sym e) tt)

some_none : (x : Items) (xs : List Items) → x ∷ xs ≡ [] → ⊥
some_none x xs e = subst IsNone (sym e) tt

-- items without a loop head have no loop
pub free_of : (is r : Items) → heads is r ≡ [] → IsFree is
free_of Done r e = tt
free_of (Do a m is) r e = free_of is r e
free_of (Close ps ds m is) r e = free_of is r e
free_of (If c x y is) r e =
    let rest = none_right (heads x (is then r)) (heads y (is then r) ++ heads is r) e in (
      free_of x (is then r) (none_left (heads x (is then r)) (heads y (is then r) ++ heads is r) e),
      free_of y (is then r) (none_left (heads y (is then r)) (heads is r) rest),
      free_of is r (none_right (heads y (is then r)) (heads is r) rest),
    )
free_of (Loop c n b is) r e = some_none _ _ e
free_of (Again c n b is) r e = some_none _ _ e
free_of (DoLoop c b is) r e = some_none _ _ e
free_of (DoAgain c b is) r e = some_none _ _ e
free_of (Enter vs ws m is) r e = free_of is r e
free_of (Leave v vs a m is) r e = free_of is r e
free_of (Exit v vs d m is) r e = free_of is r e

pub then_free : (c d : Items) → IsFree c → IsFree d → IsFree (c then d)
then_free Done d h k = k
then_free (Do a m is) d h k = then_free is d h k
then_free (Close ps ds m is) d h k = then_free is d h k
then_free (If c x y is) d h k = (h.0, h.1, then_free is d h.2 k)
then_free (Loop c n b is) d h k = absurd h
then_free (Again c n b is) d h k = absurd h
then_free (DoLoop c b is) d h k = absurd h
then_free (DoAgain c b is) d h k = absurd h
then_free (Enter vs ws m is) d h k = then_free is d h k
then_free (Leave v vs a m is) d h k = then_free is d h k
then_free (Exit v vs e m is) d h k = then_free is d h k

-- where there is no loop nothing is left after `break`, nor after `continue`
pub nothing_left : (is : Items) → IsFree is → (after_again is ≡ Done) × (from_again is ≡ Done)
nothing_left Done h = (refl, refl)
nothing_left (Do a m is) h = nothing_left is h
nothing_left (Close ps ds m is) h = nothing_left is h
nothing_left (If c x y is) h = nothing_left is h.2
nothing_left (Loop c n b is) h = absurd h
nothing_left (Again c n b is) h = absurd h
nothing_left (DoLoop c b is) h = absurd h
nothing_left (DoAgain c b is) h = absurd h
nothing_left (Enter vs ws m is) h = nothing_left is h
nothing_left (Leave v vs a m is) h = nothing_left is h
nothing_left (Exit v vs d m is) h = nothing_left is h

-- Loop heads are places.

two_parts : (h : Items) (hs is cs ds : List Items) → (IsIn h hs → IsIn h cs) → (IsIn h is → IsIn h ds)
    → IsIn h (hs ++ is) → IsIn h (cs ++ ds)
two_parts h hs is cs ds f g i = elim (in_append h hs is i) [
  | inl j ↦ in_left h cs ds (f j)
  | inr j ↦ in_right h cs ds (g j)
]

head_place : (h is r : Items) → IsIn h (heads is r) → IsIn h (places is r)
head_place h Done r i = absurd i
head_place h (Do a m is) r i = inr (head_place h is r i)
head_place h (Close ps ds m is) r i = inr (head_place h is r i)
head_place h (If c x y is) r i = in_right h (test_places c x y (is then r)) _
    (two_parts h (heads x (is then r)) _ (places x (is then r)) _ (head_place h x (is then r))
    (two_parts h (heads y (is then r)) _ (places y (is then r)) _ (head_place h y (is then r)) (head_place h is r)) i)
head_place h (Loop c n b is) r (inl e) =
    in_left h (test_places c (round c n b) Done (is then r)) _
    (subst (λ (z : Items). IsIn z (test_places c (round c n b) Done (is then r))) (sym e)
    (asks_place c (round c n b) Done (is then r)))
head_place h (Loop c n b is) r (inr i) = in_right h (test_places c (round c n b) Done (is then r)) _
    (two_parts h (heads b (Again c n b (is then r))) _ (places b (Again c n b (is then r))) _
    (head_place h b (Again c n b (is then r)))
    (two_parts h (heads n (Loop c n b (is then r))) _ (places n (Loop c n b (is then r))) _
    (head_place h n (Loop c n b (is then r))) (head_place h is r)) i)
head_place h (Again c n b is) r (inl e) = in_right h (places n (Loop c n b (is then r))) _
    (in_left h (test_places c (round c n b) Done (is then r)) _
    (subst (λ (z : Items). IsIn z (test_places c (round c n b) Done (is then r))) (sym e)
    (asks_place c (round c n b) Done (is then r))))
head_place h (Again c n b is) r (inr i) =
    two_parts h (heads n (Loop c n b (is then r))) _ (places n (Loop c n b (is then r))) _
    (head_place h n (Loop c n b (is then r)))
    (λ j. in_right h (test_places c (round c n b) Done (is then r)) _
    (two_parts h (heads b (Again c n b (is then r))) _ (places b (Again c n b (is then r))) _
    (head_place h b (Again c n b (is then r))) (head_place h is r) j)) i
head_place h (DoLoop c b is) r (inl e) = in_right h (places b (DoAgain c b (is then r))) _
    (in_left h (test_places c (do_round c b) Done (is then r)) _
    (subst (λ (z : Items). IsIn z (test_places c (do_round c b) Done (is then r))) (sym e)
    (asks_place c (do_round c b) Done (is then r))))
head_place h (DoLoop c b is) r (inr i) =
    two_parts h (heads b (DoAgain c b (is then r))) _ (places b (DoAgain c b (is then r))) _
    (head_place h b (DoAgain c b (is then r)))
    (λ j. in_right h (test_places c (do_round c b) Done (is then r)) _ (head_place h is r j)) i
head_place h (DoAgain c b is) r (inl e) =
    in_left h (test_places c (do_round c b) Done (is then r)) _
    (subst (λ (z : Items). IsIn z (test_places c (do_round c b) Done (is then r))) (sym e)
    (asks_place c (do_round c b) Done (is then r)))
head_place h (DoAgain c b is) r (inr i) = in_right h (test_places c (do_round c b) Done (is then r)) _
    (two_parts h (heads b (DoAgain c b (is then r))) _ (places b (DoAgain c b (is then r))) _
    (head_place h b (DoAgain c b (is then r))) (head_place h is r) i)
head_place h (Enter vs ws m is) r i = inr (head_place h is r i)
head_place h (Leave v vs a m is) r i = inr (head_place h is r i)
head_place h (Exit v vs d m is) r i = inr (head_place h is r i)

-- Where no entry is a loop head there is none.

one_marked : (bs : List Bool) → IsIn true bs → list_all not bs ≡ true → ⊥
one_marked [] i e = i
one_marked (true ∷ bs) i e = true≢false (sym e)
one_marked (false ∷ bs) (inl q) e = true≢false q
one_marked (false ∷ bs) (inr i) e = one_marked bs i e

pub free_items : (p : Program) (mode : MallocMode) (g : ControlGraph) (low : LowerOf p mode g)
    → list_all not g.heads ≡ true → IsFree low.items
free_items p mode g low none = free_of low.items Done (here (heads low.items Done) refl)
  where
    here : (hs : List Items) → heads low.items Done ≡ hs → heads low.items Done ≡ []
    here [] e = e
    here (h ∷ hs) e =
        let there : IsIn h (heads low.items Done) = subst (λ (z : List Items). IsIn h z) (sym e) (inl refl) in
        let ks = map low.at (heads low.items Done) in
        let placed = in_number (low.at h) (numbers low.at low.mids (places low.items Done))
        (in_numbers low.at low.mids h (places low.items Done) (head_place h low.items Done there)) in
        let located : IsIn (low.at h) (below g.locations) =
        number_in (low.at h) (below g.locations)
        (sym (list_any-IsPermutation (λ m. eqb m (low.at h)) _ _ low.all_numbers) ∙ placed) in
        let marked : is_one_of ks (low.at h) ≡ true = in_number (low.at h) ks
        (in_map low.at h (heads low.items Done) there) in
        absurd (one_marked g.heads
        (subst (λ (bs : List Bool). IsIn true bs) (sym low.heads_are)
        (subst (λ (b : Bool). IsIn b (map (is_one_of ks) (below g.locations))) marked
        (in_map (is_one_of ks) (low.at h) (below g.locations) located))) none)
