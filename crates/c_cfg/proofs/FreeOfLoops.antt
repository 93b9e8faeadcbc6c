-- A graph has a loop head exactly if its program has a loop.
use Rattle.std.proofs.Common.{◌≡◌, ◌⊎◌, inl, inr, ℕ, Bool, true, false, true≢false, not, ◌&&◌, List, [], ◌∷◌, ◌++◌, map}
use Rattle.std.proofs.Common.{eqb, refl, sym, ap, ◌∙◌, subst}
use Rattle.std.specs.List.{list_any, list_all}
use Rattle.std.proofs.lemmas.Bool.{and_parts}
use Rattle.std.proofs.lemmas.List.Sorted.{list_any-IsPermutation}
use Rattle.fore_base.specs.Lists.{IsIn}
use Rattle.fore_base.proofs.ListLemmas.{in_left, in_right, in_map, number_in, in_number}
use Rattle.c_types.specs.declared.mode.MallocMode.{MallocMode}
use Rattle.c_types.specs.Program.{Program}
use Rattle.c_types.specs.Control.{Items, Done, Do, Close, If, Loop, Again, DoLoop, DoAgain, Test, Ask, Not, Both}
use Rattle.c_types.specs.Control.{Either, Enter, Leave, Exit, ◌then◌, ask, round, do_round}
use Rattle.c_types.specs.Steps.{below}
use Rattle.c_cfg.specs.Graphs.{ControlGraph}
use Rattle.c_cfg.specs.Places.{test_places, places, heads, remark}
use Rattle.c_cfg.specs.Lowering.{LowerOf, numbers, is_one_of}
use Rattle.c_cfg.specs.LoopFree.{items_free, has_no_loop}

-- marks have no bearing
free_remarked : (f : ℕ → ℕ) (is : Items) → items_free (remark f is) ≡ items_free is
free_remarked f (Do a m is) = free_remarked f is
free_remarked f (Close ps ds m is) = free_remarked f is
free_remarked f (If c x y is) =
    ap (λ b. (b && items_free (remark f y)) && items_free (remark f is)) (free_remarked f x)
    ∙ ap (λ b. (items_free x && b) && items_free (remark f is)) (free_remarked f y)
    ∙ ap (λ b. (items_free x && items_free y) && b) (free_remarked f is)
free_remarked f (Enter vs ws m is) = free_remarked f is
free_remarked f (Leave v vs a m is) = free_remarked f is
free_remarked f (Exit v vs d m is) = free_remarked f is
free_remarked f _ = refl

-- Loop heads

no_heads : (is r : Items) → items_free is ≡ true → heads is r ≡ []
no_heads Done r e = refl
no_heads (Do a m is) r e = no_heads is r e
no_heads (Close ps ds m is) r e = no_heads is r e
no_heads (If c x y is) r e =
    let both = and_parts (items_free x && items_free y) (items_free is) e in let sides =
    and_parts (items_free x) (items_free y) both.0 in
    ap (λ hs. hs ++ (heads y (is then r) ++ heads is r)) (no_heads x (is then r) sides.0)
    ∙ ap (λ hs. hs ++ heads is r) (no_heads y (is then r) sides.1) ∙ no_heads is r both.1
no_heads (Loop c n b is) r e = absurd (true≢false (sym e))
no_heads (Again c n b is) r e = absurd (true≢false (sym e))
no_heads (DoLoop c b is) r e = absurd (true≢false (sym e))
no_heads (DoAgain c b is) r e = absurd (true≢false (sym e))
no_heads (Enter vs ws m is) r e = no_heads is r e
no_heads (Leave v vs a m is) r e = no_heads is r e
no_heads (Exit v vs d m is) r e = no_heads is r e

pub asks_place : (c : Test) (x y r : Items) → IsIn (ask c x y r) (test_places c x y r)
asks_place (Ask a m) x y r = inl refl
asks_place (Not c) x y r = asks_place c y x r
asks_place (Both c d) x y r = in_left _ (test_places c (If d x y Done) y r) _ (asks_place c (If d x y Done) y r)
asks_place (Either c d) x y r = in_left _ (test_places c x (If d x y Done) r) _ (asks_place c x (If d x y Done) r)

-- a loop head, which is a place
pub record HasHead (is r : Items) : Type 0 where
  pub head : Items
  pub is_head : IsIn head (heads is r)
  pub is_place : IsIn head (places is r)

one_of_three : (a b c : Bool) → ((a && b) && c) ≡ false → (a ≡ false) ⊎ ((b ≡ false) ⊎ (c ≡ false))
one_of_three false b c e = inl refl
one_of_three true false c e = inr (inl refl)
one_of_three true true c e = inr (inr e)

if_head : (c : Test) (x y is r : Items) → (items_free x ≡ false → HasHead x (is then r))
    → (items_free y ≡ false → HasHead y (is then r)) → (items_free is ≡ false → HasHead is r)
    → (items_free x ≡ false) ⊎ ((items_free y ≡ false) ⊎ (items_free is ≡ false)) → HasHead (If c x y is) r
if_head c x y is r hx hy hi (inl f) = let h = hx f in record {
  head = h.head;
  is_head = in_left _ (heads x (is then r)) _ h.is_head;
  is_place = in_right _ (test_places c x y (is then r)) _ (in_left _ (places x (is then r)) _ h.is_place);
}
if_head c x y is r hx hy hi (inr (inl f)) = let h = hy f in record {
  head = h.head;
  is_head = in_right _ (heads x (is then r)) _ (in_left _ (heads y (is then r)) _ h.is_head);
  is_place = in_right _ (test_places c x y (is then r)) _
      (in_right _ (places x (is then r)) _ (in_left _ (places y (is then r)) _ h.is_place));
}
if_head c x y is r hx hy hi (inr (inr f)) = let h = hi f in record {
  head = h.head;
  is_head = in_right _ (heads x (is then r)) _ (in_right _ (heads y (is then r)) _ h.is_head);
  is_place = in_right _ (test_places c x y (is then r)) _
      (in_right _ (places x (is then r)) _ (in_right _ (places y (is then r)) _ h.is_place));
}

some_head : (is r : Items) → items_free is ≡ false → HasHead is r
some_head Done r e = absurd (true≢false e)
some_head (Do a m is) r e = let h = some_head is r e in
    record { head = h.head; is_head = h.is_head; is_place = inr h.is_place }
some_head (Close ps ds m is) r e = let h = some_head is r e in
    record { head = h.head; is_head = h.is_head; is_place = inr h.is_place }
some_head (If c x y is) r e =
    if_head c x y is r (λ f. some_head x (is then r) f) (λ f. some_head y (is then r) f) (λ f. some_head is r f)
    (one_of_three (items_free x) (items_free y) (items_free is) e)
some_head (Loop c n b is) r e = record {
  head = ask c (round c n b) Done (is then r);
  is_head = inl refl;
  is_place = in_left _ (test_places c (round c n b) Done (is then r)) _ (asks_place c (round c n b) Done (is then r));
}
some_head (Again c n b is) r e = record {
  head = ask c (round c n b) Done (is then r);
  is_head = inl refl;
  is_place = in_right _ (places n (Loop c n b (is then r))) _
      (in_left _ (test_places c (round c n b) Done (is then r)) _ (asks_place c (round c n b) Done (is then r)));
}
some_head (DoLoop c b is) r e = record {
  head = ask c (do_round c b) Done (is then r);
  is_head = inl refl;
  is_place = in_right _ (places b (DoAgain c b (is then r))) _
      (in_left _ (test_places c (do_round c b) Done (is then r)) _ (asks_place c (do_round c b) Done (is then r)));
}
some_head (DoAgain c b is) r e = record {
  head = ask c (do_round c b) Done (is then r);
  is_head = inl refl;
  is_place = in_left _ (test_places c (do_round c b) Done (is then r)) _ (asks_place c (do_round c b) Done (is then r));
}
some_head (Enter vs ws m is) r e = let h = some_head is r e in
    record { head = h.head; is_head = h.is_head; is_place = inr h.is_place }
some_head (Leave v vs a m is) r e = let h = some_head is r e in
    record { head = h.head; is_head = h.is_head; is_place = inr h.is_place }
some_head (Exit v vs d m is) r e = let h = some_head is r e in
    record { head = h.head; is_head = h.is_head; is_place = inr h.is_place }

-- Entries

pub in_numbers : (at : Items → ℕ) (mids : Items → List ℕ) (h : Items) (ps : List Items) → IsIn h ps
    → IsIn (at h) (numbers at mids ps)
in_numbers at mids h [] i = absurd i
in_numbers at mids h (c ∷ cs) (inl e) = inl (ap at e)
in_numbers at mids h (c ∷ cs) (inr i) = inr (in_right (at h) (mids c) (numbers at mids cs) (in_numbers at mids h cs i))

one_true : (bs : List Bool) → IsIn true bs → list_all not bs ≡ false
one_true [] i = absurd i
one_true (true ∷ bs) i = refl
one_true (false ∷ bs) (inl e) = absurd (true≢false e)
one_true (false ∷ bs) (inr i) = one_true bs i

none_true : (ks : List ℕ) → list_all not (map (is_one_of []) ks) ≡ true
none_true [] = refl
none_true (k ∷ ks) = none_true ks

pub free_graph : (p : Program) (mode : MallocMode) (g : ControlGraph) → LowerOf p mode g
    → list_all not g.heads ≡ has_no_loop p
free_graph p mode g low = ap (list_all not) low.heads_are ∙ by (items_free low.items) refl
    ∙ sym (free_remarked low.line low.items) ∙ ap items_free low.is_program
  where
    by : (b : Bool) → items_free low.items ≡ b
        → list_all not (map (is_one_of (map low.at (heads low.items Done))) (below g.locations)) ≡ items_free low.items
    by true e = ap (λ (hs : List Items). list_all not (map (is_one_of (map low.at hs)) (below g.locations)))
        (no_heads low.items Done e) ∙ none_true (below g.locations) ∙ sym e
    by false e =
        let h = some_head low.items Done e in
        let k = low.at h.head in let ks = map low.at (heads low.items Done) in
        let there : list_any (λ m. eqb m k) (numbers low.at low.mids (places low.items Done)) ≡ true =
        in_number k _ (in_numbers low.at low.mids h.head (places low.items Done) h.is_place) in
        let here : IsIn k (below g.locations) =
        number_in k (below g.locations)
        (sym (list_any-IsPermutation (λ m. eqb m k) _ _ low.all_numbers) ∙ there) in
        let marked : is_one_of ks k ≡ true = in_number k ks (in_map low.at h.head (heads low.items Done) h.is_head) in
        one_true _
        (subst (λ b. IsIn b (map (is_one_of ks) (below g.locations))) marked
        (in_map (is_one_of ks) k (below g.locations) here)) ∙ sym e
