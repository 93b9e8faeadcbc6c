-- Lists of texts in which a text has one place, and tables of their places.
use Rattle.std.proofs.Common.{◌≡◌, ◌⊎◌, ℕ, suc, zero, ◌+◌, ◌<◌, Bool, true, false, cond, List, [], ◌∷◌, ◌++◌, length}
use Rattle.std.proofs.Common.{slice_get, Option, None, Some, IsSome, MatchOption, Result, Ok, Err, IfOk, OnOk, nat_eq}
use Rattle.std.proofs.Common.{refl, sym, ap, ◌∙◌, subst, arith, inl, inr}
use Rattle.std.specs.Map.{lookup}
use Rattle.std.specs.HashMap.{HashMap, get_by, Updates}
use Rattle.std.specs.Cmp.Lexicographic.{pointwise, same_text}
use Rattle.std.proofs.lemmas.Bool.{false≢true}
use Rattle.std.proofs.lemmas.List.{length-append}
use Rattle.fore_base.specs.Lists.{IsIn}
use Rattle.fore_base.specs.Names.{AreFound, IsDistinct, IsNumbered, has_text}

-- what stands at a place is in the list
pub in_at : {X : Type 0} (xs : List X) (i : ℕ) (x : X) → slice_get xs i ≡ Some x → IsIn x xs
in_at [] i x h = cc
in_at (y ∷ ys) zero x h = inl cc
in_at (y ∷ ys) (suc i) x h = inr (in_at ys i x h)

pub get_last : {X : Type 0} (xs : List X) (x : X) (i : ℕ) → i ≡ length xs → slice_get (xs ++ x ∷ []) i ≡ Some x
get_last [] x i e = rw e refl
get_last (y ∷ ys) x zero e = absurd (omega arith)
get_last (y ∷ ys) x (suc i) e = get_last ys x i (omega arith)

in_push : {X : Type 0} (xs : List X) (x y : X) → IsIn y (xs ++ x ∷ []) → IsIn y xs ⊎ (y ≡ x)
in_push [] x y (inl e) = inr e
in_push [] x y (inr h) = absurd h
in_push (z ∷ zs) x y (inl e) = inl (inl e)
in_push (z ∷ zs) x y (inr h) = elim (in_push zs x y h) [ inl k ↦ inl (inr k) | inr e ↦ inr e ]

distinct_push : {X : Type 0} (xs : List X) (x : X) → IsDistinct xs → (IsIn x xs → ⊥) → IsDistinct (xs ++ x ∷ [])
distinct_push [] x d absent = (λ h. h, tt)
distinct_push (y ∷ ys) x d absent = (
  λ h. elim (in_push ys x y h) [ inl k ↦ d.0 k | inr e ↦ absent (inl (sym e)) ],
  distinct_push ys x d.1 (λ h. absent (inr h)),
)

-- a new text at the end keeps the list a list of names
pub numbered_push : (xs : List (List ℕ)) (x : List ℕ) → IsNumbered xs → (IsIn x xs → ⊥) → length xs < 4294967295
    → IsNumbered (xs ++ x ∷ [])
numbered_push xs x n absent room = (distinct_push xs x n.0 absent, omega (arith, length_more xs x))
  where
    length_more : (xs : List (List ℕ)) (x : List ℕ) → length (xs ++ x ∷ []) ≡ suc (length xs)
    length_more [] x = refl
    length_more (y ∷ ys) x = ap suc (length_more ys x)

-- what stands at a place stands there when one more is behind
get_before : {X : Type 0} (xs : List X) (x : X) (i : ℕ) (y : X) → slice_get xs i ≡ Some y
    → slice_get (xs ++ x ∷ []) i ≡ Some y
get_before [] x i y e = cc
get_before (z ∷ zs) x zero y e = e
get_before (z ∷ zs) x (suc i) y e = get_before zs x i y e

-- the list before its last item was taken off again
last_off : {X : Type 0} (xs ys : List X) (x y : X) → xs ++ x ∷ [] ≡ ys ++ y ∷ [] → ys ≡ xs
last_off [] [] x y e = refl
last_off [] (b ∷ ys) x y e = absurd (omega (arith, ap length e, length-append ys (y ∷ [])))
last_off (a ∷ xs) [] x y e = absurd (omega (arith, ap length e, length-append xs (x ∷ [])))
last_off (a ∷ xs) (b ∷ ys) x y e =
    ap (λ z. z ∷ ys) (heads e) ∙ ap (λ zs. a ∷ zs) (last_off xs ys x y (tails e))
  where
    heads : (a ∷ xs ++ x ∷ []) ≡ (b ∷ ys ++ y ∷ []) → b ≡ a
    heads e = cc

    tails : (a ∷ xs ++ x ∷ []) ≡ (b ∷ ys ++ y ∷ []) → xs ++ x ∷ [] ≡ ys ++ y ∷ []
    tails e = cc

pub undone : {X : Type 0} (xs pushed popped : List X) (x : X) (last : Option X) → pushed ≡ xs ++ x ∷ []
    → MatchOption last ((pushed ≡ []) × (popped ≡ [])) (λ l. pushed ≡ popped ++ l ∷ []) → popped ≡ xs
undone xs pushed popped x None is e = absurd (omega (arith, ap length (sym is ∙ e.0), length-append xs (x ∷ [])))
undone xs pushed popped x (Some l) is e = last_off xs popped x l (sym is ∙ e)

same_some : {X : Type 0} (x y : X) → Some x ≡ Some y → x ≡ y
same_some x y e = cc

-- whether two keys have one text
abbrev same_keys : {K : Type 0} → (K → List ℕ) → K → K → Bool
same_keys text_of a b = pointwise nat_eq (text_of a) (text_of b)

module _ {K S : Type 0} (text_of : K → List ℕ) where
  -- the number that is found is the text's
  pub found : (texts : List (List ℕ)) (numbers : HashMap K ℕ S) → AreFound text_of texts numbers
      → (key : K) (number : ℕ) (text : List ℕ) → has_text text_of text key ≡ true
      → Some number ≡ get_by (has_text text_of text) numbers → slice_get texts number ≡ Some text
  found texts numbers h key number text same is =
      let e : text ≡ text_of key = same_text text (text_of key) (sym same) in
      h.places key number (subst (λ t. get_by (has_text text_of t) numbers ≡ Some number) e (sym is)) ∙ ap Some (sym e)

  -- where none is found, the text is not there
  pub not_found : (texts : List (List ℕ)) (numbers : HashMap K ℕ S) → AreFound text_of texts numbers
      → (text : List ℕ) → None ≡ get_by (has_text text_of text) numbers → IsIn text texts → ⊥
  not_found texts numbers h text none there =
      let k = h.keys text there in
      false≢true (subst IsSome (sym (none ∙ ap (λ t. get_by (has_text text_of t) numbers) (sym k.1))) k.2)

  -- a new text and its number
  pub found_push : (texts : List (List ℕ)) (old new : HashMap K ℕ S) → AreFound text_of texts old
      → (key : K) (text : List ℕ) (given : ℕ) → text_of key ≡ text → given ≡ length texts
      → Updates (λ a b. pointwise nat_eq (text_of a) (text_of b)) old new key (Some given)
      → AreFound text_of (texts ++ text ∷ []) new
  found_push texts old new h key text given same last up = record {
    places = λ q number is. placed q number (same_keys text_of key q) refl (sym (up.0 q) ∙ is);
    keys = λ t there. elim (in_push texts text t there) [
      | inl k ↦ (let o = h.keys t k in (o.0, o.1, kept o.0 (same_keys text_of key o.0) (up.0 o.0) o.2))
      | inr e ↦ (key, same ∙ sym e, subst IsSome (sym up.1) refl)
    ];
  }
    where
      placed : (q : K) (number : ℕ) (b : Bool) → same_keys text_of key q ≡ b
          → cond b (Some given) (get_by (has_text text_of (text_of q)) old) ≡ Some number
          → slice_get (texts ++ text ∷ []) number ≡ Some (text_of q)
      placed q number true e is =
          get_last texts text number (sym (same_some given number is) ∙ last)
          ∙ ap Some (sym same ∙ same_text (text_of key) (text_of q) (sym e))
      placed q number false e is = get_before texts text number (text_of q) (h.places q number is)

      kept : (q : K) (b : Bool)
          → get_by (has_text text_of (text_of q)) new
          ≡ cond b (Some given) (get_by (has_text text_of (text_of q)) old)
          → IsSome (get_by (has_text text_of (text_of q)) old) → IsSome (get_by (has_text text_of (text_of q)) new)
      kept q true e some = subst IsSome (sym e) refl
      kept q false e some = subst IsSome (sym e) some

  -- a table that stays
  pub found_same : (texts more : List (List ℕ)) (old new : HashMap K ℕ S) → AreFound text_of texts old → more ≡ texts
      → new.entries ≡ old.entries → AreFound text_of more new
  found_same texts more old new h same is = record {
    places = λ key number e. ap (λ ts. slice_get ts number) same
        ∙ h.places key number (ap (lookup (has_text text_of (text_of key))) (sym is) ∙ e);
    keys = λ text there. (let k = h.keys text (subst (IsIn text) same there) in
        (k.0, k.1, subst (λ es. IsSome (lookup (has_text text_of (text_of k.0)) es)) (sym is) k.2));
  }

-- the number that was given is the new text's
pub number_of_added : {E : Type 0} (r : Result ℕ E) (old new : List (List ℕ)) (text : List ℕ)
    → IfOk r (λ number. number ≡ length old) → OnOk r (new ≡ old ++ text ∷ []) →
    IfOk r (λ number. slice_get new number ≡ Some text)
number_of_added (Ok n) old new text number is = rw is (get_last old text n number)
number_of_added (Err e) old new text number is = tt
