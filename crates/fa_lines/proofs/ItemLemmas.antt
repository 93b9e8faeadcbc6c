-- Items in a row.
use Rattle.std.proofs.Common.{
  arith,
  ℕ,
  suc,
  List,
  [],
  ◌∷◌,
  ◌++◌,
  ◌≡◌,
  ◌<◌,
  ◌-◌,
  ◌+◌,
  refl,
  sym,
  ap,
  ◌∙◌,
  Option,
  Some,
  None,
}
use Rattle.std.proofs.Common.{append_assoc, false, Bool}
use Rattle.fa_lines.specs.inner.Reading.{Texts, items, item_rest, mark_front, more, mores, ◌>>=◌}

-- one more item
pub items_step : {X : Type 0} (front : Texts → Option (X × Texts)) (close : List ℕ) (n i : ℕ) (ps : Texts) → i < n
    → items front close (n - i) ps
    ≡ (front ps >>= λ p. mark_front close p.1 >>= λ m. item_rest (items front close (n - (i + 1))) p.0 m)
items_step front close n i ps less =
    let e : n - i ≡ suc (n - (i + 1)) = omega (arith, less) in ap (λ k. items front close k ps) e

-- an item behind those that are there
mores_more : {X : Type 0} (xs : List X) (x : X) (r : Option (List X × Texts))
    → mores (xs ++ x ∷ []) r ≡ mores xs (more x r)
mores_more xs x None = refl
mores_more xs x (Some p) = ap (λ ys. Some (ys, p.1)) (append_assoc xs (x ∷ []) p.0)

-- an item, and what stands behind it
pub items_are : {X : Type 0} (front : Texts → Option (X × Texts)) (close : List ℕ) (n i : ℕ) (ps : Texts)
    (x : X) (after : Texts) (m : Bool × Texts) → i < n → front ps ≡ Some (x, after)
    → mark_front close after ≡ Some m
    → items front close (n - i) ps ≡ item_rest (items front close (n - (i + 1))) x m
items_are front close n i ps x after m less at mark =
    let others = items front close (n - (i + 1)) in
    items_step front close n i ps less ∙ ap (λ o. o >>= λ p. mark_front close p.1 >>= λ m. item_rest others p.0 m) at
    ∙ ap (λ o. o >>= λ m. item_rest others x m) mark

-- an item, and then a comma
pub item_next : {X : Type 0} (front : Texts
    → Option (X × Texts)) (close : List ℕ) (found : List X) (n i : ℕ) (ps : Texts)
    (x : X) (after others : Texts) (r : Option (List X × Texts)) → i < n → front ps ≡ Some (x, after)
    → mark_front close after ≡ Some (false, others) → mores found (items front close (n - i) ps) ≡ r
    → mores (found ++ x ∷ []) (items front close (n - (i + 1)) others) ≡ r
item_next front close found n i ps x after others r less at mark kept =
    mores_more found x (items front close (n - (i + 1)) others)
    ∙ ap (mores found) (sym (items_are front close n i ps x after (false, others) less at mark)) ∙ kept
