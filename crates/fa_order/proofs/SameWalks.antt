-- The walk goes the same way on trees of the same signatures.
use Rattle.std.proofs.Common.{◌≡◌, inl, inr, ℕ, zero, suc, List, [], ◌∷◌, ◌++◌, refl, sym, subst}
use Rattle.ta_core.specs.declared.tree.Tree.{Tree}
use Rattle.fa_core.specs.Canonical.{LeadsBack, Walks, ended, old, new, again, IsOpen, IsFirstOpen, GoesOn, refs_at}
use Rattle.fa_core.specs.Ways.{ways, roots_met, signature}
use Rattle.fa_core.specs.declared.faces.BoxFace.{BoxFace}
use Rattle.fa_back.proofs.Pairs.{paired_at}
use Rattle.fa_order.proofs.SameMarks.{AreSigned, signed_back, same_roots, leads_too, provides_too}

same_refs_at : (bs : List BoxFace) (ts us : List Tree) → AreSigned bs ts us → (r : ℕ) → refs_at ts r ≡ refs_at us r
same_refs_at bs [] [] h r = refl
same_refs_at bs [] (u ∷ us) h r = absurd h
same_refs_at bs (t ∷ ts) [] h r = absurd h
same_refs_at bs (t ∷ ts) (u ∷ us) h zero = same_roots bs t u h.0
same_refs_at bs (t ∷ ts) (u ∷ us) h (suc r) = same_refs_at bs ts us h.1 r

first_too : (P Q : ℕ → Type 0) → ((r : ℕ) → P r → Q r) → ((r : ℕ) → Q r → P r) → (k : ℕ) (rs : List ℕ)
    → IsFirstOpen P k rs → IsFirstOpen Q k rs
first_too P Q f g k [] h = h
first_too P Q f g k (r ∷ rs) (inl h) = inl (h.0, f k h.1)
first_too P Q f g k (r ∷ rs) (inr h) = inr ((λ l q. h.0 l (g r q)), first_too P Q f g k rs h.1)

module _ (bs : List BoxFace) (ts us : List Tree) (same : AreSigned bs ts us) where
  open_too : (k i j : ℕ) → IsOpen bs ts k i j → IsOpen bs us k i j
  open_too k i j (r, a, b, l) = (r, a, b, leads_too bs ts us same i j r l)

module _ (bs : List BoxFace) (ts us : List Tree) (same : AreSigned bs ts us) where
  abbrev turned : AreSigned bs us ts
  turned = signed_back bs ts us same

  goes_on_too : (k : ℕ) → GoesOn bs ts k → GoesOn bs us k
  goes_on_too k g = record {
    from = g.from;
    into = g.into;
    open_way = open_too bs ts us same k g.from g.into g.open_way;
    lowest = λ i j o. g.lowest i j (open_too bs us ts turned k i j o);
    field = g.field;
    provided = provides_too bs ts us same g.from g.into g.field g.provided;
    least = λ j f o p. g.least j f (open_too bs us ts turned k g.from j o) (provides_too bs us ts turned g.from j f p);
    own_first = λ l h. g.own_first l (leads_too bs us ts turned g.from g.into g.into h);
    then_list = λ placed u e.
        (let t = paired_at (λ t u. signature bs t ≡ signature bs u) us ts g.into u turned e in
        let f = g.then_list (λ h. placed (leads_too bs ts us same g.from g.into g.into h)) t.0 t.1 in
        subst (λ (rs : List ℕ). IsFirstOpen (λ r. LeadsBack bs us g.from g.into r) k rs) (sym (same_roots bs u t.0 t.2))
        (first_too (λ r. LeadsBack bs ts g.from g.into r) (λ r. LeadsBack bs us g.from g.into r)
        (λ r. leads_too bs ts us same g.from g.into r) (λ r. leads_too bs us ts turned g.from g.into r) k
        (roots_met (ways t.0)) f));
  }

  pub walks_too : {todo : List ℕ} {k n : ℕ} → Walks (refs_at ts) (GoesOn bs ts) todo k n
      → Walks (refs_at us) (GoesOn bs us) todo k n
  walks_too ended = ended
  walks_too (old l w) = old l (walks_too w)
  walks_too {todo = _ ∷ todo} {n = n} (new {k} w) =
      new
      (subst (λ (rs : List ℕ). Walks (refs_at us) (GoesOn bs us) (rs ++ todo) (suc k) n) (same_refs_at bs ts us same k)
      (walks_too w))
  walks_too (again {k} l h w) = again l (goes_on_too k h) (walks_too w)
