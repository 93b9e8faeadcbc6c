-- Where trees stay tame, so do the roots: their kinds, that no other cell is of one, and their order.
use Rattle.std.proofs.Common.{◌≡◌, inl, inr, ℕ, ◌<◌, List, length, refl, sym, subst}
use Rattle.fore_base.specs.Lists.{Paired}
use Rattle.fore_base.proofs.ListLemmas.{paired_long, paired_weaker}
use Rattle.ta_core.specs.declared.tree.Tree.{Tree}
use Rattle.fa_core.specs.Canonical.{IsLedTo, IsRootKind, IsUntied, Walks, GoesOn, refs_at}
use Rattle.fa_core.specs.Ways.{signature}
use Rattle.fa_core.specs.declared.faces.BoxFace.{BoxFace}
use Rattle.fa_core.specs.declared.forest.Target.{Target}
use Rattle.fa_back.proofs.Pairs.{paired_at, paired_back}
use Rattle.fa_order.specs.inner.Following.{TreeFollows, Follows, StaysTame}
use Rattle.fa_order.proofs.CountedMarks.{same_times}
use Rattle.fa_order.proofs.Following.{shared_follows, knot_follows, untied_follows}
use Rattle.fa_order.proofs.SameMarks.{AreSigned, same_roots, met_refers, leads_too}
use Rattle.fa_order.proofs.SameWalks.{walks_too}

module _ (bs : List BoxFace) (vs : List Target) (ts us : List Tree) (tame : Paired (StaysTame bs) ts us) where
  pub signed : AreSigned bs ts us
  signed = paired_weaker (StaysTame bs) (λ t u. signature bs t ≡ signature bs u) ts us (λ t u h. h.0) tame

  tame_follows : (t u : Tree) → StaysTame bs t u → TreeFollows (λ k. k) t u
  tame_follows t u h =
      let e = same_roots bs t u h.0 in
      ((λ k. (met_refers t u e k, met_refers u t (sym e) k)), h.1)

  follows : Follows (λ k. k) (λ k. k) vs vs ts us
  follows = record {
    there = λ k. refl;
    again = λ j. refl;
    var = λ j. ((λ i. i), (λ i. i));
    times = λ j. sym (same_times bs j ts us signed);
    down = λ k t e. (let u = paired_at (StaysTame bs) ts us k t tame e in (u.0, u.1, tame_follows t u.0 u.2));
    up = λ j u e. (let t = paired_back (StaysTame bs) ts us j u tame e in (t.0, t.1, tame_follows t.0 u t.2));
  }

  led_too : (r : ℕ) → IsLedTo bs vs ts r → IsLedTo bs vs us r
  led_too r l = record {
    no_var = l.no_var;
    alone =
        λ j u e d h.
        (let t = paired_back (StaysTame bs) ts us j u tame e in
        l.alone j t.0 t.1 d (met_refers u t.0 (sym (same_roots bs t.0 u t.2.0)) r h));
    from = l.from;
    other = l.other;
    led = leads_too bs ts us signed l.from r r l.led;
  }

  pub kind_too : (r : ℕ) → IsRootKind bs vs ts r → IsRootKind bs vs us r
  kind_too r (inl s) = inl (shared_follows (λ k. k) (λ k. k) vs vs ts us follows r s)
  kind_too r (inr (inl l)) = inr (inl (led_too r l))
  kind_too r (inr (inr k)) = inr (inr (knot_follows (λ k. k) (λ k. k) vs vs ts us follows r k))

  pub kinds_too : ((r : ℕ) → r < length ts → IsRootKind bs vs ts r) → (r : ℕ) → r < length us → IsRootKind bs vs us r
  kinds_too h r l = kind_too r (h r (subst (λ (n : ℕ). r < n) (sym (paired_long (StaysTame bs) ts us tame)) l))

  pub untied_too : IsUntied vs ts → IsUntied vs us
  untied_too = untied_follows (λ k. k) (λ k. k) vs vs ts us follows

  pub order_too : (todo : List ℕ) → Walks (refs_at ts) (GoesOn bs ts) todo 0 (length ts)
      → Walks (refs_at us) (GoesOn bs us) todo 0 (length us)
  order_too todo w = subst (λ (n : ℕ). Walks (refs_at us) (GoesOn bs us) todo 0 n)
      (paired_long (StaysTame bs) ts us tame) (walks_too bs ts us signed w)
