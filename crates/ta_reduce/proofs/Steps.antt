-- What the steps of reduction keep.
use Rattle.std.proofs.Common.{◌≡◌, ◌↔◌, ℕ, ◌<◌, List, length, slice_index, sym, subst}
use Rattle.fore_base.specs.Lists.{IsIn}
use Rattle.fore_base.proofs.ListLemmas.{every_in, in_every}
use Rattle.ta_core.specs.Auto.{Automaton, IsRanked, automaton}
use Rattle.ta_core.specs.Language.{HasSameLanguage, HasTree, IsTrim}
use Rattle.ta_core.specs.Renumbered.{StandsFor, image}
use Rattle.ta_core.specs.Simulations.{AutoReduced}
use Rattle.ta_core.specs.declared.auto.Rule.{Rule}
use Rattle.ta_core.proofs.Runs.{passed_tree}
use Rattle.ta_sim.specs.Relations.{Table}
use Rattle.ta_classes.specs.Classes.{AreClasses}
use Rattle.ta_reduce.specs.inner.Reduction.{AreMutual, HasRootsOnce, IsAmong, IsGreatest, IsLeft, IsReduction, IsTight}
use Rattle.ta_reduce.specs.inner.Reduction.{Preserves}
use Rattle.ta_reduce.specs.inner.Thinned.{AreNeeded}
use Rattle.ta_reduce.proofs.Fewer.{left_preserves, left_tight}
use Rattle.ta_reduce.proofs.Joined.{joined_apart, joined_greatest, joined_preserves, joined_ranked}
use Rattle.ta_reduce.proofs.Leads.{led_from, top_from}
use Rattle.ta_reduce.proofs.Trimmed.{trimmed_led, trimmed_reduced, trimmed_states}

-- what is preserved twice is preserved
pub preserved_through : (a b c : Automaton) → Preserves a b → Preserves b c → Preserves a c
preserved_through a b c h k = record {
  language = λ t. (λ l. (k.language t).0 ((h.language t).0 l), λ l. (h.language t).1 ((k.language t).1 l));
  states =
      λ p l.
      (let w = k.states p l in let v = h.states w.0 w.1 in
      (v.0, v.1, λ t. (λ r. (v.2 t).0 ((w.2 t).0 r), λ r. (w.2 t).1 ((v.2 t).1 r))));
  lead = λ o. k.lead (h.lead o);
}

-- trimming preserves
pub trimmed_preserves : (a b : Automaton) → IsRanked a → HasSameLanguage a b → StandsFor a b → IsTrim b → IsRanked b
    → Preserves a b
trimmed_preserves a b r h s t p =
    record { language = h; states = trimmed_states a b s t p r; lead = trimmed_led a b s t p }

-- a state of what preserves a trimmed automaton has a tree
tall_kept : (a b : Automaton) → Preserves a b → IsTrim a → (q : ℕ) → q < b.states → HasTree b.rules q
tall_kept a b h trim q l =
    let w = h.states q l in
    let t = passed_tree (trim w.0 w.1).3 in
    (t.0, (w.2 t.0).1 t.1)

-- what is tight, and then trimmed, is reduced
pub tight_trimmed : (a b c : Automaton) → IsTrim a → Preserves a b → IsTight b → IsRanked b → HasSameLanguage b c
    → IsTrim c → StandsFor b c → IsRanked c → Preserves a c × AutoReduced c
tight_trimmed a b c trim h tight q k t s p = (
  preserved_through a b c h (trimmed_preserves b c q k s t p),
  trimmed_reduced b c s t p q (tall_kept a b h trim) tight,
)

-- what is reduced already
pub preserved_same : (a : Automaton) → AutoReduced a → Preserves a a × AutoReduced a
preserved_same a r = (
  record {
    language = λ t. (λ l. l, λ l. l);
    states = λ p l. (p, l, λ t. (λ k. k, λ k. k));
    lead = λ l. l;
  },
  r,
)

-- the relation on the firsts of classes is the greatest one of the joined automaton
pub among_greatest : (a : Automaton) (rel : Table) (numbers firsts : List ℕ) (joined : Automaton) (among : Table)
    → IsRanked a → IsGreatest a rel → AreClasses (AreMutual rel) a.states numbers firsts
    → joined ≡ image (length firsts) (λ q. slice_index numbers q) a → among.size ≡ length firsts
    → IsAmong rel firsts among → IsGreatest joined among
among_greatest a rel numbers firsts joined among proper greatest classes e size rows =
    subst (λ (x : Automaton). IsGreatest x among) (sym e)
    (joined_greatest a rel proper greatest numbers firsts classes among size rows)

-- the classes joined, and then needless rules left out
pub tightened_from : (a : Automaton) (rel : Table) (numbers firsts : List ℕ) (joined : Automaton) (among : Table)
    (made : Automaton) → IsRanked a → IsGreatest a rel → AreClasses (AreMutual rel) a.states numbers firsts
    → joined ≡ image (length firsts) (λ q. slice_index numbers q) a → among.size ≡ length firsts
    → IsAmong rel firsts among → IsLeft among joined made → Preserves a made × IsTight made
tightened_from a rel numbers firsts joined among made proper greatest classes e size rows left =
    subst (λ (x : Automaton). Preserves a x × IsTight x) (sym left.1) (here joined e left.0 left.2)
  where
    here : (x : Automaton) → x ≡ image (length firsts) (λ q. slice_index numbers q) a → (kept : List Rule)
        → AreNeeded among x.rules kept
        → Preserves a (automaton x.states x.roots kept) × IsTight (automaton x.states x.roots kept)
    here x d kept n =
        let j = image (length firsts) (λ q. slice_index numbers q) a in
        let ranked = joined_ranked a rel proper greatest numbers firsts classes in
        let g = joined_greatest a rel proper greatest numbers firsts classes among size rows in
        let m = subst (λ (y : Automaton). AreNeeded among y.rules kept) d n in
        let all : Preserves a (automaton j.states j.roots kept) × IsTight (automaton j.states j.roots kept) = (
          preserved_through a j (automaton j.states j.roots kept)
              (joined_preserves a rel proper greatest numbers firsts classes) (left_preserves j among kept ranked g m),
          left_tight j among kept ranked g m
              (joined_apart a rel proper greatest numbers firsts classes among size rows),
        ) in
        subst (λ (y : Automaton). Preserves a (automaton y.states y.roots kept)
        × IsTight (automaton y.states y.roots kept)) (sym d) all

-- the automaton with other root states in the list, which are the same ones
module _ (a : Automaton) (qs : List ℕ) (same : (q : ℕ) → IsIn q qs ↔ IsIn q a.roots) where
  rooted_reduced : AutoReduced a → AutoReduced (automaton a.states qs a.rules)
  rooted_reduced r = record
      { trim = λ q l. (let w = r.trim q l in (w.0, w.1, (same w.0).1 w.2, w.3)); apart = r.apart; needed = r.needed }

  rooted_preserves : Preserves a (automaton a.states qs a.rules)
  rooted_preserves = record {
    language = λ t. (λ l. (l.0, (same l.0).1 l.1, l.2), λ l. (l.0, (same l.0).0 l.1, l.2));
    states = λ p l. (p, l, λ t. (λ r. r, λ r. r));
    lead = λ l. record {
      root = l.root;
      listed = (same l.root).1 l.listed;
      alone = in_every (λ q. q ≡ l.root) qs (λ q i. every_in (λ (x : ℕ). x ≡ l.root) a.roots q l.alone ((same q).0 i));
      tree = l.tree;
      rule = l.rule;
      there = l.there;
      top = l.top;
      leads = l.leads;
    };
  }

pub reduction_from : (a b c : Automaton) → Preserves a b → AutoReduced b → HasRootsOnce b c → IsReduction a c
reduction_from a b c h r o =
    let d = automaton b.states o.0 b.rules in
    let k = preserved_through a b d h (rooted_preserves b o.0 o.3) in
    let n = rooted_reduced b o.0 o.3 r in
    let made : IsReduction a d = record {
      language = k.language;
      reduced = n;
      states = k.states;
      roots = o.2;
      top = λ t l s. top_from d n o.2 (k.lead (led_from a t l s));
    } in
    subst (IsReduction a) (sym o.1) made
