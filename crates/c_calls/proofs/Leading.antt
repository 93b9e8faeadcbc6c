-- The functions that lead to one are those that are reached from its callers by the calls turned round.
use Rattle.std.proofs.Common.{ℕ, ◌<◌, List, length, ◌∙◌, arith, Bool}
use Rattle.fore_base.specs.Lists.{IsIn}
use Rattle.fore_base.specs.Marks.{MarksOf}
use Rattle.fore_search.specs.Reached.{IsReached, start, next}
use Rattle.c_calls.proofs.Places.{caller_within}
use Rattle.c_calls.specs.Calls.{called_by, AreCallers, Leads, at_once, through}

module _ (calls callers : List (List ℕ)) (to : ℕ) (turned : AreCallers calls callers) where
  reached_leads : (f : ℕ) → IsReached callers (called_by callers to) f → Leads calls f to
  reached_leads f (start i) = at_once (turned.only f to i)
  reached_leads f (next q a i) = through q (turned.only f q i) (reached_leads q a)

  leads_reached : (f : ℕ) → Leads calls f to → IsReached callers (called_by callers to) f
  leads_reached f (at_once i) = start (turned.each f to i)
  leads_reached f (through h i l) = next h (leads_reached h l) (turned.each f h i)

  pub callers_below : (q r : ℕ) → IsIn r (called_by callers q) → r < length callers
  callers_below q r i =
      let l = caller_within calls r q (turned.only r q i) in
      let n = turned.long in
      omega (arith, l, n)

  pub marks_leading : (marks : List Bool) → MarksOf (length callers) (IsReached callers (called_by callers to)) marks
      → MarksOf (length calls) (λ f. Leads calls f to) marks
  marks_leading marks m = record {
    long = m.long ∙ turned.long;
    only = λ f h. reached_leads f (m.only f h);
    each = λ f l. m.each f (leads_reached f l);
  }
