use Rattle.std.proofs.Common.{◌≡◌, ◌<◌, List, ℕ, length, sym, subst, ◌∙◌}
use Rattle.std.proofs.lemmas.Result.{IfOk-weaker}
use Rattle.fore_base.specs.Lists.{IsIn}
use Rattle.fore_base.specs.Marks.{MarksOf}
use Rattle.fore_base.proofs.ListLemmas.{in_every}
use Rattle.c_calls.proofs.Places.{called_got}
use Rattle.c_calls.proofs.Leading.{callers_below, marks_leading}
use Rattle.c_calls.specs.Calls.{called_by}
use Rattle.fore_search.specs.Reached.{IsReached}
use Rattle.c_calls.proofs.graph.CallGraph.leading_to.Goals as goal

pub search-requires-clause-from : goal.search-requires-clause-from
search-requires-clause-from c =
    let callers = c.self.inside.callers in
    let e : called_by callers c.args.to ≡ c.as_slice.result.now =
    called_got callers c.args.to c.at.result.now c.at.ensures ∙ sym c.as_slice.ensures in
    in_every (λ f. f < length callers) c.as_slice.result.now
    (λ f i. callers_below c.self.inside.calls callers c.args.to c.self.invariant.2 c.args.to f
    (subst (IsIn f) (sym e) i))

pub search-requires-clause-rows : goal.search-requires-clause-rows
search-requires-clause-rows c = callers_below c.self.inside.calls c.self.inside.callers c.args.to c.self.invariant.2

pub returns : goal.returns
returns c =
    let callers = c.self.inside.callers in
    let e : called_by callers c.args.to ≡ c.as_slice.result.now =
    called_got callers c.args.to c.at.result.now c.at.ensures ∙ sym c.as_slice.ensures in
    IfOk-weaker c.search.result _ _
    (λ marks m. rw (← c.self.view_is)
    (marks_leading c.self.inside.calls callers c.args.to c.self.invariant.2 marks
    (subst (λ (z : List ℕ). MarksOf (length callers) (IsReached callers z) marks) (sym e) m))) c.search.ensures
