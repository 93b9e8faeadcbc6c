use Rattle.std.proofs.Common.{◌≡◌, ◌<◌, [], ℕ, List, length, replicate, false, sym, subst, ◌∙◌}
use Rattle.std.proofs.lemmas.List.{length-replicate}
use Rattle.fore_base.specs.Lists.{IsIn}
use Rattle.fore_base.proofs.ListLemmas.{in_every}
use Rattle.fore_search.specs.Reached.{row}
use Rattle.fore_search.specs.inner.Search.{Visits, Searching}
use Rattle.fore_search.proofs.Searches.{row_got, search_first, search_next, search_done, search_place, search_falls}
use Rattle.fore_search.proofs.searching.search.Goals as goal

pub numbers-init : goal.numbers-init
numbers-init c =
    let marks : c.in_ok-marks.marks ≡ replicate (length c.args.table.now) false =
    rw (c.len.ensures) at c.in_ok-marks.ensures in
    let v : Visits c.args.from.now (replicate (length c.args.table.now) false) [] c.visit.new.marks c.visit.new.todo =
    rw (marks, c.new-todo.ensures) at c.in_ok-visit.ensures in
    search_first c.args.table.now c.args.from.now (length c.args.table.now) c.visit.new.marks c.visit.new.todo
    (v.long ∙ length-replicate (length c.args.table.now) false) v

pub at-requires : goal.at-requires
at-requires c =
    search_place c.args.table.now c.args.from.now c.numbers.marks c.pop.new.self c.in-Some.number
    (subst (λ (z : List ℕ). Searching c.args.table.now c.args.from.now c.numbers.marks z) c.in-Some.ensures
    c.numbers.invariant)

pub visit-requires-in-Some : goal.visit-requires-in-Some
visit-requires-in-Some c =
    let e : row c.args.table.now c.in-Some.number ≡ c.as_slice-row.result.now =
    row_got c.args.table.now c.in-Some.number c.at.result.now c.at.ensures ∙ sym c.as_slice-row.ensures in
    in_every (λ k. k < length c.numbers.marks) c.as_slice-row.result.now
    (λ r i. subst (λ (n : ℕ). r < n) (sym c.numbers.invariant.long)
    (c.requires.rows c.in-Some.number r (subst (λ (z : List ℕ). IsIn r z) (sym e) i)))

pub numbers-smaller : goal.numbers-smaller
numbers-smaller c =
    let e : row c.args.table.now c.in-Some.number ≡ c.as_slice-row.result.now =
    row_got c.args.table.now c.in-Some.number c.at.result.now c.at.ensures ∙ sym c.as_slice-row.ensures in
    let s = subst (λ (z : List ℕ). Searching c.args.table.now c.args.from.now c.numbers.marks z) c.in-Some.ensures
    c.numbers.invariant in
    let v = subst (λ (z : List ℕ). Visits z c.numbers.marks c.pop.new.self c.visit-in-Some.new.marks
    c.visit-in-Some.new.todo) (sym e) c.in_ok-visit-2.ensures in
    rw (c.in-Some.ensures)
    (search_falls c.args.table.now c.args.from.now c.numbers.marks c.pop.new.self c.in-Some.number
    c.visit-in-Some.new.marks c.visit-in-Some.new.todo s v)

pub numbers-preserved : goal.numbers-preserved
numbers-preserved c =
    let e : row c.args.table.now c.in-Some.number ≡ c.as_slice-row.result.now =
    row_got c.args.table.now c.in-Some.number c.at.result.now c.at.ensures ∙ sym c.as_slice-row.ensures in
    let s = subst (λ (z : List ℕ). Searching c.args.table.now c.args.from.now c.numbers.marks z) c.in-Some.ensures
    c.numbers.invariant in
    let v = subst (λ (z : List ℕ). Visits z c.numbers.marks c.pop.new.self c.visit-in-Some.new.marks
    c.visit-in-Some.new.todo) (sym e) c.in_ok-visit-2.ensures in
    search_next c.args.table.now c.args.from.now c.numbers.marks c.pop.new.self c.in-Some.number
    c.visit-in-Some.new.marks c.visit-in-Some.new.todo s v

pub returns : goal.returns
returns c = search_done c.args.table.now c.args.from.now c.numbers.marks
    (subst (λ (z : List ℕ). Searching c.args.table.now c.args.from.now c.numbers.marks z) c.in_default.ensures.0
    c.numbers.invariant)
