use Rattle.std.proofs.Common.{◌<◌, ◌∙◌, ℕ, List, ap, length, subst, sym, reverse}
use Rattle.fa_core.specs.Folding.{Placing, all_placed}
use Rattle.fa_core.specs.References.{AllBelow}
use Rattle.fa_order.specs.inner.Stacks.{nth_refs, weight}
use Rattle.fa_order.proofs.Weights.{reverse_last, visit_below, visit_falls}
use Rattle.fa_part.proofs.Visits.{visit_places}
use Rattle.fa_part.proofs.visiting.visited.Goals as goal

pub visit-requires : goal.visit-requires
visit-requires c =
    let e = ap reverse c.in-Some.ensures ∙ reverse_last c.pop.new.self c.in-Some.root in
    (subst (λ (z : List ℕ). AllBelow (length c.args.refers.now) z) e c.loop-root.invariant.1).0

pub loop-root-smaller : goal.loop-root-smaller
loop-root-smaller c =
    let refers = c.args.refers.now in
    let e = ap reverse c.in-Some.ensures ∙ reverse_last c.pop.new.self c.in-Some.root in
    subst (λ (z : List ℕ). weight refers (reverse c.visit.new.stack) c.visit.new.placed
    < weight refers z c.loop-root.placed) (sym e)
    (visit_falls refers c.in-Some.root (reverse c.pop.new.self) c.loop-root.placed c.in_ok-visit.ensures)

pub loop-root-preserved : goal.loop-root-preserved
loop-root-preserved c =
    let refers = c.args.refers.now in
    let rest = reverse c.pop.new.self in
    let e = ap reverse c.in-Some.ensures ∙ reverse_last c.pop.new.self c.in-Some.root in (
      (λ order w. c.loop-root.invariant.0 order
          (subst (λ (z : List ℕ). Placing (nth_refs refers) z c.loop-root.placed order) (sym e)
          (visit_places refers c.in-Some.root rest c.loop-root.placed c.in_ok-visit.ensures order w))),
      visit_below refers c.in-Some.root rest c.loop-root.placed (length refers) c.in_ok-visit.ensures
          c.requires.refers (subst (λ (z : List ℕ). AllBelow (length refers) z) e c.loop-root.invariant.1).1,
    )

pub returns : goal.returns
returns c =
    let k = rw c.in_default.is at c.pop.ensures in
    c.loop-root.invariant.0 c.loop-root.placed
    (subst (λ (z : List ℕ). Placing (nth_refs c.args.refers.now) (reverse z) c.loop-root.placed c.loop-root.placed)
    (sym k.0) all_placed)
