use Rattle.std.proofs.Common.{Bool, [], true≢false, sym, ◌∙◌, ◌↔◌}
use Rattle.std.specs.Bool.{IsTrue}
use Rattle.std.proofs.lemmas.Result.{IfOk-weaker}
use Rattle.fa_filling.specs.Given.{given_to}
use Rattle.fa_filling.specs.Parted.{ArePartsFilled}
use Rattle.fa_filling.proofs.Fillings.{AreAll, by_parts, all_parts, all_vars, no_leaf, parts_ready}
use Rattle.fa_filling.proofs.choosing.is_filled.Goals as goal

pub returns-then-not-are_roots : goal.returns-then-not-are_roots
returns-then-not-are_roots c =
    let r = rw (c.len.ensures, c.as_slice.ensures) at c.are_roots.ensures in (
      (λ h. absurd (true≢false (sym h))),
      (λ g.
          absurd
          (true≢false (sym (r.1 (all_vars c.args.face.now c.args.forest.now c.requires.full g))
          ∙ c.if-not-are_roots.true))),
    )

pub are_parts_filled-requires : goal.are_parts_filled-requires
are_parts_filled-requires c =
    let h = rw (c.in-Some.is, c.as_slice-2.ensures) at c.in_ok-parts_each.ensures in
    rw c.as_slice-in-Some.ensures
    (parts_ready c.args.forest.now.autos c.in-Some.parts c.requires.full h)

pub returns-in-None : goal.returns-in-None
returns-in-None c =
    let l = rw (c.in-None.is, c.as_slice-2.ensures) at c.in_ok-parts_each.ensures in (
      (λ h. absurd (true≢false (sym h))),
      (λ g. absurd (no_leaf c.args.face.now c.args.forest.now c.requires.full l g)),
    )

pub returns-in-Some : goal.returns-in-Some
returns-in-Some c =
    let r = rw (c.len.ensures, c.as_slice.ensures) at c.are_roots.ensures in
    let h = rw (c.in-Some.is, c.as_slice-2.ensures) at c.in_ok-parts_each.ensures in
    let e = rw c.as_slice-in-Some.ensures at c.are_parts_filled.ensures in
    IfOk-weaker c.are_parts_filled.result
    (λ (yes : Bool). IsTrue yes ↔ ArePartsFilled c.args.face.now (given_to c.args.given.now) 0 [] c.in-Some.parts)
    (λ (yes : Bool). IsTrue yes ↔ AreAll c.args.face.now c.args.forest.now c.requires.full)
    (λ yes k. (
      (λ y. by_parts c.args.face.now c.args.forest.now c.requires.full (given_to c.args.given.now) c.requires.given
          c.in-Some.parts h (r.0 c.if-not-are_roots.false) (k.0 y)),
      (λ g. k.1
          (all_parts c.args.face.now c.args.forest.now c.requires.full (given_to c.args.given.now) c.requires.given
          c.in-Some.parts h g)),
    ))
    e
