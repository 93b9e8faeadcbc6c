use Rattle.std.proofs.Common.{◌≡◌, sym, subst}
use Rattle.fore_base.specs.Lists.{Every}
use Rattle.ta_core.specs.Auto.{Automaton}
use Rattle.fa_core.specs.Boxless.{HasNoBoxes}
use Rattle.fa_core.specs.Canonical.{IsCanonical}
use Rattle.fa_core.specs.Filled.{IsSound}
use Rattle.fa_core.specs.declared.forest.Forest.{Forest}
use Rattle.fa_sound.specs.Components.{component_at, with_component}
use Rattle.fa_join.specs.Joined.{Joins}
use Rattle.fa_join.specs.inner.Joining.{joined, joined_at}
use Rattle.fa_join.proofs.joining.joined_forest.Goals as goal

pub joined_auto-requires-clause-left : goal.joined_auto-requires-clause-left
joined_auto-requires-clause-left c = rw c.forest.ensures c.requires.first

pub joined_auto-requires-clause-right : goal.joined_auto-requires-clause-right
joined_auto-requires-clause-right c = rw c.forest-2.ensures c.requires.second

pub with_component-requires-clause-root : goal.with_component-requires-clause-root
with_component-requires-clause-root c = c.requires.first.root

pub with_component-requires-clause-sound : goal.with_component-requires-clause-sound
with_component-requires-clause-sound c =
    let F = c.args.left.now in
    let G = c.args.right.now.forest in
    let r = c.args.root in
    let e : c.in_ok-auto.auto ≡ joined (component_at F.forest.autos r) (component_at G.autos r) c.args.child =
    rw (c.forest.ensures, c.forest-2.ensures) at c.in_ok-auto.ensures in
    subst (λ (z : Automaton). IsSound F.face (with_component F.forest r z)) (sym e) c.requires.sound

pub returns-clause-plain : goal.returns-clause-plain
returns-clause-plain c left right =
    let F = c.args.left.now.forest in
    let e : c.in_ok-made.made.forest ≡ joined_at F c.args.right.now.forest c.args.root c.args.child =
    rw (c.in_ok-auto.ensures, c.forest.ensures, c.forest-2.ensures) at c.in_ok-made.ensures.forest in
    subst (λ (z : Forest). Every HasNoBoxes z.autos) (sym e) (c.requires.plain left right)

pub returns-clause-canonical : goal.returns-clause-canonical
returns-clause-canonical c =
    let F = c.args.left.now in
    let e : c.in_ok-made.made.forest ≡ joined_at F.forest c.args.right.now.forest c.args.root c.args.child =
    rw (c.in_ok-auto.ensures, c.forest.ensures, c.forest-2.ensures) at c.in_ok-made.ensures.forest in
    subst (IsCanonical F.face) (sym e) c.requires.canonical

pub returns-clause-joins : goal.returns-clause-joins
returns-clause-joins c =
    let F = c.args.left.now.forest in
    let G = c.args.right.now.forest in
    let e : c.in_ok-made.made.forest ≡ joined_at F G c.args.root c.args.child =
    rw (c.in_ok-auto.ensures, c.forest.ensures, c.forest-2.ensures) at c.in_ok-made.ensures.forest in
    subst (Joins F G) (sym e) c.requires.joins
