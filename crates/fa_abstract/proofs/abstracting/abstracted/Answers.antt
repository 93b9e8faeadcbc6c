use Rattle.std.proofs.Common.{sym, subst}
use Rattle.fore_base.specs.Lists.{Every}
use Rattle.fore_base.proofs.ListLemmas.{every_weaker}
use Rattle.ta_core.specs.Auto.{IsRanked}
use Rattle.ta_core.specs.Language.{IsTrim}
use Rattle.ta_core.specs.Simulations.{AutoReduced}
use Rattle.fa_core.specs.Canonical.{IsCanonical}
use Rattle.fa_core.specs.declared.faces.Face.{Face}
use Rattle.fa_abstract.proofs.Canonical.{canonical_structs, same_languages}
use Rattle.fa_abstract.proofs.abstracting.abstracted.Goals as goal

pub abstract_height-requires-clause-structs : goal.abstract_height-requires-clause-structs
abstract_height-requires-clause-structs g c =
    let F = c.args.forest.now.forest in
    let ranked : Every IsRanked F.autos = rw (c.as_slice.ensures, c.forest.ensures) at c.ranked_autos.ensures in
    let trim : Every IsTrim F.autos = every_weaker AutoReduced IsTrim F.autos (λ a r. r.trim) c.requires.reduced in
    canonical_structs c.args.forest.now.face F c.requires.canonical ranked trim

pub returns-clause-abstraction : goal.returns-clause-abstraction
returns-clause-abstraction g c =
    let middle = c.in_ok-middle.middle.forest in
    let made = c.in_ok-made.made.forest in
    record {
      middle = middle;
      quotient = c.in_ok-middle.ensures.quotient;
      vars = sym c.in_ok-made.ensures.covers.vars;
      data_vars = sym c.in_ok-made.ensures.covers.data_vars;
      same = same_languages middle.autos made.autos c.in_ok-made.ensures.covers.within
          c.in_ok-made.ensures.covered.within;
    }

pub returns-clause-canonical : goal.returns-clause-canonical
returns-clause-canonical g c =
    let F = c.args.forest.now.forest in
    let face = c.args.forest.now.face in
    let ranked : Every IsRanked F.autos = rw (c.as_slice.ensures, c.forest.ensures) at c.ranked_autos.ensures in
    let trim : Every IsTrim F.autos = every_weaker AutoReduced IsTrim F.autos (λ a r. r.trim) c.requires.reduced in
    let middle = c.quotients_keep_canonical.ensures face F c.in_ok-middle.middle.forest c.args.height
    c.requires.canonical ranked trim c.requires.height c.in_ok-middle.ensures.quotient in
    c.in_ok-made.ensures.canonical
    (subst (λ (x : Face). IsCanonical x c.in_ok-middle.middle.forest) (sym c.in_ok-middle.ensures.face) middle)

pub returns-clause-members : goal.returns-clause-members
returns-clause-members g c =
    λ hs T s m. c.covered_members.ensures hs T c.in_ok-made.made.forest c.in_ok-middle.middle.forest s
    c.in_ok-made.ensures.covers (c.in_ok-middle.ensures.members hs T s m)
