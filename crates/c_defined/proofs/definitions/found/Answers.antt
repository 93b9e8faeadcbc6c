use Rattle.std.proofs.Common.{◌≡◌, sym, subst, List, Some, slice_get, map}
use Rattle.fore_base.specs.Lists.{IsIn, IsDistinct}
use Rattle.c_typing.specs.Globals.{value_name}
use Rattle.c_typing.specs.Texts.{Text}
use Rattle.c_defined.proofs.TableLemmas.{value_at, value_past, value_none}
use Rattle.c_defined.proofs.definitions.found.Goals as goal

pub returns-in-Some-get : goal.returns-in-Some-get
returns-in-Some-get c =
    let names = map value_name c.args.values.now in
    let distinct : IsDistinct names = subst (λ (ns : List Text). IsDistinct ns) c.requires c.known_distinct.ensures in
    let at : slice_get names c.in-Some.number ≡ Some c.args.name.now =
    subst (λ (ns : List Text). slice_get ns c.in-Some.number ≡ Some c.args.name.now) c.requires
    c.in-Some.ensures in
    sym
    (value_at c.args.name.now c.args.values.now c.in-Some.number c.in-Some-get.one.now distinct at
    (sym c.in-Some-get.ensures.value))

pub returns-in-None-get : goal.returns-in-None-get
returns-in-None-get c =
    let names = map value_name c.args.values.now in
    let distinct : IsDistinct names = subst (λ (ns : List Text). IsDistinct ns) c.requires c.known_distinct.ensures in
    let at : slice_get names c.in-Some.number ≡ Some c.args.name.now =
    subst (λ (ns : List Text). slice_get ns c.in-Some.number ≡ Some c.args.name.now) c.requires
    c.in-Some.ensures in
    sym (value_past c.args.name.now c.args.values.now c.in-Some.number distinct at (sym c.in-None-get.ensures.value))

pub returns-in-None : goal.returns-in-None
returns-in-None c =
    sym
    (value_none c.args.name.now c.args.values.now
    (λ i. c.in-None.ensures (subst (λ (ns : List Text). IsIn c.args.name.now ns) (sym c.requires) i)))
