use Rattle.fore_base.proofs.ListLemmas.{every_in, in_from_place}
use Rattle.ta_core.specs.Language.{IsTrim}
use Rattle.fa_boxes.specs.Tops.{HasNoLeaf}
use Rattle.fa_faces.proofs.AtTops.{one_right, two_right, input_five, output_five}
use Rattle.fa_faces.proofs.ports.are_ports_right.Goals as goal

pub is_input_right-requires-clause-trim : goal.is_input_right-requires-clause-trim
is_input_right-requires-clause-trim c =
    every_in IsTrim c.args.autos.now c.component.result.now c.requires.trim
    (in_from_place c.args.autos.now 0 c.component.result.now c.component.ensures)

pub is_input_right-requires-clause-cells : goal.is_input_right-requires-clause-cells
is_input_right-requires-clause-cells c =
    every_in HasNoLeaf c.args.autos.now c.component.result.now c.requires.cells
    (in_from_place c.args.autos.now 0 c.component.result.now c.component.ensures)

pub returns-then-not-branch-clause-no : goal.returns-then-not-branch-clause-no
returns-then-not-branch-clause-no c = λ e T.
    (let w = rw (c.as_slice.ensures, c.if-not-branch.true) at c.in_ok-is_input_right.ensures in
    input_five c.args.face.now T c.args.input c.args.output c.args.autos.now c.component.result.now c.component.ensures
    w)

pub is_port_right-requires-clause-trim : goal.is_port_right-requires-clause-trim
is_port_right-requires-clause-trim c =
    every_in IsTrim c.args.autos.now c.component-in-Some.result.now c.requires.trim
    (in_from_place c.args.autos.now 1 c.component-in-Some.result.now c.component-in-Some.ensures)

pub is_port_right-requires-clause-cells : goal.is_port_right-requires-clause-cells
is_port_right-requires-clause-cells c =
    every_in HasNoLeaf c.args.autos.now c.component-in-Some.result.now c.requires.cells
    (in_from_place c.args.autos.now 1 c.component-in-Some.result.now c.component-in-Some.ensures)

pub returns-in_ok-right-in-Some-clause-yes : goal.returns-in_ok-right-in-Some-clause-yes
returns-in_ok-right-in-Some-clause-yes c = λ e.
    (let w = rw (c.as_slice.ensures, c.if-not-branch.false) at c.in_ok-is_input_right.ensures in
    let v = rw (c.as_slice-in-Some.ensures, e) at c.in_ok-right-in-Some.ensures in
    let o = c.in-Some.is in
    rw o
    (two_right c.args.face.now.boxes c.args.input c.in-Some.shape c.args.autos.now c.component.result.now
    c.component-in-Some.result.now c.requires.cells c.component.ensures c.component-in-Some.ensures w v))

pub returns-in_ok-right-in-Some-clause-no : goal.returns-in_ok-right-in-Some-clause-no
returns-in_ok-right-in-Some-clause-no c = λ e T.
    (let v = rw (c.as_slice-in-Some.ensures, e) at c.in_ok-right-in-Some.ensures in
    let o = c.in-Some.is in
    rw o
    (output_five c.args.face.now T c.args.input c.in-Some.shape c.args.autos.now c.component-in-Some.result.now
    c.component-in-Some.ensures v))

pub returns-in-None-clause-yes : goal.returns-in-None-clause-yes
returns-in-None-clause-yes c = λ e.
    (let w = rw (c.as_slice.ensures, c.if-not-branch.false) at c.in_ok-is_input_right.ensures in
    let o = c.in-None.is in
    rw o
    (one_right c.args.face.now.boxes c.args.input c.args.autos.now c.component.result.now c.requires.cells
    c.component.ensures w))
