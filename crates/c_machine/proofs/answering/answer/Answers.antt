use Rattle.std.proofs.Common.{◌≡◌, Vec, ap, sym, ◌∙◌}
use Rattle.std.specs.declared.alloc.Global.{Global}
use Rattle.c_types.specs.Control.{Items, ◌then◌, opened}
use Rattle.c_machine.specs.declared.items.Item.{Item}
use Rattle.c_machine.specs.Pending.{pending, Ways, through, ways_of, way}
use Rattle.c_machine.proofs.Stacks.{through_parts}
use Rattle.c_machine.proofs.answering.answer.Goals as goal

pub loop-part-preserved : goal.loop-part-preserved
loop-part-preserved c =
    let w : Ways = ways_of c.args.sides in
    record {
      left = ap (λ ps. way c.in-Known.known (through w ps)) c.in-Known.ensures.0
          ∙ sym (c.in-Known.ensures.1 (through w c.take_part.new.parts.items))
          ∙ ap (way c.loop-part.outcome)
          (sym
          (through_parts w c.loop-part.control.parts.items c.take_part.new.parts.items c.in-Some.part
          c.in-Some.ensures.front))
          ∙ c.loop-part.invariant.left;
      stack = c.loop-part.invariant.stack;
    }

pub returns-in-Asks : goal.returns-in-Asks
returns-in-Asks c =
    let w : Ways = ways_of c.args.sides in
    let r : Items = pending c.loop-part.control.stack.items in
    c.in-Asks.ensures w r
    ∙ ap (λ v. opened (way c.loop-part.outcome v then r))
    (sym
    (through_parts w c.loop-part.control.parts.items c.take_part.new.parts.items c.in-Some.part
    c.in-Some.ensures.front))
    ∙ ap (λ is. opened (is then r)) c.loop-part.invariant.left
    ∙ ap (λ (s : Vec Item Global).
    opened (way c.args.outcome (through w c.args.control.now.parts.items) then pending s.items))
    c.loop-part.invariant.stack

pub returns : goal.returns
returns c =
    let w : Ways = ways_of c.args.sides in
    let done : way c.loop-part.outcome w ≡ way c.args.outcome (through w c.args.control.now.parts.items) =
    ap (λ ps. way c.loop-part.outcome (through w ps)) (sym c.in_default.ensures.front) ∙ c.loop-part.invariant.left in
    ap opened c.turn_to.ensures
    ∙ ap (λ is. opened (is then pending c.loop-part.control.stack.items)) done
    ∙ ap (λ (s : Vec Item Global).
    opened (way c.args.outcome (through w c.args.control.now.parts.items) then pending s.items))
    c.loop-part.invariant.stack
