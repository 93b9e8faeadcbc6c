use Rattle.std.proofs.Common.{◌≡◌, ◌+◌, ℕ, ap, arith}
use Rattle.c_machine.specs.Pending.{stack_weight, shut_weight}
use Rattle.c_machine.proofs.items.Control.open_stack.Goals as goal

pub loop-self-smaller : goal.loop-self-smaller
loop-self-smaller c =
    let weight : ℕ = stack_weight c.loop-self.self.stack.items in
    let shut : shut_weight c.loop-self.self.front weight ≡ weight + 1 =
    ap (λ f. shut_weight f weight) c.in-Shut.is in
    let same : stack_weight c.reserve.new.self.items ≡ weight = ap stack_weight c.reserve.ensures.items in
    omega (arith, shut, same, c.open_front.ensures.weight)
