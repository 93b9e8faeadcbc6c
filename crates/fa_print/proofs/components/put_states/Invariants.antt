use Rattle.std.proofs.Common.{◌≡◌, ◌++◌, codes, flat_map, map, take}
use Rattle.fa_lines.specs.Spelling.{state_text}
use Rattle.fa_print.proofs.components.put_states.Given as goal

abbrev pub invariant-loop-state : goal.invariant-loop-state
invariant-loop-state l =
    l.text ≡ l.initial.text ++ flat_map (λ w. codes " " ++ w) (map state_text (take l.state-index l.states))
