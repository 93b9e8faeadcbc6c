use Rattle.std.proofs.Common.{◌≡◌, ◌++◌, flat_map, take}
use Rattle.fa_print.specs.inner.Putting.{rules_text_at}
use Rattle.fa_print.proofs.components.put_rules.Given as goal

abbrev pub invariant-loop-own : goal.invariant-loop-own
invariant-loop-own l =
    l.text ≡ l.initial.text ++ flat_map (rules_text_at l.table l.rules) (take l.own-index l.places)
