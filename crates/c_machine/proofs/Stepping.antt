-- What the machine answers, by how its step went.
use Rattle.std.proofs.Common.{◌≡◌, ℕ, Some, None, refl, sym, ap, ◌∙◌, subst}
use Rattle.fore_base.specs.declared.fault.Fault.{Fault as Kind}
use Rattle.c_types.specs.Steps.{Stops, Faults, mark_of}
use Rattle.c_types.specs.Steps as steps
use Rattle.c_machine.specs.declared.acting.Pace.TheVariants.{Goes as PaceGoes}
use Rattle.c_machine.specs.declared.state.Turn.TheVariants.{Next, Fault, Ended}
use Rattle.c_machine.specs.declared.state.Machine.{Machine}
use Rattle.c_machine.specs.Machines.{todo, over_of, Stepped}
use Rattle.c_machine.specs.inner.Acts.{TurnIs}

pub stepped_goes : (t : steps.Turn) (old new : Machine) → TurnIs t PaceGoes new.control new.heap → over_of new ≡ None
    → Stepped t old new Next
stepped_goes t old new h over = subst (λ u. Stepped u old new Next) (sym h.1) (refl, h.2, refl, over)

pub stepped_stops : (t : steps.Turn) (old new : Machine) → t ≡ Stops → over_of new ≡ Some Ended
    → Stepped t old new Ended
stepped_stops t old new h over = subst (λ u. Stepped u old new Ended) (sym h) (refl, over)

pub stepped_faults : (t : steps.Turn) (kind : Kind) (line : ℕ) (old new : Machine) → t ≡ Faults kind
    → mark_of (todo old) ≡ line → over_of new ≡ Some (Fault kind line) → Stepped t old new (Fault kind line)
stepped_faults t kind line old new h at over =
    subst (λ u. Stepped u old new (Fault kind line)) (sym h)
    (ap (Fault kind) (sym at), over ∙ ap (λ n. Some (Fault kind n)) (sym at))

pub ruleset stepping = (stepped_goes, stepped_stops, stepped_faults)
