use Rattle.std.proofs.Common.{◌≡◌, ◌∷◌, [], ◌++◌, List, ℕ, set, sym, ap, subst, ◌∙◌}
use Rattle.c_calls.proofs.Callers.{adds_one}
use Rattle.c_calls.proofs.Places.{called_got}
use Rattle.c_calls.specs.Calls.{called_by}
use Rattle.c_calls.specs.inner.Turning.{Adds}
use Rattle.c_calls.proofs.turning.add_one.Goals as goal

pub returns : goal.returns
returns c =
    let table = c.args.callers.now in
    let own = called_got table c.args.function c.at_mut-own.result.now c.at_mut-own.ensures.value in
    let e : c.push.new.self ≡ called_by table c.args.function ++ c.args.caller ∷ [] =
    c.in_ok-push.ensures.ok ∙ ap (λ (z : List ℕ). z ++ c.args.caller ∷ []) (sym own) in
    subst (λ (z : List ℕ). Adds c.args.caller (c.args.function ∷ []) table (set table c.args.function z)) (sym e)
    (adds_one c.args.caller c.args.function table c.requires)
