use Rattle.std.proofs.Common.{ℕ, List, [], ◌∷◌, ◌++◌, map, refl, sym, ap, ◌∙◌}
use Rattle.std.proofs.lemmas.List.{append_assoc, map-append}
use Rattle.std.proofs.lemmas.Option.{slice_get_read}
use Rattle.std.proofs.lemmas.Result.{on_ok_weaker}
use Rattle.ta_core.specs.inner.Tasks.{Todo, visit, build}
use Rattle.ta_incl.specs.declared.found.Found.{Found}
use Rattle.ta_incl.specs.declared.growing.Task.TheVariants.{Close}
use Rattle.ta_incl.specs.inner.Tasks.{seen}
use Rattle.ta_incl.proofs.growing.open.Goals as goal

pub returns : goal.returns
returns c =
    let at = slice_get_read c.args.found.now _ c.args.place c.index-found-place.result refl c.requires
    c.index-found-place.is in
    let pushed = ap (map seen) c.in_ok-push.ensures.ok ∙ map-append seen c.args.tasks.now (Close c.args.place ∷ []) in
    on_ok_weaker c.ask.result
    (λ e. (
      c.index-found-place.result,
      at,
      e ∙ ap (λ (ts : List (Todo ℕ ℕ)). ts ++ map visit c.as_slice.result.now) pushed
          ∙ append_assoc (map seen c.args.tasks.now) (build c.args.place ∷ []) (map visit c.as_slice.result.now)
          ∙ ap (λ (qs : List ℕ). map seen c.args.tasks.now ++ build c.args.place ∷ map visit qs) c.as_slice.ensures
          ∙ ap (λ (f : Found). map seen c.args.tasks.now ++ build c.args.place ∷ map visit f.from)
          (sym c.index-found-place.is),
    )) c.ask.ensures
