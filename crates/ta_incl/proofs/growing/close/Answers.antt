use Rattle.std.proofs.Common.{reverse, refl, ap, ◌∙◌}
use Rattle.std.proofs.lemmas.List.{reverse-append}
use Rattle.std.proofs.lemmas.Option.{slice_get_read}
use Rattle.std.proofs.lemmas.Result.{on_ok_weaker}
use Rattle.ta_core.proofs.Runs.{tree_of}
use Rattle.ta_incl.proofs.growing.close.Goals as goal

pub returns : goal.returns
returns c =
    let at = slice_get_read c.args.found.now _ c.args.place c.index-found-place.result refl c.requires.there
    c.index-found-place.is in
    on_ok_weaker c.push.result (λ e. (
      c.index-found-place.result,
      c.at.result.now,
      at,
      c.at.ensures,
      record {
        parts = c.in_ok-children.children;
        rest = reverse c.last.new.results;
        long = c.in_ok-children.ensures.long ∙ c.len.ensures;
        before = c.in_ok-children.ensures.off;
        made = tree_of c.in_ok-symbol.symbol c.in_ok-children.children;
        after = ap reverse e ∙ reverse-append c.last.new.results _;
        is = ap (λ y. tree_of y c.in_ok-children.children) c.in_ok-symbol.ensures;
      },
    )) c.push.ensures.ok
