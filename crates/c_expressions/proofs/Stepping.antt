-- The first fault so far over a list, one item after the other.
use Rattle.std.proofs.Common.{◌≡◌, ℕ, ◌<◌, ◌≤◌, ◌+◌, List, Option, length, map, drop, get_or, ap, ◌∙◌}
use Rattle.std.proofs.lemmas.List.{drop_all}
use Rattle.fore_base.proofs.ListLemmas.{drop_item}
use Rattle.c_typing.specs.Globals.{Globals}
use Rattle.c_typing.specs.Sites.{Site}
use Rattle.c_typing.specs.Texts.{joined}
use Rattle.c_typing.specs.declared.fault.TypeFault.{TypeFault}
use Rattle.c_expressions.specs.Meeting.{met}
use Rattle.c_expressions.proofs.MeetingLemmas.{met-nil, met-append}

module _ {X : Type 0} (g : Globals) (found : Option TypeFault) (f : X → List Site) where
  pub each_step : (xs : List X) (i : ℕ) (x : X) → i < length xs → x ≡ get_or xs i x →
      met g found (joined (map f (drop i xs))) ≡ met g (met g found (f x)) (joined (map f (drop (i + 1) xs)))
  each_step xs i x within is =
      ap (λ ys. met g found (joined (map f ys))) (drop_item xs i x within is)
      ∙ met-append g found (f x) (joined (map f (drop (i + 1) xs)))

  pub each_end : (xs : List X) (i : ℕ) → length xs ≤ i → met g found (joined (map f (drop i xs))) ≡ found
  each_end xs i past = ap (λ ys. met g found (joined (map f ys))) (drop_all i xs past) ∙ met-nil g found
