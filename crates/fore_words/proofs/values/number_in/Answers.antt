use Rattle.std.proofs.Common.{rules, ◌≡◌, Ok, subst, arith, refl}
use Rattle.fore_words.specs.Values.{IsNumber}
use Rattle.fore_words.proofs.Numbers.{parsed}
use Rattle.fore_words.proofs.values.number_in.Goals as goal

pub returns-in_default : goal.returns-in_default
returns-in_default c = (
  refl,
  λ n is.
      let read : c.parse.result ≡ Ok n =
      parsed c.parse.result c.args.text.now c.args.most n (omega (arith, c.ranges.most.fits))
      c.parse.ensures.value.0 is in
      let same : n ≡ c.in-Ok.number = cc (read, c.in-Ok.is) in
      let own : IsNumber c.args.most c.args.text.now c.in-Ok.number =
      subst (IsNumber c.args.most c.args.text.now) same is in
      search (rules, own),
)

pub returns-in_default-2 : goal.returns-in_default-2
returns-in_default-2 c = (
  refl,
  λ n is.
      let read : c.parse.result ≡ Ok n =
      parsed c.parse.result c.args.text.now c.args.most n (omega (arith, c.ranges.most.fits))
      c.parse.ensures.value.0 is in
      cc (read, c.in_default.is),
)
