-- The sites and the formulas of each kind of condition, and what each kind of operand is.
use Rattle.std.proofs.Common.{◌≡◌, Bool, List, [], ◌∷◌, map, sym, ap, ◌∙◌}
use Rattle.fore_base.specs.declared.place.Place.{Place}
use Rattle.c_ast.specs.declared.conditions.And.{And, roll-And, fold-roll-And}
use Rattle.c_ast.specs.declared.conditions.Cond as tree
use Rattle.c_ast.specs.declared.conditions.Test.{Test, fold-roll-Test}
use Rattle.c_ast.specs.declared.conditions.Test.TheOpen as layer
use Rattle.c_ast.specs.declared.conditions.Test.TheVariants as test
use Rattle.c_ast.specs.declared.conditions.Unary.{Unary, fold-roll-Unary}
use Rattle.c_ast.specs.declared.conditions.Unary.TheVariants as unary
use Rattle.c_ast.specs.declared.operands.Call.{Call, roll-Call, out-Call, out-roll-Call}
use Rattle.c_ast.specs.declared.operands.Name.{Name}
use Rattle.c_ast.specs.declared.operands.Operand.{Operand, out-Operand}
use Rattle.c_ast.specs.declared.operands.Operand.TheOpen as opened
use Rattle.c_ast.specs.declared.operands.Operand.TheVariants as operand
use Rattle.c_ast.specs.declared.operands.Path.{Path}
use Rattle.c_types.specs.declared.program.Cond.{Cond}
use Rattle.c_types.specs.declared.program.Cond.TheVariants as formula
use Rattle.c_typing.specs.Globals.{Globals}
use Rattle.c_typing.specs.Meanings.{meaning_of_path, meaning_of_operand, operand_meaning, place_of_operand}
use Rattle.c_typing.specs.Meanings.{operand_place, number_meaning, numeral}
use Rattle.c_typing.specs.Programs.{comparison, truth, all_of, any_of, test_of, unary_of, and_of, cond_of}
use Rattle.c_typing.specs.Programs as made
use Rattle.c_typing.specs.Scopes.{Scope}
use Rattle.c_typing.specs.Sites.{Site, Calls, read_sites, operand_sites, operand_step, choice_at}
use Rattle.c_typing.specs.Sites.{compare_sites, test_sites, unary_sites, and_sites, cond_sites}
use Rattle.c_typing.specs.Sites as sites
use Rattle.c_typing.specs.Texts.{joined}
use Rattle.c_typing.specs.declared.meaning.Meaning.TheVariants as meaning
use Rattle.c_typing.specs.declared.meaning.Spot.{Spot}
use Rattle.c_typing.specs.declared.meaning.Spot.TheVariants.{Condition}

pub layer-Path : (p : Path) → out-Operand (operand.Path p) ≡ opened.Path p
layer-Path p = operand.outs-Path p

pub layer-Call : (c : Call) → out-Operand (operand.Call c) ≡ opened.Call c
layer-Call c = operand.outs-Call c

pub layer-Number : (n : Name) → out-Operand (operand.Number n) ≡ opened.Number n
layer-Number n = operand.outs-Number n

pub layer-Null : (at : Place) → out-Operand (operand.Null at) ≡ opened.Null at
layer-Null at = operand.outs-Null at

pub layer-True : (at : Place) → out-Operand (operand.True at) ≡ opened.True at
layer-True at = operand.outs-True at

pub layer-False : (at : Place) → out-Operand (operand.False at) ≡ opened.False at
layer-False at = operand.outs-False at

pub layer-of-Call : (name : Name) (operands : List Operand)
    → out-Call (roll-Call (record { name = name; operands = operands })) ≡ record { name = name; operands = operands }
layer-of-Call name operands = out-roll-Call (record { name = name; operands = operands })

pub place-Path : (p : Path) → place_of_operand (operand.Path p) ≡ p.head.at
place-Path p = ap operand_place (operand.outs-Path p)

pub place-Call : (c : Call) → place_of_operand (operand.Call c) ≡ (out-Call c).name.at
place-Call c = ap operand_place (operand.outs-Call c)

pub place-Number : (n : Name) → place_of_operand (operand.Number n) ≡ n.at
place-Number n = ap operand_place (operand.outs-Number n)

pub place-Null : (at : Place) → place_of_operand (operand.Null at) ≡ at
place-Null at = ap operand_place (operand.outs-Null at)

pub place-True : (at : Place) → place_of_operand (operand.True at) ≡ at
place-True at = ap operand_place (operand.outs-True at)

pub place-False : (at : Place) → place_of_operand (operand.False at) ≡ at
place-False at = ap operand_place (operand.outs-False at)

module _ (g : Globals) (scope : Scope) where
  pub sites-Compare : (l : Operand) (e : Bool) (r : Operand) → test_sites g scope (test.Compare l e r)
      ≡ compare_sites g scope l r
  sites-Compare l e r = ap (test_sites g scope) (sym (test.rolls-Compare l e r))
      ∙ fold-roll-Test (List Site) (List Site) (List Site) (List Site) (sites.test_step g scope)
      (sites.unary_step g scope) (sites.and_step g scope) (sites.cond_step g scope) (layer.Compare l e r)

  pub sites-Unary : (u : Unary) → test_sites g scope (test.Unary u) ≡ unary_sites g scope u
  sites-Unary u = ap (test_sites g scope) (sym (test.rolls-Unary u))
      ∙ fold-roll-Test (List Site) (List Site) (List Site) (List Site) (sites.test_step g scope)
      (sites.unary_step g scope) (sites.and_step g scope) (sites.cond_step g scope) (layer.Unary u)

  pub sites-Not : (at : Place) (u : Unary) → unary_sites g scope (unary.Not at u) ≡ unary_sites g scope u
  sites-Not at u = ap (unary_sites g scope) (sym (unary.rolls-Not at u))
      ∙ fold-roll-Unary (List Site) (List Site) (List Site) (List Site) (sites.test_step g scope)
      (sites.unary_step g scope) (sites.and_step g scope) (sites.cond_step g scope) (layer.Not at u)

  pub sites-Bracket : (at : Place) (c : tree.Cond) → unary_sites g scope (unary.Bracket at c) ≡ cond_sites g scope c
  sites-Bracket at c = ap (unary_sites g scope) (sym (unary.rolls-Bracket at c))
      ∙ fold-roll-Unary (List Site) (List Site) (List Site) (List Site) (sites.test_step g scope)
      (sites.unary_step g scope) (sites.and_step g scope) (sites.cond_step g scope) (layer.Bracket at c)

  pub sites-Operand : (o : Operand) → unary_sites g scope (unary.Operand o) ≡ operand_sites g scope Condition o
  sites-Operand o = ap (unary_sites g scope) (sym (unary.rolls-Operand o))
      ∙ fold-roll-Unary (List Site) (List Site) (List Site) (List Site) (sites.test_step g scope)
      (sites.unary_step g scope) (sites.and_step g scope) (sites.cond_step g scope) (layer.Operand o)

  pub sites-tests : (tests : List Test) → and_sites g scope (roll-And (record { tests = tests }))
      ≡ joined (map (test_sites g scope) tests)
  sites-tests tests = fold-roll-And (List Site) (List Site) (List Site) (List Site) (sites.test_step g scope)
      (sites.unary_step g scope) (sites.and_step g scope) (sites.cond_step g scope) (record { tests = tests })

  pub sites-ands : (ands : List And) → cond_sites g scope (tree.roll-Cond (record { ands = ands }))
      ≡ joined (map (and_sites g scope) ands)
  sites-ands ands = tree.fold-roll-Cond (List Site) (List Site) (List Site) (List Site) (sites.test_step g scope)
      (sites.unary_step g scope) (sites.and_step g scope) (sites.cond_step g scope) (record { ands = ands })

  pub made-Compare : (l : Operand) (e : Bool) (r : Operand) → test_of g scope (test.Compare l e r)
      ≡ formula.Atom (comparison e (meaning_of_operand g scope l) (meaning_of_operand g scope r))
      (place_of_operand l).line
  made-Compare l e r = ap (test_of g scope) (sym (test.rolls-Compare l e r))
      ∙ fold-roll-Test Cond Cond Cond Cond (made.test_step g scope) (made.unary_step g scope) (made.and_step g scope)
      (made.cond_step g scope) (layer.Compare l e r)

  pub made-Unary : (u : Unary) → test_of g scope (test.Unary u) ≡ unary_of g scope u
  made-Unary u = ap (test_of g scope) (sym (test.rolls-Unary u))
      ∙ fold-roll-Test Cond Cond Cond Cond (made.test_step g scope) (made.unary_step g scope) (made.and_step g scope)
      (made.cond_step g scope) (layer.Unary u)

  pub made-Not : (at : Place) (u : Unary) → unary_of g scope (unary.Not at u) ≡ formula.Not (unary_of g scope u)
  made-Not at u = ap (unary_of g scope) (sym (unary.rolls-Not at u))
      ∙ fold-roll-Unary Cond Cond Cond Cond (made.test_step g scope) (made.unary_step g scope) (made.and_step g scope)
      (made.cond_step g scope) (layer.Not at u)

  pub made-Bracket : (at : Place) (c : tree.Cond) → unary_of g scope (unary.Bracket at c) ≡ cond_of g scope c
  made-Bracket at c = ap (unary_of g scope) (sym (unary.rolls-Bracket at c))
      ∙ fold-roll-Unary Cond Cond Cond Cond (made.test_step g scope) (made.unary_step g scope) (made.and_step g scope)
      (made.cond_step g scope) (layer.Bracket at c)

  pub made-Operand : (o : Operand) → unary_of g scope (unary.Operand o)
      ≡ formula.Atom (truth (meaning_of_operand g scope o)) (place_of_operand o).line
  made-Operand o = ap (unary_of g scope) (sym (unary.rolls-Operand o))
      ∙ fold-roll-Unary Cond Cond Cond Cond (made.test_step g scope) (made.unary_step g scope) (made.and_step g scope)
      (made.cond_step g scope) (layer.Operand o)

  pub made-tests : (tests : List Test) → and_of g scope (roll-And (record { tests = tests }))
      ≡ all_of (map (test_of g scope) tests)
  made-tests tests = fold-roll-And Cond Cond Cond Cond (made.test_step g scope) (made.unary_step g scope)
      (made.and_step g scope) (made.cond_step g scope) (record { tests = tests })

  pub made-ands : (ands : List And) → cond_of g scope (tree.roll-Cond (record { ands = ands }))
      ≡ any_of (map (and_of g scope) ands)
  made-ands ands = tree.fold-roll-Cond Cond Cond Cond Cond (made.test_step g scope) (made.unary_step g scope)
      (made.and_step g scope) (made.cond_step g scope) (record { ands = ands })

  pub meaning-Path : (p : Path) → meaning_of_operand g scope (operand.Path p) ≡ meaning_of_path g scope p
  meaning-Path p = ap (operand_meaning g scope) (operand.outs-Path p)

  pub operand-Path : (spot : Spot) (p : Path) → operand_sites g scope spot (operand.Path p) ≡ read_sites g scope p
  operand-Path spot p = ap (operand_step g scope spot) (operand.outs-Path p)

  pub meaning-Call : (c : Call) → meaning_of_operand g scope (operand.Call c) ≡ meaning.Call
  meaning-Call c = ap (operand_meaning g scope) (operand.outs-Call c)

  pub operand-Call : (spot : Spot) (c : Call) → operand_sites g scope spot (operand.Call c)
      ≡ Calls scope spot (out-Call c).name (out-Call c).operands ∷ []
  operand-Call spot c = ap (operand_step g scope spot) (operand.outs-Call c)

  pub meaning-Number : (n : Name) → meaning_of_operand g scope (operand.Number n) ≡ number_meaning (numeral n.text)
  meaning-Number n = ap (operand_meaning g scope) (operand.outs-Number n)

  pub operand-Number : (spot : Spot) (n : Name) → operand_sites g scope spot (operand.Number n) ≡ []
  operand-Number spot n = ap (operand_step g scope spot) (operand.outs-Number n)

  pub meaning-Null : (at : Place) → meaning_of_operand g scope (operand.Null at) ≡ meaning.Null
  meaning-Null at = ap (operand_meaning g scope) (operand.outs-Null at)

  pub operand-Null : (spot : Spot) (at : Place) → operand_sites g scope spot (operand.Null at) ≡ []
  operand-Null spot at = ap (operand_step g scope spot) (operand.outs-Null at)

  pub meaning-True : (at : Place) → meaning_of_operand g scope (operand.True at) ≡ meaning.Known 1
  meaning-True at = ap (operand_meaning g scope) (operand.outs-True at)

  pub operand-True : (spot : Spot) (at : Place) → operand_sites g scope spot (operand.True at) ≡ []
  operand-True spot at = ap (operand_step g scope spot) (operand.outs-True at)

  pub meaning-False : (at : Place) → meaning_of_operand g scope (operand.False at) ≡ meaning.Known 0
  meaning-False at = ap (operand_meaning g scope) (operand.outs-False at)

  pub operand-False : (spot : Spot) (at : Place) → operand_sites g scope spot (operand.False at) ≡ []
  operand-False spot at = ap (operand_step g scope spot) (operand.outs-False at)

pub ruleset condition_layers = (
  sites-Compare,
  sites-Unary,
  sites-Not,
  sites-Bracket,
  sites-Operand,
  sites-tests,
  sites-ands,
  made-Compare,
  made-Unary,
  made-Not,
  made-Bracket,
  made-Operand,
  made-tests,
  made-ands,
  meaning-Path,
  operand-Path,
  meaning-Call,
  operand-Call,
  meaning-Number,
  operand-Number,
  meaning-Null,
  operand-Null,
  meaning-True,
  operand-True,
  meaning-False,
  operand-False,
  place-Path,
  place-Call,
  place-Number,
  place-Null,
  place-True,
  place-False,
  layer-Path,
  layer-Call,
  layer-Number,
  layer-Null,
  layer-True,
  layer-False,
  layer-of-Call,
)
