-- Trees of the ports of an inside, with the leaves that their references are outside.
use Rattle.std.proofs.Common.{◌≡◌, ℕ, false, true≢false, List, [], ◌∷◌, refl}
use Rattle.std.proofs.Common.{sym, ap, subst, Some}
use Rattle.fore_base.specs.Lists.{IsIn, Every, Paired}
use Rattle.fore_base.specs.declared.store.Datum.{Datum}
use Rattle.fore_base.proofs.ListLemmas.{every_in, every_parts}
use Rattle.ta_core.specs.Auto.{Automaton, IsRanked, IsRankedRule}
use Rattle.ta_core.specs.Language.{RunOf, InLanguage}
use Rattle.ta_core.specs.declared.auto.Rule.{Rule}
use Rattle.ta_core.specs.declared.symbol.Symbol.{Symbol}
use Rattle.ta_core.specs.declared.symbol.Symbol.TheVariants.{Null as NullSymbol, Uninit as UninitSymbol}
use Rattle.ta_core.specs.declared.symbol.Symbol.TheVariants.{Dangling as DanglingSymbol, Ref, Cell}
use Rattle.fa_core.specs.declared.boxes.BoxDef.{BoxDef}
use Rattle.fa_core.specs.declared.forest.Target.{Target}
use Rattle.fa_core.specs.Cells.{is_leaf}
use Rattle.fa_core.specs.Dressed.{Node, Parts, node, no_parts, field, link, hook}
use Rattle.fa_core.specs.Member.{InsidesOf, InsidesOfParts, InsidesOfEnd, TreesOf, inside_of, bare, slots_of}
use Rattle.fa_core.specs.Placed.{placed, placed_parts, placed_auto}
use Rattle.fa_core.proofs.Placing.{in_placed, from_placed, placed_ranked}
use Rattle.fa_core.proofs.Rearranging.{every_moved}
use Rattle.fa_unfold.specs.Parts.{Part, FieldPart, LinkPart, HookPart, listed}
use Rattle.fa_unfold.specs.Slots.{joined, rule_places}
use Rattle.fa_unfold.specs.Unfolding.{IsTop}
use Rattle.fa_unfold.specs.inner.Trees.{unlisted}
use Rattle.fa_unfold.proofs.GrownTrees.{IsCellOf, top_rule_of, top_by, rule_runs, run_by_places}
use Rattle.fa_unfold.proofs.Joins.{joined_same}
use Rattle.fa_unfold.proofs.PlaceRuns.{PlaceOf}

-- Rules of cells.

pub is_cell : (y : Symbol) → is_leaf y ≡ false → (s : ℕ) × (ds : List Datum) × IsCellOf y s ds
is_cell NullSymbol e = absurd (true≢false e)
is_cell UninitSymbol e = absurd (true≢false e)
is_cell DanglingSymbol e = absurd (true≢false e)
is_cell (Ref r) e = absurd (true≢false e)
is_cell (Cell s ds ss) e = (s, ds, (ss, refl))

pub cell_is : (y : Symbol) (s : ℕ) (ds : List Datum) → IsCellOf y s ds → is_leaf y ≡ false
cell_is y s ds h = ap is_leaf h.1

-- Insides of slots.

abbrev pub PartInside : List BoxDef → Part → Type 0
PartInside T (FieldPart f e) = InsidesOfEnd T e
PartInside T (LinkPart b i e) =
    ((autos : List Automaton) × (inside_of T b ≡ Some autos) × TreesOf T autos i) × InsidesOfEnd T e
PartInside T (HookPart b i) = (autos : List Automaton) × (inside_of T b ≡ Some autos) × TreesOf T autos i

module _ (T : List BoxDef) where
  pub insides_listed : (ps : Parts) → InsidesOfParts T ps → Every (PartInside T) (listed ps)
  insides_listed no_parts h = tt
  insides_listed (field f e ps) h = (h.0, insides_listed ps h.1)
  insides_listed (link b i e ps) h = ((h.0, h.1), insides_listed ps h.2)
  insides_listed (hook b i ps) h = (h.0, insides_listed ps h.1)

  pub insides_unlisted : (xs : List Part) → Every (PartInside T) xs → InsidesOfParts T (unlisted xs)
  insides_unlisted [] h = tt
  insides_unlisted (FieldPart f e ∷ xs) h = (h.0, insides_unlisted xs h.1)
  insides_unlisted (LinkPart b i e ∷ xs) h = (h.0.0, h.0.1, insides_unlisted xs h.1)
  insides_unlisted (HookPart b i ∷ xs) h = (h.0, insides_unlisted xs h.1)

pub joined_each : {X : Type 0} (P : X → Type 0) (key : X → ℕ) (xs ys : List X) → Every P (joined key xs ys)
    → Every P xs × Every P ys
joined_each P key xs ys h =
    let k = every_parts P ys xs (every_moved P (joined_same key xs ys) h) in (k.1, k.0)

-- Ports.

abbrev parts_of : Node → Parts
parts_of (node c s ds ps) = ps

module _ (f : ℕ → Target) (T : List BoxDef) (b : Automaton) (ranked : IsRanked b) where
  abbrev port : Automaton
  port = placed_auto f b

  -- a tree of the port whose slots, with other leaves, are these
  pub record IsPortTree (gained : List Part) : Type 0 where
    pub cell : ℕ
    pub shape : ℕ
    pub datums : List Datum
    pub parts : Parts
    pub tree : InLanguage b (bare (node cell shape datums parts))
    pub insides : InsidesOfParts T parts
    pub is : placed_parts f parts ≡ unlisted gained

  pub port_from : (z : Rule) (gained : List Part) → IsIn z port.rules → IsTop port z
      → Paired (PlaceOf (RunOf port.rules)) (rule_places z) gained → Every (PartInside T) gained → IsPortTree gained
  port_from z gained i o h k =
      let y = is_cell z.symbol o.1 in
      let r = run_by_places port.rules port.states z 0 y.0 y.1 gained i
      (every_in (IsRankedRule port.states) port.rules z (placed_ranked f b ranked).1 i) y.2 h in
      let m = from_placed f T b (node 0 y.0 y.1 (unlisted gained)) (z.state, o.0.0, r) (insides_unlisted T gained k) in
      told m.0 m.2 m.3 y.0 y.1 m.1
    where
      told : (n : Node) → InLanguage b (bare n) → InsidesOf T n → (s : ℕ) (ds : List Datum)
          → placed f n ≡ node 0 s ds (unlisted gained) → IsPortTree gained
      told (node c s ds ps) l j s2 ds2 e =
          record { cell = c; shape = s; datums = ds; parts = ps; tree = l; insides = j; is = ap parts_of e }

  pub port_to : (c s : ℕ) (ds : List Datum) (ps : Parts) → InLanguage b (bare (node c s ds ps)) → (z : Rule)
      × IsIn z port.rules × IsTop port z × Paired (PlaceOf (RunOf port.rules)) (rule_places z)
      (listed (placed_parts f ps))
      × (z.symbol ≡ Cell s ds (slots_of (placed_parts f ps)))
  port_to c s ds ps h =
      let l = in_placed f b (node c s ds ps) h in
      let x = top_rule_of port.rules l.0 c s ds (placed_parts f ps) l.2 in (
        x.0,
        x.1,
        (
          (
            subst (λ (q : ℕ). IsIn q port.roots) (sym x.2) l.1,
            (bare (node c s ds (placed_parts f ps)), top_by port.rules x.0 c s ds (placed_parts f ps) x.3 x.4),
          ),
          ap is_leaf x.3,
        ),
        rule_runs port.rules x.0 s ds (placed_parts f ps) x.3 x.4,
        x.3,
      )
