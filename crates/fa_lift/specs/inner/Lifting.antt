-- Lists of lifted forests, and what the rules and signatures say of the edge.
use Rattle.std.specs.Prelude.{◌≡◌, ℕ, List, length}
use Rattle.fore_base.specs.Lists.{IsIn}
use Rattle.ta_core.specs.Auto.{Automaton}
use Rattle.ta_core.specs.Language.{InLanguage}
use Rattle.ta_core.specs.declared.auto.Rule.{Rule}
use Rattle.ta_core.specs.declared.tree.Tree.{Tree}
use Rattle.fa_core.specs.declared.faces.Face.{Face}
use Rattle.fa_core.specs.declared.forest.Forest.{Forest}
use Rattle.fa_core.specs.declared.signature.RefMark.{RefMark}
use Rattle.fa_sound.specs.Components.{component_at}
use Rattle.fa_sound.specs.Soundness.{SoundForest}
use Rattle.fa_lift.specs.Lift.{IsLiftOf, hatted, lift_in, lift_top, owner}

-- a mark of root r provides field f
abbrev pub MarksProvide : ℕ → ℕ → List RefMark → Type 0
MarksProvide r f ms = (m : RefMark) × IsIn m ms × (m.root ≡ r) × IsIn f m.provided

-- some forest of the list is G
abbrev pub Among : List SoundForest → Forest → Type 0
Among made G = (s : SoundForest) × IsIn s made × (s.forest ≡ G)

-- s is one of the lifted forests
abbrev pub IsLift : Face → Forest → ℕ → ℕ → ℕ → SoundForest → Type 0
IsLift face F r f t s = IsLiftOf face.boxes F r f t s.forest × (s.face ≡ face)

-- the list has the forests of rule x, whose edge stands at place p
pub record HasLifts (F : Forest) (r t : ℕ) (x : Rule) (p : ℕ) (made : List SoundForest) : Type 0 where
  pub tops : IsIn x.state (component_at F.autos t).roots → (u : Tree)
      → InLanguage (owner (component_at F.autos t) x p r) u → Among made (lift_top F r t x p)
  pub insides : (u k : Tree) → InLanguage (owner (component_at F.autos t) x p r) u
      → InLanguage (hatted (component_at F.autos t) x.state (length F.autos)) k
      → (c : Automaton) × InLanguage c k × Among made (lift_in F r t x p c)
