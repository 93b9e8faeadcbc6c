-- A forest with other targets and data.
use Rattle.std.proofs.Common.{◌≡◌, ℕ, length, List, sym, subst}
use Rattle.fore_base.specs.Lists.{Every}
use Rattle.fore_base.specs.declared.store.Datum.{Datum}
use Rattle.fa_core.specs.declared.faces.Face.{Face}
use Rattle.fa_core.specs.declared.forest.Forest.{Forest}
use Rattle.fa_core.specs.declared.forest.Target.{Target}
use Rattle.fa_core.specs.Canonical.{IsCanonical}
use Rattle.fa_core.specs.Filled.{IsRoot, DatumFits, IsSound, IsWellFormed}
use Rattle.fa_core.proofs.Dressing.{choice_length}

abbrev other_vars : Forest → List Target → List Datum → Forest
other_vars F vs ds = record F { vars = vs; data_vars = ds }

module _ (face : Face) (F : Forest) (vs : List Target) (ds : List Datum) (targets : Every (IsRoot (length F.autos)) vs)
    (fits : Every DatumFits ds) where
  vars_well_formed : IsWellFormed face F → IsWellFormed face (other_vars F vs ds)
  vars_well_formed well = record {
    filled = record {
      data_vars = fits;
      rules = well.filled.rules;
      trees = λ ts c. (let f = well.filled.trees ts c in record {
        tops = f.tops;
        are = f.are;
        vars = subst (λ (n : ℕ). Every (IsRoot n) vs) (sym (choice_length F.autos ts c)) targets;
        cells = f.cells;
      });
    };
    signatures = well.signatures;
  }

  pub vars_sound : IsSound face F → IsSound face (other_vars F vs ds)
  vars_sound sound = record { well_formed = vars_well_formed sound.well_formed; full = sound.full }

  -- where the targets stay, so does the canonical form
  pub vars_canonical : vs ≡ F.vars → IsCanonical face F → IsCanonical face (other_vars F vs ds)
  vars_canonical e can = subst
      (λ (us : List Target). IsWellFormed face (other_vars F us ds) → IsCanonical face (other_vars F us ds)) (sym e)
      same (vars_well_formed can.well_formed)
    where
      same : IsWellFormed face (other_vars F F.vars ds) → IsCanonical face (other_vars F F.vars ds)
      same well =
          record { well_formed = well; tops = can.tops; kinds = can.kinds; untied = can.untied; order = can.order }
