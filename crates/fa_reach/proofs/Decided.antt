-- From choices of parts to choices of signatures.
use Rattle.std.proofs.Common.{ℕ, ◌<◌, List, length, sym, subst}
use Rattle.fa_core.specs.declared.signature.Signature.{Signature}
use Rattle.fa_reach.specs.Choices.{AllReach, SomeMissed, AlwaysLeads, NeverLeads, MayLead, MayMiss}
use Rattle.fa_reach.specs.declared.part.Part.{Part}
use Rattle.fa_reach.specs.inner.Parts.{AllParted, picked}
use Rattle.fa_reach.specs.inner.Going.{AllFit, Forced, Barred, MayMissBy, AlwaysBy, MayMeetBy, NeverBy}
use Rattle.fa_reach.proofs.Numbers.{picked_there, number_of, has_parts}
use Rattle.fa_reach.proofs.Signed.{chosen_of, signs_of, reached_goes, goes_reached, parted_long}

module _ (lists : List (List Signature)) (all : List (List Part)) (parted : AllParted 0 lists all) where
  pub always_leads : (i r : ℕ) → AlwaysBy all i r → AlwaysLeads lists i r
  always_leads i r f ss picks =
      let c = chosen_of 0 lists all ss parted picks in
      let k = number_of all c.parts c.picked in
      let g : Forced c.parts i r = subst (λ (ps : List Part). Forced ps i r) k.2 (f k.0 k.1) in
      goes_reached ss c.parts c.downs c.signed i r (g c.downs c.of)

  pub never_leads : (i r : ℕ) → NeverBy all i r → NeverLeads lists i r
  never_leads i r f ss picks h =
      let c = chosen_of 0 lists all ss parted picks in
      let k = number_of all c.parts c.picked in
      let g : Barred c.parts i r = subst (λ (ps : List Part). Barred ps i r) k.2 (f k.0 k.1) in
      g c.downs c.of (reached_goes ss c.parts c.downs c.signed i r h)

  module _ (fit : AllFit (length all) all) where
    pub may_miss : (i r : ℕ) → MayMissBy all i r → MayMiss lists i r
    may_miss i r w =
        let ps = picked all w.0 in
        let s = signs_of 0 lists all ps w.1.0 parted (picked_there all w.0 (has_parts (length all) all fit)) w.1.1 in
        (s.signs, s.picks, λ h. w.1.2 (reached_goes s.signs ps w.1.0 s.signed i r h))

    pub may_lead : (i r : ℕ) → MayMeetBy all i r → MayLead lists i r
    may_lead i r w =
        let ps = picked all w.0 in
        let s = signs_of 0 lists all ps w.1.0 parted (picked_there all w.0 (has_parts (length all) all fit)) w.1.1 in
        (s.signs, s.picks, goes_reached s.signs ps w.1.0 s.signed i r w.1.2)

    pub some_missed : (i : ℕ) → (r : ℕ) × (r < length all) × MayMissBy all i r → SomeMissed lists i
    some_missed i w =
        let m = may_miss i w.0 w.2 in
        (m.0, m.1, w.0, subst (λ (n : ℕ). w.0 < n) (parted_long 0 lists all parted) w.1, m.2)

  pub all_reach : (i : ℕ) → ((r : ℕ) → r < length all → AlwaysBy all i r) → AllReach lists i
  all_reach i f ss picks r l =
      always_leads i r (f r (subst (λ (n : ℕ). r < n) (sym (parted_long 0 lists all parted)) l)) ss picks
