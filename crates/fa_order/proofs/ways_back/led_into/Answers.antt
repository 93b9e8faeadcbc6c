use Rattle.std.proofs.Common.{◌≡◌, ◌<◌, ℕ, List, length, true≢false, sym, subst, ap, ◌∙◌}
use Rattle.std.proofs.lemmas.Option.{slice_get_within}
use Rattle.fore_base.proofs.ListLemmas.{every_in}
use Rattle.fa_core.specs.declared.signature.RefMark.{RefMark}
use Rattle.fa_core.specs.declared.signature.Signature.{Signature}
use Rattle.fa_order.specs.Placing.{IsFirstLed}
use Rattle.fa_order.specs.inner.Backs.{LeadsBy, SignLeads}
use Rattle.fa_order.specs.inner.Stacks.{nth_refs}
use Rattle.fa_order.proofs.OpenBacks.{
  at_leads,
  first_by,
  first_here,
  get_item,
  leads_at,
  led_list,
  led_own,
  open_below,
  some_led,
}
use Rattle.fa_order.proofs.Weights.{nth_got, refs_below}
use Rattle.fa_order.proofs.ways_back.led_into.Goals as goal
use Rattle.fa_order.proofs.ways_back.led_into.Goals.{else-not-is_in-via-then-not-is_in+else-does_lead}
use Rattle.fa_order.proofs.ways_back.led_into.Goals.{else-not-is_in-via-else-not-is_in}

pub unreachable-requires : goal.unreachable-requires
unreachable-requires c =
    let ss = c.args.signatures.now in
    let s = c.index-signatures-into.result in
    let o = open_below ss c.args.placed.now c.args.from c.args.into c.requires.open in
    let at = get_item ss c.args.into s (slice_get_within ss c.args.into o.0 o.1) c.index-signatures-into.is in
    let roots = c.as_slice.ensures ∙ nth_got c.args.refers.now c.args.into c.at.result.now c.at.ensures in
    let marks : c.as_slice-marks.result.now ≡ s.refs = c.as_slice-marks.ensures
    ∙ ap (λ (x : Signature). x.refs) (sym c.index-signatures-into.is) in
    let signed : (r : ℕ) → LeadsBy ss c.args.from c.args.into r
    → SignLeads c.as_slice-marks.result.now c.args.from c.args.into r = (λ r l.
    subst (λ (ms : List RefMark). SignLeads ms c.args.from c.args.into r) (sym marks)
    (leads_at ss c.args.into s at c.args.from r l)) in
    some_led ss c.args.refers.now c.args.placed.now c.args.from c.args.into c.requires.within c.requires.open
    (λ n l. elim c.else-not-is_in.branch [
      | else-not-is_in-via-then-not-is_in+else-does_lead w ↦
          true≢false (sym (w.does_lead.ensures.1 (signed c.args.into l))
          ∙ w.if-does_lead.false)
      | else-not-is_in-via-else-not-is_in w ↦ n (c.is_in.ensures.0 w.if-not-is_in.false)
    ])
    (λ r i n l. c.in-None.ensures r (rw roots i) n (signed r l))

pub returns-clause-low : goal.returns-clause-low
returns-clause-low c =
    let roots = c.as_slice.ensures ∙ nth_got c.args.refers.now c.args.into c.at.result.now c.at.ensures in
    every_in (λ k. k < length c.args.refers.now) (nth_refs c.args.refers.now c.args.into) c.in-Some.root
    (refs_below (length c.args.refers.now) c.args.refers.now c.args.into c.requires.refers)
    (first_here (λ x. SignLeads c.as_slice-marks.result.now c.args.from c.args.into x) c.args.placed.now
    c.in-Some.root (nth_refs c.args.refers.now c.args.into)
    (subst (IsFirstLed (λ x. SignLeads c.as_slice-marks.result.now c.args.from c.args.into x) c.args.placed.now
    c.in-Some.root) roots c.in-Some.ensures.1))

pub returns-clause-led : goal.returns-clause-led
returns-clause-led c =
    let ss = c.args.signatures.now in
    let s = c.index-signatures-into.result in
    let o = open_below ss c.args.placed.now c.args.from c.args.into c.requires.open in
    let at = get_item ss c.args.into s (slice_get_within ss c.args.into o.0 o.1) c.index-signatures-into.is in
    let roots = c.as_slice.ensures ∙ nth_got c.args.refers.now c.args.into c.at.result.now c.at.ensures in
    let marks : c.as_slice-marks.result.now ≡ s.refs = c.as_slice-marks.ensures
    ∙ ap (λ (x : Signature). x.refs) (sym c.index-signatures-into.is) in
    let signed : (r : ℕ) → LeadsBy ss c.args.from c.args.into r
    → SignLeads c.as_slice-marks.result.now c.args.from c.args.into r = (λ r l.
    subst (λ (ms : List RefMark). SignLeads ms c.args.from c.args.into r) (sym marks)
    (leads_at ss c.args.into s at c.args.from r l)) in
    led_list (nth_refs c.args.refers.now) (LeadsBy ss) c.args.placed.now c.args.from c.args.into c.in-Some.root
    (λ n l. elim c.else-not-is_in.branch [
      | else-not-is_in-via-then-not-is_in+else-does_lead w ↦
          true≢false (sym (w.does_lead.ensures.1 (signed c.args.into l))
          ∙ w.if-does_lead.false)
      | else-not-is_in-via-else-not-is_in w ↦ n (c.is_in.ensures.0 w.if-not-is_in.false)
    ])
    (first_by ss c.args.into s at c.args.placed.now c.args.from c.in-Some.root (nth_refs c.args.refers.now c.args.into)
    (subst (λ (ms : List RefMark). IsFirstLed (λ x. SignLeads ms c.args.from c.args.into x) c.args.placed.now
    c.in-Some.root (nth_refs c.args.refers.now c.args.into)) marks
    (subst (IsFirstLed (λ x. SignLeads c.as_slice-marks.result.now c.args.from c.args.into x) c.args.placed.now
    c.in-Some.root) roots c.in-Some.ensures.1)))

pub returns-then-does_lead-clause-led : goal.returns-then-does_lead-clause-led
returns-then-does_lead-clause-led c =
    let ss = c.args.signatures.now in
    let s = c.index-signatures-into.result in
    let o = open_below ss c.args.placed.now c.args.from c.args.into c.requires.open in
    let at = get_item ss c.args.into s (slice_get_within ss c.args.into o.0 o.1) c.index-signatures-into.is in
    led_own (nth_refs c.args.refers.now) (LeadsBy ss) c.args.placed.now c.args.from c.args.into
    (λ i. true≢false (sym (c.is_in.ensures.1 i) ∙ c.if-not-is_in.true))
    (at_leads ss c.args.into s at c.args.from c.args.into
    (subst (λ (ms : List RefMark). SignLeads ms c.args.from c.args.into c.args.into)
    (c.as_slice-marks.ensures ∙ ap (λ (x : Signature). x.refs) (sym c.index-signatures-into.is))
    (c.does_lead.ensures.0 c.if-does_lead.true)))
