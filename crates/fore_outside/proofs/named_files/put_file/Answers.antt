use Rattle.fore_outside.proofs.NamedFileLemmas.{set_held, set_others, pushed_held, pushed_others, same_place}
use Rattle.fore_outside.proofs.named_files.put_file.Goals as goal

pub returns-in-Some-clause-held : goal.returns-in-Some-clause-held
returns-in-Some-clause-held c =
    rw c.set.ensures (set_held c.args.files.now c.in-Some.at c.args.file
    (same_place _ _ _ _ _ _ c.place_of.ensures c.as_slice-2.ensures c.as_slice.ensures c.in-Some.is))

pub returns-in-Some-clause-others : goal.returns-in-Some-clause-others
returns-in-Some-clause-others c other differs =
    rw c.set.ensures (set_others c.args.files.now c.in-Some.at c.args.file other
    (same_place _ _ _ _ _ _ c.place_of.ensures c.as_slice-2.ensures c.as_slice.ensures c.in-Some.is) differs)

pub returns-in_ok-push-in-None-clause-held : goal.returns-in_ok-push-in-None-clause-held
returns-in_ok-push-in-None-clause-held c =
    rw c.in_ok-push-in-None.ensures.ok (pushed_held c.args.files.now c.args.file
    (same_place _ _ _ _ _ _ c.place_of.ensures c.as_slice-2.ensures c.as_slice.ensures c.in-None.is))

pub returns-in_ok-push-in-None-clause-others : goal.returns-in_ok-push-in-None-clause-others
returns-in_ok-push-in-None-clause-others c other differs =
    rw c.in_ok-push-in-None.ensures.ok (pushed_others c.args.files.now c.args.file other differs)
