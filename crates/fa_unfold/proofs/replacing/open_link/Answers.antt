use Rattle.fa_unfold.proofs.replacing.open_link.Goals as goal

pub open_root-requires-clause-ranked : goal.open_root-requires-clause-ranked
open_root-requires-clause-ranked c = c.requires.by.0

pub with_end-requires : goal.with_end-requires
with_end-requires c = rw (c.in_ok-opened.ensures, c.as_slice-rules.ensures) c.requires.by.1
