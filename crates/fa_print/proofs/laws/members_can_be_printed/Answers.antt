use Rattle.fa_print.proofs.MemberLemmas.{member_printed}
use Rattle.fa_print.proofs.laws.members_can_be_printed.Goals as goal

pub returns : goal.returns
returns c = member_printed
