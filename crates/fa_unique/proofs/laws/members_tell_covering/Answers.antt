use Rattle.fa_unique.proofs.MembersCover.{members_cover}
use Rattle.fa_unique.proofs.laws.members_tell_covering.Goals as goal

pub returns : goal.returns
returns c = λ face T F G table p q full ranked. members_cover face T F G table p q full ranked
