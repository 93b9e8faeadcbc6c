-- The chains that are looked at get shorter.
use Rattle.row_reports.proofs.least.+are_alike.Given as goal

abbrev pub decreases-are_alike : goal.decreases-are_alike
decreases-are_alike l = l.look
