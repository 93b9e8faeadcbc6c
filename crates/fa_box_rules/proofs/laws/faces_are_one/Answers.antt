use Rattle.fa_box_rules.proofs.OneFace.{one_face}
use Rattle.fa_box_rules.proofs.laws.faces_are_one.Goals as goal

pub returns : goal.returns
returns c = λ t n m x y inside table insides ranked same sx sy.
    one_face t table insides n m x y inside ranked same sx sy
