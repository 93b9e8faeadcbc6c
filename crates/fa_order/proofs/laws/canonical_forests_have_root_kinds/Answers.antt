use Rattle.fa_order.proofs.laws.canonical_forests_have_root_kinds.Goals as goal

pub returns : goal.returns
returns c = λ face F can. record { tops = can.tops; kinds = can.kinds; untied = can.untied }
