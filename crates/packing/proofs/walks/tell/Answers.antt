-- `packing::walks::tell` tells each of the three answers. Assumes nothing.
use Rattle.std.proofs.Common.{rules, refl, sym}
use Rattle.packing.proofs.Boundary.{three}
use Rattle.packing.proofs.Crossing.{reports_told}
use Rattle.packing.proofs.walks.tell.Goals as goal

pub returns-in-Item : goal.returns-in-Item
returns-in-Item g c =
    reports_told g.L.Layout.states g.L.Layout.items _ _ _ _ c.requires.state_len c.requires.item_len _ _ c.report.ensures c.in-Item.is (search rules) (search rules)
    (three refl c.state.ensures c.item.ensures)

pub returns-in-End : goal.returns-in-End
returns-in-End g c =
    reports_told g.L.Layout.states g.L.Layout.items _ _ _ _ c.requires.state_len c.requires.item_len _ _ c.report-in-End.ensures c.in-End.is (search rules) (search rules)
    (three refl c.state-in-End.ensures (sym g.met.L.Layout.blank))

pub returns-in-Refused : goal.returns-in-Refused
returns-in-Refused g c =
    reports_told g.L.Layout.states g.L.Layout.items _ _ _ _ c.requires.state_len c.requires.item_len _ _ c.report-in-Refused.ensures c.in-Refused.is (search rules) (search rules)
    (three c.refused.ensures c.state-in-Refused.ensures (sym g.met.L.Layout.blank))
