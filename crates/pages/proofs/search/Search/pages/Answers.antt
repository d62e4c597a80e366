-- By the start of the page that was read.
use Rattle.pages.proofs.Calls.{paging_none, paging_open}
use Rattle.std.proofs.Common.{◌<◌, ◌∙◌, arith}
use Rattle.pages.proofs.search.Search.pages.Goals as goal

pub returns-then-start-ne-NONE : goal.returns-then-start-ne-NONE
returns-then-start-ne-NONE c =
    let left : c.loop-page.page < c.args.self.walk.segment.page_count = omega (arith, c.from-page-end.ensures) in
    c.open_page.ensures
    ∙ paging_open c.args.self.s.now c.args.self.walk c.loop-page.invariant left c.in_ok-start.ensures c.on_page-w.ensures c.if-start-ne-NONE.true

pub loop-page-preserved : goal.loop-page-preserved
loop-page-preserved c =
    let left : c.loop-page.page < c.args.self.walk.segment.page_count = omega (arith, c.from-page-end.ensures) in
    paging_none c.args.self.s.now c.args.self.walk c.loop-page.invariant left c.in_ok-start.ensures c.on_page-w.ensures c.if-start-ne-NONE.false
