-- The pages before the next have no chain, and the walk stands there.
use Rattle.pages.proofs.Calls.{Paging}
use Rattle.pages.proofs.search.Search.pages.Given as goal

abbrev pub invariant-loop-page : goal.invariant-loop-page
invariant-loop-page l = Paging l.self.s.now l.self.walk l.page l.w
