-- In accord with the document where readers have slipped: a page start of 0xffff is no list of chains, though it has the mark of one; 0x8000
-- alone is a list. Assumes nothing.
use Rattle.std.proofs.Common.{◌≡◌, ℕ, ◌-◌, List, refl}
use Rattle.chains.specs.declared.Segment.{Segment}
use Rattle.pages.specs.Listing.{Page, chains, page}
use Rattle.runs.specs.Runs.{stops}

module _ (s d : List ℕ) (g : Segment) (base : ℕ) (p : Page) where
  pub none_first : page s d g base p 0xffff ≡ stops
  unfolding page
  none_first = refl

  pub list_at : page s d g base p 0x8000 ≡ chains s d g base p (g.count - 0) 0
  unfolding page
  list_at = refl
