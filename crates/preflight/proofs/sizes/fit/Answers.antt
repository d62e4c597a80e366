-- What `all` finds is what the definition says, size by size.
use Rattle.std.proofs.Common.{rules, leb, tests}
use Rattle.std.proofs.lemmas.Iterator.{YieldsList-from_slice}
use Rattle.std.proofs.lemmas.Iterator.Search.{all_from_yields_List}
use Rattle.places.specs.Places.{largest_size}
use Rattle.preflight.proofs.Small.{by_sizes}
use Rattle.preflight.proofs.sizes.fit.Goals as goal

pub returns-then-sizes-le16 : goal.returns-then-sizes-le16
returns-then-sizes-le16 c =
    by_sizes c.args.sizes.now c.if-sizes-le16.true
    (all_from_yields_List (λ z. leb z largest_size) _ _ _ c.all.ensures.ran (YieldsList-from_slice c.args.sizes.now cc) (λ x b q k. search (rules, tests)))
