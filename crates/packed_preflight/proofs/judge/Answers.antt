-- `packed_preflight::judge` gives the verdict on all the sizes. Assumes nothing.
use Rattle.std.proofs.Common.{◌≡◌, rules}
use Rattle.packed_preflight.proofs.Flights.{flies}
use Rattle.packed_preflight.proofs.judge.Goals as goal

pub returns : goal.returns
returns g c flight is says =
    let e : c.in_ok-size.size ≡ c.args.size = search rules in
    rw (← e) (flies is _ _ _ _ _ c.read-words.ensures c.min-count.ensures (says _ _ _ _ c.fly.ensures))
