use Rattle.std.proofs.Common.{◌≡◌, ◌-◌}
use Rattle.laps.specs.Laps.{trie_lap}
use Rattle.trie.specs.Call.{at_start}
use Rattle.laps.proofs.exports.laps_trie.Given as goal

-- with the sum so far, the calls that are left make the whole
abbrev pub invariant-loop : goal.invariant-loop
invariant-loop l = trie_lap l.trie (l.limit - l.counter) l.sum l.w l.name ≡ trie_lap l.fn.trie l.fn.limit 0 (at_start 256) l.initial.name
