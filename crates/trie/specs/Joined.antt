-- Calls with any limits, one after another: what they say together; and what a listing says to one who makes them.
use Rattle.std.specs.Prelude.{ℕ, ◌+◌, List, [], ◌∷◌, take, Option, Some, None}
use Rattle.nodes.specs.Listing.{Visit}
use Rattle.nodes.specs.Symbols.{Symbol, symbol, Ending, at_end, at_refusal, exports_in, visits_in, ending_of}
use Rattle.runs.specs.Runs.{Run}
use Rattle.trie.specs.Call.{Answer, export, more, end, refused, call}
use Rattle.trie.specs.declared.TrieWalk.{TrieWalk}

-- the exports, the sum of the visits, and how it ended, if it has
pub record Joined : Type 0 where
  pub exports : List Symbol
  pub visits : ℕ
  pub ending : Option Ending

abbrev pub joined : List Symbol → ℕ → Option Ending → Joined
joined exports visits ending = record { exports = exports; visits = visits; ending = ending }

-- a call that made n visits and left this buffer, and then the rest
abbrev pub join : (n : ℕ) (buffer : List ℕ) → (rest : Joined) → Answer → Joined
join n b rest (export len x) = joined (symbol (take len b) x ∷ rest.exports) (n + rest.visits) rest.ending
join n b rest more = joined rest.exports (n + rest.visits) rest.ending
join n b rest end = joined [] n (Some at_end)
join n b rest (refused number) = joined [] n (Some (at_refusal number))

-- calls to the first end or refusal; each is given the state and the buffer as the last one left them. `most` nodes may be open at once
unfoldable pub calls : (most : ℕ) → List ℕ → TrieWalk → (buffer limits : List ℕ) → Joined
calls most s w b [] = joined [] 0 None
calls most s w b (k ∷ ks) =
    let o = call most s k w b in
    let rest = calls most s o.reply.walk o.buffer ks in
    join o.reply.visits o.buffer rest o.reply.answer

-- what a listing says
abbrev pub joined_in : Run Visit → Joined
joined_in l = joined (exports_in l) (visits_in l) (Some (ending_of l))
