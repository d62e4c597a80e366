-- Calls through the entry point, one after another: what they say together, by their answers and the bytes that they write, and by nothing
-- else; and what calls of the walk say, told so.
use Rattle.std.specs.Prelude.{ℕ, ◌+◌, cond, List, [], ◌∷◌, map, eqb, length, take, Option, Some, None}
use Rattle.nodes.specs.Symbols.{Symbol, Ending, at_end, at_refusal}
use Rattle.packed_trie.specs.Packed.{most, states, export_words, stepped}
use Rattle.packing.specs.Boundary.{item_told, end_told, more_told, started}
use Rattle.packing.specs.Words.{word_at, words_from}
use Rattle.runs.specs.Runs.{begun}
use Rattle.trie.specs.Call.{at_start}
use Rattle.trie.specs.Joined.{Joined}

-- an export: its name, and the words of the item behind the visits
pub record SymbolWords : Type 0 where
  pub name : List ℕ
  pub words : List ℕ

-- the exports, the sum of the visits, and the answer that ended it, if one has
pub record Said : Type 0 where
  pub exports : List SymbolWords
  pub visits : ℕ
  pub ending : Option ℕ

abbrev pub said : List SymbolWords → ℕ → Option ℕ → Said
said exports visits ending = record { exports = exports; visits = visits; ending = ending }

-- ---- by answers and bytes

-- the first word of an item says the visits, the second the length of the name in the name buffer
abbrev pub visits_of : (item : List ℕ) → ℕ
visits_of item = word_at item 0

abbrev pub symbol_words : (name item : List ℕ) → SymbolWords
symbol_words name item = record { name = take (word_at item 1) name; words = words_from item 1 8 }

-- a call that answered n and left these bytes, and then the rest
abbrev pub join_through : (n : ℕ) (name item : List ℕ) → (rest : Said) → Said
join_through n name item rest =
    cond (eqb n item_told) (said (symbol_words name item ∷ rest.exports) (visits_of item + rest.visits) rest.ending)
    (cond (eqb n more_told) (said rest.exports (visits_of item + rest.visits) rest.ending)
    (said [] (visits_of item) (Some n)))

-- calls to the first answer that is neither an item nor more; each is lent the bytes as the last one left them
unfoldable pub calls_through : (s state name item limits : List ℕ) → Said
calls_through s state name item [] = said [] 0 None
calls_through s state name item (k ∷ ks) =
    let p = stepped s k state name item in
    let rest = calls_through s p.1 p.2 p.3 ks in
    join_through p.0 p.2 p.3 rest

-- from a start, which is lent the state too
abbrev pub through_start : (s state name item limits : List ℕ) → Said
through_start s state name item limits = calls_through s (started states state (begun (at_start most))).1 name item limits

-- ---- of the walk

abbrev pub symbol_told : Symbol → SymbolWords
symbol_told x = record { name = x.name; words = export_words (length x.name) x.export }

abbrev pub ending_told : Option Ending → Option ℕ
ending_told None = None
ending_told (Some at_end) = Some end_told
ending_told (Some (at_refusal number)) = Some number

abbrev pub joined_told : Joined → Said
joined_told j = said (map symbol_told j.exports) j.visits (ending_told j.ending)
