-- What each entry point answers and writes: the number, then every buffer that it is lent, for all bytes, states and numbers.
use Rattle.std.specs.Prelude.{ℕ, ◌+◌, cond, List, [], ◌∷◌, eqb, leb, length}
use Rattle.bind.specs.Binds.{plainly, weakly, lazily, binds}
use Rattle.chains.specs.Call as chains
use Rattle.imports.specs.Call as imports
use Rattle.listing.specs.Call as listing
use Rattle.packed_bind.specs.Packed as bind
use Rattle.packed_imports.specs.Packed as import
use Rattle.packed_pages.specs.Packed as page
use Rattle.packed_rebase.specs.Packed as rebase
use Rattle.packed_segments.specs.Packed as segment
use Rattle.packed_trie.specs.Packed as exports
use Rattle.packing.specs.Boundary.{item_told, unfit, started, stepped}
use Rattle.packing.specs.Words.{bytes_of}
use Rattle.pages.specs.Call as pages
use Rattle.rebase.specs.Rebases.{unset, rebases}
use Rattle.runs.specs.Runs.{begun}
use Rattle.trie.specs.Call.{at_start}

-- ---- rebase streams

abbrev pub rebase_start : (size : ℕ) (state : List ℕ) → ℕ × List ℕ
rebase_start size state = started rebase.states state (listing.begin size unset)

abbrev pub rebase_step : (stream state item : List ℕ) → ℕ × List ℕ × List ℕ
rebase_step stream state item = stepped rebase.states rebase.items state item (listing.call rebases stream)

-- ---- bind streams

abbrev pub bind_plain : (size : ℕ) (state : List ℕ) → ℕ × List ℕ
bind_plain size state = started bind.states state (listing.begin size plainly)

abbrev pub bind_weak : (size : ℕ) (state : List ℕ) → ℕ × List ℕ
bind_weak size state = started bind.states state (listing.begin size weakly)

abbrev pub bind_lazy : (size : ℕ) (state : List ℕ) → ℕ × List ℕ
bind_lazy size state = started bind.states state (listing.begin size lazily)

abbrev pub bind_step : (stream state item : List ℕ) → ℕ × List ℕ × List ℕ
bind_step stream state item = stepped bind.states bind.items state item (listing.call binds stream)

-- ---- the exports trie

abbrev pub trie_start : (state : List ℕ) → ℕ × List ℕ
trie_start state = started exports.states state (begun (at_start exports.most))

-- the name buffer stands before the item
abbrev pub trie_step : (trie state name : List ℕ) (limit : ℕ) (item : List ℕ) → ℕ × List ℕ × List ℕ × List ℕ
trie_step trie state name limit item = exports.stepped trie limit state name item

-- ---- chained fixups

abbrev pub segment_start : (fixups state : List ℕ) → ℕ × List ℕ
segment_start fixups state = started segment.states state (chains.begin fixups)

abbrev pub segment_step : (fixups state item : List ℕ) → ℕ × List ℕ × List ℕ
segment_step fixups state item = stepped segment.states segment.items state item (chains.call fixups)

abbrev pub page_start : (fixups segment : List ℕ) (base : ℕ) (state : List ℕ) → ℕ × List ℕ
page_start fixups segment base state = started page.states state (page.begin_at fixups segment base)

abbrev pub page_step : (fixups contents state item : List ℕ) → ℕ × List ℕ × List ℕ
page_step fixups contents state item = stepped page.states page.items state item (pages.call fixups contents)

abbrev pub import_start : (fixups state : List ℕ) → ℕ × List ℕ
import_start fixups state = started import.states state (imports.begin fixups)

abbrev pub import_step : (fixups state item : List ℕ) → ℕ × List ℕ × List ℕ
import_step fixups state item = stepped import.states import.items state item (imports.call fixups)

-- ---- names

-- place and length of a part of so many bytes; 0 and 0, so none of them, where it does not lie in them
abbrev pub part_words : (len place size : ℕ) → List ℕ
part_words len place size =
    let lies = leb (place + size) len in
    cond lies place 0 ∷ cond lies size 0 ∷ []

abbrev pub name : (bytes : List ℕ) (place size : ℕ) (part : List ℕ) → ℕ × List ℕ
name bytes place size part = cond (eqb (length part) 16) (item_told, bytes_of (part_words (length bytes) place size)) (unfit, part)
