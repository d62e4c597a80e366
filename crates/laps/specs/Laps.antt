-- A lap: calls of a walk in a row, each from the state that the last one handed back, up to the first that yields no item; and the sum of one
-- number of each item, modulo 2^64.
use Rattle.std.specs.Prelude.{◌≡◌, ℕ, zero, suc, ◌+◌, ◌-◌, ◌%◌, ◌^◌, List}
use Rattle.bind.specs.Binds.{plainly, binds}
use Rattle.bind.specs.declared.Bind.{Bind}
use Rattle.chains.specs.Call as segments
use Rattle.chains.specs.declared.Segment.{Segment}
use Rattle.chains.specs.declared.SegmentWalk.{SegmentWalk}
use Rattle.listing.specs.Call.{begin, call}
use Rattle.pages.specs.Call as pages
use Rattle.pages.specs.declared.Patch.{Patch}
use Rattle.rebase.specs.Rebases.{unset, rebases}
use Rattle.rebase.specs.declared.Rebase.{Rebase}
use Rattle.runs.specs.Runs.{Begin, begun, not_begun, Answer, item, end, refused}
use Rattle.runs.specs.Told.{told}
use Rattle.runs.specs.declared.Step.{Step}
use Rattle.trie.specs.Call as trie
use Rattle.trie.specs.declared.TrieWalk.{TrieWalk}

-- ---- any walk

-- by what a call answers; `rest` is what the calls behind sum up to
abbrev pub turn : {W X : Type 0} → (value : X → ℕ) (rest : (sum : ℕ) → W → ℕ) (sum : ℕ) → Answer W X → ℕ
turn value rest sum (item x w) = rest ((sum + value x) % 2 ^ 64) w
turn value rest sum (end w) = sum
turn value rest sum (refused e w) = sum

-- n calls at most, from a sum and a state on
unfoldable pub lap : {W X : Type 0} → (value : X → ℕ) (call : W → Answer W X) (n sum : ℕ) → W → ℕ
lap value call zero sum w = sum
lap value call (suc n) sum w = turn value (lap value call n) sum (call w)

-- a step that may answer so is that call's; and a value that may be so is that number
abbrev pub IsCall : {W X : Type 0} → (step : W → Step W X → Type 0) (call : W → Answer W X) → Type 0
IsCall {W} {X} step call = (w : W) (a : Step W X) → step w a → told a ≡ call w

abbrev pub IsNumber : {X : Type 0} → (value : X → ℕ → Type 0) (number : X → ℕ) → Type 0
IsNumber {X} value number = (x : X) (n : ℕ) → value x n → n ≡ number x

-- the sum of a lap, whatever call and number they are
abbrev pub IsLap : {W X : Type 0} → (step : W → Step W X → Type 0) (value : X → ℕ → Type 0) (limit : ℕ) (start : W) (sum : ℕ) → Type 0
IsLap {W} {X} step value limit start sum = (call : W → Answer W X) (number : X → ℕ) → IsCall step call → IsNumber value number → sum ≡ lap number call limit 0 start

-- from a start on; 0 where it is refused
abbrev pub from_start : {W : Type 0} → (W → ℕ) → Begin W → ℕ
from_start rest (begun w) = rest w
from_start rest (not_begun e) = 0

-- of the first item; 0 where there is none
abbrev pub of_item : {W X : Type 0} → (X → ℕ) → Answer W X → ℕ
of_item rest (item x w) = rest x
of_item rest (end w) = 0
of_item rest (refused e w) = 0

-- ---- streams: the offsets

abbrev pub rebase_offset : Rebase → ℕ
rebase_offset x = x.offset

abbrev pub rebase_sum : List ℕ → (size limit : ℕ) → ℕ
rebase_sum s size limit = from_start (lap rebase_offset (call rebases s) limit 0) (begin size unset)

abbrev pub bind_offset : Bind → ℕ
bind_offset x = x.offset

abbrev pub bind_sum : List ℕ → (size limit : ℕ) → ℕ
bind_sum s size limit = from_start (lap bind_offset (call binds s) limit 0) (begin size plainly)

-- ---- the fixups of a segment: the places. `s` are the bytes of the chained fixups, `d` those of the segment

abbrev pub fixup_place : Patch → ℕ
fixup_place x = x.place

abbrev pub segment_sum : (s d : List ℕ) (base limit : ℕ) → Segment → ℕ
segment_sum s d base limit g = from_start (lap fixup_place (pages.call s d) limit 0) (pages.begin s g base)

abbrev pub step_sum : (s d : List ℕ) (base limit : ℕ) → SegmentWalk → ℕ
step_sum s d base limit v = of_item (segment_sum s d base limit) (segments.call s v)

-- the first segment's
abbrev pub page_sum : (s d : List ℕ) (base limit : ℕ) → ℕ
page_sum s d base limit = from_start (step_sum s d base limit) (segments.begin s)

-- ---- the exports of a trie: the lengths of the names; with the buffer as it is left

abbrev pub trie_turn : (rest : (sum : ℕ) → TrieWalk → List ℕ → ℕ × List ℕ) (sum : ℕ) → TrieWalk → List ℕ → trie.Answer → ℕ × List ℕ
trie_turn rest sum w b (trie.export len x) = rest ((sum + len) % 2 ^ 64) w b
trie_turn rest sum w b trie.more = (sum, b)
trie_turn rest sum w b trie.end = (sum, b)
trie_turn rest sum w b (trie.refused e) = (sum, b)

-- each call may visit as many nodes as a limit can say
unfoldable pub trie_lap : List ℕ → (n sum : ℕ) → TrieWalk → List ℕ → ℕ × List ℕ
trie_lap s zero sum w b = (sum, b)
trie_lap s (suc n) sum w b =
    let o = trie.call 256 s (2 ^ 64 - 1) w b in
    trie_turn (trie_lap s n) sum o.reply.walk o.buffer o.reply.answer
