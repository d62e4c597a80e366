-- What a stream lists: its entries in order, each with the byte position of its operation and its index in the repeat, and how it ends;
-- and what of it a caller hears.
use Rattle.std.specs.Prelude.{ℕ, zero, suc, List, Option, None, Some}
use Rattle.cursor.specs.Motion.{turn_of}
use Rattle.cursor.specs.declared.Turn.{Turn}
use Rattle.cursor.specs.declared.Turn.TheVariants.{On, Anew, Due, End, Refused}
use Rattle.listing.specs.Machine.{Machine}
use Rattle.listing.specs.Stream.{Stream, out, bad, one, stream_at}
use Rattle.places.specs.Places.{place_at}
use Rattle.refusal.specs.Numbers.{number_of}
use Rattle.runs.specs.Runs.{Run, stops, fails, gives}
use Rattle.refusal.specs.declared.Refusal.{Refusal}

pub data Listing (Item : Type 0) : Type 0 where
  ends : (operations : ℕ) → Listing Item  -- so many were read
  refuses : (number position : ℕ) → Listing Item
  lists : (position index : ℕ) → Item → Listing Item → Listing Item

module _ {Op Reg Item : Type 0} (M : Machine Op Reg Item) where
  -- n entries from index i on, of an operation whose place 0 is at an offset; then the rest
  unfoldable pub places : (position : ℕ) → Reg → (offset advance i n : ℕ) → Listing Item → Listing Item
  places position g offset advance i zero rest = rest
  places position g offset advance i (suc n) rest =
      lists position i (M.item g (place_at offset advance i)) (places position g offset advance (suc i) n rest)

  -- the places of a repeat, unless they lack something
  unfoldable pub repeated : (position : ℕ) → Reg → (offset advance n : ℕ) → Listing Item → Option Refusal → Listing Item
  repeated position g offset advance n rest None = places position g offset advance 0 n rest
  repeated position g offset advance n rest (Some e) = refuses (number_of e) position

  -- what a turn lists, with k operations read before it; `rest` is what the operations behind list from registers and an offset on
  unfoldable pub listed : (position k : ℕ) → Reg → (offset : ℕ) → (Reg → ℕ → Listing Item) → Turn → Listing Item
  listed position k g offset rest (On to) = rest g to
  listed position k g offset rest Anew = rest g 0
  listed position k g offset rest (Due left advance) =
      repeated position g offset advance (suc left) (rest g (place_at offset advance (suc left))) (M.lack g)
  listed position k g offset rest End = ends (suc k)
  listed position k g offset rest (Refused e) = refuses (number_of e) position

  -- what operations list, from registers and an offset on, with k read before them
  unfoldable pub listing_of : (size : ℕ) → Stream Op → (k : ℕ) → Reg → (offset : ℕ) → Listing Item
  listing_of size out k g offset = ends k
  listing_of size (bad e position) k g offset = refuses (number_of e) position
  listing_of size (one position op next rest) k g offset =
      let did = M.effect size op g in
      listed position k did.registers offset (listing_of size rest (suc k)) (turn_of size offset did.motion)

  -- what a stream lists, by the pointer size and the registers of the start
  unfoldable pub listing : (size : ℕ) → Reg → List ℕ → Listing Item
  listing size g s = listing_of size (stream_at M s 0) 0 g 0

-- a listing as a caller hears it: of positions, indexes and operations nothing is said
unfoldable pub heard : {Item : Type 0} → Listing Item → Run Item
heard (ends operations) = stops
heard (refuses number position) = fails number
heard (lists position index x rest) = gives x (heard rest)
