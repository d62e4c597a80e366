-- Every entry and every refusal of a listing has the position of its operation. Assumes nothing.
use Rattle.std.specs.Prelude.{Option, None, Some}
use Prim.Native.Nat.{ℕ, zero, suc}
use Rattle.cursor.specs.Motion.{turn_of}
use Rattle.cursor.specs.declared.Turn.{Turn}
use Rattle.cursor.specs.declared.Turn.TheVariants.{On, Anew, Due, End, Refused}
use Rattle.listing.specs.Listing.{Listing, ends, refuses, lists, places, repeated, listed, listing_of}
use Rattle.listing.specs.Machine.{Machine}
use Rattle.listing.specs.Stream.{Stream, out, bad, one}
use Rattle.refusal.specs.declared.Refusal.{Refusal}

-- along the operations of a stream, in order: entries and refusals of the first one, or those of the operations behind it
pub data Along {Op Item : Type 0} : Stream Op → Listing Item → Type 0 where
  at_end_lem : {xs : Stream Op} {operations : ℕ} → Along xs (ends operations)
  at_bad : {e : Refusal} {position number : ℕ} → Along (bad e position) (refuses number position)
  at_refusal_lem : {position next number : ℕ} {op : Op} {rest : Stream Op} → Along (one position op next rest) (refuses number position)
  at_entry : {position next index : ℕ} {op : Op} {rest : Stream Op} {x : Item} {l : Listing Item} →
      Along (one position op next rest) l → Along (one position op next rest) (lists position index x l)
  behind : {position next : ℕ} {op : Op} {rest : Stream Op} {l : Listing Item} → Along rest l → Along (one position op next rest) l

module _ {Op Reg Item : Type 0} (M : Machine Op Reg Item) (p : ℕ) (op : Op) (next : ℕ) (xs : Stream Op) where
  -- of the operation at p, and those behind it
  abbrev Here : Listing Item → Type 0
  Here = Along (one p op next xs)

  module _ (g : Reg) (o : ℕ) where
    places_at : (a i n : ℕ) {l : Listing Item} → Here l → Here (places M p g o a i n l)
    unfolding places
    places_at a i zero h = h
    places_at a i (suc n) h = at_entry (places_at a (suc i) n h)

    repeated_at : (a n : ℕ) {l : Listing Item} → Here l → (lack : Option Refusal) → Here (repeated M p g o a n l lack)
    unfolding repeated
    repeated_at a n h None = places_at a 0 n h
    repeated_at a n h (Some e) = at_refusal_lem

    turn_at : (k : ℕ) {rest : Reg → ℕ → Listing Item} → ((h : Reg) (f : ℕ) → Along xs (rest h f)) → (t : Turn) → Here (listed M p k g o rest t)
    unfolding listed
    turn_at k h (On to) = behind (h g to)
    turn_at k h Anew = behind (h g 0)
    turn_at k h (Due left a) = repeated_at a (suc left) (behind (h g _)) (M.lack g)
    turn_at k h End = at_end_lem
    turn_at k h (Refused e) = at_refusal_lem

module _ {Op Reg Item : Type 0} (M : Machine Op Reg Item) (size : ℕ) where
  pub listed_at : (xs : Stream Op) (k : ℕ) (g : Reg) (o : ℕ) → Along xs (listing_of M size xs k g o)
  unfolding listing_of
  listed_at out k g o = at_end_lem
  listed_at (bad e p) k g o = at_bad
  listed_at (one p op next rest) k g o =
      let did = M.effect size op g in
      turn_at M p op next rest did.registers o k (listed_at rest (suc k)) (turn_of size o did.motion)
