-- What a start and a call of a walk answer; and calls again and again, each from the state that the last one handed back, to the first end
-- or refusal: what they say. `W` are the states of the walk.
use Rattle.std.specs.Prelude.{ℕ, ◌≡◌}

-- a start: a state, or a refusal and no state
pub data Begin (W : Type 0) : Type 0 where
  begun : W → Begin W
  not_begun : (number : ℕ) → Begin W

-- a call: an item, the end or a refusal, and the next state
pub data Answer (W Item : Type 0) : Type 0 where
  item : Item → W → Answer W Item
  end : W → Answer W Item
  refused : (number : ℕ) → W → Answer W Item

-- items in order, and how they end
pub data Run (Item : Type 0) : Type 0 where
  stops : Run Item
  fails : (number : ℕ) → Run Item
  gives : Item → Run Item → Run Item

infixr 20 ◌then◌
-- the first, and behind it, where it does not fail, the second
unfoldable pub ◌then◌ : {Item : Type 0} → Run Item → Run Item → Run Item
stops then q = q
fails number then q = fails number
gives x r then q = gives x (r then q)

-- each item as something else of it
unfoldable pub mapped : {X Y : Type 0} → (X → Y) → Run X → Run Y
mapped f stops = stops
mapped f (fails number) = fails number
mapped f (gives x r) = gives (f x) (mapped f r)

-- calls from the state w on say this
pub data Walks {W Item : Type 0} (call : W → Answer W Item) : W → Run Item → Type 0 where
  at_end_lem : {w v : W} → call w ≡ end v → Walks call w stops
  at_refusal_lem : {w v : W} {e : ℕ} → call w ≡ refused e v → Walks call w (fails e)
  at_item : {w v : W} {x : Item} {r : Run Item} → call w ≡ item x v → Walks call v r → Walks call w (gives x r)
