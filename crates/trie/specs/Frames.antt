-- The open nodes of a walk: of each of its arrays the first `d`, the last of them for the node on top. A node on top that has no child
-- left to read is still one of them until a call closes it. How many there may be at once is `most`.
use Rattle.std.specs.Prelude.{ℕ, zero, suc, Bool, cond, ◌||◌, List, [], ◌∷◌, ltb, eqb, get_or}
use Rattle.nodes.specs.Child.{any}

-- what an array has for them, the one on top first
unfoldable pub top_down : List ℕ → (d : ℕ) → List ℕ
top_down xs zero = []
top_down xs (suc d) = get_or xs d 0 ∷ top_down xs d

abbrev pub one_above : (bound : ℕ) → List ℕ → Bool
one_above bound xs = any (λ y. ltb bound y) xs

-- there are more than may be, or one has its read place beyond the bytes or a name longer than the room
unfoldable pub out_of_range : (most : ℕ) (places lengths : List ℕ) (d bytes room : ℕ) → Bool
out_of_range most places lengths d bytes room =
    ltb most d || (one_above bytes (top_down places d) || one_above room (top_down lengths d))

-- how many are left when those on top that have no child left are closed
unfoldable pub still_open : (left : List ℕ) (d : ℕ) → ℕ
still_open left zero = 0
still_open left (suc d) = cond (eqb (get_or left d 0) 0) (still_open left d) (suc d)
