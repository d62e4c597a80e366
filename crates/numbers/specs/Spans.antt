-- A span of bytes: up to the first that ends it, that one included.
use Rattle.std.specs.Prelude.{ℕ, Bool, cond, List, [], ◌∷◌}

pub data Span : Type 0 where
  span : List ℕ → Span
  unended : Span  -- the bytes run out before one ends it

abbrev pub in_front : ℕ → Span → Span
in_front b (span bs) = span (b ∷ bs)
in_front b unended = unended

-- the span that these bytes begin with (what a `let` binds waits: nothing behind the span is looked at)
unfoldable pub span_to : (ℕ → Bool) → List ℕ → Span
span_to ends [] = unended
span_to ends (b ∷ bs) = let more = in_front b (span_to ends bs) in cond (ends b) (span (b ∷ [])) more
