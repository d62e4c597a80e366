-- The range of a state. Assumes nothing.
use Rattle.std.proofs.Common.{◌≡◌, ℕ, ◌≤◌, false, le-ltb}
use Rattle.imports.specs.Call.{out_of_range}

-- a state that is in range: no place to read at is beyond the bytes
pub record InRange (place symbols len : ℕ) : Type 0 where
  pub place_in : place ≤ len
  pub symbols_in : symbols ≤ len

pub none_out : (place symbols len : ℕ) → InRange place symbols len → out_of_range place symbols len ≡ false
none_out place symbols len i = rw (le-ltb len place i.place_in, le-ltb len symbols i.symbols_in)
