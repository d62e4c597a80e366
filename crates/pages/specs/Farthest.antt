-- The largest offset that a page of a walk in range may have.
use Rattle.std.specs.Prelude.{ℕ, ◌*◌}

-- above the offset of every page: 65,535 pages of 65,535 bytes
abbrev pub farthest : ℕ
farthest = 65535 * 65535
