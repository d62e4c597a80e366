-- What each entry point of a preflight answers and writes: the number, then the verdict's buffer, for all bytes, sizes and numbers.
use Rattle.std.specs.Prelude.{ℕ, List}
use Rattle.bind.specs.Binds.{plainly, weakly, lazily, binds}
use Rattle.packed_preflight.specs.Packed.{flown}
use Rattle.preflight.specs.Verdict.{preflight}
use Rattle.rebase.specs.Rebases.{unset, rebases}

abbrev pub preflight_rebase : (stream : List ℕ) (size : ℕ) (sizes verdict : List ℕ) → ℕ × List ℕ
preflight_rebase stream size sizes verdict = flown (preflight rebases unset) stream size sizes verdict

abbrev pub preflight_plain : (stream : List ℕ) (size : ℕ) (sizes verdict : List ℕ) → ℕ × List ℕ
preflight_plain stream size sizes verdict = flown (preflight binds plainly) stream size sizes verdict

abbrev pub preflight_weak : (stream : List ℕ) (size : ℕ) (sizes verdict : List ℕ) → ℕ × List ℕ
preflight_weak stream size sizes verdict = flown (preflight binds weakly) stream size sizes verdict

abbrev pub preflight_lazy : (stream : List ℕ) (size : ℕ) (sizes verdict : List ℕ) → ℕ × List ℕ
preflight_lazy stream size sizes verdict = flown (preflight binds lazily) stream size sizes verdict
