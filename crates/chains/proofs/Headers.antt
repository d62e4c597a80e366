-- What holds of what follows a header, by cases. Assumes nothing.
use Rattle.std.proofs.Common.{◌≡◌, ℕ, refl}
use Rattle.chains.specs.FixupChains.{HeaderAt, header, no_header, then_header}
use Rattle.chains.specs.declared.header.Header.{Header}

-- what holds of what follows either
pub by_header : {A : Type 0} (x : HeaderAt) (refused : ℕ → A) (go : Header → A) (P : A → Type 0) → ((n : ℕ) → P (refused n)) → ((h : Header) → x ≡ header h → P (go h)) →
    P (then_header x refused go)
unfolding then_header
by_header (header h) refused go P bad good = good h refl
by_header (no_header n) refused go P bad good = bad n

-- what holds of two definitions that go by one header
module _ {A B : Type 0} (R : A → B → Type 0) where
  pub both_headers : (x : HeaderAt) (e : ℕ → A) (go : Header → A) (d : ℕ → B) (to : Header → B) → ((n : ℕ) → R (e n) (d n)) → ((h : Header) → R (go h) (to h)) →
      R (then_header x e go) (then_header x d to)
  unfolding then_header
  both_headers (header h) e go d to p q = q h
  both_headers (no_header n) e go d to p q = p n
