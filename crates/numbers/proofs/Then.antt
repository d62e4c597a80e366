-- What follows a read, by what the read answered: `x` is what is read by the definition, `r` what a call answered. The laws of `reads`
-- are for `search`; those by cases show of a whole definition what holds of each case. Assumes nothing.
use Rattle.std.specs.Prelude.{◌≡◌, ℕ, Option, Some, None, refl}
use mathlib.Core.Path.{sym, ◌∙◌}
use Rattle.numbers.specs.Then.{then}

module _ {A B : Type 0} (x : Option (A × ℕ)) (faulty : B) (go : A → ℕ → B) where
  module _ {r : Option (A × ℕ)} (e : r ≡ x) where
    pub some_read : {v : A} {next : ℕ} {y : B} → r ≡ Some (v, next) → y ≡ go v next → y ≡ then x faulty go
    unfolding then
    some_read f q = rw (sym e ∙ f) q

    pub none_read : {y : B} → r ≡ None → y ≡ faulty → y ≡ then x faulty go
    unfolding then
    none_read f q = rw (sym e ∙ f) q

  pub by_read : (P : B → Type 0) → P faulty → ((v : A) (next : ℕ) → x ≡ Some (v, next) → P (go v next)) → P (then x faulty go)
  unfolding then
  by_read P bad h = by x h
    where
      by : (y : Option (A × ℕ)) → ((v : A) (next : ℕ) → y ≡ Some (v, next) → P (go v next)) → P (then y faulty go)
      by (Some (v, next)) g = g v next refl
      by None g = bad

-- what holds of two definitions that go by one read
module _ {A B C : Type 0} (R : B → C → Type 0) where
  pub both_reads : (x : Option (A × ℕ)) (e : B) (go : A → ℕ → B) (d : C) (to : A → ℕ → C) → R e d → ((v : A) (next : ℕ) → x ≡ Some (v, next) → R (go v next) (to v next)) →
      R (then x e go) (then x d to)
  unfolding then
  both_reads (Some (v, next)) e go d to p q = q v next refl
  both_reads None e go d to p q = p

pub ruleset reads = (some_read, none_read)
