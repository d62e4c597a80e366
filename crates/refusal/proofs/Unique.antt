-- What is told of a value determines it, where it can be told back. Assumes nothing.
use mathlib.Core.Path.{◌≡◌, ap, sym, ◌∙◌}

pub one_each : {A B : Type 0} (told : A → B) (back : B → A) → ((a : A) → back (told a) ≡ a) → (a c : A) → told a ≡ told c → a ≡ c
one_each told back same a c e = sym (same a) ∙ ap back e ∙ same c
