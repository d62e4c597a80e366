-- What a number is, by its first two bytes. Assumes nothing.
use Rattle.std.proofs.Common.{rules, arith, ap, sym, ◌∙◌, ◌-◌, length, drop, length-drop}
use Rattle.std.proofs.lemmas.List.{take_all}
use Rattle.numerals.specs.Numerals.{in_base, numeral_of}
use Rattle.numerals.proofs.read.Goals as goal

pub returns-then-is_hexadecimal : goal.returns-then-is_hexadecimal
unfolding numeral_of
returns-then-is_hexadecimal c =
    rw (sym c.if-is_hexadecimal.ensures)
    (c.digits.ensures ∙ ap (in_base 16) (take_all (length c.args.text.now - 2) (drop 2 c.args.text.now) (omega (arith, length-drop 2 c.args.text.now))))

pub returns-then-is_empty : goal.returns-then-is_empty
unfolding numeral_of
returns-then-is_empty c = rw (sym c.if-is_hexadecimal.ensures) (search rules)

pub returns : goal.returns
unfolding numeral_of
returns c = rw (sym c.if-is_hexadecimal.ensures) (search rules)
