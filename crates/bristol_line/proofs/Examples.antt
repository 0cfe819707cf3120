-- Document 01's lines, computed: the second and third header line for n = 1 and one row each, and its three gate lines; and the second with public rows.
use mathlib.Core.Path.{◌≡◌, refl}
use Rattle.lexer.specs.Spelling.{bytes}
use Rattle.text.specs.Decimal.{decimal_within, decimal}
use Rattle.dimensions.specs.declared.Dimensions.{Dimensions}
use Rattle.dimensions.specs.Sizes.{dimensions}
use Rattle.gates.specs.Gates.Gate.{XOR, AND, INV}
use Rattle.bristol_line.specs.Lines.{input_line, output_line, gate_line}

abbrev one : Dimensions
one = dimensions 1 1 1 0

pub second_header : input_line one ≡ bytes "3 2 2 9\n"
unfolding decimal decimal_within
second_header = refl

pub public_header : input_line (dimensions 1 1 1 1) ≡ bytes "4 2 2 2 9\n"
unfolding decimal decimal_within
public_header = refl

pub third_header : output_line one ≡ bytes "2 9 1\n"
unfolding decimal decimal_within
third_header = refl

pub xor_line : gate_line 13 (XOR 0 1) ≡ bytes "2 1 0 1 13 XOR\n"
unfolding decimal decimal_within
xor_line = refl

pub and-line : gate_line 13 (AND 0 1) ≡ bytes "2 1 0 1 13 AND\n"
unfolding decimal decimal_within
and-line = refl

pub inv_line : gate_line 14 (INV 13) ≡ bytes "1 1 13 14 INV\n"
unfolding decimal decimal_within
inv_line = refl
