-- The series of the code, as the definitions name them.
-- line_of series i   the i-th line of a series
use Rattle.std.specs.Prelude.{ℕ, List}
use Rattle.release_maker.specs.MadeTexts.{base_line, composite_line, compat_line, command_line}
use Rattle.release_maker.specs.declared.line.Series.{Series}
use Rattle.release_maker.specs.declared.line.Series.TheVariants.{Base, Composite, Compat, Command}

abbrev pub line_of : Series → ℕ → List ℕ
line_of Base = base_line
line_of Composite = composite_line
line_of Compat = compat_line
line_of Command = command_line
