use Rattle.release_maker.proofs.line.put_line.Goals as goal

pub returns-in-Command : goal.returns-in-Command
returns-in-Command c = rw c.in-Command.is (rw (c.at-base.ensures, c.at-composite.ensures) at c.put_command.ensures)
