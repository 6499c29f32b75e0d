use Rattle.text.proofs.Laws.{read_back, print_read, told_line}
use Rattle.text.proofs.law.reading_law.Goals as goal

pub returns : goal.returns
returns c = record { back = read_back; forth = print_read; told = told_line }
