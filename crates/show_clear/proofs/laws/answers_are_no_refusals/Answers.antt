use Rattle.show_clear.proofs.AnswerLines.{lines_answer, lines_refuse}
use Rattle.show_clear.proofs.PeopleLines.{lines_explained, lines_told}
use Rattle.show_clear.proofs.laws.answers_are_no_refusals.Goals as goal

pub returns-clause-answers : goal.returns-clause-answers
returns-clause-answers c = lines_answer

pub returns-clause-people : goal.returns-clause-people
returns-clause-people c = lines_told

pub returns-clause-refusals : goal.returns-clause-refusals
returns-clause-refusals c = lines_refuse

pub returns-clause-explained : goal.returns-clause-explained
returns-clause-explained c = lines_explained
