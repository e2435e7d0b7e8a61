use Rattle.schedule_text.specs.Spelling.{line_tokens}
use Rattle.schedule_text.proofs.writing.text_of.Goals as goal

pub returns-in-Logged : goal.returns-in-Logged
unfolding line_tokens
returns-in-Logged c = rw c.in-Logged.is c.text_of_pieces-in-Logged.ensures

pub returns-in-Decide : goal.returns-in-Decide
unfolding line_tokens
returns-in-Decide c = rw c.in-Decide.is c.text_of_pieces-in-Decide.ensures
