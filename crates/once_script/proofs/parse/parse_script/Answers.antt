-- All lines are read, or the first that cannot be is told.
use Rattle.std.proofs.Common.{rules}
use Rattle.once_script.proofs.parse.parse_script.Goals as goal

pub returns-clause-read : goal.returns-clause-read
returns-clause-read c = search rules

pub returns-in_err-parse_lines-clause-unreadable : goal.returns-in_err-parse_lines-clause-unreadable
returns-in_err-parse_lines-clause-unreadable c = search rules
