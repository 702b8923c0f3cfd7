-- What is no line of a word and a number is none of these.
use Rattle.std.proofs.Common.{◌≡◌, false, true}
use Rattle.once_script.proofs.parse.parse_short_line.Goals as goal

pub returns-clause-make : goal.returns-clause-make
returns-clause-make c = λ task h.
    let none : false ≡ true = c.in_default-parse_number_line.ensures.make task h in
    cc none

pub returns-clause-drop : goal.returns-clause-drop
returns-clause-drop c = λ task h.
    let none : false ≡ true = c.in_default-parse_number_line.ensures.drop task h in
    cc none

pub returns-clause-write : goal.returns-clause-write
returns-clause-write c = λ value h.
    let none : false ≡ true = c.in_default-parse_number_line.ensures.write value h in
    cc none
