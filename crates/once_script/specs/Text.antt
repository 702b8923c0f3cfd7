-- What a line of a script says, and to which inputs it leads.
use Rattle.std.specs.Prelude.{ℕ, Bool, true, false, List, [], ◌∷◌, ◌++◌, ◌≡◌, codes, Option, Some, replicate, flat_map}
use Rattle.once_machine.specs.declared.record.Call.TheVariants.{Take, Write, Parts, ReplaceValue, ReplaceAnswers}
use Rattle.once_machine.specs.declared.record.Kind.{Kind}
use Rattle.once_machine.specs.declared.record.Kind.TheVariants.{Once, OnceWith, Lazy, LazyWith}
use Rattle.once_machine.specs.declared.record.Ran.{Ran}
use Rattle.once_machine.specs.declared.record.Input.{Input}
use Rattle.once_machine.specs.declared.record.Input.TheVariants.{Make, Poll, Drop, Go, Look, Own}
use Rattle.once_script.specs.Answer.{IsAnswer, AreAnswers}
use Rattle.once_script.specs.Number.{number_of, limit_of}
use Rattle.once_script.specs.declared.parse.Line.{Line}
use Rattle.once_script.specs.declared.parse.Line.TheVariants.{Single, Run}

-- a text is this word and this number
abbrev pub IsWordNumber : List ℕ → ℕ → List ℕ → Type 0
IsWordNumber word number text = (digits : List ℕ) × (text ≡ word ++ (32 ∷ digits)) × (number_of digits ≡ Some number)

-- a text is the value that a cell is made with
abbrev pub IsWith : ℕ → List ℕ → Type 0
IsWith value text = IsWordNumber (codes "with") value text

-- a text is this beginning and then these answers, one space before each
abbrev pub IsListAfter : List ℕ → List (Option ℕ) → List ℕ → Type 0
IsListAfter begin [] text = text ≡ begin
IsListAfter begin (answer ∷ answers) text =
    (given : List ℕ) × (text ≡ begin ++ (32 ∷ given)) × AreAnswers (answer ∷ answers) given

-- a text is this beginning and then the value that a cell is made with, one space between them
abbrev pub IsWithAfter : List ℕ → ℕ → List ℕ → Type 0
IsWithAfter begin value text = (given : List ℕ) × (text ≡ begin ++ (32 ∷ given)) × IsWith value given

-- what stands after the word `once`: this limit, and the value of such a cell
abbrev pub IsOnce : Kind → ℕ → List ℕ → Type 0
IsOnce Once limit text = limit_of text ≡ Some limit
IsOnce (OnceWith value) limit text = (digits : List ℕ) × IsWithAfter digits value text × (limit_of digits ≡ Some limit)
IsOnce (Lazy answers) limit text = ⊥
IsOnce (LazyWith value) limit text = ⊥

-- what stands after the word `lazy`: this limit, and the value or the answers of such a cell
abbrev pub IsLazy : Kind → ℕ → List ℕ → Type 0
IsLazy Once limit text = ⊥
IsLazy (OnceWith value) limit text = ⊥
IsLazy (Lazy answers) limit text =
    (digits : List ℕ) × IsListAfter digits answers.items text × (limit_of digits ≡ Some limit)
IsLazy (LazyWith value) limit text = (digits : List ℕ) × IsWithAfter digits value text × (limit_of digits ≡ Some limit)

-- a text is the first line of a script of this kind, with this limit on the tasks that are counted in
abbrev pub IsOpening : Kind → ℕ → List ℕ → Type 0
IsOpening Once limit text = (more : List ℕ) × (text ≡ codes "once " ++ more) × IsOnce Once limit more
IsOpening (OnceWith value) limit text =
    (more : List ℕ) × (text ≡ codes "once " ++ more) × IsOnce (OnceWith value) limit more
IsOpening (Lazy answers) limit text =
    (more : List ℕ) × (text ≡ codes "lazy " ++ more) × IsLazy (Lazy answers) limit more
IsOpening (LazyWith value) limit text =
    (more : List ℕ) × (text ≡ codes "lazy " ++ more) × IsLazy (LazyWith value) limit more

-- the inputs that a line stands for
abbrev pub inputs_of : Line → List Input
inputs_of (Single input) = input ∷ []
inputs_of (Run task answer memory) = replicate 16 (Go task answer memory)

-- the inputs that these lines stand for, in their order
abbrev pub all_inputs : List Line → List Input
all_inputs lines = flat_map inputs_of lines

-- a text is these two numbers
pub record IsPair (first second : ℕ) (text : List ℕ) : Type 0 where
  pub digits : List ℕ  -- the text of the first
  pub more : List ℕ  -- the text of the second
  pub parts : text ≡ digits ++ (32 ∷ more)  -- one space is between them
  pub first_number : number_of digits ≡ Some first
  pub second_number : number_of more ≡ Some second

-- a text is this answer, with an x after it if memory is refused
abbrev pub IsGiven : Ran → Bool → List ℕ → Type 0
IsGiven answer true text = IsAnswer answer text
IsGiven answer false text = (field : List ℕ) × (text ≡ field ++ codes " x") × IsAnswer answer field

-- a text is this task and what its step is given
pub record IsStep (task : ℕ) (answer : Ran) (memory : Bool) (text : List ℕ) : Type 0 where
  pub digits : List ℕ  -- the text of the task
  pub given : List ℕ  -- the text of what its step is given
  pub parts : text ≡ digits ++ (32 ∷ given)  -- one space is between them
  pub task_number : number_of digits ≡ Some task
  pub is_given : IsGiven answer memory given

-- a text is the line of this input
abbrev pub IsInputLine : Input → List ℕ → Type 0
IsInputLine (Make task) text = IsWordNumber (codes "make") task text
IsInputLine (Poll task waker) text = (pair : List ℕ) × (text ≡ codes "poll " ++ pair) × IsPair task waker pair
IsInputLine (Drop task) text = IsWordNumber (codes "drop") task text
IsInputLine (Go task answer memory) text =
    (step : List ℕ) × (text ≡ codes "go " ++ step) × IsStep task answer memory step
IsInputLine Look text = text ≡ codes "look"
IsInputLine (Own Take) text = text ≡ codes "take"
IsInputLine (Own (Write value)) text = IsWordNumber (codes "write") value text
IsInputLine (Own Parts) text = text ≡ codes "parts"
IsInputLine (Own (ReplaceValue value)) text = IsWithAfter (codes "replace") value text
IsInputLine (Own (ReplaceAnswers answers)) text = IsListAfter (codes "replace") answers.items text

-- a text is this line
abbrev pub IsLine : Line → List ℕ → Type 0
IsLine (Single input) text = IsInputLine input text
IsLine (Run task answer memory) text = (step : List ℕ) × (text ≡ codes "run " ++ step) × IsStep task answer memory step
