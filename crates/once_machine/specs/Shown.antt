-- The program's values, with their vectors, as the definitions see them.
use Rattle.std.specs.Prelude.{List, map, reverse}
use Rattle.once_machine.specs.declared.record.Kind.{Kind as GivenKind}
use Rattle.once_machine.specs.declared.record.Kind.TheVariants.{Once as GivenOnce, OnceWith as GivenOnceWith}
use Rattle.once_machine.specs.declared.record.Kind.TheVariants.{Lazy as GivenLazy, LazyWith as GivenLazyWith}
use Rattle.once_machine.specs.declared.record.Call.{Call}
use Rattle.once_machine.specs.declared.record.Call.TheVariants.{Take as CallTake, Write as CallWrite}
use Rattle.once_machine.specs.declared.record.Call.TheVariants.{Parts as CallParts}
use Rattle.once_machine.specs.declared.record.Call.TheVariants.{ReplaceValue as CallReplaceValue}
use Rattle.once_machine.specs.declared.record.Call.TheVariants.{ReplaceAnswers as CallReplaceAnswers}
use Rattle.once_machine.specs.declared.record.Got.{Got as GivenGot}
use Rattle.once_machine.specs.declared.record.Got.TheVariants.{None as NoneGot, Value as ValueGot}
use Rattle.once_machine.specs.declared.record.Got.TheVariants.{Answers as AnswersGot}
use Rattle.once_machine.specs.declared.record.Input.{Input as GivenInput}
use Rattle.once_machine.specs.declared.record.Input.TheVariants.{Make as InputMake, Poll as InputPoll}
use Rattle.once_machine.specs.declared.record.Input.TheVariants.{Drop as InputDrop}
use Rattle.once_machine.specs.declared.record.Input.TheVariants.{Go as InputGo, Look as InputLook, Own as InputOwn}
use Rattle.once_machine.specs.declared.record.Entry.{Entry as Written}
use Rattle.once_machine.specs.declared.record.Entry.TheVariants.{Made as WrittenMade, Begin as WrittenBegin}
use Rattle.once_machine.specs.declared.record.Entry.TheVariants.{Claim as WrittenClaim}
use Rattle.once_machine.specs.declared.record.Entry.TheVariants.{Ran as WrittenRan, Free as WrittenFree}
use Rattle.once_machine.specs.declared.record.Entry.TheVariants.{Fill as WrittenFill}
use Rattle.once_machine.specs.declared.record.Entry.TheVariants.{Pass as WrittenPass, End as WrittenEnd}
use Rattle.once_machine.specs.declared.record.Entry.TheVariants.{DropBegin as WrittenDropBegin}
use Rattle.once_machine.specs.declared.record.Entry.TheVariants.{DropEnd as WrittenDropEnd}
use Rattle.once_machine.specs.declared.record.Entry.TheVariants.{Look as WrittenLook, Own as WrittenOwn}
use Rattle.once_machine.specs.declared.record.Record.{Record as GivenRecord}
use Rattle.once_machine.specs.declared.log.QueueLine.{QueueLine}
use Rattle.once_machine.specs.Record.{Kind, Once, OnceWith, Lazy, LazyWith, OwnerCall, Take, Write, Parts}
use Rattle.once_machine.specs.Record.{ReplaceValue, ReplaceAnswers, Got, GotNone, GotValue, GotAnswers}
use Rattle.once_machine.specs.Record.{Entry, Made, Begin, Claim}
use Rattle.once_machine.specs.Record.{Ran, Free, Fill, Pass, End, DropBegin, DropEnd, Look, Own}
use Rattle.once_machine.specs.Inputs.{Input, Make, Poll, Drop, Go, Looks, Owns}

-- a kind
abbrev pub kind_of : GivenKind → Kind
kind_of GivenOnce = Once
kind_of (GivenOnceWith v) = OnceWith v
kind_of (GivenLazy l) = Lazy l.items
kind_of (GivenLazyWith v) = LazyWith v

-- an owner's call
abbrev pub call_of : Call → OwnerCall
call_of CallTake = Take
call_of (CallWrite v) = Write v
call_of CallParts = Parts
call_of (CallReplaceValue v) = ReplaceValue v
call_of (CallReplaceAnswers l) = ReplaceAnswers l.items

-- what an owner's call is given
abbrev pub got_of : GivenGot → Got
got_of NoneGot = GotNone
got_of (ValueGot v) = GotValue v
got_of (AnswersGot l) = GotAnswers l.items

-- an input
abbrev pub input_of : GivenInput → Input
input_of (InputMake t) = Make t
input_of (InputPoll t w) = Poll t w
input_of (InputDrop t) = Drop t
input_of (InputGo t a granted) = Go t a granted
input_of InputLook = Looks
input_of (InputOwn c) = Owns (call_of c)

-- an entry
abbrev pub entry_of : Written → Entry
entry_of (WrittenMade t) = Made t
entry_of (WrittenBegin t w) = Begin t w
entry_of (WrittenClaim t) = Claim t
entry_of (WrittenRan t a) = Ran t a
entry_of (WrittenFree t X) = Free t X.items
entry_of (WrittenFill t v X) = Fill t v X.items
entry_of (WrittenPass t X) = Pass t X.items
entry_of (WrittenEnd t r) = End t r
entry_of (WrittenDropBegin t) = DropBegin t
entry_of (WrittenDropEnd t) = DropEnd t
entry_of (WrittenLook found) = Look found
entry_of (WrittenOwn c g) = Own (call_of c) (got_of g)

-- the newest first
abbrev pub inputs_in : List GivenInput → List Input
inputs_in inputs = reverse (map input_of inputs)

-- a record, the newest entry first
abbrev pub history_in : List Written → List Entry
history_in entries = reverse (map entry_of entries)

-- the record of a replay, the newest entry first
abbrev pub record_entries : GivenRecord → List Entry
record_entries r = history_in r.entries.items

-- the queue log of a replay, the newest line first
abbrev pub record_lines : GivenRecord → List QueueLine
record_lines r = reverse r.queues.items
