-- Room that was made is there.
use Rattle.std.proofs.Common.{◌≡◌, true, inr}
use Rattle.std.specs.Prelude.{OnOk, Result, Ok, Err}
use Rattle.std.specs.Result.{is_ok}
use Rattle.std.proofs.lemmas.Bool.{false≢true}
use Rattle.async_once_cell.proofs.inner.desk.room_for.Goals as goal

made : {T E P : Type 0} (r : Result T E) → OnOk r P → is_ok r ≡ true → P
made (Ok x) room is = room
made (Err e) room is = absurd (false≢true is)

pub returns-clause-room : goal.returns-clause-room
returns-clause-room g c = λ is. inr (made c.reserve.result c.reserve.ensures.room is)
