-- A ticket without a listing is answered that it has none.
use Rattle.std.proofs.Common.{◌≡◌, Option, Some, None, sym, subst, arith}
use Rattle.std.proofs.lemmas.Grind.{common_steps}
use Rattle.std.proofs.lemmas.Option.{none-some}
use Rattle.once_machine.specs.Room.{listings_of}
use Rattle.once_machine.proofs.Listing.Tickets.{own_none}
use Rattle.once_machine.specs.declared.waiters.Answer.{Answer}
use Rattle.once_machine.specs.declared.waiters.Answer.TheVariants.{Held}
use Rattle.once_machine.specs.Sections.{DidLook}
use Rattle.once_machine.specs.Word.{Flags, sees}
use Rattle.once_machine.specs.declared.word.Sees.{Sees}
use Rattle.once_script.proofs.plain.Core.list.Goals as goal

looked_held : {W : Type 0} (same other : W → W → Type 0) (o : Option W) (mine : Option (Option W)) (a : Answer W) → mine ≡ None → DidLook same other o mine a → a ≡ Held
looked_held same other o (Some m) a none looked = absurd (none-some m (sym none))
looked_held same other (Some w) None a none looked = looked
looked_held same other None None a none looked = looked

pub returns-in_default : goal.returns-in_default
returns-in_default g c =
    let same = g.W.WakerId.tells_same in
    let other = g.W.WakerId.tells_other in
    let gone = own_none c.args.ticket.now (listings_of c.args.self.now.lists) (sym c.if-is_listed.ensures) in
    let held = λ (e : sees c.args.self.now.word c.args.self.now.lists.head ≡ Sees.Taken).
    c.look.ensures.held (subst (λ (f : Flags). sees f c.args.self.now.lists.head ≡ Sees.Taken) (sym c.bits-word.ensures) e) in
    record {
      set = grind (arith, common_steps);
      free = grind (arith, common_steps);
      taken = λ e. absurd (c.in_default.not-Held (looked_held same other _ _ c.look.result gone (held e)));
    }
