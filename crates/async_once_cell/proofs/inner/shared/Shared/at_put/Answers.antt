-- The value that is put is its line of the table.
use Rattle.std.proofs.Common.{◌∙◌}
use Rattle.async_once_cell.proofs.Walk.Ways.{onward, put}
use Rattle.async_once_cell.proofs.inner.shared.Shared.at_put.Goals as goal

pub returns : goal.returns
returns g c =
    record {
      cell = c.give_back.ensures.cell ∙ c.put_from.ensures.cell;
      leads = onward g.W.TaskWaker.whose (put g.W.TaskWaker.whose c.args.by c.requires.stands c.put_from.ensures.did (c.put_from.ensures.put, c.put_from.ensures.shown)) c.give_back.ensures.leads;
      stays = g.met.S.Side.stays_on _ _ _ c.put_from.ensures.stays c.give_back.ensures.stays;
    }
