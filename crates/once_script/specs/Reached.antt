-- A replay under way, as the machine sees it.
use Rattle.std.specs.Prelude.{◌≡◌, ◌<◌, ◌≤◌, ◌-◌, ◌^◌, ℕ, List}
use Rattle.once_script.specs.declared.world.play.World.{World}
use Rattle.once_machine.specs.Record.{Kind, is_lazy}
use Rattle.once_machine.specs.Inputs.{Input}
use Rattle.once_machine.specs.Machine.{world_of}
use Rattle.once_script.specs.WorldShown.{lazy_in, limit_in, world_in}

-- the world is the machine's after these inputs, the newest first, for a cell of this kind with this limit
pub record IsAfter (kind : Kind) (limit : ℕ) (inputs : List Input) (w : World) : Type 0 where
  pub world : world_in w ≡ world_of kind limit inputs  -- it is the machine's world
  pub lazy : lazy_in w ≡ is_lazy kind  -- it is of a lazy cell if the kind is lazy
  pub bound : limit_in w ≡ limit  -- it has this limit
  pub some : 0 < limit  -- at least one task may be counted
  pub within : limit ≤ 2 ^ 62 - 2  -- the count never reaches the bits above it

-- some inputs led some cell here
abbrev pub IsReached : World → Type 0
IsReached w = (kind : Kind) × (limit : ℕ) × (inputs : List Input) × IsAfter kind limit inputs w
