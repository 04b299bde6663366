-- What printing comes to.
use Rattle.std.specs.Prelude.{◌≡◌, List, ℕ}
use Rattle.decimals.specs.Text.{Put}
use Rattle.decimals.specs.declared.Printer.{Printer}

-- The text stands in the same buffer, from the place on at which the printer was, and the printer is after it.
pub record Printed (text : List ℕ) (before after : Printer) : Type 0 where
  pub put : Put before.at text before.buffer.now after.at after.buffer.now
  pub same_buffer : after.buffer.ghost_name ≡ before.buffer.ghost_name
