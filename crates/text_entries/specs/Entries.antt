-- What is asked of a scene whose entry i is written as a form.
use Rattle.std.specs.Prelude.{ℕ, ◌*◌, ◌≤◌, ◌<◌, ◌≡◌, true, List, length, Float}
use Rattle.scene.specs.Scenes.{entries}
use Rattle.check_parts.specs.Parts.{parts_ok}

-- the entry is there, with its 16 numbers, and all parts are well named
pub record Formed (ns : List Float) (ms : List ℕ) (i : ℕ) : Type 0 where
  pub there : i < entries ms
  pub numbers : entries ms * 16 ≤ length ns
  pub parts : parts_ok ms (entries ms) ≡ true
