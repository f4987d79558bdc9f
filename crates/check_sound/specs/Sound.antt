-- What document 01's demand 3 needs of an accepted scene: each accepted box has min ≤ max, and numbers within a million.
use Rattle.std.specs.Prelude.{ℕ, ◌<◌, ◌≡◌, Ok}
use Rattle.geometry.specs.Limits.{Sound}
use Rattle.check_scene.specs.Extents.{own_box}
use Rattle.check_scene.specs.Checks.{check_of}
use Rattle.scene.specs.Scenes.{Scene, entries_of}

-- Of a scene that the check accepts, the own box of each entry is sound.
abbrev pub AcceptedSound : Type 0
AcceptedSound =
    (s : Scene) (d : ℕ) → check_of s ≡ Ok d → (i : ℕ) → i < entries_of s → Sound (own_box s.numbers s.marks i)
