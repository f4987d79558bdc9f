-- Document 01's input, and what it is read as.
use Rattle.std.specs.Prelude.{ℕ, ◌≡◌, List, [], ◌∷◌}
use Rattle.floats.specs.Arith.{bits, zero_f, half_f, two_f}
use Rattle.geometry.specs.Vectors.{vec}
use Rattle.matrix.specs.Matrices.{identity_m}
use Rattle.scene.specs.Scenes.{scene_of}
use Rattle.text_tokens.specs.Tokens.{got}
use Rattle.text_scene.specs.Texts.{yard_of}

-- the bytes of the sample text
abbrev pub sample : List ℕ
sample = 40 ∷ 118 ∷ 105 ∷ 101 ∷ 119 ∷ 32 ∷ 50 ∷ 32 ∷ 50 ∷ 32 ∷ 48 ∷ 32 ∷ 48 ∷ 32 ∷ 48 ∷ 32 ∷ 53 ∷ 32 ∷ 49 ∷ 32 ∷ 48 ∷ 32 ∷ 48 ∷ 32 ∷ 48 ∷ 32 ∷ 48 ∷ 32 ∷ 49 ∷ 32 ∷ 48 ∷ 32 ∷ 48 ∷ 32 ∷ 48 ∷ 32 ∷ 48 ∷ 32 ∷ 49 ∷ 32 ∷ 48 ∷ 32 ∷ 48 ∷ 32 ∷ 48 ∷ 32 ∷ 48 ∷ 32 ∷ 49 ∷ 41 ∷ 10 ∷ 40 ∷ 116 ∷ 114 ∷ 105 ∷ 97 ∷ 110 ∷ 103 ∷ 108 ∷ 101 ∷ 32 ∷ 48 ∷ 32 ∷ 48 ∷ 32 ∷ 48 ∷ 32 ∷ 35 ∷ 51 ∷ 70 ∷ 69 ∷ 48 ∷ 48 ∷ 48 ∷ 48 ∷ 48 ∷ 48 ∷ 48 ∷ 48 ∷ 48 ∷ 48 ∷ 48 ∷ 48 ∷ 48 ∷ 32 ∷ 48 ∷ 32 ∷ 48 ∷ 32 ∷ 48 ∷ 32 ∷ 35 ∷ 51 ∷ 70 ∷ 69 ∷ 48 ∷ 48 ∷ 48 ∷ 48 ∷ 48 ∷ 48 ∷ 48 ∷ 48 ∷ 48 ∷ 48 ∷ 48 ∷ 48 ∷ 48 ∷ 32 ∷ 48 ∷ 41 ∷ 10 ∷ []

-- It is read as one triangle, seen from (0, 0, 5) on a sheet of 2 by 2.
abbrev pub SampleRead : Type 0
SampleRead =
    yard_of sample
    ≡ got (record {
      view = record { matrix = identity_m; eye = vec zero_f zero_f (bits 0x4014_0000_0000_0000); width = two_f; height = two_f; step = zero_f };
      scene = scene_of
          (zero_f ∷ zero_f ∷ zero_f ∷ half_f ∷ zero_f ∷ zero_f ∷ zero_f ∷ half_f ∷ zero_f ∷ zero_f ∷ zero_f ∷ zero_f ∷ zero_f ∷ zero_f ∷ zero_f ∷ zero_f ∷ [])
          (5 ∷ 0 ∷ 0 ∷ 0 ∷ []) [] [] [];
    }) []
