-- What the call of the writer tells. Assumes nothing.
use Prim.Native.Nat.{ℕ}
use mathlib.Core.Path.{◌≡◌, ap, ◌∙◌}
use mathlib.Core.List.{List}
use Rattle.scene.specs.Scenes.{Scene}
use Rattle.view.specs.declared.View.{View}
use Rattle.text_drawing.specs.Drawings.{written, laid}
use Rattle.text_writer.specs.Writer.{written_of}
use Rattle.host_text.specs.TextCalls.{bytes_told, WriteTold}
use Rattle.refusals.specs.declared.Refusal.{Refusal}
use Rattle.std.specs.Prelude.{Result}
use Rattle.refusals.specs.Refusals.{answer_number}

pub write-told : (room : ℕ) (s : Scene) {v w : View} → v ≡ w → {ys : List ℕ} {c : Result ℕ Refusal} {n k : ℕ} → c ≡ written (written_of room s v) → ys ≡ laid (written_of room s v) room
    → n ≡ answer_number c → k ≡ bytes_told c → WriteTold (written_of room s w) room ys n k
write-told room s p e l a b =
    let q = e ∙ ap (λ (u : View). written (written_of room s u)) p in
    record { number_is = a ∙ ap answer_number q; count_is = b ∙ ap bytes_told q; text_is = l ∙ ap (λ (u : View). laid (written_of room s u) room) p }
