-- Every answer of `yard` fits the slice that it is written into. Assumes nothing.
use Prim.Native.Nat.{ℕ, ◌≤◌, ◌<◌}
use mathlib.Core.Path.{◌≡◌, refl, ◌∙◌}
use mathlib.Core.List.{List}
use native.Mathlib.Omega.{arith}
use borrow.Author.Tests.{le-leb}
use lib.ListN.{length, take}
use Rattle.floats.specs.Arith.{millionth}
use Rattle.refusals.specs.Refusals.{number_of}
use Rattle.refusals.specs.declared.Refusal.{Refusal}
use Rattle.refusals.specs.declared.Refusal.TheVariants.{Lengths, Values, Parts, Measures, Placing, Extent, View as BadView, Point, Restarts, Waiting, Room, Stripes}
use Rattle.scene.specs.Scenes.{Scene}
use Rattle.view.specs.declared.View.{View}
use Rattle.paths.specs.Paths.{Paths}
use Rattle.draw.specs.Draw.{draw_with}
use Rattle.draw.proofs.Answered.{drawn-so, drawing-laid}
use Rattle.text_tokens.specs.Tokens.{Got, no, got}
use Rattle.text_scene.specs.Texts.{Yard, yard_of}
use Rattle.text_drawing.specs.Drawings.{fitting, laid}
use Rattle.text_drawing.proofs.Sizes.{text-fits, refused-fits}
use Rattle.text_reply.specs.Reply.{enough, yard_places, answer_text, drawn_text, read_text, reply_of, shown}
use Rattle.std.specs.Prelude.{Err, Ok, Result}

number_small : (k : Refusal) → number_of k < 10000
unfolding number_of
number_small Lengths = omega arith
number_small Values = omega arith
number_small Parts = omega arith
number_small Measures = omega arith
number_small Placing = omega arith
number_small Extent = omega arith
number_small BadView = omega arith
number_small Point = omega arith
number_small Restarts = omega arith
number_small Waiting = omega arith
number_small Room = omega arith
number_small Stripes = omega arith

drawn-fits : (s : Scene) (v : View) → length (drawn_text s v) ≤ enough
unfolding answer_text
drawn-fits s v = by (draw_with millionth s v yard_places) refl
  where
    by : (a : Result Paths Refusal) → draw_with millionth s v yard_places ≡ a → length (answer_text a) ≤ enough
    by (Ok p) e =
        let h = drawing-laid millionth s v yard_places p (drawn-so millionth s v yard_places p e) in
        text-fits p.vertices p.starts h.1 h.2 h.0
    by (Err k) e = omega (arith, refused-fits (number_of k) (number_small k))

reply-fits : (text : List ℕ) → length (reply_of text) ≤ enough
unfolding reply_of read_text
reply-fits text = by (yard_of text)
  where
    by : (g : Got Yard) → length (read_text g) ≤ enough
    by no = omega (arith, refused-fits 1 (omega arith))
    by (got y ts) = drawn-fits y.scene y.view

-- so all of it is printed
all_shown : (text : List ℕ) {room : ℕ} → enough ≤ room → shown (fitting room (reply_of text)) ≡ reply_of text
unfolding shown fitting
all_shown text {room} h = rw (le-leb (length (reply_of text)) room (omega (arith, h, reply-fits text)))

-- what is printed, and how much of it there is
pub shown-whole : (text : List ℕ) (room n : ℕ) (ys : List ℕ) → (n ≤ length ys) × (take n ys ≡ shown (fitting room (reply_of text)))
    → ys ≡ laid (fitting room (reply_of text)) room
    → (enough ≤ room → take n ys ≡ reply_of text) × ((ys ≡ laid (fitting room (reply_of text)) room) × ((n ≤ length ys) × (take n ys ≡ shown (fitting room (reply_of text)))))
shown-whole text room n ys h l = (λ e. h.1 ∙ all_shown text e, (l, h))
