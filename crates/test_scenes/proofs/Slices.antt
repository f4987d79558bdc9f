-- The slices of a record: that they fit, and the scene that they are. Assumes nothing.
use mathlib.Core.Path.{◌≡◌, sym, ap, ◌∙◌}
use mathlib.Core.Bool.{Bool, true, and-eq-true_iff}
use mathlib.Core.List.{List}
use Prim.Native.Nat.{ℕ, ◌≤◌}
use borrow.Author.Tests.{le-leb, leb-true}
use lib.Dec.{leb}
use lib.Ieee.{Float}
use Rattle.scene.specs.Scenes.{scene_of}
use Rattle.test_words.specs.Words.{word_at, floats_from, marks_from, counts_from}
use Rattle.test_scenes.specs.Records.{scene_at, slices_fit, answers_right, scene_right}

pub slices-fit-is : (r : List ℕ) {a b c d e : ℕ} → a ≡ word_at r 0 → a ≤ 16416 → b ≡ word_at r 1 → b ≤ 4104 → c ≡ word_at r 2 → c ≤ 32 → d ≡ word_at r 3 → d ≤ 8 → e ≡ word_at r 4 → leb e 8 ≡ slices_fit r
unfolding slices_fit
slices-fit-is r {a} {b} {c} {d} ea la eb lb ec lc ed ld ee =
    rw (← ea, ← eb, ← ec, ← ed, ← ee, le-leb a 16416 la, le-leb b 4104 lb, le-leb c 32 lc, le-leb d 8 ld)

pub record Room (r : List ℕ) : Type 0 where
  pub numbers : word_at r 0 ≤ 16416
  pub marks : word_at r 1 ≤ 4104
  pub points : word_at r 2 ≤ 32
  pub starts : word_at r 3 ≤ 8
  pub owners : word_at r 4 ≤ 8

pub room : (r : List ℕ) {t : Bool} → t ≡ slices_fit r → t ≡ true → Room r
unfolding slices_fit
room r e t =
    let a = (and-eq-true_iff (leb (word_at r 0) 16416) _).0 (sym e ∙ t) in
    let b = (and-eq-true_iff (leb (word_at r 1) 4104) _).0 a.1 in
    let c = (and-eq-true_iff (leb (word_at r 2) 32) _).0 b.1 in
    let d = (and-eq-true_iff (leb (word_at r 3) 8) _).0 c.1 in
    record {
      numbers = leb-true (word_at r 0) 16416 a.0;
      marks = leb-true (word_at r 1) 4104 b.0;
      points = leb-true (word_at r 2) 32 c.0;
      starts = leb-true (word_at r 3) 8 d.0;
      owners = leb-true (word_at r 4) 8 d.1;
    }

pub scene-right-is : (r : List ℕ) {t z : Bool} {a b c d e : ℕ} (ns : List Float) (ms : List ℕ) (ps : List Float) (ss os : List ℕ) → t ≡ slices_fit r → t ≡ true → a ≡ word_at r 0 → ns ≡ floats_from r 16 144 a → b ≡ word_at r 1 → ms ≡ marks_from r 160 36 b → c ≡ word_at r 2 → ps ≡ floats_from r 196 12 c → d ≡ word_at r 3 → ss ≡ counts_from r 208 4 d → e ≡ word_at r 4 → os ≡ marks_from r 212 4 e → z ≡ answers_right (scene_of ns ms ps ss os) r → z ≡ scene_right r
unfolding scene_right scene_at
scene-right-is r ns ms ps ss os ef tf ea en eb em ec ep ed es ee eo h =
    h ∙ rw (← ef, tf, en ∙ ap (floats_from r 16 144) ea, em ∙ ap (marks_from r 160 36) eb, ep ∙ ap (floats_from r 196 12) ec, es ∙ ap (counts_from r 208 4) ed, eo ∙ ap (marks_from r 212 4) ee)
