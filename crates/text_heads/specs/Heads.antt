-- The beginnings of forms (document 01, "The program `yard` reads forms"): a bracket, a head, a detail and numbers, and stripes.
use Rattle.std.specs.Prelude.{ℕ, zero, suc, Bool, true, false, cond, ◌&&◌, ◌||◌, List, [], ◌∷◌, ◌++◌, eqb, get_or, drop, Float}
use Rattle.std.specs.Float.{nan}
use Rattle.floats.specs.Arith.{zero_f}
use Rattle.geometry.specs.Vectors.{vec}
use Rattle.geometry.specs.declared.vector.Vector.{Vector}
use Rattle.rows.specs.Rows.{padded}
use Rattle.rows.specs.Entries.{numbers_of}
use Rattle.scene.specs.Entries.{matrix_of, striped}
use Rattle.view.specs.declared.View.{View}
use Rattle.text_tokens.specs.Tokens.{Token, Got, no, got, Mark, mark, and_then, word_in, open_in, close_in, number_in, count_in, count_or}
use Rattle.text_heads.specs.declared.Head.{Head}

-- ---- words
unfoldable pub same_word : List ℕ → List ℕ → Bool
same_word [] [] = true
same_word [] (b ∷ v) = false
same_word (a ∷ w) [] = false
same_word (a ∷ w) (b ∷ v) = eqb a b && same_word w v

abbrev pub sphere : List ℕ
sphere = 115 ∷ 112 ∷ 104 ∷ 101 ∷ 114 ∷ 101 ∷ []

abbrev pub cylinder : List ℕ
cylinder = 99 ∷ 121 ∷ 108 ∷ 105 ∷ 110 ∷ 100 ∷ 101 ∷ 114 ∷ []

abbrev pub cone : List ℕ
cone = 99 ∷ 111 ∷ 110 ∷ 101 ∷ []

abbrev pub cube : List ℕ
cube = 99 ∷ 117 ∷ 98 ∷ 101 ∷ []

abbrev pub triangle : List ℕ
triangle = 116 ∷ 114 ∷ 105 ∷ 97 ∷ 110 ∷ 103 ∷ 108 ∷ 101 ∷ []

abbrev pub place : List ℕ
place = 112 ∷ 108 ∷ 97 ∷ 99 ∷ 101 ∷ []

abbrev pub cut : List ℕ
cut = 99 ∷ 117 ∷ 116 ∷ []

abbrev pub closed_cylinder : List ℕ
closed_cylinder = 99 ∷ 108 ∷ 111 ∷ 115 ∷ 101 ∷ 100 ∷ 45 ∷ 99 ∷ 121 ∷ 108 ∷ 105 ∷ 110 ∷ 100 ∷ 101 ∷ 114 ∷ []

abbrev pub closed_cone : List ℕ
closed_cone = 99 ∷ 108 ∷ 111 ∷ 115 ∷ 101 ∷ 100 ∷ 45 ∷ 99 ∷ 111 ∷ 110 ∷ 101 ∷ []

abbrev pub view_word : List ℕ
view_word = 118 ∷ 105 ∷ 101 ∷ 119 ∷ []

abbrev pub line_word : List ℕ
line_word = 108 ∷ 105 ∷ 110 ∷ 101 ∷ []

-- kinds 8 and 9 (document 02, iii)
unfoldable pub closed_kind : List ℕ → ℕ
closed_kind w = cond (same_word w closed_cylinder) 8 (cond (same_word w closed_cone) 9 0)

-- the kind of a head; 0 is none
unfoldable pub kind_of : List ℕ → ℕ
kind_of w =
    cond (same_word w sphere) 1 (cond (same_word w cylinder) 2 (cond (same_word w cone) 3 (cond (same_word w cube) 4
    (cond (same_word w triangle) 5 (cond (same_word w place) 6 (cond (same_word w cut) 7 (closed_kind w)))))))

-- an opening bracket and a word
unfoldable pub head_in : List Token → Got (List ℕ)
head_in ts = and_then (open_in ts) (λ _ us. word_in us)

-- an opening bracket and this word
unfoldable pub named_in : List ℕ → List Token → Got Mark
named_in name ts = and_then (head_in ts) (λ w us. cond (same_word w name) (got mark us) no)

-- an opening bracket and the head of a kind
unfoldable pub kind_in : List Token → Got ℕ
kind_in ts = and_then (head_in ts) (λ w us. cond (eqb (kind_of w) 0) no (got (kind_of w) us))

-- ---- numbers

-- n numbers, after those that stand in xs
unfoldable pub numbers_in : List Float → ℕ → List Token → Got (List Float)
numbers_in xs zero ts = got xs ts
numbers_in xs (suc n) ts = and_then (number_in ts) (λ x us. numbers_in (xs ++ (x ∷ [])) n us)

-- a closed cylinder has 3 numbers, a closed cone 2
unfoldable pub closed_measures : ℕ → ℕ
closed_measures k = cond (eqb k 8) 3 (cond (eqb k 9) 2 0)

-- how many numbers a form of the kind has: a sphere 4, a cylinder 3, a cone 2, a cube 6, a triangle 9, a placed part 16, a cut none
unfoldable pub measures : ℕ → ℕ
measures k = cond (eqb k 1) 4 (cond (eqb k 2) 3 (cond (eqb k 3) 2 (cond (eqb k 4) 6 (cond (eqb k 5) 9 (cond (eqb k 6) 16 (closed_measures k))))))

-- a cube's stripes and a cut's operation; other kinds have no detail here, and 0 stands for it
unfoldable pub detail_in : ℕ → List Token → Got ℕ
detail_in k ts = cond (eqb k 4 || eqb k 7) (count_in ts) (got 0 ts)

-- after the numbers: the stripe count of a striped kind (document 02, ii), if a word stands there; v is the detail so far
unfoldable pub stripes_in : ℕ → ℕ → List Token → Got ℕ
stripes_in k v ts = cond (striped k) (count_or v ts) (got v ts)

-- a bracket, a head, its detail and its numbers, then zeros, and its stripes
unfoldable pub opening_in : List Token → Got Head
opening_in ts =
    and_then (kind_in ts) (λ k us.
    and_then (detail_in k us) (λ v vs.
    and_then (numbers_in [] (measures k) vs) (λ xs ws.
    and_then (stripes_in k v ws) (λ d ys.
    got (record { kind = k; detail = d; row = numbers_of (padded zero_f 16 xs) }) ys))))

-- three numbers
unfoldable pub point_in : List Token → Got Vector
point_in ts = and_then (number_in ts) (λ x us. and_then (number_in us) (λ y vs. and_then (number_in vs) (λ z ws. got (vec x y z) ws)))

-- ---- the view: width, height, step, eye, matrix by rows
unfoldable pub view_of : List Float → View
view_of xs =
    record {
      matrix = matrix_of (numbers_of (drop 6 xs));
      eye = vec (get_or xs 3 nan) (get_or xs 4 nan) (get_or xs 5 nan);
      width = get_or xs 0 nan;
      height = get_or xs 1 nan;
      step = get_or xs 2 nan;
    }

unfoldable pub view_in : List Token → Got View
view_in ts =
    and_then (named_in view_word ts) (λ _ us.
    and_then (numbers_in [] 22 us) (λ xs vs.
    and_then (close_in vs) (λ _ ws. got (view_of xs) ws)))
