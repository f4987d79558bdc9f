-- The forms of solids (document 01, "The program `yard` reads forms"). A reader adds to the scene that is held so far.
use Rattle.std.specs.Prelude.{ℕ, zero, suc, ◌-◌, cond, List, [], ◌∷◌, ◌++◌, eqb, ltb, leb, length}
use Rattle.rows.specs.Entries.{numbers_row}
use Rattle.check_parts.specs.Owners.{is_round}
use Rattle.scene.specs.Scenes.{Scene, scene_of, entries_of}
use Rattle.text_tokens.specs.Tokens.{Token, Got, no, got, and_then, close_in}
use Rattle.text_heads.specs.Heads.{opening_in}
use Rattle.text_heads.specs.Lines.{lines_in}
use Rattle.text_heads.specs.declared.Head.{Head}

-- ---- entries

-- the index of the entry that was held last
abbrev pub last : Scene → ℕ
last s = entries_of s - 1

-- one more entry, with the parts p and q
unfoldable pub entered : Head → ℕ → ℕ → Scene → Scene
entered h p q s =
    scene_of (s.numbers ++ numbers_row h.row) (s.marks ++ (h.kind ∷ h.detail ∷ p ∷ q ∷ [])) s.points s.starts s.owners

-- the same where there is a place for it: there are 512
unfoldable pub enter : Head → ℕ → ℕ → Scene → List Token → Got Scene
enter h p q s ts = cond (ltb (entries_of s) 512) (got (entered h p q s) ts) no

-- a closing bracket, and the entry that it closes
unfoldable pub enclosed : Head → ℕ → ℕ → Scene → List Token → Got Scene
enclosed h p q s ts = and_then (close_in ts) (λ _ us. enter h p q s us)

-- a sphere, cylinder or cone, open or closed: its entry, then its lines up to its closing bracket, where there are places for 2,048 in all
unfoldable pub round_in : Head → Scene → List Token → Got Scene
round_in h s ts = and_then (enter h 0 0 s ts) (λ r us. lines_in (entries_of s) (2048 - length r.starts) r us)

-- ---- forms

-- A form after its numbers, where f reads an inner form: inner forms become earlier entries.
unfoldable pub body : (Scene → List Token → Got Scene) → Head → Scene → List Token → Got Scene
body f h s ts =
    cond (is_round h.kind) (round_in h s ts)
    (cond (leb h.kind 5) (enclosed h 0 0 s ts)
    (and_then (f s ts) (λ a us.
    cond (eqb h.kind 6) (enclosed h (last a) 0 a us)
    (and_then (f a us) (λ b vs. enclosed h (last a) (last b) b vs)))))

-- A form, with forms nested at most d deep. Each is an entry, so a limit of 512 refuses only what the 512 places do (the theorem `deeper` of proofs/Depth).
unfoldable pub form : ℕ → Scene → List Token → Got Scene
form zero s ts = no
form (suc d) s ts = and_then (opening_in ts) (λ h us. body (form d) h s us)
