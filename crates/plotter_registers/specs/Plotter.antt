-- The plotter's registers of document 02, request (xiv): what a write answers and leaves, and what a step does.
use Rattle.std.specs.Prelude.{Bool, not, cond, ◌&&◌, ◌||◌, ℕ, ◌+◌, ◌*◌, ◌-◌, eqb, ltb, get_or, set, replicate, Err, Ok, Result, ⊤}
use Rattle.std.specs.Int.Bits.{bit_and, bit_or}
use Rattle.plotter_registers.specs.declared.Position.{Position}
use Rattle.plotter_registers.specs.declared.Registers.{Registers}
use Rattle.plotter_registers.specs.declared.Written.{Written}
use Rattle.plotter_registers.specs.declared.BadWrite.{BadWrite}
use Rattle.plotter_registers.specs.declared.BadWrite.TheVariants.{ReadOnly, BadCommand}

-- Document 02's number of each refusal; 0 for none.
unfoldable pub write_number : Result ⊤ BadWrite → ℕ
write_number (Ok tt) = 0
write_number (Err ReadOnly) = 16
write_number (Err BadCommand) = 17

-- "status (bit 0 pen down, bit 1 busy, bit 2 off sheet)": each bit by its weight
abbrev pub pen_down_bit : ℕ
pen_down_bit = 1

abbrev pub busy_bit : ℕ
busy_bit = 2

abbrev pub off_sheet_bit : ℕ
off_sheet_bit = 4

-- whether a byte's bit is set; the byte with it set; the byte with it clear
abbrev pub has_bit : ℕ → ℕ → Bool
has_bit bit b = not (eqb (bit_and b bit) 0)

abbrev pub set_bit : ℕ → ℕ → ℕ
set_bit bit b = bit_or b bit

abbrev pub clear_bit : ℕ → ℕ → ℕ
clear_bit bit b = bit_and b (255 - bit)

-- byte k: 0 last command, 1 status, 2 and 3 target X, 4 and 5 target Y, 6 interrupt mask, 7 pending
abbrev pub byte_at : ℕ → Registers → ℕ
byte_at k r = get_or r.bytes k 0

abbrev pub with_byte : ℕ → ℕ → Registers → Registers
with_byte k v r = record { pen = r.pen; target = r.target; bytes = set r.bytes k v }

-- home's target; "all 0 at first"
abbrev pub home : Position
home = record { x = 0; y = 0 }

abbrev pub initial : Registers
initial = record { pen = home; target = home; bytes = replicate 8 0 }

unfoldable pub busy : Registers → Bool
busy r = has_bit busy_bit (byte_at 1 r)

-- "low byte first"
abbrev pub word_of : ℕ → ℕ → ℕ
word_of low high = low + 256 * high

-- the target that bytes 2 to 5 spell
unfoldable pub goal : Registers → Position
goal r = record { x = word_of (byte_at 2 r) (byte_at 3 r); y = word_of (byte_at 4 r) (byte_at 5 r) }

-- "past 8,410 in X or 5,940 in Y"
abbrev pub past_sheet : Position → Bool
past_sheet p = ltb 8410 p.x || ltb 5940 p.y

-- a move is accepted: its target is fixed, "clears bit 2 and sets busy"
unfoldable pub moving : Registers → Position → Registers
moving r to = record { pen = r.pen; target = to; bytes = set r.bytes 1 (set_bit busy_bit (clear_bit off_sheet_bit (byte_at 1 r))) }

-- what a command does: 1 pen down, 2 pen up, 3 home, 4 go, which past the sheet "sets bit 2 and moves nothing"
unfoldable pub obeyed : Registers → ℕ → Registers
obeyed r c =
    cond (eqb c 1) (with_byte 1 (set_bit pen_down_bit (byte_at 1 r)) r)
    (cond (eqb c 2) (with_byte 1 (clear_bit pen_down_bit (byte_at 1 r)) r)
    (cond (eqb c 3) (moving r home)
    (cond (past_sheet (goal r)) (with_byte 1 (set_bit off_sheet_bit (byte_at 1 r)) r)
    (moving r (goal r)))))

-- 16: "a write to bytes 1 or 7 or past byte 7"; then 17: "a command byte outside 1 to 4 or given while busy"
unfoldable pub judged : Registers → ℕ → ℕ → Result ⊤ BadWrite
judged r at v =
    cond (eqb at 1 || ltb 6 at) (Err ReadOnly)
    (cond (eqb at 0 && ((eqb v 0 || ltb 4 v) || busy r)) (Err BadCommand) (Ok tt))

-- what an accepted write leaves: "byte 0 keeps every accepted command", "a write to the mask clears pending"
unfoldable pub stored : Registers → ℕ → ℕ → Registers
stored r at v =
    cond (eqb at 0) (with_byte 0 v (obeyed r v))
    (cond (eqb at 6) (with_byte 7 0 (with_byte 6 v r)) (with_byte at v r))

abbrev pub on_accepted : Result ⊤ BadWrite → Registers → Registers → Registers
on_accepted (Ok tt) a b = a
on_accepted (Err k) a b = b

-- the registers after a write; a refused one changes nothing
unfoldable pub after_write : Registers → ℕ → ℕ → Registers
after_write r at v = on_accepted (judged r at v) (stored r at v) r

unfoldable pub write_of : Registers → ℕ → ℕ → Written
write_of r at v = record { registers = after_write r at v; number = write_number (judged r at v) }

-- "moves each axis one tenth toward its target"
unfoldable pub toward : ℕ → ℕ → ℕ
toward at to = cond (ltb at to) (at + 1) (cond (ltb to at) (at - 1) at)

unfoldable pub closer : Position → Position → Position
closer pen to = record { x = toward pen.x to.x; y = toward pen.y to.y }

unfoldable pub moved : Registers → Registers
moved r = record { pen = closer r.pen r.target; target = r.target; bytes = r.bytes }

-- "On arrival busy clears, and pending bit 0 is set if mask bit 0 is"
unfoldable pub arrived : Registers → Registers
arrived r =
    let s : Registers = with_byte 1 (clear_bit busy_bit (byte_at 1 r)) r in
    cond (has_bit 1 (byte_at 6 r)) (with_byte 7 (set_bit 1 (byte_at 7 r)) s) s

abbrev pub same_position : Position → Position → Bool
same_position p q = eqb p.x q.x && eqb p.y q.y

-- the registers after a step, which does nothing but "while busy"
unfoldable pub step_of : Registers → Registers
step_of r = cond (busy r) (cond (same_position (moved r).pen r.target) (arrived (moved r)) (moved r)) r
