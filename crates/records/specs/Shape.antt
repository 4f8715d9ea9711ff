-- The record at a place of a file: its mark, its fields, their limits, the rest of its bytes.
--   fault c p         a fault of the file, by its cause and its place
--   on_ok r f         f of what r answers, or the fault of r
--   whole f p q r     r, unless the file f ends ahead of the place q: then the record at p is cut short
--   within ok p r     r, unless a limit is broken
--   between a x b     x is a to b
--   byte_at f p       the byte at a place
--   word_at f p       the word at a place, high byte first
--   part f p k        the k bytes from a place on
--   mark_of a b       the mark with these two letters
--   marked o          the mark, or that it is unknown
--   known p o         the same with the place
--   mark_at f p       the mark at a place
--   part_at f p most  the place and the bytes of the part whose length stands three bytes on from the mark at p
--   body_at f p m     the record at a place that begins with the mark m, and the place after it
--   record_at f p     the record at a place, and the place after it
use Rattle.std.specs.Prelude.{ℕ, ◌+◌, ◌*◌, Bool, if◌then◌else◌, ◌&&◌, List, length, take, drop, Some, None, Ok, Err, Option, Result, ◌==◌, nat_le, slice_index}
use Rattle.faults.specs.declared.fault.Cause.{Cause}
use Rattle.faults.specs.declared.fault.Cause.TheVariants as cause
use Rattle.faults.specs.declared.fault.ReaderFault.{ReaderFault}
use Rattle.records.specs.declared.record.Mark.{Mark}
use Rattle.records.specs.declared.record.Mark.TheVariants as mark
use Rattle.records.specs.Item.{Item, header, start, effect, need, pair, link, name, end}

abbrev pub fault : Cause → ℕ → ReaderFault
fault c p = record { cause = c; place = p }

abbrev pub on_ok : {A B : Type 0} → Result A ReaderFault → (A → Result B ReaderFault) → Result B ReaderFault
on_ok (Ok x) f = f x
on_ok (Err e) f = Err e

abbrev pub whole : {A : Type 0} → List ℕ → ℕ → ℕ → Result A ReaderFault → Result A ReaderFault
whole file p q r = if nat_le q (length file) then r else Err (fault cause.CutShort p)

abbrev pub within : {A : Type 0} → Bool → ℕ → Result A ReaderFault → Result A ReaderFault
within ok p r = if ok then r else Err (fault cause.OffLimits p)

abbrev pub between : ℕ → ℕ → ℕ → Bool
between low x high = nat_le low x && nat_le x high

abbrev pub byte_at : List ℕ → ℕ → ℕ
byte_at file p = slice_index file p

abbrev pub word_at : List ℕ → ℕ → ℕ
word_at file p = 256 * slice_index file p + slice_index file (p + 1)

abbrev pub part : List ℕ → ℕ → ℕ → List ℕ
part file p k = take k (drop p file)

abbrev pub mark_of : ℕ → ℕ → Option Mark
mark_of a b =
    if a == 83 && b == 72 then Some mark.Header
    else if a == 83 && b == 71 then Some mark.Start
    else if a == 69 && b == 70 then Some mark.Effect
    else if a == 78 && b == 68 then Some mark.Need
    else if a == 80 && b == 82 then Some mark.Pair
    else if a == 76 && b == 75 then Some mark.Link
    else if a == 78 && b == 77 then Some mark.Name
    else if a == 69 && b == 78 then Some mark.End
    else None

abbrev pub marked : Option Mark → Result Mark Cause
marked (Some m) = Ok m
marked None = Err cause.Mark

abbrev pub known : ℕ → Option Mark → Result Mark ReaderFault
known p (Some m) = Ok m
known p None = Err (fault cause.Mark p)

abbrev pub mark_at : List ℕ → ℕ → Result Mark ReaderFault
mark_at file p = whole file p (p + 2) (known p (mark_of (byte_at file p) (byte_at file (p + 1))))

abbrev pub part_at : List ℕ → ℕ → ℕ → Result (ℕ × List ℕ) ReaderFault
part_at file p most =
    whole file p (p + 4)
    (within (between 1 (byte_at file (p + 3)) most) p
    (whole file p (p + 4 + byte_at file (p + 3)) (Ok (p + 4, part file (p + 4) (byte_at file (p + 3))))))

abbrev pub body_at : List ℕ → ℕ → Mark → Result (Item × ℕ) ReaderFault
body_at file p mark.Header =
    whole file p (p + 4)
    (within (between 2 (byte_at file (p + 2)) 64 && between 1 (byte_at file (p + 3)) 64) p (Ok (header (byte_at file (p + 2)) (byte_at file (p + 3)), p + 4)))
body_at file p mark.Start = whole file p (p + 4) (Ok (start (word_at file (p + 2)), p + 4))
body_at file p mark.Effect =
    whole file p (p + 6)
    (Ok (effect (record { step = byte_at file (p + 2); signal = byte_at file (p + 3); word = word_at file (p + 4) }), p + 6))
body_at file p mark.Need =
    whole file p (p + 8) (Ok (need (byte_at file (p + 2)) (byte_at file (p + 3)) (word_at file (p + 4)) (word_at file (p + 6)), p + 8))
body_at file p mark.Pair = whole file p (p + 4) (Ok (pair (byte_at file (p + 2)) (byte_at file (p + 3)), p + 4))
body_at file p mark.Link = on_ok (part_at file p 64) (λ x. Ok (link (byte_at file (p + 2)) x.1, x.0 + length x.1))
body_at file p mark.Name = on_ok (part_at file p 24) (λ x. Ok (name (byte_at file (p + 2)) x.1, x.0 + length x.1))
body_at file p mark.End = Ok (end, p + 2)

abbrev pub record_at : List ℕ → ℕ → Result (Item × ℕ) ReaderFault
record_at file p = on_ok (mark_at file p) (body_at file p)
