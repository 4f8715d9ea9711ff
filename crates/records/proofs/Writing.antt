-- What stands in the bytes of a record, and what is read from them.
use Rattle.std.proofs.Common.{◌≡◌, ℕ, suc, ◌+◌, ◌*◌, ◌/◌, ◌%◌, ◌<◌, ◌≤◌, Bool, true, false, cond, ◌&&◌, eqb, leb, List, [], ◌∷◌, ◌++◌, length, get_or, drop, Some, Ok, Option, Result, sym, refl, ap, ◌∙◌, subst, add-zero, arith}
use Rattle.std.proofs.lemmas.List.{length-drop, length-append, get_or-drop, drop-drop, drop_more, take_at, drop_at, take-append-drop, append_assoc}
use Rattle.std.proofs.lemmas.Bool.{eqb-true, le-leb, and_parts, cond-true}
use Rattle.faults.specs.declared.fault.ReaderFault.{ReaderFault}
use Rattle.records.specs.declared.record.Mark.{Mark}
use Rattle.records.specs.declared.record.Mark.TheVariants as mark
use Rattle.records.specs.Item.{Item, header, start, effect, need, pair, link, name, end, kind, letters, word, fields, bytes}
use Rattle.records.specs.Standing.{Bytes, Standing, RecordsExactly}
use Rattle.records.specs.Standing.{well_formed}
use Rattle.records.specs.Shape.{on_ok, between, byte_at, word_at, part, mark_of, known, mark_at, part_at, body_at, record_at}
use Rattle.records.proofs.Bodies.{Answers, FaultAt, Marked, Body, Read, mark_answers, also_answers, both_answers, whole_answers, within_answers, then_answers, body_answers, length-part, two_letters}

-- the letters of a mark are its mark's
letters_mark : (m : Mark) (l : List ℕ) → mark_of (get_or (letters m ++ l) 0 0) (get_or (letters m ++ l) 1 0) ≡ Some m
letters_mark mark.Header l = refl
letters_mark mark.Start l = refl
letters_mark mark.Effect l = refl
letters_mark mark.Need l = refl
letters_mark mark.Pair l = refl
letters_mark mark.Link l = refl
letters_mark mark.Name l = refl
letters_mark mark.End l = refl

module _ (a b : ℕ) where
  -- two letters that pass the test of a mark are these
  tested : (c d : ℕ) → (eqb a c && eqb b d) ≡ true → a ∷ b ∷ [] ≡ c ∷ d ∷ []
  tested c d e =
      let r = and_parts (eqb a c) (eqb b d) e in
      let first = eqb-true a c r.0 in
      let second = eqb-true b d r.1 in
      cc

  -- the mark is that of the first test that passes
  first_test : (m : Mark) (t : Bool) (k : Mark) (rest : Option Mark) → (t ≡ true → a ∷ b ∷ [] ≡ letters k) → (rest ≡ Some m → a ∷ b ∷ [] ≡ letters m)
      → cond t (Some k) rest ≡ Some m → a ∷ b ∷ [] ≡ letters m
  first_test m true k rest here later e =
      let same : k ≡ m = cc in
      here refl ∙ ap letters same
  first_test m false k rest here later e = later e

  -- two letters with a mark are the letters of that mark
  mark_letters : (m : Mark) → mark_of a b ≡ Some m → a ∷ b ∷ [] ≡ letters m
  mark_letters m =
      first_test m _ mark.Header _ (tested 83 72)
      (first_test m _ mark.Start _ (tested 83 71)
      (first_test m _ mark.Effect _ (tested 69 70)
      (first_test m _ mark.Need _ (tested 78 68)
      (first_test m _ mark.Pair _ (tested 80 82)
      (first_test m _ mark.Link _ (tested 76 75)
      (first_test m _ mark.Name _ (tested 78 77)
      (first_test m _ mark.End _ (tested 69 78) (λ e. absurd (let z : ◌≡◌ {A = ℕ} 0 1 = cc in omega arith)))))))))

-- a word of two bytes is these bytes
word_bytes : (a b : ℕ) → b < 256 → word (256 * a + b) ≡ a ∷ b ∷ []
word_bytes a b h =
    let high : (256 * a + b) / 256 ≡ a = omega arith in
    let low : (256 * a + b) % 256 ≡ b = omega arith in
    cc

-- a word's bytes are that word
bytes_word : (w : ℕ) → 256 * (w / 256) + w % 256 ≡ w
bytes_word w = omega arith

-- the record x stands in the file from the place p on, ahead of the bytes of back
module _ (file : List ℕ) (p : ℕ) (x : Item) (back : List ℕ) (here : drop p file ≡ bytes x ++ back) where
  -- each byte of the record
  byte : (i : ℕ) → byte_at file (p + i) ≡ get_or (bytes x ++ back) i 0
  byte i = sym (get_or-drop p file i 0) ∙ ap (λ (l : List ℕ). get_or l i 0) here

  -- each word of the record
  word_of : (i : ℕ) → word_at file (p + i) ≡ 256 * get_or (bytes x ++ back) i 0 + get_or (bytes x ++ back) (suc i) 0
  word_of i =
      let next_place : p + i + 1 ≡ p + suc i = omega arith in
      let high = byte i in
      let low : byte_at file (p + i + 1) ≡ get_or (bytes x ++ back) (suc i) 0 = ap (byte_at file) next_place ∙ byte (suc i) in
      cc

  -- the record ends inside the file
  pub room : p + length (bytes x) ≤ length file
  room = omega (arith, two_letters x, length-drop p file, length-append (bytes x) back, ap length here)

  -- what comes after the record
  pub after_record : drop (p + length (bytes x)) file ≡ back
  after_record = sym (drop-drop (length (bytes x)) p file) ∙ ap (drop (length (bytes x))) here ∙ drop_at (bytes x) back _ refl

  -- its mark is read
  pub mark_reads : mark_at file p ≡ Ok (kind x)
  mark_reads =
      let first : byte_at file p ≡ get_or (bytes x ++ back) 0 0 = ap (byte_at file) (sym (add-zero p)) ∙ byte 0 in
      cond-true (leb (p + 2) (length file)) _ _ (le-leb (p + 2) (length file) (omega (arith, room, two_letters x)))
      ∙ ap (λ (c : ℕ). known p (mark_of c (byte_at file (p + 1)))) first
      ∙ ap (λ (c : ℕ). known p (mark_of (get_or (bytes x ++ back) 0 0) c)) (byte 1)
      ∙ ap (λ (l : List ℕ). known p (mark_of (get_or l 0 0) (get_or l 1 0))) (append_assoc (letters (kind x)) (fields x) back)
      ∙ ap (known p) (letters_mark (kind x) (fields x ++ back))

-- a part with its length in a byte is read
part_reads : (file : List ℕ) (p most : ℕ) (bs back : List ℕ) → byte_at file (p + 3) ≡ length bs → drop (p + 4) file ≡ bs ++ back
    → p + 4 + length bs ≤ length file → between 1 (length bs) most ≡ true → part_at file p most ≡ Ok (p + 4, bs)
part_reads file p most bs back count after inside e =
    rw (count, e, le-leb (p + 4) (length file) (omega arith), le-leb (p + 4 + length bs) (length file) inside, after, take_at bs back (length bs) refl)

-- the fields of a record are read
pub body_reads : (file : List ℕ) (p : ℕ) (x : Item) (back : List ℕ) → drop p file ≡ bytes x ++ back → well_formed x ≡ true
    → body_at file p (kind x) ≡ Ok (x, p + length (bytes x))
body_reads file p (header n v) back here e =
    let b = byte file p (header n v) back here in
    rw (le-leb (p + 4) (length file) (room file p (header n v) back here), b 2, b 3, e)
body_reads file p (start w) back here e =
    rw (le-leb (p + 4) (length file) (room file p (start w) back here), word_of file p (start w) back here 2, bytes_word w)
body_reads file p (effect f) back here e =
    let b = byte file p (effect f) back here in
    rw (le-leb (p + 6) (length file) (room file p (effect f) back here), b 2, b 3, word_of file p (effect f) back here 4, bytes_word f.word)
body_reads file p (need s x l h) back here e =
    let b = byte file p (need s x l h) back here in
    let w = word_of file p (need s x l h) back here in
    rw (le-leb (p + 8) (length file) (room file p (need s x l h) back here), b 2, b 3, w 4, w 6, bytes_word l, bytes_word h)
body_reads file p (pair f l) back here e =
    let b = byte file p (pair f l) back here in
    rw (le-leb (p + 4) (length file) (room file p (pair f l) back here), b 2, b 3)
body_reads file p (link n cs) back here e =
    let b = byte file p (link n cs) back here in
    let inside = room file p (link n cs) back here in
    let same : p + 4 + length cs ≡ p + length (bytes (link n cs)) = omega arith in
    rw (part_reads file p 64 cs back (b 3) (sym (drop-drop 4 p file) ∙ ap (drop 4) here) (omega arith) e, b 2, same)
body_reads file p (name s bs) back here e =
    let b = byte file p (name s bs) back here in
    let inside = room file p (name s bs) back here in
    let same : p + 4 + length bs ≡ p + length (bytes (name s bs)) = omega arith in
    rw (part_reads file p 24 bs back (b 3) (sym (drop-drop 4 p file) ∙ ap (drop 4) here) (omega arith) e, b 2, same)
body_reads file p end back here e = refl

-- the next bytes of a file
module _ (file : List ℕ) (p : ℕ) where
  -- one byte
  one : (i j : ℕ) → j ≡ suc i → p + j ≤ length file → drop (p + i) file ≡ byte_at file (p + i) ∷ drop (p + j) file
  one i j e h =
      let next_place : p + i + 1 ≡ p + j = omega arith in
      drop_more file (p + i) 0 (omega arith) ∙ ap (λ (q : ℕ). byte_at file (p + i) ∷ drop q file) next_place

  -- two bytes, as a word
  two : Bytes file → (i j : ℕ) → j ≡ suc (suc i) → p + j ≤ length file → drop (p + i) file ≡ word (word_at file (p + i)) ++ drop (p + j) file
  two small i j e h =
      let next_place : p + suc i ≡ p + i + 1 = omega arith in
      one i (suc i) refl (omega arith)
      ∙ ap (λ (l : List ℕ). byte_at file (p + i) ∷ l) (one (suc i) j e h)
      ∙ ap (λ (q : ℕ). byte_at file (p + i) ∷ byte_at file q ∷ drop (p + j) file) next_place
      ∙ ap (λ (l : List ℕ). l ++ drop (p + j) file) (sym (word_bytes (byte_at file (p + i)) (byte_at file (p + i + 1)) (small (p + i + 1))))

  -- some bytes, with their number in a byte
  some : (k : ℕ) → drop (p + 4) file ≡ part file (p + 4) k ++ drop (p + 4 + k) file
  some k = sym (take-append-drop k (drop (p + 4) file)) ∙ ap (λ (l : List ℕ). part file (p + 4) k ++ l) (drop-drop k (p + 4) file)

  -- the fields of a record stand ahead of the place after it
  abbrev Spelled : Item × ℕ → Type 0
  Spelled y = drop (p + 2) file ≡ fields y.0 ++ drop y.1 file

  -- two bytes, the second of which is the number of the bytes after it
  abbrev PartSpelled : ℕ × List ℕ → Type 0
  PartSpelled y = drop (p + 2) file ≡ byte_at file (p + 2) ∷ length y.1 ∷ y.1 ++ drop (y.0 + length y.1) file

  -- a part of the file is spelled where it is read
  part_spelled : (most : ℕ) → Answers PartSpelled (FaultAt p) (part_at file p most)
  part_spelled most =
      whole_answers PartSpelled p file (p + 4) _
      (λ h. within_answers PartSpelled p (between 1 (byte_at file (p + 3)) most) _
      (λ e. whole_answers PartSpelled p file (p + 4 + byte_at file (p + 3)) _
      (λ i. let long = length-part file (p + 4) (byte_at file (p + 3)) i in
      one 2 3 refl (omega arith)
      ∙ ap (λ (l : List ℕ). byte_at file (p + 2) ∷ l) (one 3 4 refl h)
      ∙ ap (λ (l : List ℕ). byte_at file (p + 2) ∷ byte_at file (p + 3) ∷ l) (some (byte_at file (p + 3)))
      ∙ ap (λ (k : ℕ). byte_at file (p + 2) ∷ k ∷ part file (p + 4) (byte_at file (p + 3)) ++ drop (p + 4 + k) file) (sym long))))

  -- the letters of a mark stand where it is read
  letters_spelled : (m : Mark) → Marked file p m → drop p file ≡ letters m ++ drop (p + 2) file
  letters_spelled m h =
      ap (λ (q : ℕ). drop q file) (sym (add-zero p))
      ∙ one 0 1 refl (omega (arith, h.0))
      ∙ ap (λ (l : List ℕ). byte_at file (p + 0) ∷ l) (one 1 2 refl h.0)
      ∙ ap (λ (q : ℕ). byte_at file q ∷ byte_at file (p + 1) ∷ drop (p + 2) file) (add-zero p)
      ∙ ap (λ (l : List ℕ). l ++ drop (p + 2) file) (mark_letters (byte_at file p) (byte_at file (p + 1)) m h.1)

  module _ (small : Bytes file) where
    -- a record's fields are spelled where they are read
    body_spelled : (m : Mark) → Answers Spelled (FaultAt p) (body_at file p m)
    body_spelled mark.Header =
        whole_answers Spelled p file (p + 4) _
        (λ h. within_answers Spelled p (between 2 (byte_at file (p + 2)) 64 && between 1 (byte_at file (p + 3)) 64) (Ok (header (byte_at file (p + 2)) (byte_at file (p + 3)), p + 4))
        (λ e. one 2 3 refl (omega arith) ∙ ap (λ (l : List ℕ). byte_at file (p + 2) ∷ l) (one 3 4 refl h)))
    body_spelled mark.Start = whole_answers Spelled p file (p + 4) _ (λ h. two small 2 4 refl h)
    body_spelled mark.Effect =
        whole_answers Spelled p file (p + 6) _
        (λ h. one 2 3 refl (omega arith)
        ∙ ap (λ (l : List ℕ). byte_at file (p + 2) ∷ l) (one 3 4 refl (omega arith) ∙ ap (λ (l : List ℕ). byte_at file (p + 3) ∷ l) (two small 4 6 refl h)))
    body_spelled mark.Need =
        whole_answers Spelled p file (p + 8) _
        (λ h. one 2 3 refl (omega arith)
        ∙ ap (λ (l : List ℕ). byte_at file (p + 2) ∷ l) (one 3 4 refl (omega arith)
        ∙ ap (λ (l : List ℕ). byte_at file (p + 3) ∷ l) (two small 4 6 refl (omega arith) ∙ ap (λ (l : List ℕ). word (word_at file (p + 4)) ++ l) (two small 6 8 refl h))))
    body_spelled mark.Pair =
        whole_answers Spelled p file (p + 4) _ (λ h. one 2 3 refl (omega arith) ∙ ap (λ (l : List ℕ). byte_at file (p + 2) ∷ l) (one 3 4 refl h))
    body_spelled mark.Link = then_answers Spelled p PartSpelled (part_at file p 64) _ (part_spelled 64) (λ y h. h)
    body_spelled mark.Name = then_answers Spelled p PartSpelled (part_at file p 24) _ (part_spelled 24) (λ y h. h)
    body_spelled mark.End = refl

-- the bytes of a record stand ahead of the place after it
abbrev pub Stands : List ℕ → ℕ → Item × ℕ → Type 0
Stands file p y = drop p file ≡ bytes y.0 ++ drop y.1 file

-- the letters of a mark and the fields behind them are the bytes of a record
joins : (file : List ℕ) (p : ℕ) (m : Mark) → Marked file p m → (y : Item × ℕ) → kind y.0 ≡ m → Spelled file p y → Stands file p y
joins file p m h y k g =
    letters_spelled file p m h
    ∙ ap (λ (l : List ℕ). letters m ++ l) g
    ∙ ap (λ (n : Mark). letters n ++ (fields y.0 ++ drop y.1 file)) (sym k)
    ∙ sym (append_assoc (letters (kind y.0)) (fields y.0) (drop y.1 file))

-- a record that is read at a mark, with its limits and its bytes
abbrev pub Whole : List ℕ → ℕ → Mark → Item × ℕ → Type 0
Whole file p m y = Body file p m y.0 y.1 × Stands file p y

pub whole_body : (file : List ℕ) → Bytes file → (p : ℕ) (m : Mark) → Marked file p m → Answers (Whole file p m) (FaultAt p) (body_at file p m)
whole_body file small p m h =
    also_answers (λ (y : Item × ℕ). Read file p h.0 m y × Spelled file p y) (Whole file p m) (FaultAt p) (body_at file p m)
    (λ y b. (b.0, joins file p m h y b.0.marked b.1))
    (both_answers (Read file p h.0 m) (Spelled file p) (FaultAt p) (body_at file p m) (body_answers file p h.0 m) (body_spelled file p small m))

-- a record is read exactly where it stands
abbrev Stood : List ℕ → ℕ → Item × ℕ → Type 0
Stood file p y = Standing file p y.0 y.1

standing : (file : List ℕ) (p : ℕ) (m : Mark) (y : Item × ℕ) → Whole file p m y → Stood file p y
standing file p m y b = record { formed = b.0.formed; after = b.0.after; here = b.1 }

pub records_exactly : RecordsExactly
records_exactly file small p x q = (stands_there, λ t. reads_there t)
  where
    stands_there : record_at file p ≡ Ok (x, q) → Standing file p x q
    stands_there e =
        subst (Answers (Stood file p) (FaultAt p)) e
        (then_answers (Stood file p) p (Marked file p) (mark_at file p) (body_at file p) (mark_answers file p)
        (λ m h. also_answers (Whole file p m) (Stood file p) (FaultAt p) (body_at file p m) (standing file p m) (whole_body file small p m h)))

    reads_there : Standing file p x q → record_at file p ≡ Ok (x, q)
    reads_there t =
        ap (λ (r : Result Mark ReaderFault). on_ok r (body_at file p)) (mark_reads file p x (drop q file) t.here)
        ∙ body_reads file p x (drop q file) t.here t.formed
        ∙ ap (λ (n : ℕ). Ok (x, n)) (sym t.after)
