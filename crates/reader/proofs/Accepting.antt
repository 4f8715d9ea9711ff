-- Records that are accepted one by one are those of a lawful file.
use Rattle.std.proofs.Common.{◌≡◌, ℕ, ◌+◌, ◌<◌, ◌≤◌, Bool, true, false, not, ltb, List, [], ◌∷◌, ◌++◌, map, length, MatchBool, All, sym, refl, ap, ◌∙◌, subst, arith}
use Rattle.std.proofs.lemmas.List.Elements.{All-cons, All-head, All-nil, All-tail}
use Rattle.std.proofs.lemmas.List.{length_push}
use Rattle.std.proofs.lemmas.Bool.{and_parts, and_from, ltb-true, ltb-false, lt-ltb, le-ltb, not-true, not_from_false}
use Rattle.records.specs.Item.{Item, header, start, effect, need, pair, link, name, end, kind, is_end}
use Rattle.reader.specs.Lawful.{stands, Admissible}
use Rattle.reader.specs.Rules.{IsPart, Follow, Lawful}
use Rattle.reader.specs.Said.{Said, said, nothing}
use Rattle.reader.proofs.Admitting.{keeps, admits}
use Rattle.reader.proofs.Kept.{first_header, no_header, start_to_come}

-- these records may come after what is said so far, one by one, up to the end record, which is the last
abbrev pub Accepted : Said → List Item → Type 0
Accepted s [] = ⊥
Accepted s (x ∷ xs) = Admissible s x × MatchBool (is_end x) (xs ≡ []) (Accepted (said s x) xs)

-- the header and every start word are read
abbrev pub Ready : Said → Type 0
Ready s = (0 < s.steps) × (s.signals ≤ length s.starts)

-- the record goes on, leaves the header's numbers and the start words as they are, and may stand where the end may
pub record Steady (s : Said) (x : Item) : Type 0 where
  pub goes_on : is_end x ≡ false
  pub steps : (said s x).steps ≡ s.steps
  pub signals : (said s x).signals ≡ s.signals
  pub starts : (said s x).starts ≡ s.starts
  pub after : stands s (kind x) ≡ stands s (kind end)

-- every part is such a record
pub steady : (s : Said) (x : Item) → IsPart x → Steady s x
steady s (header n v) p = absurd p
steady s (start w) p = absurd p
steady s (effect e) p = record { goes_on = refl; steps = refl; signals = refl; starts = refl; after = refl }
steady s (need w x a b) p = record { goes_on = refl; steps = refl; signals = refl; starts = refl; after = refl }
steady s (pair e l) p = record { goes_on = refl; steps = refl; signals = refl; starts = refl; after = refl }
steady s (link n cs) p = record { goes_on = refl; steps = refl; signals = refl; starts = refl; after = refl }
steady s (name w bs) p = record { goes_on = refl; steps = refl; signals = refl; starts = refl; after = refl }
steady s end p = absurd p

-- the end may stand where all of them are read
ready_stands : (s : Said) → Ready s → stands s (kind end) ≡ true
ready_stands s r = and_from _ _ (lt-ltb 0 s.steps r.0) (not_from_false _ (le-ltb (length s.starts) s.signals r.1))

-- it may stand only there
pub stands_ready : (s : Said) → stands s (kind end) ≡ true → Ready s
stands_ready s e =
    let r = and_parts (ltb 0 s.steps) (not (ltb (length s.starts) s.signals)) e in
    (ltb-true _ _ r.0, ltb-false _ _ (not-true _ r.1))

-- parts and the end record that keep the rules, once every start word is read, are accepted
accepted_parts : (s : Said) (parts : List Item) → All IsPart parts → Ready s → Follow s (parts ++ end ∷ []) → Accepted s (parts ++ end ∷ [])
accepted_parts s [] all r f = (admits s end (ready_stands s r) f.0, refl)
accepted_parts s (x ∷ parts) all r f =
    let p = steady s x (All-head IsPart x parts all) in
    let ready : Ready (said s x) = (omega (arith, p.steps), omega (arith, p.signals, ap length p.starts)) in
    (admits s x (p.after ∙ ready_stands s r) f.0, rw p.goes_on (accepted_parts (said s x) parts (All-tail IsPart x parts all) ready f.1))

-- and so are start words ahead of them, as many as are still to come
accepted_starts : (s : Said) (words : List ℕ) (parts : List Item) → All IsPart parts → 0 < s.steps → length s.starts + length words ≡ s.signals
    → Follow s (map start words ++ (parts ++ end ∷ [])) → Accepted s (map start words ++ (parts ++ end ∷ []))
accepted_starts s [] parts all h n f = accepted_parts s parts all (h, omega arith) f
accepted_starts s (w ∷ words) parts all h n f = (
  admits s (start w) (and_from _ _ (lt-ltb 0 s.steps h) (lt-ltb (length s.starts) s.signals (omega arith))) f.0,
  accepted_starts (said s (start w)) words parts all h (omega (arith, length_push s.starts w)) f.1,
)

-- the records of a lawful file are accepted
pub accepted : (xs : List Item) → Lawful xs → Accepted nothing xs
accepted xs l =
    let f : Follow nothing (header l.steps l.signals ∷ (map start l.words ++ (l.parts ++ end ∷ []))) = subst (Follow nothing) l.whole l.kept in
    subst (Accepted nothing) (sym l.whole) (
      admits nothing (header l.steps l.signals) refl f.0,
      accepted_starts (said nothing (header l.steps l.signals)) l.words l.parts l.of_parts (omega (arith, f.0)) (omega (arith, l.started)) f.1,
    )

-- accepted records keep the rules
follow : (s : Said) (xs : List Item) → Accepted s xs → Follow s xs
follow s [] a = absurd a
follow s (x ∷ xs) a = (keeps s x a.0, go (is_end x) a.1 (follow (said s x) xs))
  where
    go : (b : Bool) → MatchBool b (xs ≡ []) (Accepted (said s x) xs) → (Accepted (said s x) xs → Follow (said s x) xs) → Follow (said s x) xs
    go true none more = subst (Follow (said s x)) (sym none) tt
    go false later more = more later

-- the rest of a file: start words as many as are still to come, then parts, then the end record
record Rest (s : Said) (xs : List Item) : Type 0 where
  words : List ℕ
  parts : List Item
  whole : xs ≡ map start words ++ (parts ++ end ∷ [])
  started : length s.starts + length words ≡ s.signals
  of_parts : All IsPart parts

-- a part ahead of the rest
part_rest : (s : Said) (x : Item) (xs : List Item) → length s.starts ≤ s.signals → IsPart x → stands s (kind x) ≡ true → Rest (said s x) xs → Rest s (x ∷ xs)
part_rest s x xs h p e r =
    let d = steady s x p in
    let ready = stands_ready s (sym d.after ∙ e) in
    go r.words r.whole (omega (arith, r.started, d.signals, ap length d.starts)) (omega arith)
  where
    go : (words : List ℕ) → xs ≡ map start words ++ (r.parts ++ end ∷ []) → length s.starts + length words ≡ s.signals → s.signals ≤ length s.starts → Rest s (x ∷ xs)
    go [] same n ready = record { words = []; parts = x ∷ r.parts; whole = ap (λ (l : List Item). x ∷ l) same; started = n; of_parts = All-cons IsPart x r.parts p r.of_parts }
    go (w ∷ words) same n ready = absurd (omega arith)

-- accepted records after the header are such a rest
rest : (s : Said) (xs : List Item) → 0 < s.steps → length s.starts ≤ s.signals → Accepted s xs → Rest s xs
rest s [] h n a = absurd a
rest s (header m v ∷ xs) h n a = absurd (no_header s h a.0.placed)
rest s (start w ∷ xs) h n a =
    let few = start_to_come s a.0.placed in
    let long = length_push s.starts w in
    let r = rest (said s (start w)) xs h (omega arith) a.1 in
    record { words = w ∷ r.words; parts = r.parts; whole = ap (λ (l : List Item). start w ∷ l) r.whole; started = omega (arith, r.started); of_parts = r.of_parts }
rest s (effect e ∷ xs) h n a = part_rest s (effect e) xs n tt a.0.placed (rest (said s (effect e)) xs h n a.1)
rest s (need w x l u ∷ xs) h n a = part_rest s (need w x l u) xs n tt a.0.placed (rest (said s (need w x l u)) xs h n a.1)
rest s (pair e l ∷ xs) h n a = part_rest s (pair e l) xs n tt a.0.placed (rest (said s (pair e l)) xs h n a.1)
rest s (link m cs ∷ xs) h n a = part_rest s (link m cs) xs n tt a.0.placed (rest (said s (link m cs)) xs h n a.1)
rest s (name w bs ∷ xs) h n a = part_rest s (name w bs) xs n tt a.0.placed (rest (said s (name w bs)) xs h n a.1)
rest s (end ∷ xs) h n a =
    let ready = stands_ready s a.0.placed in
    record { words = []; parts = []; whole = ap (λ (l : List Item). end ∷ l) a.1; started = omega arith; of_parts = All-nil IsPart }

-- accepted records that begin with a header are those of a lawful file
lawful_header : (n v : ℕ) (xs : List Item) → Accepted nothing (header n v ∷ xs) → Lawful (header n v ∷ xs)
lawful_header n v xs a =
    let k = keeps nothing (header n v) a.0 in
    let r = rest (said nothing (header n v)) xs (omega arith) (omega arith) a.1 in
    record {
      steps = n;
      signals = v;
      words = r.words;
      parts = r.parts;
      whole = ap (λ (l : List Item). header n v ∷ l) r.whole;
      started = omega (arith, r.started);
      of_parts = r.of_parts;
      kept = follow nothing (header n v ∷ xs) a;
    }

-- accepted records are those of a lawful file
pub lawful : (xs : List Item) → Accepted nothing xs → Lawful xs
lawful [] a = absurd a
lawful (x ∷ xs) a =
    let first = first_header x a.0 in
    subst (λ (y : Item). Lawful (y ∷ xs)) (sym first.2)
    (lawful_header first.0 first.1 xs (subst (λ (y : Item). Accepted nothing (y ∷ xs)) first.2 a))
