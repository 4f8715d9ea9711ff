-- The name of a step, by the walk and by the records, and the steps that the records say.
use Rattle.std.proofs.Common.{◌≡◌, ℕ, ◌+◌, Bool, true, false, cond, eqb, List, [], ◌∷◌, ◌++◌, map, length, Some, None, Option, All, sym, refl, ap, ◌∙◌, subst}
use mathlib.Core.List.{reverse_aux}
use Rattle.std.proofs.lemmas.List.Elements.{All-append, All-from_get_or, All-head, All-map, All-push, All-tail, All-weaker}
use Rattle.std.proofs.lemmas.Bool.{eqb-true, eqb-false, ne_eqb, or_parts, cond-false}
use Rattle.sets.specs.Sets.{mem}
use Rattle.records.specs.Item.{Item, header, start, effect, need, pair, link, name, end, bytes, size}
use Rattle.reader.specs.Law.{said_in, name_of}
use Rattle.reader.specs.Reading.{name_in}
use Rattle.reader.specs.Rules.{IsPart, Lawful}
use Rattle.reader.specs.Said.{Said, said, said_by, nothing}
use Rattle.reader.proofs.Accepting.{steady}
use Rattle.reader.proofs.Admitting.{keeps}
use Rattle.reader.proofs.Walking.{Admitted}

-- the first answer that there is
abbrev pub or_else : {A : Type 0} → Option A → Option A → Option A
or_else (Some x) o = Some x
or_else None o = o

-- no further answer
pub or_none : {A : Type 0} (o : Option A) → or_else o None ≡ o
or_none (Some x) = refl
or_none None = refl

-- a step that is not among those with a name has none
unnamed : (past : List Item) (w : ℕ) → mem w (said_by past).named ≡ false → name_in past w ≡ None
unnamed [] w e = refl
unnamed (header n v ∷ past) w e = unnamed past w e
unnamed (start x ∷ past) w e = unnamed past w e
unnamed (effect x ∷ past) w e = unnamed past w e
unnamed (need s x a b ∷ past) w e = unnamed past w e
unnamed (pair x l ∷ past) w e = unnamed past w e
unnamed (link n cs ∷ past) w e = unnamed past w e
unnamed (name s bs ∷ past) w e =
    let r = or_parts (eqb w s) (mem w (said_by past).named) e in
    cond-false _ _ _ (ne_eqb s w (λ same. eqb-false w s r.0 (sym same))) ∙ unnamed past w r.1
unnamed (end ∷ past) w e = unnamed past w e

-- the first name that records say of a step is the last, since they say at most one
pub names_same : (past rest : List Item) (w : ℕ) → Admitted past → name_of 0 (reverse_aux past rest) w ≡ or_else (name_in past w) (name_of (size past) rest w)
names_same [] rest w a = refl
names_same (header n v ∷ past) rest w a = names_same past (header n v ∷ rest) w a.2
names_same (start x ∷ past) rest w a = names_same past (start x ∷ rest) w a.2
names_same (effect e ∷ past) rest w a = names_same past (effect e ∷ rest) w a.2
names_same (need s x l u ∷ past) rest w a = names_same past (need s x l u ∷ rest) w a.2
names_same (pair e l ∷ past) rest w a = names_same past (pair e l ∷ rest) w a.2
names_same (link n cs ∷ past) rest w a = names_same past (link n cs ∷ rest) w a.2
names_same (name s bs ∷ past) rest w a = names_same past (name s bs ∷ rest) w a.2 ∙ go (eqb s w) refl
  where
    go : (b : Bool) → eqb s w ≡ b
        → or_else (name_in past w) (cond b (Some (size past + 4, bs)) (name_of (size past + length (bytes (name s bs))) rest w))
        ≡ or_else (cond b (Some (size past + 4, bs)) (name_in past w)) (name_of (size past + length (bytes (name s bs))) rest w)
    go true e =
        ap (λ (o : Option (ℕ × List ℕ)). or_else o (Some (size past + 4, bs)))
        (unnamed past w (subst (λ (k : ℕ). mem k (said_by past).named ≡ false) (eqb-true s w e) (keeps (said_by past) (name s bs) a.0).3))
    go false e = refl
names_same (end ∷ past) rest w a = names_same past (end ∷ rest) w a.2

-- records that leave the number of steps
abbrev Leaves : Item → Type 0
Leaves x = (s : Said) → (said s x).steps ≡ s.steps

-- they leave it together
steps_left : (s : Said) (xs : List Item) → All Leaves xs → (said_in s xs).steps ≡ s.steps
steps_left s [] all = refl
steps_left s (x ∷ xs) all = steps_left (said s x) xs (All-tail Leaves x xs all) ∙ All-head Leaves x xs all s

-- parts do
part_leaves : (x : Item) → IsPart x → Leaves x
part_leaves x p s = (steady s x p).steps

-- lawful records say the number of steps of their header
pub steps_said : (records : List Item) (l : Lawful records) → (said_in nothing records).steps ≡ l.steps
steps_said records l =
    ap (λ (xs : List Item). (said_in nothing xs).steps) l.whole
    ∙ steps_left (said nothing (header l.steps l.signals)) (map start l.words ++ (l.parts ++ end ∷ []))
    (All-append Leaves _ _ (All-map Leaves start l.words (All-from_get_or (λ w. Leaves (start w)) l.words 0 (λ i h s. refl))) (All-push Leaves l.parts end (All-weaker IsPart Leaves part_leaves l.parts l.of_parts) (λ s. refl)))
