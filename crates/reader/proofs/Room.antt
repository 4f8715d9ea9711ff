-- How many bytes the records of a file take at most.
use Rattle.std.proofs.Common.{◌≡◌, ℕ, zero, suc, ◌+◌, ◌*◌, ◌≤◌, Bool, true, false, cond, eqb, List, [], ◌∷◌, length, get_or, sym, refl, subst, arith}
use Rattle.std.proofs.lemmas.List.{length_push, length-set}
use Rattle.std.proofs.lemmas.Bool.{eqb-true, eqb-false, or_parts, or_from, true≢false}
use Rattle.sheet.specs.declared.parts.Pair.{Pair}
use Rattle.sheet.specs.Limits.{no_need}
use Rattle.sets.specs.Sets.{mem}
use Rattle.records.specs.Item.{Item, header, start, effect, need, pair, link, name, end, bytes, size, is_end}
use Rattle.reader.specs.Lawful.{Admissible}
use Rattle.reader.specs.Said.{Said, said, said_by, nothing, linked_by, open_need}
use Rattle.reader.proofs.Admitting.{keeps}
use Rattle.reader.proofs.Kept.{Apart, Kept, kept, first_header, no_header}
use Rattle.reader.proofs.Walking.{Admitted}

-- the list without the first k
abbrev without : ℕ → List ℕ → List ℕ
without k [] = []
without k (x ∷ l) = cond (eqb k x) l (x ∷ without k l)

-- one is gone at most
length-without : (k : ℕ) (l : List ℕ) → length l ≤ suc (length (without k l))
length-without k [] = omega arith
length-without k (x ∷ l) = go (eqb k x) (length-without k l)
  where
    go : (b : Bool) → length l ≤ suc (length (without k l)) → suc (length l) ≤ suc (length (cond b l (x ∷ without k l)))
    go true h = omega arith
    go false h = omega arith

-- what does not stand in the list does not stand in it without k
mem_without : (j k : ℕ) (l : List ℕ) → mem j l ≡ false → mem j (without k l) ≡ false
mem_without j k [] e = refl
mem_without j k (x ∷ l) e =
    let r = or_parts (eqb j x) (mem j l) e in
    go (eqb k x) r.0 r.1 (mem_without j k l r.1)
  where
    go : (b : Bool) → eqb j x ≡ false → mem j l ≡ false → mem j (without k l) ≡ false → mem j (cond b l (x ∷ without k l)) ≡ false
    go true p q h = q
    go false p q h = or_from (eqb j x) _ p h

-- numbers up to n among which n does not stand are below it
apart_below : (n : ℕ) (l : List ℕ) → mem n l ≡ false → Apart (suc n) l → Apart n l
apart_below n [] e a = tt
apart_below n (x ∷ l) e a =
    let r = or_parts (eqb n x) (mem n l) e in
    (omega (arith, eqb-false n x r.0, a.0), a.1, apart_below n l r.1 a.2)

-- numbers up to n, without n, are below it
apart_without : (n : ℕ) (l : List ℕ) → Apart (suc n) l → Apart n (without n l)
apart_without n [] a = tt
apart_without n (x ∷ l) a = go (eqb n x) refl (apart_without n l a.2)
  where
    go : (b : Bool) → eqb n x ≡ b → Apart n (without n l) → Apart n (cond b l (x ∷ without n l))
    go true e h = apart_below n l (subst (λ k. mem k l ≡ false) (sym (eqb-true n x e)) a.1) a.2
    go false e h = (omega (arith, eqb-false n x e, a.0), mem_without x n l a.1, h)

-- there are at most n numbers below n
pub apart_few : (n : ℕ) (l : List ℕ) → Apart n l → length l ≤ n
apart_few zero [] a = omega arith
apart_few zero (x ∷ l) a = absurd (omega (arith, a.0))
apart_few (suc n) l a = omega (arith, length-without n l, apart_few n (without n l) (apart_without n l a))

-- the room that what is said takes at most
abbrev budget : Said → ℕ
budget s =
    4 + 4 * length s.starts + 6 * length s.effects + 8 * length s.needs + 4 * length s.pairs + 68 * length s.linked + 28 * length s.named

-- one record more takes no more than its room
budget_more : (s : Said) (x : Item) (n : ℕ) → Kept s → Admissible s x → is_end x ≡ false → n ≤ budget s → n + length (bytes x) ≤ budget (said s x)
budget_more s (header m v) n k a o h = absurd (no_header s (omega (arith, k.step_count)) a.placed)
budget_more s (start w) n k a o h = omega (arith, length_push s.starts w)
budget_more s (effect e) n k a o h = omega (arith, length_push s.effects e)
budget_more s (need w x l u) n k a o h = omega (arith, length_push s.needs (open_need w x l u))
budget_more s (pair e l) n k a o h =
    let new : Pair = record { earlier = e; later = l } in
    omega (arith, length_push s.pairs new)
budget_more s (link m cs) n k a o h =
    omega (arith, length-set s.needs m (linked_by cs (get_or s.needs m no_need)), (keeps s (link m cs) a).1)
budget_more s (name w bs) n k a o h = omega (arith, (keeps s (name w bs) a).1)
budget_more s end n k a o h = absurd (true≢false o)

-- admitted records take no more than their room
budgeted : (x : Item) (past : List Item) → Admitted (x ∷ past) → size (x ∷ past) ≤ budget (said_by (x ∷ past))
budgeted x [] a =
    let first = first_header x a.0 in
    subst (λ (y : Item). size (y ∷ []) ≤ budget (said nothing y)) (sym first.2) (omega arith)
budgeted x (y ∷ past) a = budget_more (said_by (y ∷ past)) x _ (kept y past a.2) a.0 a.1 (budgeted y past a.2)

-- a file's admitted records take at most 25,092 bytes
pub place_fits : (past : List Item) → Admitted past → size past ≤ 25092
place_fits [] a = omega arith
place_fits (x ∷ past) a =
    let s : Said = said_by (x ∷ past) in
    let k : Kept s = kept x past a in
    omega (arith, budgeted x past a, apart_few _ s.linked k.linked_apart, apart_few _ s.named k.named_apart)
