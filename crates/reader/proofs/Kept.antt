-- What the records of a file keep together, one by one.
use Rattle.std.proofs.Common.{◌≡◌, ℕ, ◌<◌, ◌≤◌, true, false, ltb, List, [], ◌∷◌, ◌++◌, length, get_or, All, AllPairs, sym, refl, subst, arith}
use Rattle.std.specs.List.{range_with_len}
use Rattle.std.proofs.lemmas.List.Elements.{All-push, All-set, All-get_or, All-nil, All-weaker, filter_passes}
use Rattle.std.proofs.lemmas.List.Quantifiers.{all_pairs_push}
use Rattle.std.proofs.lemmas.List.{length_push, length-set}
use Rattle.std.proofs.lemmas.Bool.{ltb-true, lt-ltb, and_parts, not-true, both_ways, false≢true}
use Rattle.sheet.specs.declared.parts.Effect.{Effect}
use Rattle.sheet.specs.declared.parts.Need.{Need}
use Rattle.sheet.specs.declared.parts.Pair.{Pair}
use Rattle.sheet.specs.Fit.{EffectFits, SameTarget, NeedFits, LinkFits, PairFits}
use Rattle.sheet.specs.Limits.{no_need}
use Rattle.sheet.specs.Links.{link_by, link_of, link_when}
use Rattle.sets.specs.declared.index_set.IndexSet.{IndexSet}
use Rattle.sets.specs.Sets.{mem, members, rising}
use Rattle.sets.proofs.Bits.{mem_passes, members-rising}
use Rattle.records.specs.declared.record.Mark.TheVariants as mark
use Rattle.records.specs.Item.{Item, header, start, effect, need, pair, link, name, end}
use Rattle.reader.specs.Lawful.{stands, Admissible}
use Rattle.reader.specs.Rules.{Keeps}
use Rattle.reader.specs.Said.{Said, said, said_by, nothing, linked_by, open_need}
use Rattle.reader.proofs.Admitting.{Fresh, keeps}
use Rattle.reader.proofs.Walking.{Admitted}

-- numbers below n, none of them twice
abbrev pub Apart : ℕ → List ℕ → Type 0
Apart n [] = Unit {0}
Apart n (k ∷ l) = (k < n) × (mem k l ≡ false) × Apart n l

-- a wider bound
apart_wider : (n m : ℕ) (l : List ℕ) → n ≤ m → Apart n l → Apart m l
apart_wider n m [] h a = tt
apart_wider n m (k ∷ l) h a = (omega (arith, a.0), a.1, apart_wider n m l h a.2)

-- what every need keeps
abbrev pub NeedKept : ℕ → ℕ → Need → Type 0
NeedKept n v x = NeedFits n v x.step x.signal × LinkFits n x.link

-- no two effects of one step on one signal
abbrev pub Single : List Effect → Type 0
Single es = AllPairs (λ e f. SameTarget e f → ⊥) es

-- what is said keeps every limit, once the header is read
pub record Kept (s : Said) : Type 0 where
  pub step_count : (2 ≤ s.steps) × (s.steps ≤ 64)
  pub signal_count : (1 ≤ s.signals) × (s.signals ≤ 64)
  pub start_count : length s.starts ≤ s.signals
  pub part_counts : (length s.effects ≤ 256) × (length s.needs ≤ 256) × (length s.pairs ≤ 512)
  pub effects_kept : All (EffectFits s.steps s.signals) s.effects
  pub effects_single : Single s.effects
  pub needs_kept : All (NeedKept s.steps s.signals) s.needs
  pub pairs_kept : All (PairFits s.steps) s.pairs
  pub linked_apart : Apart (length s.needs) s.linked
  pub named_apart : Apart s.steps s.named

-- one effect more, of a step and a signal that had none
single_push : (es : List Effect) (f : Effect) → Fresh es f → Single es → Single (es ++ f ∷ [])
single_push es f fresh single = all_pairs_push (λ e g. SameTarget e g → ⊥) es f single fresh

-- a set of steps makes a link that fits, or none
link_fits : (n : ℕ) (s : IndexSet) (l : List ℕ) (same : members s ≡ l) → All (λ k. k < n) (members s) → LinkFits n (link_when s l same)
link_fits n s [] same below = tt
link_fits n s (k ∷ l) same below = below

below_rising : (n : ℕ) (cs : List ℕ) → All (λ k. k < n) cs → All (λ k. k < n) (rising (λ k. mem k cs))
unfolding rising
below_rising n cs below =
    All-weaker (λ k. mem k cs ≡ true) (λ k. k < n) (λ k e. mem_passes (λ j. j < n) cs k below e) _ (filter_passes (λ k. mem k cs) (range_with_len 0 64))

-- a link of steps that there are
rising_fits : (n : ℕ) (cs : List ℕ) → All (λ k. k < n) cs → LinkFits n (link_by (rising (λ k. mem k cs)))
unfolding link_of
rising_fits n cs below =
    link_fits n _ _ refl
    (subst (All (λ k. k < n)) (sym (members-rising (λ k. mem k cs))) (below_rising n cs below))

-- a header may stand only where none is read
pub no_header : (s : Said) → 0 < s.steps → stands s mark.Header ≡ true → ⊥
no_header s h e = both_ways (ltb 0 s.steps) (not-true _ e) (lt-ltb 0 s.steps h)

-- a start word may stand only where one is still to come
pub start_to_come : (s : Said) → stands s mark.Start ≡ true → length s.starts < s.signals
start_to_come s e = ltb-true _ _ (and_parts (ltb 0 s.steps) (ltb (length s.starts) s.signals) e).1

module _ (s : Said) (k : Kept s) where
  -- a start word more
  kept_start : (w : ℕ) → Admissible s (start w) → Kept (said s (start w))
  kept_start w a =
      record {
        step_count = k.step_count;
        signal_count = k.signal_count;
        start_count = omega (arith, start_to_come s a.placed, length_push s.starts w);
        part_counts = k.part_counts;
        effects_kept = k.effects_kept;
        effects_single = k.effects_single;
        needs_kept = k.needs_kept;
        pairs_kept = k.pairs_kept;
        linked_apart = k.linked_apart;
        named_apart = k.named_apart;
      }

  -- an effect more
  kept_effect : (e : Effect) → Admissible s (effect e) → Kept (said s (effect e))
  kept_effect e a =
      let r = keeps s (effect e) a in
      record {
        step_count = k.step_count;
        signal_count = k.signal_count;
        start_count = k.start_count;
        part_counts = (omega (arith, length_push s.effects e), k.part_counts.1, k.part_counts.2);
        effects_kept = All-push (EffectFits s.steps s.signals) s.effects e k.effects_kept r.0;
        effects_single = single_push s.effects e r.1 k.effects_single;
        needs_kept = k.needs_kept;
        pairs_kept = k.pairs_kept;
        linked_apart = k.linked_apart;
        named_apart = k.named_apart;
      }

  -- a need more
  kept_need : (w x l h : ℕ) → Admissible s (need w x l h) → Kept (said s (need w x l h))
  kept_need w x l h a =
      let r = keeps s (need w x l h) a in
      let long = length_push s.needs (open_need w x l h) in
      record {
        step_count = k.step_count;
        signal_count = k.signal_count;
        start_count = k.start_count;
        part_counts = (k.part_counts.0, omega arith, k.part_counts.2);
        effects_kept = k.effects_kept;
        effects_single = k.effects_single;
        needs_kept =
            All-push (NeedKept s.steps s.signals) s.needs (open_need w x l h) k.needs_kept
            (r.0, tt);
        pairs_kept = k.pairs_kept;
        linked_apart = apart_wider (length s.needs) _ s.linked (omega arith) k.linked_apart;
        named_apart = k.named_apart;
      }

  -- a pair more
  kept_pair : (e l : ℕ) → Admissible s (pair e l) → Kept (said s (pair e l))
  kept_pair e l a =
      let r = keeps s (pair e l) a in
      let new : Pair = record { earlier = e; later = l } in
      record {
        step_count = k.step_count;
        signal_count = k.signal_count;
        start_count = k.start_count;
        part_counts = (k.part_counts.0, k.part_counts.1, omega (arith, length_push s.pairs new));
        effects_kept = k.effects_kept;
        effects_single = k.effects_single;
        needs_kept = k.needs_kept;
        pairs_kept = All-push (PairFits s.steps) s.pairs new k.pairs_kept (r.0, r.1);
        linked_apart = k.linked_apart;
        named_apart = k.named_apart;
      }

  -- a link more
  kept_link : (n : ℕ) (cs : List ℕ) → Admissible s (link n cs) → Kept (said s (link n cs))
  kept_link n cs a =
      let r = keeps s (link n cs) a in
      let old : Need = get_or s.needs n no_need in
      let long = length-set s.needs n (linked_by cs old) in
      record {
        step_count = k.step_count;
        signal_count = k.signal_count;
        start_count = k.start_count;
        part_counts = (k.part_counts.0, omega (arith, k.part_counts), k.part_counts.2);
        effects_kept = k.effects_kept;
        effects_single = k.effects_single;
        needs_kept =
            All-set (NeedKept s.steps s.signals) s.needs n (linked_by cs old)
            ((All-get_or (NeedKept s.steps s.signals) s.needs n no_need r.2 k.needs_kept).0, rising_fits s.steps cs r.3) k.needs_kept;
        pairs_kept = k.pairs_kept;
        linked_apart = (omega arith, r.4, apart_wider (length s.needs) _ s.linked (omega arith) k.linked_apart);
        named_apart = k.named_apart;
      }

  -- a name more
  kept_name : (w : ℕ) (bs : List ℕ) → Admissible s (name w bs) → Kept (said s (name w bs))
  kept_name w bs a =
      let r = keeps s (name w bs) a in
      record {
        step_count = k.step_count;
        signal_count = k.signal_count;
        start_count = k.start_count;
        part_counts = k.part_counts;
        effects_kept = k.effects_kept;
        effects_single = k.effects_single;
        needs_kept = k.needs_kept;
        pairs_kept = k.pairs_kept;
        linked_apart = k.linked_apart;
        named_apart = (r.2, r.3, k.named_apart);
      }

  -- one record more keeps the limits
  kept_more : (x : Item) → Admissible s x → Kept (said s x)
  kept_more (header n v) a = absurd (no_header s (omega (arith, k.step_count)) a.placed)
  kept_more (start w) a = kept_start w a
  kept_more (effect e) a = kept_effect e a
  kept_more (need w x l h) a = kept_need w x l h a
  kept_more (pair e l) a = kept_pair e l a
  kept_more (link n cs) a = kept_link n cs a
  kept_more (name w bs) a = kept_name w bs a
  kept_more end a = k

-- the first record is a header
pub first_header : (x : Item) → Admissible nothing x → (n v : ℕ) × (x ≡ header n v)
first_header (header n v) a = (n, v, refl)
first_header (start w) a = absurd (false≢true a.placed)
first_header (effect e) a = absurd (false≢true a.placed)
first_header (need w x l h) a = absurd (false≢true a.placed)
first_header (pair e l) a = absurd (false≢true a.placed)
first_header (link n cs) a = absurd (false≢true a.placed)
first_header (name w bs) a = absurd (false≢true a.placed)
first_header end a = absurd (false≢true a.placed)

-- it keeps the limits
kept_header : (n v : ℕ) → Keeps nothing (header n v) → Kept (said nothing (header n v))
kept_header n v r =
    record {
      step_count = (r.0, r.1);
      signal_count = (r.2, r.3);
      start_count = omega arith;
      part_counts = (omega arith, omega arith, omega arith);
      effects_kept = All-nil _;
      effects_single = λ j k d b h same. omega arith;
      needs_kept = All-nil _;
      pairs_kept = All-nil _;
      linked_apart = tt;
      named_apart = tt;
    }

-- what admitted records say keeps every limit
pub kept : (x : Item) (past : List Item) → Admitted (x ∷ past) → Kept (said_by (x ∷ past))
kept x [] a =
    let first = first_header x a.0 in
    subst (λ (y : Item). Kept (said nothing y)) (sym first.2) (kept_header first.0 first.1 (subst (Keeps nothing) first.2 (keeps nothing x a.0)))
kept x (y ∷ past) a = kept_more (said_by (y ∷ past)) (kept y past a.2) x a.0
