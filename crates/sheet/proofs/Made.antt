-- Links as the code makes them.
use Rattle.std.proofs.Common.{◌≡◌, ◌≢◌, ℕ, List, [], ◌∷◌, Some, None, Option, sym, refl, ap, ◌∙◌}
use Rattle.sets.specs.declared.index_set.IndexSet.{IndexSet}
use Rattle.sets.specs.Sets.{members}
use Rattle.sets.proofs.Bits.{ones_rise}
use Rattle.sheet.specs.declared.parts.Link.{Link}
use Rattle.sheet.specs.declared.parts.Need.{Need}
use Rattle.sheet.specs.Links.{some_member, link_when, link_of, IsLink, Linked}

-- two proofs that something is not so are one
refused_once : {A : Type 0} (p q : A → ⊥) → p ≡ q
refused_once p q =
    λ i a.
    let same : p a ≡ q a = absurd (p a) in
    same i

link_once : (s : IndexSet) (p q : members s ≢ []) → Path Link (record { contributors = s; some = p }) (record { contributors = s; some = q })
link_once s p q = λ i. record { contributors = s; some = refused_once p q i }

some_when : (s : IndexSet) (l : List ℕ) (same : members s ≡ l) (p : members s ≢ []) → Some (record { contributors = s; some = p }) ≡ link_when s l same
some_when s [] same p = absurd (p same)
some_when s (k ∷ l) same p = ap Some (link_once s p (λ none. some_member k l (sym same ∙ none)))

none_when : (s : IndexSet) (l : List ℕ) (same : members s ≡ l) → members s ≡ [] → None ≡ link_when s l same
none_when s [] same none = refl
none_when s (k ∷ l) same none = absurd (some_member k l (sym same ∙ none))

pub link_some : (s : IndexSet) (p : members s ≢ []) → Some (record { contributors = s; some = p }) ≡ link_of s
unfolding link_of
link_some s p = some_when s (members s) refl p

pub link_none : (s : IndexSet) → members s ≡ [] → None ≡ link_of s
unfolding link_of
link_none s none = none_when s (members s) refl none

is_link : (o : Option Link) → IsLink o
is_link None = tt
is_link (Some l) = (l.some, ones_rise l.contributors.mask)

-- a need's link is one as it may be
pub all_linked : (ns : List Need) → Linked ns
all_linked ns k past there = is_link _
