-- Links, and the lists of their contributors.
--   link_of s   the link with the contributors of the set s; a set with none makes no link
--   link_by l   the link with these contributors; of use where l is Rising
--   IsLink o    the link o, where there is one, has a contributor, and its contributors stand in rising order, each once
--   Linked ns   each of the needs has such a link, or none
--   some_member, link_when   the parts of link_of: it goes by the list of the set's members
use Rattle.std.specs.Prelude.{◌≡◌, ◌≢◌, ℕ, suc, List, [], ◌∷◌, Some, None, Option, IfSome, All, length, refl}
use Rattle.std.proofs.Common.{ap, sym, ◌∙◌, arith}
use Rattle.sets.specs.declared.index_set.IndexSet.{IndexSet}
use Rattle.sets.specs.Sets.{Rising, members, set_of}
use Rattle.sheet.specs.declared.parts.Link.{Link}
use Rattle.sheet.specs.declared.parts.Need.{Need}

pub some_member : (k : ℕ) (l : List ℕ) → k ∷ l ≢ []
some_member k l none =
    let long : suc (length l) ≡ 0 = ap length none in
    absurd (omega arith)

abbrev pub link_when : (s : IndexSet) (l : List ℕ) → members s ≡ l → Option Link
link_when s [] same = None
link_when s (k ∷ l) same = Some (record { contributors = s; some = λ none. some_member k l (sym same ∙ none) })

unfoldable pub link_of : IndexSet → Option Link
link_of s = link_when s (members s) refl

abbrev pub link_by : List ℕ → Option Link
link_by l = link_of (set_of l)

abbrev pub IsLink : Option Link → Type 0
IsLink o = IfSome o (λ l. (members l.contributors ≢ []) × Rising (members l.contributors))

abbrev pub Linked : List Need → Type 0
Linked ns = All (λ (n : Need). IsLink n.link) ns
