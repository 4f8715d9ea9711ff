-- What a rack and a panel mean.
--   rack_meaning r   as many signals as it was made for, with the words of its array
--   digits n m       the n lowest binary digits of the number m, the lowest first
--   panel_meaning p  128 signals, with the binary digits of its number as words
use Rattle.std.specs.Prelude.{ℕ, zero, suc, ◌/◌, ◌%◌, List, [], ◌∷◌, take}
use Rattle.plant.specs.declared.rack.Rack.{Rack}
use Rattle.plant.specs.declared.panel.Panel.{Panel}
use Rattle.plant.specs.Meaning.{PlantMeaning}

abbrev pub rack_meaning : Rack → PlantMeaning
rack_meaning r = record { count = r.count; top = 65535; words = take r.count r.words }

unfoldable pub digits : ℕ → ℕ → List ℕ
digits zero m = []
digits (suc n) m = m % 2 ∷ digits n (m / 2)

abbrev pub panel_meaning : Panel → PlantMeaning
panel_meaning p = record { count = 128; top = 1; words = digits 128 p.bits }
