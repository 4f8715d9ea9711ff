-- What a `Record` of the code stands for.
--   item_of r         the record as a value
--   shown r           the same of what the record reader answers, with the place after the record
--   part_shown r      the place and the bytes of a part
--   numbered_shown r  the number of the step or the need whose the part is, and then the same
--   PlacedAt p r      the parts of the record r at the place p begin four bytes on from its mark
--   Placed p r        the same of what the record reader answers
use Rattle.std.specs.Prelude.{◌≡◌, ℕ, ◌+◌, List, Ok, Err, Result}
use Rattle.faults.specs.declared.fault.ReaderFault.{ReaderFault}
use Rattle.records.specs.declared.record.Part.{Part}
use Rattle.records.specs.declared.record.Record.{Record}
use Rattle.records.specs.declared.record.Record.TheVariants.{Header, Start, Effect, Need, Pair, Link, Name, End}
use Rattle.records.specs.Item.{Item, header, start, effect, need, pair, link, name, end}

abbrev pub item_of : Record → Item
item_of (Header steps signals) = header steps signals
item_of (Start word) = start word
item_of (Effect e) = effect e
item_of (Need step signal condition) = need step signal condition.a condition.b
item_of (Pair earlier later) = pair earlier later
item_of (Link n contributors) = link n contributors.bytes.now
item_of (Name step letters) = name step letters.bytes.now
item_of End = end

abbrev pub shown : Result (Record × ℕ) ReaderFault → Result (Item × ℕ) ReaderFault
shown (Ok x) = Ok (item_of x.0, x.1)
shown (Err f) = Err f

abbrev pub part_shown : Result Part ReaderFault → Result (ℕ × List ℕ) ReaderFault
part_shown (Ok x) = Ok (x.place, x.bytes.now)
part_shown (Err f) = Err f

abbrev pub numbered_shown : Result (ℕ × Part) ReaderFault → Result (ℕ × (ℕ × List ℕ)) ReaderFault
numbered_shown (Ok x) = Ok (x.0, (x.1.place, x.1.bytes.now))
numbered_shown (Err f) = Err f

abbrev pub PlacedAt : ℕ → Record → Type 0
PlacedAt p (Header steps signals) = Unit {0}
PlacedAt p (Start word) = Unit {0}
PlacedAt p (Effect e) = Unit {0}
PlacedAt p (Need step signal condition) = Unit {0}
PlacedAt p (Pair earlier later) = Unit {0}
PlacedAt p (Link n contributors) = contributors.place ≡ p + 4
PlacedAt p (Name step letters) = letters.place ≡ p + 4
PlacedAt p End = Unit {0}

abbrev pub Placed : ℕ → Result (Record × ℕ) ReaderFault → Type 0
Placed p (Ok x) = PlacedAt p x.0
Placed p (Err f) = Unit {0}
