-- What the error line of a refused record says. The place of an event is its number in the list of events, from 1.
use Rattle.std.specs.Prelude.{◌≡◌, ◌+◌, ◌-◌, ◌^◌, min, ℕ, List, codes, Option, None, Some}
use Rattle.mml_record.specs.declared.verdict.{BadEntry.BadEntry, Why.Why}
use Rattle.mml_class.specs.declared.granting.Misgranted.{Misgranted}
use Rattle.mml_host_program.specs.declared.judging.record_refusal.RecordRefusal.{RecordRefusal}
use Rattle.mml_record.specs.declared.verdict.Why.TheVariants as why
use Rattle.mml_class.specs.declared.granting.Misgranted.TheVariants as granted
use Rattle.mml_host_program.specs.declared.judging.record_refusal.RecordRefusal.TheVariants as refusal

-- the words for what is wrong with an entry
abbrev pub words_of : Why → List ℕ
words_of why.Torn = codes "torn"
words_of why.NoEntry = codes "not an entry"
words_of why.GoesBack = codes "goes back"
words_of why.PastEnd = codes "past the journal's end"
words_of why.GoesAhead = codes "goes ahead"
words_of why.NoEnd = codes "not the session's end"
words_of why.NoHello = codes "not a hello that is granted"
words_of why.NoPause = codes "not after a pause"
words_of why.OtherEvent = codes "journal's event"
words_of why.Halted = codes "granted after the refusal journal"
words_of why.OtherReply = codes "reply of the rules"

-- The place that the error line names with these words, if it names one. If an entry grants another event than the
-- journal has, this is the place of the journal's event. It is one more than the number of events that had been seen,
-- but at most the greatest number of 64 bits
abbrev pub place_told : Why → ℕ → Option ℕ
place_told why.OtherEvent place = Some (min (place + 1) (2 ^ 64 - 1))
place_told why.OtherReply place = Some place
place_told _ place = None

-- the refusal names this entry of this seat, and what is wrong with it
abbrev pub IsOfEntry : ℕ → BadEntry → RecordRefusal → Type 0
IsOfEntry seat bad (refusal.Entry s line words) =
    (s ≡ seat) × (line ≡ bad.line) × (words.now ≡ words_of bad.why) × (place_told bad.why bad.place ≡ None)
IsOfEntry seat bad (refusal.Place s line words place) =
    (s ≡ seat) × (line ≡ bad.line) × (words.now ≡ words_of bad.why) × (place_told bad.why bad.place ≡ Some place)
IsOfEntry seat bad _ = ⊥

-- the refusal names this seat, and the number of events at a refusal `journal` that more events follow
abbrev pub IsOfOutlived : ℕ → ℕ → RecordRefusal → Type 0
IsOfOutlived seat seen (refusal.Outlived s n) = (s ≡ seat) × (n ≡ seen)
IsOfOutlived seat seen _ = ⊥

-- the refusal names this place, and what is wrong with its event
abbrev pub IsOfPlace : Misgranted → RecordRefusal → Type 0
IsOfPlace (granted.Early p) (refusal.Granted place words) = (place ≡ p) × (words.now ≡ codes "before the record began")
IsOfPlace (granted.Twice p) (refusal.Granted place words) = (place ≡ p) × (words.now ≡ codes "twice")
IsOfPlace (granted.Nowhere p) (refusal.Granted place words) = (place ≡ p) × (words.now ≡ codes "in no record")
IsOfPlace amiss _ = ⊥
