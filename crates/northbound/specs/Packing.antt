-- What an answer is as one number: the answer in the lowest byte, and above it the event; or from bit 32 on the number read; or
-- a reason, in the second byte, and from bit 32 on what it names; or why a night stopped, in the second byte, the jobs done in
-- the next two, and from bit 32 on the events shown; or from bit 32 on the place of an entry; or the six counts of a log's line, a
-- byte each, and in the highest byte its drift. Assumes nothing.
use Rattle.std.specs.Prelude.{ℕ, ◌+◌, ◌*◌, ◌/◌, ◌%◌, ◌≡◌, [], ◌∷◌, get_or}
use Rattle.kinds.specs.declared.Reply.{Reply}
use Rattle.kinds.specs.Numbers.{num}
use Rattle.kinds.specs.Statuses.{code_of, status_of}
use Rattle.controller.specs.declared.reads.Read.{Read}
use Rattle.controller.specs.declared.walking.Listed.{Listed}
use Rattle.controller.specs.declared.reasons.Why.{Why}
use Rattle.controller.specs.declared.nights.Night.{Night}
use Rattle.controller.specs.declared.imports.Imported.{Imported}
use Rattle.controller.specs.declared.tallies.Tally.{Tally}

-- answer, phase, stage and status, a byte each, then the number
unfoldable pub packed : Reply → ℕ
packed r =
    r.answer + 256 * r.event.phase + 65536 * r.event.stage + 16777216 * code_of r.event.status + 4294967296 * r.event.number.0

unfoldable pub packed_read : Read → ℕ
packed_read r = r.answer + 4294967296 * r.value

unfoldable pub packed_listed : Listed → ℕ
packed_listed r = r.answer + 4294967296 * r.length

unfoldable pub packed_why : Why → ℕ
packed_why r = r.answer + 256 * r.reason + 4294967296 * r.named

unfoldable pub packed_night : Night → ℕ
packed_night r = r.answer + 256 * r.stopped + 65536 * r.jobs + 4294967296 * r.events

unfoldable pub packed_import : Imported → ℕ
packed_import r = r.answer + 4294967296 * r.position

-- all but the mask, which makowist_drift reads
unfoldable pub packed_tally : Tally → ℕ
packed_tally r =
    r.answer + 256 * get_or r.counts 0 0 + 65536 * get_or r.counts 1 0 + 16777216 * get_or r.counts 2 0 + 4294967296 * get_or r.counts 3 0
    + 1099511627776 * get_or r.counts 4 0 + 281474976710656 * get_or r.counts 5 0 + 72057594037927936 * r.drift

-- ---- and back
abbrev pub low : ℕ → ℕ
low p = p % 256

abbrev pub high : ℕ → ℕ
high p = p / 4294967296

abbrev pub unpacked : ℕ → Reply
unpacked p =
    record { answer = low p; event = record { phase = low (p / 256); stage = low (p / 65536); number = num (high p); status = status_of (low (p / 16777216)) } }

abbrev pub unpacked_read : ℕ → Read
unpacked_read p = record { answer = low p; value = high p }

abbrev pub unpacked_listed : ℕ → Listed
unpacked_listed p = record { answer = low p; length = high p }

abbrev pub unpacked_why : ℕ → Why
unpacked_why p = record { answer = low p; reason = low (p / 256); named = high p }

abbrev pub unpacked_night : ℕ → Night
unpacked_night p = record { answer = low p; jobs = p / 65536 % 65536; stopped = low (p / 256); events = high p }

abbrev pub unpacked_import : ℕ → Imported
unpacked_import p = record { answer = low p; position = high p }

-- with the mask beside it
abbrev pub unpacked_tally : (mask : ℕ) → ℕ → Tally
unpacked_tally m p =
    record {
      answer = low p;
      counts =
          low (p / 256) ∷ low (p / 65536) ∷ low (p / 16777216) ∷ low (p / 4294967296) ∷ low (p / 1099511627776)
          ∷ low (p / 281474976710656) ∷ [];
      mask = m;
      drift = p / 72057594037927936;
    }

-- ---- a number that is an answer packed, and reads back as that answer: nothing is lost
abbrev pub Packs : Reply → ℕ → Type 0
Packs r p = (p ≡ packed r) × (unpacked p ≡ r)

abbrev pub PacksRead : Read → ℕ → Type 0
PacksRead r p = (p ≡ packed_read r) × (unpacked_read p ≡ r)

abbrev pub PacksListed : Listed → ℕ → Type 0
PacksListed r p = (p ≡ packed_listed r) × (unpacked_listed p ≡ r)

abbrev pub PacksWhy : Why → ℕ → Type 0
PacksWhy r p = (p ≡ packed_why r) × (unpacked_why p ≡ r)

abbrev pub PacksNight : Night → ℕ → Type 0
PacksNight r p = (p ≡ packed_night r) × (unpacked_night p ≡ r)

abbrev pub PacksImport : Imported → ℕ → Type 0
PacksImport r p = (p ≡ packed_import r) × (unpacked_import p ≡ r)

abbrev pub PacksTally : Tally → ℕ → Type 0
PacksTally r p = (p ≡ packed_tally r) × (unpacked_tally r.mask p ≡ r)
