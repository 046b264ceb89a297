-- The packing loses nothing, over the ranges of what is packed; and the controller's contract gives the packed one.
-- Assumes nothing.
use Prim.Native.Nat.{ℕ, ◌+◌, ◌*◌, ◌/◌, ◌%◌, ◌<◌}
use mathlib.Core.Path.{◌≡◌, refl, ap, ap₂, sym, ◌∙◌, subst}
use mathlib.Core.Bool.{Bool}
use mathlib.Core.List.{List, [], ◌∷◌}
use native.Mathlib.Omega.{arith}
use lib.ListN.{length, get_or}
use Rattle.kinds.specs.declared.Reply.{Reply}
use Rattle.kinds.specs.Statuses.{code_of}
use Rattle.machine.specs.Calls.{Call}
use Rattle.machine.specs.Reads.{Query}
use Rattle.image.specs.Formed.{formed}
use Rattle.image.proofs.Packed.{status_code, code_low}
use Rattle.controller.specs.declared.reads.Read.{Read}
use Rattle.controller.specs.declared.walking.Listed.{Listed}
use Rattle.controller.specs.declared.reasons.Why.{Why}
use Rattle.controller.specs.declared.nights.Night.{Night}
use Rattle.controller.specs.declared.imports.Imported.{Imported}
use Rattle.controller.specs.declared.tallies.Tally.{Tally}
use Rattle.controller.specs.Claims as controller
use Rattle.controller.specs.Fresh as fresh
use Rattle.controller.specs.Live as live
use Rattle.controller.specs.Nights as nightly
use Rattle.controller.specs.Imports as list
use Rattle.controller.specs.Tallies as sheet
use Rattle.controller.specs.Reads.{read_of}
use Rattle.controller.specs.Reasons.{why_of}
use Rattle.northbound.specs.Packing.{packed, packed_read, packed_listed, packed_why, packed_night, packed_import, packed_tally, low, high, unpacked, unpacked_read, unpacked_listed, unpacked_why, unpacked_night, unpacked_import, unpacked_tally, Packs, PacksRead, PacksListed, PacksWhy, PacksNight, PacksImport, PacksTally}
use Rattle.northbound.specs.Exports.{Claims, Freshens, Nights, Imports, Tallies, Lists, Shows, Explains, answer_of, Tells}

-- ---- nothing is lost
-- the four bytes and the number of a sum of five
module _ (a p g s n : ℕ) (ha : a < 256) (hp : p < 256) (hg : g < 256) (hs : s < 256) where
  abbrev five : ℕ
  five = a + 256 * p + 65536 * g + 16777216 * s + 4294967296 * n

  first : low five ≡ a
  first = omega arith

  second : low (five / 256) ≡ p
  second = omega arith

  third : low (five / 65536) ≡ g
  third = omega arith

  fourth : low (five / 16777216) ≡ s
  fourth = omega arith

  fifth : high five ≡ n
  fifth = omega arith

-- a reply is read back whole
pub unpacks : (r : Reply) → r.answer < 256 → r.event.phase < 256 → r.event.stage < 256 → unpacked (packed r) ≡ r
unfolding packed
unpacks r ha hp hg =
    let s : code_of r.event.status < 256 = let h = code_low r.event.status in omega arith in
    simp (
      first r.answer r.event.phase r.event.stage (code_of r.event.status) r.event.number.0 ha hp hg s,
      second r.answer r.event.phase r.event.stage (code_of r.event.status) r.event.number.0 ha hp hg s,
      third r.answer r.event.phase r.event.stage (code_of r.event.status) r.event.number.0 ha hp hg s,
      fourth r.answer r.event.phase r.event.stage (code_of r.event.status) r.event.number.0 ha hp hg s,
      fifth r.answer r.event.phase r.event.stage (code_of r.event.status) r.event.number.0 ha hp hg s,
      status_code r.event.status,
    )

-- so no two replies are packed alike
abbrev pub Fits : Reply → Type 0
Fits r = (r.answer < 256) × ((r.event.phase < 256) × (r.event.stage < 256))

pub same_reply_holds : (r q : Reply) → Fits r → Fits q → packed r ≡ packed q → r ≡ q
same_reply_holds r q f g e = sym (unpacks r f.0 f.1.0 f.1.1) ∙ ap unpacked e ∙ unpacks q g.0 g.1.0 g.1.1

-- an answer below 256 and a number above it
two_low : (a v : ℕ) → a < 256 → low (a + 4294967296 * v) ≡ a
two_low a v h = omega arith

two_high : (a v : ℕ) → a < 256 → high (a + 4294967296 * v) ≡ v
two_high a v h = omega arith

pub unpacks_read : (r : Read) → r.answer < 256 → unpacked_read (packed_read r) ≡ r
unfolding packed_read
unpacks_read r h = ap₂ (λ (x y : ℕ). record { answer = x; value = y }) (two_low r.answer r.value h) (two_high r.answer r.value h)

pub unpacks_listed : (r : Listed) → r.answer < 256 → unpacked_listed (packed_listed r) ≡ r
unfolding packed_listed
unpacks_listed r h = ap₂ (λ (x y : ℕ). record { answer = x; length = y }) (two_low r.answer r.length h) (two_high r.answer r.length h)

pub unpacks_import : (r : Imported) → r.answer < 256 → unpacked_import (packed_import r) ≡ r
unfolding packed_import
unpacks_import r h = ap₂ (λ (x y : ℕ). record { answer = x; position = y }) (two_low r.answer r.position h) (two_high r.answer r.position h)

-- a reason between the two
pub unpacks_why : (r : Why) → r.answer < 256 → r.reason < 256 → unpacked_why (packed_why r) ≡ r
unfolding packed_why
unpacks_why r h k =
    simp (
      let e : low (r.answer + 256 * r.reason + 4294967296 * r.named) ≡ r.answer = omega arith in e,
      let e : low ((r.answer + 256 * r.reason + 4294967296 * r.named) / 256) ≡ r.reason = omega arith in e,
      let e : high (r.answer + 256 * r.reason + 4294967296 * r.named) ≡ r.named = omega arith in e,
    )

-- and a night's three numbers
pub unpacks_night : (r : Night) → r.answer < 256 → r.stopped < 256 → r.jobs < 65536 → unpacked_night (packed_night r) ≡ r
unfolding packed_night
unpacks_night r h k j =
    simp (
      let e : low (r.answer + 256 * r.stopped + 65536 * r.jobs + 4294967296 * r.events) ≡ r.answer = omega arith in e,
      let e : low ((r.answer + 256 * r.stopped + 65536 * r.jobs + 4294967296 * r.events) / 256) ≡ r.stopped = omega arith in e,
      let e : (r.answer + 256 * r.stopped + 65536 * r.jobs + 4294967296 * r.events) / 65536 % 65536 ≡ r.jobs = omega arith in e,
      let e : high (r.answer + 256 * r.stopped + 65536 * r.jobs + 4294967296 * r.events) ≡ r.events = omega arith in e,
    )

-- a log's line: eight bytes
module _ (a b c d e f g h : ℕ) (ha : a < 256) (hb : b < 256) (hc : c < 256) (hd : d < 256) (he : e < 256) (hf : f < 256) (hg : g < 256) where
  abbrev eight : ℕ
  eight =
      a + 256 * b + 65536 * c + 16777216 * d + 4294967296 * e + 1099511627776 * f + 281474976710656 * g + 72057594037927936 * h

  pub record Eight : Type 0 where
    pub first : low eight ≡ a
    pub second : low (eight / 256) ≡ b
    pub third : low (eight / 65536) ≡ c
    pub fourth : low (eight / 16777216) ≡ d
    pub fifth : low (eight / 4294967296) ≡ e
    pub sixth : low (eight / 1099511627776) ≡ f
    pub seventh : low (eight / 281474976710656) ≡ g
    pub eighth : eight / 72057594037927936 ≡ h

  pub eight_bytes : Eight
  eight_bytes =
      record {
        first = omega arith;
        second = omega arith;
        third = omega arith;
        fourth = omega arith;
        fifth = omega arith;
        sixth = omega arith;
        seventh = omega arith;
        eighth = omega arith;
      }

-- an array of six is its six elements
six_all : (l : List ℕ) → length l ≡ 6 → (get_or l 0 0 ∷ get_or l 1 0 ∷ get_or l 2 0 ∷ get_or l 3 0 ∷ get_or l 4 0 ∷ get_or l 5 0 ∷ []) ≡ l
six_all (a ∷ b ∷ d ∷ e ∷ f ∷ g ∷ []) h = refl
six_all [] h = absurd (omega arith)
six_all (a ∷ []) h = absurd (omega arith)
six_all (a ∷ b ∷ []) h = absurd (omega arith)
six_all (a ∷ b ∷ d ∷ []) h = absurd (omega arith)
six_all (a ∷ b ∷ d ∷ e ∷ []) h = absurd (omega arith)
six_all (a ∷ b ∷ d ∷ e ∷ f ∷ []) h = absurd (omega arith)
six_all (a ∷ b ∷ d ∷ e ∷ f ∷ g ∷ i ∷ l) h = absurd (omega arith)

-- ---- what the code adds up
pub adds_up : (r : Reply) (s n p : ℕ) → r.answer < 256 → r.event.phase < 256 → r.event.stage < 256 → s ≡ code_of r.event.status → n ≡ r.event.number.0
    → p ≡ r.answer + 256 * r.event.phase + 65536 * r.event.stage + 16777216 * s + 4294967296 * n → Packs r p
unfolding packed
adds_up r s n p ha hp hg es en e =
    let z : p ≡ packed r = e ∙ rw (es, en) in (z, ap unpacked z ∙ unpacks r ha hp hg)

pub adds_up_read : (r : Read) → r.answer < 256 → PacksRead r (r.answer + 4294967296 * r.value)
unfolding packed_read
adds_up_read r h = (refl, unpacks_read r h)

pub adds_up_listed : (r : Listed) → r.answer < 256 → PacksListed r (r.answer + 4294967296 * r.length)
unfolding packed_listed
adds_up_listed r h = (refl, unpacks_listed r h)

pub adds_up_import : (r : Imported) → r.answer < 256 → PacksImport r (r.answer + 4294967296 * r.position)
unfolding packed_import
adds_up_import r h = (refl, unpacks_import r h)

pub adds_up_why : (r : Why) → r.answer < 256 → r.reason < 256 → PacksWhy r (r.answer + 256 * r.reason + 4294967296 * r.named)
unfolding packed_why
adds_up_why r h k = (refl, unpacks_why r h k)

pub adds_up_night :
    (r : Night) → r.answer < 256 → r.stopped < 256 → r.jobs < 65536 → PacksNight r (r.answer + 256 * r.stopped + 65536 * r.jobs + 4294967296 * r.events)
unfolding packed_night
adds_up_night r h k j = (refl, unpacks_night r h k j)

pub adds_up_tally : (r : Tally) (z a b c d e f g p : ℕ) → length r.counts ≡ 6
    → z ≡ r.answer → a ≡ get_or r.counts 0 0 → b ≡ get_or r.counts 1 0 → c ≡ get_or r.counts 2 0 → d ≡ get_or r.counts 3 0
    → e ≡ get_or r.counts 4 0 → f ≡ get_or r.counts 5 0 → g ≡ r.drift
    → z < 256 → a < 256 → b < 256 → c < 256 → d < 256 → e < 256 → f < 256
    → p ≡ z + 256 * a + 65536 * b + 16777216 * c + 4294967296 * d + 1099511627776 * e + 281474976710656 * f + 72057594037927936 * g
    → PacksTally r p
unfolding packed_tally
adds_up_tally r z a b c d e f g p n ez ea eb ec ed ee ef eg hz ha hb hc hd he hf q =
    let w = eight_bytes z a b c d e f g hz ha hb hc hd he hf in (
      q ∙ rw (ez, ea, eb, ec, ed, ee, ef, eg),
      ap (unpacked_tally r.mask) q
          ∙ rw (w.first, w.second, w.third, w.fourth, w.fifth, w.sixth, w.seventh, w.eighth)
          (ap (λ (x : ℕ). record { answer = x; counts = a ∷ b ∷ c ∷ d ∷ e ∷ f ∷ []; mask = r.mask; drift = g }) ez
          ∙ rw (ea, eb, ec, ed, ee, ef, eg) (ap (λ (x : List ℕ). record { answer = r.answer; counts = x; mask = r.mask; drift = r.drift }) (six_all r.counts n))),
    )

-- ---- the controller's contract, packed
pub claims : (l : List ℕ) (c : Call) (r : Reply) (m : List ℕ) (p : ℕ) → controller.Claims l c r m → Packs r p → Claims l c p m
claims l c r m p k e = ((e.0 ∙ ap packed k.0, e.1 ∙ k.0), k.1)

pub freshens : (l : List ℕ) (v : ℕ) (r : Reply) (m : List ℕ) (p : ℕ) → fresh.Freshens l v r m → Packs r p → Freshens l v p m
freshens l v r m p k e = ((e.0 ∙ ap packed k.0, e.1 ∙ k.0), k.1)

pub lists : (l m : List ℕ) (r : Listed) (m' : List ℕ) (p : ℕ) → live.Lists l m r m' → PacksListed r p → Lists l m p m'
lists l m r m' p k e = ((e.0 ∙ ap packed_listed k.0, e.1 ∙ k.0), k.1)

pub shows : (l : List ℕ) (q : Query) (r : Read) (p : ℕ) → r ≡ read_of l q → PacksRead r p → Shows l q p
shows l q r p k e = (e.0 ∙ ap packed_read k, e.1 ∙ k)

pub nights : (l : List ℕ) (n b : ℕ) (os m : List ℕ) (r : Night) (l' m' : List ℕ) (p : ℕ) → nightly.Nights l n b os m r l' m' → PacksNight r p
    → Nights l n b os m p l' m'
nights l n b os m r l' m' p k e = ((e.0 ∙ ap packed_night k.0, e.1 ∙ k.0), k.1, k.2)

pub imports : (l b : List ℕ) (r : Imported) (m : List ℕ) (p : ℕ) → list.Imports l b r m → PacksImport r p → Imports l b p m
imports l b r m p k e = ((e.0 ∙ ap packed_import k.0, e.1 ∙ k.0), k.1)

pub tallies : (l : List ℕ) (k : ℕ) (m : List ℕ) (r : Tally) (m' : List ℕ) (p : ℕ) → sheet.Tallies l k m r m' → PacksTally r p → Tallies l k m p m'
tallies l k m r m' p q e =
    (subst (λ (x : Tally). PacksTally x p) q.0 e, q.1)

pub explains : (l : List ℕ) (n j i : ℕ) (r : Why) (p : ℕ) → r ≡ why_of l n j i → PacksWhy r p → Explains l n j i p
explains l n j i r p k e = (e.0 ∙ ap packed_why k, e.1 ∙ k)

pub tells : (l : List ℕ) (b c : Bool) → b ≡ formed l → b ≡ c → Tells l (answer_of c)
tells l b c e t = ap answer_of (sym t ∙ e)
